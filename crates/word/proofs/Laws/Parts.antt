-- A whole number as the difference of two natural numbers: sums, differences and the order, as equations and bounds that `omega` takes.
-- Assumes nothing.
use Rattle.std.proofs.Common.{◌≡◌, ℕ, zero, suc, ◌+◌, ◌-◌, ◌^◌, ◌<◌, ◌≤◌, Bool, true, false, cond, ltb, ℤ, pos, negsuc, ◌+ℤ◌, ◌-ℤ◌, neg_ℤ, refl, arith, ltb-false, ltb-true}
use lib.Signed.{lt_z}
use Rattle.word.specs.Wrap.{Signed}
use Rattle.word.proofs.Bool.{never}

-- a whole number z is `up z` − `down z`
abbrev pub up : ℤ → ℕ
up (pos n) = n
up (negsuc n) = 0

abbrev pub down : ℤ → ℕ
down (pos n) = 0
down (negsuc n) = suc n

sub_parts : (a b : ℕ) (t : Bool) → ltb a b ≡ t
    → let z = cond t (negsuc (b - suc a)) (pos (a - b)) in up z + b ≡ a + down z
sub_parts a b true e = omega (arith, ltb-true a b e)
sub_parts a b false e = omega (arith, ltb-false a b e)

pub sum-parts : (a b : ℤ) → up (a +ℤ b) + (down a + down b) ≡ up a + up b + down (a +ℤ b)
sum-parts (pos a) (pos b) = omega arith
sum-parts (pos a) (negsuc b) = omega (arith, sub_parts a (suc b) (ltb a (suc b)) refl)
sum-parts (negsuc a) (pos b) = omega (arith, sub_parts b (suc a) (ltb b (suc a)) refl)
sum-parts (negsuc a) (negsuc b) = omega arith

negated-up : (z : ℤ) → up (neg_ℤ z) ≡ down z
negated-up (pos zero) = refl
negated-up (pos (suc n)) = refl
negated-up (negsuc n) = refl

negated-down : (z : ℤ) → down (neg_ℤ z) ≡ up z
negated-down (pos zero) = refl
negated-down (pos (suc n)) = refl
negated-down (negsuc n) = refl

pub difference-parts : (a b : ℤ) → up (a -ℤ b) + (down a + up b) ≡ up a + down b + down (a -ℤ b)
difference-parts a b = omega (arith, sum-parts a (neg_ℤ b), negated-up b, negated-down b)

-- the order
pub less-parts : (a b : ℤ) → lt_z a b ≡ true → up a + down b < up b + down a
less-parts (pos a) (pos b) e = omega (arith, ltb-true a b e)
less-parts (pos a) (negsuc b) e = never (cc)
less-parts (negsuc a) (pos b) e = omega arith
less-parts (negsuc a) (negsuc b) e = omega (arith, ltb-true b a e)

pub least-parts : (a b : ℤ) → lt_z a b ≡ false → up b + down a ≤ up a + down b
least-parts (pos a) (pos b) e = omega (arith, ltb-false a b e)
least-parts (pos a) (negsuc b) e = omega arith
least-parts (negsuc a) (pos b) e = never (cc)
least-parts (negsuc a) (negsuc b) e = omega (arith, ltb-false b a e)

-- a signed number of k bits lies from −2^(k − 1) to 2^(k − 1) − 1
pub parts-signed : (k : ℕ) (z : ℤ) → up z < 2 ^ (k - 1) + down z → down z ≤ 2 ^ (k - 1) + up z → Signed k z
parts-signed k (pos n) h g = omega arith
parts-signed k (negsuc n) h g = omega arith

pub signed_parts : (k : ℕ) (z : ℤ) → Signed k z → (up z < 2 ^ (k - 1) + down z) × (down z ≤ 2 ^ (k - 1) + up z)
signed_parts k (pos n) h = (omega arith, omega arith)
signed_parts k (negsuc n) h = (omega arith, omega arith)

-- a − t is s − e
abbrev pub Apart : (a t s e : ℤ) → Type 0
Apart a t s e = up a + down t + (up e + down s) ≡ up t + down a + (up s + down e)
