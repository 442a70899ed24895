-- Words of 64 bits as the code forms them from their bits, and the bits from them.
-- Assumes nothing.
use Rattle.std.proofs.Common.{◌≡◌, ℕ, zero, suc, ◌-◌, ◌*◌, ◌%◌, ◌^◌, ◌<◌, ◌≤◌, Bool, true, false, ltb, ℤ, pos, negsuc, ◌-ℤ◌, sym, refl, ap, ◌∙◌, mod-eq_of_lt, arith, pow_mono, to_z-of_z, w64, SFits, to_z, of_z, ltb-true, le-ltb}
use lib.Signed.{mag, lt_z}
use lib.Pow.{pow-lt}
use mir.Val.{sel}
use mir.Facts.{to_z_pos}
use Rattle.word.specs.Wrap.{Signed, residue, half, signed}
use Rattle.word.proofs.Laws.Wrap.{pow-half, signed-upper}

-- ════════════════════════════════════════════════════════════════════════════════════════════
-- The kit's reading of 64 bits is that of Wrap
-- ════════════════════════════════════════════════════════════════════════════════════════════

halves : (t : Bool) (r : ℕ) → half t 64 r ≡ sel t (pos r) (negsuc (2 ^ 64 - suc r))
halves true r = refl
halves false r = refl

pub signed-to_z : (r : ℕ) → signed 64 r ≡ to_z w64 r
unfolding signed
signed-to_z r = halves (ltb r (2 ^ 63)) r

pub residue-of_z : (z : ℤ) → Signed 64 z → residue 64 z ≡ of_z w64 z
unfolding residue
residue-of_z (pos n) h = mod-eq_of_lt (omega arith)
residue-of_z (negsuc n) h = let e : n % 2 ^ 64 ≡ n = mod-eq_of_lt (omega arith) in rw e

-- ════════════════════════════════════════════════════════════════════════════════════════════
-- From k bits to the number
-- ════════════════════════════════════════════════════════════════════════════════════════════

-- one bit shifted to the top of k bits
abbrev pub top : ℕ → ℕ
top k = (1 * 2 ^ (k - 1)) % 2 ^ 64

pub top-half : (k : ℕ) → 0 < k → k ≤ 64 → top k ≡ 2 ^ (k - 1)
top-half k p h =
    let e : 1 * 2 ^ (k - 1) ≡ 2 ^ (k - 1) = omega arith in
    rw e (mod-eq_of_lt (pow-lt {i = k - 1} {j = 64} (omega arith)))

pub top-word : (k : ℕ) → 0 < k → k ≤ 64 → top k ≤ 2 ^ 63
top-word k p h = rw (top-half k p h) (pow_mono {i = k - 1} {j = 63} (omega arith))

minus_one : (m : ℕ) → negsuc 0 -ℤ pos m ≡ negsuc m
minus_one zero = refl
minus_one (suc m) = ap negsuc (omega arith)

-- −1 − m, by the words' bits
below_word : (m : ℕ) → m < 2 ^ 63 → negsuc 0 -ℤ to_z w64 m ≡ negsuc m
below_word m h = rw (to_z_pos w64 {n = m} h) (minus_one m)

pub below-fits : (m : ℕ) → m < 2 ^ 63 → SFits w64 (negsuc 0 -ℤ to_z w64 m)
below-fits m h = rw (below_word m h) (record { sfits = h })

pub below-back : (m : ℕ) → m < 2 ^ 63 → to_z w64 (of_z w64 (negsuc 0 -ℤ to_z w64 m)) ≡ negsuc m
below-back m h = to_z-of_z (below-fits m h) ∙ below_word m h

-- the number of k bits b, from a word in each half
module _ (k b : ℕ) (p : 0 < k) (h : k ≤ 64) where
  module _ (l : b < 2 ^ k) (u : top k ≤ b) where
    upper : ((top k - 1) - (b - top k) ≡ 2 ^ k - suc b) × (2 ^ k - suc b < 2 ^ 63)
    upper = let e = pow-half k p in let f = top-half k p h in let g = top-word k p h in (omega arith, omega arith)

    upper-negative : negsuc 0 -ℤ to_z w64 ((top k - 1) - (b - top k)) ≡ negsuc (2 ^ k - suc b)
    upper-negative = rw (upper.0, to_z_pos w64 upper.1) (minus_one (2 ^ k - suc b))

    pub upper_fits : SFits w64 (negsuc 0 -ℤ to_z w64 ((top k - 1) - (b - top k)))
    upper_fits = rw upper-negative (record { sfits = upper.1 })

    pub upper-signed : to_z w64 (of_z w64 (negsuc 0 -ℤ to_z w64 ((top k - 1) - (b - top k)))) ≡ signed k b
    upper-signed = to_z-of_z upper_fits ∙ upper-negative ∙ sym (signed-upper k b (rw (top-half k p h) at u))

-- ════════════════════════════════════════════════════════════════════════════════════════════
-- From the number to its 64 bits
-- ════════════════════════════════════════════════════════════════════════════════════════════

flip : (z : ℤ) → lt_z z (pos 0) ≡ true → negsuc 0 -ℤ z ≡ pos (mag z)
flip (pos n) e = absurd (omega (arith, ltb-true n 0 e))
flip (negsuc n) e = rw (le-ltb (suc n) 1 (omega arith)) (ap pos (omega arith))

module _ (z : ℤ) (f : SFits w64 z) where
  -- −1 − z, of a negative z
  module _ (e : lt_z (to_z w64 (of_z w64 z)) (pos 0) ≡ true) where
    flip-word : negsuc 0 -ℤ to_z w64 (of_z w64 z) ≡ pos (mag z)
    flip-word = rw (to_z-of_z f) (flip z (rw (to_z-of_z f) at e))

    pub flip-fits : SFits w64 (negsuc 0 -ℤ to_z w64 (of_z w64 z))
    flip-fits = rw flip-word (record { sfits = f.sfits })

    pub flip-back : to_z w64 (of_z w64 (negsuc 0 -ℤ to_z w64 (of_z w64 z))) ≡ pos (mag z)
    flip-back = to_z-of_z flip-fits ∙ flip-word
