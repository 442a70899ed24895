-- Two's complement over the width k: a signed number of k bits and its remainder modulo 2^k give each other, and the
-- remainder of a sum is that of the sum of the remainders.
-- Assumes nothing.
use Rattle.std.proofs.Common.{◌≡◌, ℕ, zero, suc, ◌+◌, ◌-◌, ◌*◌, ◌/◌, ◌%◌, ◌^◌, ◌<◌, ◌≤◌, Bool, true, false, ltb, ℤ, pos, negsuc, ◌+ℤ◌, ◌-ℤ◌, sym, refl, ap, ◌∙◌, add-zero, mod-lt, mod-eq_of_lt, suc-mul, pow-suc, div-add-mod', arith, pow_pos, ltb-false, ltb-true, le-ltb, lt-ltb}
use native.Mathlib.Nat.{mod-mod, mul-mod_left, zero-mod}
use lib.IntN.{ -ℤ-+ℤ_cancel}
use lib.Pow.{mod-mod-pow}
use Rattle.word.specs.Wrap.{Signed, residue, half, signed, wrap, add_wrap, sub_wrap}
use Rattle.word.proofs.Laws.Modulo.{mod-add, mod-cancel}
use Rattle.word.proofs.Laws.Parts.{up, down, sum-parts}

-- ════════════════════════════════════════════════════════════════════════════════════════════
-- The two halves of the numbers of k bits
-- ════════════════════════════════════════════════════════════════════════════════════════════

pub pow-half : (k : ℕ) → 0 < k → 2 ^ k ≡ 2 ^ (k - 1) * 2
pow-half zero h = absurd (omega arith)
pow-half (suc k) h = let e : suc k - 1 ≡ k = omega arith in rw e (pow-suc 2 k)

pub signed_lower : (k r : ℕ) → r < 2 ^ (k - 1) → signed k r ≡ pos r
unfolding signed
signed_lower k r h = rw (lt-ltb r (2 ^ (k - 1)) h)

pub signed-upper : (k r : ℕ) → 2 ^ (k - 1) ≤ r → signed k r ≡ negsuc (2 ^ k - suc r)
unfolding signed
signed-upper k r h = rw (le-ltb r (2 ^ (k - 1)) h)

pub residue-lt : (k : ℕ) (z : ℤ) → residue k z < 2 ^ k
unfolding residue
residue-lt k (pos n) = mod-lt n (pow_pos k)
residue-lt k (negsuc n) = omega (arith, pow_pos k)

-- ════════════════════════════════════════════════════════════════════════════════════════════
-- A signed number of k bits and its remainder give each other
-- ════════════════════════════════════════════════════════════════════════════════════════════

pub signed-residue : (k : ℕ) → 0 < k → (z : ℤ) → Signed k z → signed k (residue k z) ≡ z
unfolding residue
signed-residue k p (pos n) h =
    let e : n % 2 ^ k ≡ n = mod-eq_of_lt (omega (arith, pow-half k p)) in
    rw e (signed_lower k n h)
signed-residue k p (negsuc n) h =
    let e : n % 2 ^ k ≡ n = mod-eq_of_lt (omega (arith, pow-half k p)) in
    rw e (signed-upper k (2 ^ k - suc n) (omega (arith, pow-half k p)) ∙ ap negsuc (omega (arith, pow-half k p)))

residue-half : (k r : ℕ) (t : Bool) → 0 < k → r < 2 ^ k → residue k (half t k r) ≡ r
unfolding residue
residue-half k r true p h = mod-eq_of_lt h
residue-half k r false p h =
    let e : (2 ^ k - suc r) % 2 ^ k ≡ 2 ^ k - suc r = mod-eq_of_lt (omega arith) in rw e (omega arith)

pub residue-signed : (k r : ℕ) → 0 < k → r < 2 ^ k → residue k (signed k r) ≡ r
unfolding signed
residue-signed k r p h = residue-half k r (ltb r (2 ^ (k - 1))) p h

pub signed_range : (k r : ℕ) → 0 < k → r < 2 ^ k → Signed k (signed k r)
unfolding signed
signed_range k r p h = by (ltb r (2 ^ (k - 1))) refl
  where
    by : (t : Bool) → ltb r (2 ^ (k - 1)) ≡ t → Signed k (half t k r)
    by true e = ltb-true r (2 ^ (k - 1)) e
    by false e = omega (arith, ltb-false r (2 ^ (k - 1)) e, pow-half k p)

-- ════════════════════════════════════════════════════════════════════════════════════════════
-- Sums and differences modulo 2^k
-- ════════════════════════════════════════════════════════════════════════════════════════════

residue-parts : (k : ℕ) (z : ℤ) → (residue k z + down z) % 2 ^ k ≡ up z % 2 ^ k
unfolding residue
residue-parts k (pos n) = rw (add-zero (n % 2 ^ k)) (mod-mod n (2 ^ k))
residue-parts k (negsuc n) =
    let e : 2 ^ k - suc (n % 2 ^ k) + suc n ≡ suc (n / 2 ^ k) * 2 ^ k =
    omega (arith, suc-mul (n / 2 ^ k) (2 ^ k), div-add-mod' n (2 ^ k), mod-lt n (pow_pos k)) in
    rw e (mul-mod_left (suc (n / 2 ^ k)) (2 ^ k) ∙ sym (zero-mod (2 ^ k)))

-- the lowest bits of a remainder
pub residue-low : (j k : ℕ) (z : ℤ) → residue (j + k) z % 2 ^ k ≡ residue k z
residue-low j k z =
    let r = residue (j + k) z in
    let all : (r + down z) % 2 ^ k ≡ up z % 2 ^ k =
    sym (mod-mod-pow (r + down z) j k) ∙ ap (λ (n : ℕ). n % 2 ^ k) (residue-parts (j + k) z) ∙ mod-mod-pow (up z) j k in
    mod-cancel (2 ^ k) r (residue k z) (down z) (pow_pos k) (all ∙ sym (residue-parts k z))
    ∙ mod-eq_of_lt (residue-lt k z)

pub residue-add : (k : ℕ) (a b : ℤ) → residue k (a +ℤ b) ≡ (residue k a + residue k b) % 2 ^ k
residue-add k a b =
    let m = 2 ^ k in
    let r = residue k (a +ℤ b) in
    let d = down (a +ℤ b) in
    let e = down a + down b in
    let left : r + (d + e) ≡ (r + d) + e = omega arith in
    let x = residue k a in
    let y = residue k b in
    let right : x + y + (d + e) ≡ ((x + down a) + (y + down b)) + d = omega arith in
    let sum = mod-add m (x + down a) (up a) (y + down b) (up b) (residue-parts k a) (residue-parts k b) in
    sym (mod-eq_of_lt (residue-lt k (a +ℤ b)))
    ∙ mod-cancel m r (x + y) (d + e) (pow_pos k)
    (rw (left, right)
    (mod-add m (r + d) (up (a +ℤ b)) e e (residue-parts k (a +ℤ b)) refl
    ∙ ap (λ (n : ℕ). n % m) (sum-parts a b)
    ∙ sym (mod-add m (x + down a + (y + down b)) (up a + up b) d d sum refl)))

-- what gives back a's remainder when b's is added is the remainder of a − b
pub residue-sub : (k r : ℕ) (a b : ℤ) → r < 2 ^ k → (r + residue k b) % 2 ^ k ≡ residue k a → r ≡ residue k (a -ℤ b)
residue-sub k r a b h e =
    sym (mod-eq_of_lt h)
    ∙ mod-cancel (2 ^ k) r (residue k (a -ℤ b)) (residue k b) (pow_pos k)
    (e ∙ ap (residue k) (sym (-ℤ-+ℤ_cancel a b)) ∙ residue-add k (a -ℤ b) b)
    ∙ mod-eq_of_lt (residue-lt k (a -ℤ b))

-- ════════════════════════════════════════════════════════════════════════════════════════════
-- Wrapping is the signed number of 64 bits that is equal modulo 2^64
-- ════════════════════════════════════════════════════════════════════════════════════════════

pub wrap-signed : (z : ℤ) → Signed 64 (wrap z)
unfolding wrap
wrap-signed z = signed_range 64 (residue 64 z) (omega arith) (residue-lt 64 z)

pub wrap-residue : (z : ℤ) → residue 64 (wrap z) ≡ residue 64 z
unfolding wrap
wrap-residue z = residue-signed 64 (residue 64 z) (omega arith) (residue-lt 64 z)

pub wrap-id : (z : ℤ) → Signed 64 z → wrap z ≡ z
unfolding wrap
wrap-id z h = signed-residue 64 (omega arith) z h

-- the sum and the difference, from the remainders
pub add_wrap-signed : (a b : ℤ) → signed 64 ((residue 64 a + residue 64 b) % 2 ^ 64) ≡ add_wrap a b
unfolding add_wrap wrap
add_wrap-signed a b = ap (signed 64) (sym (residue-add 64 a b))

pub sub_wrap-signed : (a b : ℤ) (r : ℕ) → r < 2 ^ 64 → (r + residue 64 b) % 2 ^ 64 ≡ residue 64 a
    → signed 64 r ≡ sub_wrap a b
unfolding sub_wrap wrap
sub_wrap-signed a b r h e = ap (signed 64) (residue-sub 64 r a b h e)
