-- Digits over any base b: a number below b^k is given back by its k digits, and digits below b by their number.
-- Assumes nothing.
use Rattle.std.proofs.Common.{◌≡◌, ℕ, zero, suc, ◌+◌, ◌*◌, ◌/◌, ◌%◌, ◌^◌, ◌<◌, List, [], ◌∷◌, ◌++◌, length, get_or, sym, refl, ap, mod-lt, mul_comm, div-lt_iff_lt-mul, add_comm, suc-add, pow-suc, zero-add, div-one, arith}
use native.Mathlib.Nat.{one-le-pow, pow-zero, pow-succ', mod-add-div'}
use native.Mathlib.Nat.{div-div-eq-div-mul}
use lib.Arith as Arith
use Rattle.word.specs.Digits.{digits_of, value_of}

-- digits of base b
abbrev pub Below : ℕ → List ℕ → Type 0
Below b ds = (i : ℕ) → i < length ds → get_or ds i 0 < b

module _ (b d : ℕ) (ds : List ℕ) (f : Below b (d ∷ ds)) where
  below-head : d < b
  below-head = f 0 (omega arith)

  below-tail : Below b ds
  below-tail i h = f (suc i) (omega arith)

-- ════════════════════════════════════════════════════════════════════════════════════════════
-- The number of some digits
-- ════════════════════════════════════════════════════════════════════════════════════════════

pub value_of-lt : (b : ℕ) (ds : List ℕ) → Below b ds → value_of b ds < b ^ length ds
unfolding value_of
value_of-lt b [] f = omega (arith, pow-zero b)
value_of-lt b (d ∷ ds) f =
    rw (add_comm d (value_of b ds * b), pow-succ' b (length ds), mul_comm b (b ^ length ds))
    (Arith.digits_lt (value_of-lt b ds (below-tail b d ds f)) (below-head b d ds f))

-- ════════════════════════════════════════════════════════════════════════════════════════════
-- The digits of a number
-- ════════════════════════════════════════════════════════════════════════════════════════════

pub digits-length : (b k n : ℕ) → length (digits_of b k n) ≡ k
unfolding digits_of
digits-length b zero n = refl
digits-length b (suc k) n = ap suc (digits-length b k (n / b))

pub digits_lt : (b k n : ℕ) → 0 < b → Below b (digits_of b k n)
unfolding digits_of
digits_lt b zero n p i h = absurd (omega arith)
digits_lt b (suc k) n p zero h = mod-lt n p
digits_lt b (suc k) n p (suc i) h = digits_lt b k (n / b) p i (omega arith)

-- what is left of a number below b^(k + 1) after its lowest digit is below b^k
pub digits-shift : (b k n : ℕ) → n < b ^ suc k → n / b < b ^ k
digits-shift zero k n h = absurd (omega (arith, pow-suc 0 k))
digits-shift (suc b) k n h = (div-lt_iff_lt-mul {k = suc b} (omega arith)).1 (rw (pow-suc (suc b) k) at h)

pub digits_value : (b k n : ℕ) → n < b ^ k → value_of b (digits_of b k n) ≡ n
unfolding value_of digits_of
digits_value b zero n h = omega (arith, pow-zero b)
digits_value b (suc k) n h =
    rw (digits_value b k (n / b) (digits-shift b k n h)) (mod-add-div' n b)

pub value-digits : (b : ℕ) (ds : List ℕ) → Below b ds → digits_of b (length ds) (value_of b ds) ≡ ds
unfolding value_of digits_of
value-digits b [] f = refl
value-digits b (d ∷ ds) f =
    let h = below-head b d ds f in
    rw (add_comm d (value_of b ds * b), Arith.digits_mod (value_of b ds) h, Arith.digits_div (value_of b ds) h)
    (ap (λ (l : List ℕ). d ∷ l) (value-digits b ds (below-tail b d ds f)))

-- the lowest j digits, and then those of what is left of the number
pub digits_append : (b j k n : ℕ) → digits_of b (j + k) n ≡ digits_of b j n ++ digits_of b k (n / b ^ j)
unfolding digits_of
digits_append b zero k n = rw (pow-zero b, div-one n, zero-add k)
digits_append b (suc j) k n =
    rw (suc-add j k, pow-succ' b j, sym (div-div-eq-div-mul n b (b ^ j))) (ap (λ (l : List ℕ). n % b ∷ l) (digits_append b j k (n / b)))

pow-pos-base : (b k : ℕ) → 0 < b → 0 < b ^ k
pow-pos-base b k p = one-le-pow k b p

-- the lowest k digits are those of the remainder modulo b^k
pub digits_low : (b k n : ℕ) → 0 < b → digits_of b k (n % b ^ k) ≡ digits_of b k n
unfolding digits_of
digits_low b zero n p = refl
digits_low b (suc k) n p =
    let q = n / b % b ^ k in
    let e : n % b ^ suc k ≡ q * b + n % b = rw (pow-suc b k) (Arith.mod-mul n (pow-pos-base b k p) p) in
    let h = mod-lt n p in
    rw (e, Arith.digits_mod q h, Arith.digits_div q h) (ap (λ (l : List ℕ). n % b ∷ l) (digits_low b k (n / b) p))
