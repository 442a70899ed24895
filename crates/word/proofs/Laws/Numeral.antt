-- Numerals over any base b: a number below b^k is read back from its k digits; a number has as many digits as it needs, and
-- no more.
-- Assumes nothing.
use Rattle.std.proofs.Common.{◌≡◌, ℕ, zero, suc, ◌+◌, ◌/◌, ◌%◌, ◌^◌, ◌<◌, ◌≤◌, Bool, true, false, ltb, List, [], ◌∷◌, ◌++◌, map, length, sym, refl, ap, ◌∙◌, ap₂, div-lt_iff_lt-mul, pow-suc, le-div_iff_mul-le, div-one, arith, ltb-false, ltb-true, le-ltb, lt-ltb}
use mathlib.Core.List.{reverse-cons, reverse-reverse}
use native.Mathlib.Nat.{pow-zero, pow-succ', div-div-eq-div-mul}
use lib.ListN.{length-reverse, length-map}
use Rattle.word.specs.Digits.{digits_of}
use Rattle.word.specs.Text.{digit_if, digit_char, value_if, digit_value, numeral, numeral_value, count_if, digit_count}
use Rattle.word.proofs.Laws.Digits.{digits-length, digits-shift, digits_value}

-- ════════════════════════════════════════════════════════════════════════════════════════════
-- Digits
-- ════════════════════════════════════════════════════════════════════════════════════════════

pub digit_char-lower : (d : ℕ) → d < 10 → digit_char d ≡ 48 + d
unfolding digit_char
digit_char-lower d h = rw (lt-ltb d 10 h)

pub digit_char-upper : (d : ℕ) → 10 ≤ d → digit_char d ≡ 87 + d
unfolding digit_char
digit_char-upper d h = rw (le-ltb d 10 h)

-- ════════════════════════════════════════════════════════════════════════════════════════════
-- Numerals
-- ════════════════════════════════════════════════════════════════════════════════════════════

pub numeral-none : (b n : ℕ) → numeral b 0 n ≡ []
unfolding numeral digits_of
numeral-none b n = refl

-- the lowest digit is the last
pub numeral-snoc : (b k n : ℕ) → numeral b (suc k) n ≡ numeral b k (n / b) ++ (digit_char (n % b) ∷ [])
unfolding numeral digits_of
numeral-snoc b k n = reverse-cons (digit_char (n % b)) (map digit_char (digits_of b k (n / b)))

pub numeral-length : (b k n : ℕ) → length (numeral b k n) ≡ k
unfolding numeral
numeral-length b k n = length-reverse (map digit_char (digits_of b k n)) ∙ length-map (digits_of b k n) digit_char ∙ digits-length b k n

-- ════════════════════════════════════════════════════════════════════════════════════════════
-- How many digits
-- ════════════════════════════════════════════════════════════════════════════════════════════

pub digit_count-few : (b fuel n : ℕ) → n < b → digit_count b fuel n ≡ 1
unfolding digit_count
digit_count-few b zero n h = refl
digit_count-few b (suc fuel) n h = rw (lt-ltb n b h)

pub digit_count-more : (b fuel n : ℕ) → b ≤ n → digit_count b (suc fuel) n ≡ suc (digit_count b fuel (n / b))
unfolding digit_count
digit_count-more b fuel n h = rw (le-ltb n b h)

pub digit_count-le : (b fuel n : ℕ) → digit_count b fuel n ≤ suc fuel
unfolding digit_count
digit_count-le b zero n = omega arith
digit_count-le b (suc fuel) n = by (ltb n b) (digit_count-le b fuel (n / b))
  where
    by : (t : Bool) → digit_count b fuel (n / b) ≤ suc fuel → count_if t (digit_count b fuel (n / b)) ≤ suc (suc fuel)
    by true h = omega arith
    by false h = omega arith

pub digit_count-pos : (b fuel n : ℕ) → 0 < digit_count b fuel n
unfolding digit_count
digit_count-pos b zero n = omega arith
digit_count-pos b (suc fuel) n = by (ltb n b)
  where
    by : (t : Bool) → 0 < count_if t (digit_count b fuel (n / b))
    by true = omega arith
    by false = omega arith

pow-one : (b : ℕ) → b ^ 1 ≡ b
pow-one b = pow-suc b 0 ∙ rw (pow-zero b) (omega arith)

-- n is below b to the power of its count of digits
pub digit_count-suffices : (b fuel n : ℕ) → 0 < b → n < b ^ suc fuel → n < b ^ digit_count b fuel n
unfolding digit_count
digit_count-suffices b zero n p h = h
digit_count-suffices b (suc fuel) n p h =
    by (ltb n b) refl (digit_count-suffices b fuel (n / b) p (digits-shift b (suc fuel) n h))
  where
    by : (t : Bool) → ltb n b ≡ t → n / b < b ^ digit_count b fuel (n / b) → n < b ^ count_if t (digit_count b fuel (n / b))
    by true e s = rw (pow-one b) (ltb-true n b e)
    by false e s = rw (pow-suc b (digit_count b fuel (n / b))) ((div-lt_iff_lt-mul p).0 s)

-- n has no more digits than k, where it is below b^k
pub digit_count-within : (b fuel k n : ℕ) → n < b ^ suc k → digit_count b fuel n ≤ suc k
unfolding digit_count
digit_count-within b zero k n h = omega arith
digit_count-within b (suc fuel) zero n h = by (ltb n b) refl
  where
    by : (t : Bool) → ltb n b ≡ t → count_if t (digit_count b fuel (n / b)) ≤ 1
    by true e = omega arith
    by false e = absurd (omega (arith, ltb-false n b e, pow-one b))
digit_count-within b (suc fuel) (suc k) n h = by (ltb n b) (digit_count-within b fuel k (n / b) (digits-shift b (suc k) n h))
  where
    by : (t : Bool) → digit_count b fuel (n / b) ≤ suc k → count_if t (digit_count b fuel (n / b)) ≤ suc (suc k)
    by true s = omega arith
    by false s = omega arith

-- and no fewer: with k + 1 of them it is at least b^k
pub digit_count-least : (b fuel k n : ℕ) → 0 < b → 0 < n → digit_count b fuel n ≡ suc k → b ^ k ≤ n
unfolding digit_count
digit_count-least b fuel zero n p q e = rw (pow-zero b) q
digit_count-least b zero (suc k) n p q e = absurd (omega arith)
digit_count-least b (suc fuel) (suc k) n p q e = by (ltb n b) refl e (digit_count-least b fuel k (n / b) p)
  where
    by : (t : Bool) → ltb n b ≡ t → count_if t (digit_count b fuel (n / b)) ≡ suc (suc k)
        → (0 < n / b → digit_count b fuel (n / b) ≡ suc k → b ^ k ≤ n / b) → b ^ suc k ≤ n
    by true f e g = absurd (omega arith)
    by false f e g =
        let some : 1 ≤ n / b = (le-div_iff_mul-le p).1 (omega (arith, ltb-false n b f)) in
        rw (pow-suc b k) ((le-div_iff_mul-le p).0 (g some (omega arith)))

-- ════════════════════════════════════════════════════════════════════════════════════════════
-- Reading a numeral back
-- ════════════════════════════════════════════════════════════════════════════════════════════

pub digit_char-value : (d : ℕ) → digit_value (digit_char d) ≡ d
unfolding digit_char digit_value
digit_char-value d = by (ltb d 10) refl
  where
    by : (t : Bool) → ltb d 10 ≡ t → value_if (ltb (digit_if t d) 97) (digit_if t d) ≡ d
    by true e = let h = ltb-true d 10 e in rw (lt-ltb (48 + d) 97 (omega arith)) (omega arith)
    by false e = let h = ltb-false d 10 e in rw (le-ltb (87 + d) 97 (omega arith)) (omega arith)

digit_chars-value : (ds : List ℕ) → map digit_value (map digit_char ds) ≡ ds
digit_chars-value [] = refl
digit_chars-value (d ∷ ds) = ap₂ (λ (e : ℕ) (es : List ℕ). e ∷ es) (digit_char-value d) (digit_chars-value ds)

pub numeral-value : (b k n : ℕ) → n < b ^ k → numeral_value b (numeral b k n) ≡ n
unfolding numeral numeral_value
numeral-value b k n h =
    rw (reverse-reverse (map digit_char (digits_of b k n)), digit_chars-value (digits_of b k n)) (digits_value b k n h)

-- ════════════════════════════════════════════════════════════════════════════════════════════
-- The highest digit
-- ════════════════════════════════════════════════════════════════════════════════════════════

-- the highest digit is the first
pub numeral-cons : (b k n : ℕ) → numeral b (suc k) n ≡ digit_char (n / b ^ k % b) ∷ numeral b k n
numeral-cons b zero n =
    numeral-snoc b zero n ∙ rw (numeral-none b (n / b), numeral-none b n, pow-zero b, div-one n)
numeral-cons b (suc k) n =
    let e : n / b / b ^ k ≡ n / b ^ suc k = div-div-eq-div-mul n b (b ^ k) ∙ ap (λ (m : ℕ). n / m) (sym (pow-succ' b k)) in
    numeral-snoc b (suc k) n ∙ rw (numeral-cons b k (n / b), e, numeral-snoc b k n)

pub digit_char-ge : (d : ℕ) → 48 ≤ digit_char d
unfolding digit_char
digit_char-ge d = by (ltb d 10)
  where
    by : (t : Bool) → 48 ≤ digit_if t d
    by true = omega arith
    by false = omega arith
