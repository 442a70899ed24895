-- Numbers in decimal: what is written of a word is read as the word and is plain; and a plain text that is read as a word is what is
-- written of it.
-- Assumes nothing.
use Rattle.std.proofs.Common.{None, Some}
use mathlib.Core.Path.{◌≡◌, refl, sym, ap, ap₂, ◌∙◌}
use mathlib.Core.Bool.{Bool, true, false}
use mathlib.Core.List.{List, [], ◌∷◌, map, reverse, reverse_aux, reverse-reverse}
use Prim.Native.Nat.{ℕ, zero, suc, ◌+◌, ◌-◌, ◌/◌, ◌%◌, ◌^◌, ◌<◌, ◌≤◌}
use native.Mathlib.Nat.{mod-lt, div-eq_of_lt, pow-le-pow_right, one-le-pow}
use native.Mathlib.Omega.{arith}
use lib.IntN.{ℤ, pos, negsuc}
use lib.Dec.{T, leb, ltb, eqb, le→leb}
use lib.ListN.{length, get_or, length-map, length-reverse}
use borrow.Author.Tests.{lt-ltb, ltb-true, ltb-false, leb-true, ne_eqb, eqb-true, eqb-false, not-true}
use Rattle.word.specs.Choose.{choose}
use Rattle.word.specs.Wrap.{Signed}
use Rattle.word.specs.Digits.{value_of, digits_of}
use Rattle.word.specs.Text.{digit_char, digit_value, numeral, numeral_value, digit_count, natural, decimal}
use Rattle.word.specs.Numeral.{is_digit, all_digits, signed_by, digits_number, number_of}
use Rattle.word.proofs.Bool.{never, and_first, and_second, and_intro}
use Rattle.word.proofs.Laws.Digits.{Below, value_of-lt, value-digits}
use Rattle.word.proofs.Laws.Numeral.{digit_char-lower, numeral-none, numeral-cons, digit_count-few, digit_count-pos}
use Rattle.word.proofs.Laws.Numeral.{digit_count-suffices, digit_count-within}
use Rattle.word.proofs.Laws.Decimal.{natural-length, natural-value, natural-lead}
use Rattle.word.proofs.Laws.Reading.{digit-is}
use Rattle.program.proofs.Naming.{is_letter, all_letters}
use Rattle.assembly.specs.Claim.{plain_digits, plain_after_minus, plain_operand}

-- ════════════════════════════════════════════════════════════════════════════════════════════
-- Digits
-- ════════════════════════════════════════════════════════════════════════════════════════════

digit-from : (c : ℕ) → is_digit c ≡ true → 48 ≤ c
digit-from c e = leb-true 48 c (and_first (leb 48 c) (leb c 57) e)

digit-to : (c : ℕ) → is_digit c ≡ true → c ≤ 57
digit-to c e = leb-true c 57 (and_second (leb 48 c) (leb c 57) e)

digit_value_lem : (c : ℕ) → is_digit c ≡ true → digit_value c ≡ c - 48
unfolding digit_value
digit_value_lem c e = rw (lt-ltb c 97 (omega (arith, digit-to c e)))

digit-back : (c : ℕ) → is_digit c ≡ true → digit_char (digit_value c) ≡ c
digit-back c e =
    let l = digit-from c e in
    let u = digit-to c e in
    rw (digit_value_lem c e, digit_char-lower (c - 48) (omega arith)) (omega arith)

module _ (c : ℕ) (s : List ℕ) (e : all_digits (c ∷ s) ≡ true) where
  digits-head : is_digit c ≡ true
  digits-head = and_first (is_digit c) (all_digits s) e

  digits-tail : all_digits s ≡ true
  digits-tail = and_second (is_digit c) (all_digits s) e

digit-letter : (c : ℕ) → is_digit c ≡ true → T (is_letter c)
digit-letter c e =
    let l = digit-from c e in
    let u = digit-to c e in
    and_intro (leb 33 c) (leb c 255) (le→leb 33 c (omega arith)) (le→leb c 255 (omega arith))

pub digits-letters : (s : List ℕ) → all_digits s ≡ true → T (all_letters s)
digits-letters [] e = tt
digits-letters (c ∷ s) e =
    and_intro (is_letter c) (all_letters s) (digit-letter c (digits-head c s e)) (digits-letters s (digits-tail c s e))

digits-reverse : (s t : List ℕ) → all_digits s ≡ true → all_digits t ≡ true → all_digits (reverse_aux s t) ≡ true
digits-reverse [] t e f = f
digits-reverse (c ∷ s) t e f = digits-reverse s (c ∷ t) (digits-tail c s e) (rw (digits-head c s e) f)

digits-below : (s : List ℕ) → all_digits s ≡ true → Below 10 (map digit_value s)
digits-below [] e i h = absurd (omega arith)
digits-below (c ∷ s) e zero h =
    let d = digits-head c s e in rw (digit_value_lem c d) (omega (arith, digit-from c d, digit-to c d))
digits-below (c ∷ s) e (suc i) h = digits-below s (digits-tail c s e) i (omega arith)

digits-back : (s : List ℕ) → all_digits s ≡ true → map digit_char (map digit_value s) ≡ s
digits-back [] e = refl
digits-back (c ∷ s) e = ap₂ (λ (d : ℕ) (ds : List ℕ). d ∷ ds) (digit-back c (digits-head c s e)) (digits-back s (digits-tail c s e))

-- ════════════════════════════════════════════════════════════════════════════════════════════
-- Digits and their number
-- ════════════════════════════════════════════════════════════════════════════════════════════

module _ (s : List ℕ) (e : all_digits s ≡ true) where
  abbrev values : List ℕ
  values = map digit_value (reverse s)

  values_length : length values ≡ length s
  values_length = length-map (reverse s) digit_value ∙ length-reverse s

  values-below : Below 10 values
  values-below = digits-below (reverse s) (digits-reverse s [] e refl)

  numeral-lt : numeral_value 10 s < 10 ^ length s
  unfolding numeral_value
  numeral-lt = rw values_length at (value_of-lt 10 values values-below)

  -- digits are written of their number, if as many are written
  numeral-back : numeral 10 (length s) (numeral_value 10 s) ≡ s
  unfolding numeral numeral_value
  numeral-back =
      let ds : digits_of 10 (length s) (value_of 10 values) ≡ values = rw values_length at (value-digits 10 values values-below) in
      rw (ds, digits-back (reverse s) (digits-reverse s [] e refl)) (reverse-reverse s)

pub numeral-digits : (k n : ℕ) → all_digits (numeral 10 k n) ≡ true
numeral-digits zero n = rw (numeral-none 10 n)
numeral-digits (suc k) n =
    let d = n / 10 ^ k % 10 in
    let h : d < 10 = mod-lt (n / 10 ^ k) (omega arith) in
    rw (numeral-cons 10 k n, digit_char-lower d h, digit-is (48 + d) (omega arith) (omega arith)) (numeral-digits k n)

natural-digits : (n : ℕ) → all_digits (natural n) ≡ true
unfolding natural
natural-digits n = numeral-digits (digit_count 10 19 n) n

pub decimal-letters : (z : ℤ) → T (all_letters (decimal z))
unfolding decimal
decimal-letters (pos n) = digits-letters (natural n) (natural-digits n)
decimal-letters (negsuc n) = digits-letters (natural (suc n)) (natural-digits (suc n))

natural-some : (n : ℕ) → 0 < length (natural n)
natural-some n = omega (arith, natural-length n, digit_count-pos 10 19 n)

-- ════════════════════════════════════════════════════════════════════════════════════════════
-- What is written is read
-- ════════════════════════════════════════════════════════════════════════════════════════════

digits_number_lem : (minus : Bool) (s : List ℕ) → 0 < length s → all_digits s ≡ true
    → digits_number minus s ≡ Some (signed_by minus (numeral_value 10 s))
digits_number_lem minus [] p e = absurd (omega arith)
digits_number_lem minus (c ∷ s) p e = rw e

number-plus : (s : List ℕ) → 0 < length s → all_digits s ≡ true → number_of s ≡ Some (pos (numeral_value 10 s))
unfolding number_of
number-plus [] p e = absurd (omega arith)
number-plus (c ∷ s) p e =
    rw (ne_eqb c 45 (λ h. omega (arith, digit-from c (digits-head c s e)))) (digits_number_lem false (c ∷ s) p e)

number-minus : (s : List ℕ) → number_of (45 ∷ s) ≡ digits_number true s
unfolding number_of
number-minus s = refl

-- the text of a word is read as the word
pub number-decimal : (z : ℤ) → Signed 64 z → number_of (decimal z) ≡ Some z
unfolding decimal
number-decimal (pos n) h =
    number-plus (natural n) (natural-some n) (natural-digits n) ∙ ap (λ (m : ℕ). Some (pos m)) (natural-value n (omega arith))
number-decimal (negsuc n) h =
    number-minus (natural (suc n)) ∙ digits_number_lem true (natural (suc n)) (natural-some (suc n)) (natural-digits (suc n))
    ∙ ap (λ (m : ℕ). Some (signed_by true m)) (natural-value (suc n) (omega arith))

-- ════════════════════════════════════════════════════════════════════════════════════════════
-- And it is plain
-- ════════════════════════════════════════════════════════════════════════════════════════════

digits-plain : (s : List ℕ) → all_digits s ≡ true → (get_or s 0 0 ≡ 48 → length s ≤ 1) → plain_operand s ≡ true
digits-plain [] e h = refl
digits-plain (c ∷ s) e h = rw (ne_eqb c 45 (λ k. omega (arith, digit-from c (digits-head c s e)))) (by s h)
  where
    by : (s : List ℕ) → (c ≡ 48 → length (c ∷ s) ≤ 1) → plain_digits (c ∷ s) ≡ true
    by [] h = refl
    by (d ∷ t) h = rw (ne_eqb c 48 (λ k. omega (arith, h k)))

minus-plain : (s : List ℕ) → (get_or s 0 0 ≡ 48 → ⊥) → plain_operand (45 ∷ s) ≡ true
minus-plain [] h = refl
minus-plain (c ∷ s) h = rw (ne_eqb c 48 h)

pub decimal-plain : (z : ℤ) → Signed 64 z → plain_operand (decimal z) ≡ true
unfolding decimal
decimal-plain (pos zero) h =
    digits-plain (natural 0) (natural-digits 0) (λ e. omega (arith, natural-length 0, digit_count-few 10 19 0 (omega arith)))
decimal-plain (pos (suc n)) h =
    digits-plain (natural (suc n)) (natural-digits (suc n)) (λ e. absurd (natural-lead (suc n) (omega arith) (omega arith) e))
decimal-plain (negsuc n) h = minus-plain (natural (suc n)) (natural-lead (suc n) (omega arith) (omega arith))

-- ════════════════════════════════════════════════════════════════════════════════════════════
-- A plain text is what is written of its number
-- ════════════════════════════════════════════════════════════════════════════════════════════

module _ (c : ℕ) (s : List ℕ) (e : all_digits (c ∷ s) ≡ true) where
  abbrev number : ℕ
  number = numeral_value 10 (c ∷ s)

  -- the first digit of a number that needs fewer is 0
  lead_zero : number < 10 ^ length s → c ≡ 48
  lead_zero h =
      let q : number / 10 ^ length s ≡ 0 = div-eq_of_lt h in
      let w = sym (numeral-cons 10 (length s) number) ∙ numeral-back (c ∷ s) e in
      let d : digit_char (number / 10 ^ length s % 10) ≡ c = ap (λ (t : List ℕ). get_or t 0 0) w in
      sym d ∙ rw q (digit_char-lower 0 (omega arith))

  -- as many digits as it needs
  count-least : number < 10 ^ 20 → (c ≡ 48 → ⊥) → length s < digit_count 10 19 number
  count-least h l = by (ltb (length s) (digit_count 10 19 number)) refl
    where
      by : (t : Bool) → ltb (length s) (digit_count 10 19 number) ≡ t → length s < digit_count 10 19 number
      by true f = ltb-true (length s) (digit_count 10 19 number) f
      by false f =
          let k = digit_count-suffices 10 19 number (omega arith) h in
          let m = pow-le-pow_right {n = 10} (omega arith) (ltb-false (length s) (digit_count 10 19 number) f) in
          absurd (l (lead_zero (omega arith)))

  natural-back : number < 10 ^ 20 → length s < digit_count 10 19 number → natural number ≡ c ∷ s
  unfolding natural
  natural-back h l =
      let u : digit_count 10 19 number ≤ suc (length s) = digit_count-within 10 19 (length s) number (numeral-lt (c ∷ s) e) in
      let k : digit_count 10 19 number ≡ suc (length s) = omega arith in
      rw k (numeral-back (c ∷ s) e)

plain-natural : (c : ℕ) (s : List ℕ) → all_digits (c ∷ s) ≡ true → plain_digits (c ∷ s) ≡ true → numeral_value 10 (c ∷ s) < 10 ^ 20
    → natural (numeral_value 10 (c ∷ s)) ≡ c ∷ s
plain-natural c [] e p h = natural-back c [] e h (digit_count-pos 10 19 (numeral_value 10 (c ∷ [])))
plain-natural c (d ∷ s) e p h =
    natural-back c (d ∷ s) e h (count-least c (d ∷ s) e h (eqb-false c 48 (not-true (eqb c 48) p)))

-- a number without a leading 0 is not 0
lead-some : (c : ℕ) (s : List ℕ) → all_digits (c ∷ s) ≡ true → (c ≡ 48 → ⊥) → 0 < numeral_value 10 (c ∷ s)
lead-some c s e l = by (numeral_value 10 (c ∷ s)) refl
  where
    by : (n : ℕ) → numeral_value 10 (c ∷ s) ≡ n → 0 < n
    by zero f = absurd (l (lead_zero c s e (rw f (one-le-pow (length s) 10 (omega arith)))))
    by (suc n) f = omega arith

module _ (minus : Bool) (c : ℕ) (s : List ℕ) (z : ℤ) where
  number_digits : digits_number minus (c ∷ s) ≡ Some z → (all_digits (c ∷ s) ≡ true) × (z ≡ signed_by minus (numeral_value 10 (c ∷ s)))
  number_digits e = by (all_digits (c ∷ s)) e
    where
      by : (t : Bool) → choose t (Some (signed_by minus (numeral_value 10 (c ∷ s)))) None ≡ Some z
          → (t ≡ true) × (z ≡ signed_by minus (numeral_value 10 (c ∷ s)))
      by true e = (refl, cc)
      by false e = never (cc)

plus-decimal : (c : ℕ) (s : List ℕ) (z : ℤ) → digits_number false (c ∷ s) ≡ Some z → Signed 64 z → plain_digits (c ∷ s) ≡ true
    → decimal z ≡ c ∷ s
unfolding decimal
plus-decimal c s z e h p =
    let (d, k) = number_digits false c s z e in
    let r : numeral_value 10 (c ∷ s) < 2 ^ 63 = rw k at h in
    rw k (plain-natural c s d p (omega arith))

minus-decimal : (s : List ℕ) (z : ℤ) → digits_number true s ≡ Some z → Signed 64 z → plain_after_minus s ≡ true → decimal z ≡ 45 ∷ s
unfolding decimal
minus-decimal [] z e h p = never (cc)
minus-decimal (c ∷ s) z e h p =
    let (d, k) = number_digits true c s z e in
    let l = eqb-false c 48 (not-true (eqb c 48) p) in
    by (numeral_value 10 (c ∷ s)) refl (lead-some c s d l) k (λ r. natural-back c s d r (count-least c s d r l))
  where
    by : (n : ℕ) → numeral_value 10 (c ∷ s) ≡ n → 0 < n → z ≡ signed_by true n
        → (n < 10 ^ 20 → natural n ≡ c ∷ s) → decimal z ≡ 45 ∷ c ∷ s
    by zero f i k g = absurd (omega arith)
    by (suc n) f i k g =
        let r : n < 2 ^ 63 = rw k at h in rw k (ap (λ (t : List ℕ). 45 ∷ t) (g (omega arith)))

-- a plain text that is read as a word is the word's text
pub plain-decimal : (w : List ℕ) (z : ℤ) → number_of w ≡ Some z → Signed 64 z → plain_operand w ≡ true → decimal z ≡ w
unfolding number_of
plain-decimal [] z e h p = never (cc)
plain-decimal (c ∷ s) z e h p = by (eqb c 45) refl e p
  where
    by : (t : Bool) → eqb c 45 ≡ t → choose t (digits_number true s) (digits_number false (c ∷ s)) ≡ Some z
        → choose t (plain_after_minus s) (plain_digits (c ∷ s)) ≡ true → decimal z ≡ c ∷ s
    by true f e p = minus-decimal s z e h p ∙ ap (λ (d : ℕ). d ∷ s) (sym (eqb-true c 45 f))
    by false f e p = plus-decimal c s z e h p
