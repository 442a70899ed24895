-- Reading numbers from text: what the loop over digits keeps, and that a number kept up to 10^19 is read as the number itself.
-- Assumes nothing.
use Rattle.std.proofs.Common.{◌≡◌, ℕ, zero, suc, ◌+◌, ◌-◌, ◌*◌, ◌^◌, ◌<◌, ◌≤◌, Bool, true, false, eqb, ltb, leb, List, [], ◌∷◌, map, length, get_or, drop, pos, negsuc, sym, refl, ap, ◌∙◌, add_comm, zero-add, ◌+ℤ◌, ◌-ℤ◌, ℤ, arith, drop_of_length-le, drop-cons, ltb-false, ltb-true, le-ltb, lt-ltb, eq-eqb, ne_eqb, eqb-true, le-leb, leb-true, None, Option, Some}
use mathlib.Core.List.{reverse_aux}
use lib.ListN.{get_or-eq_default}
use Rattle.word.specs.Choose.{choose}
use Rattle.word.specs.Digits.{value_of}
use Rattle.word.specs.Exact.{exactly}
use Rattle.word.specs.Text.{digit_value, numeral_value}
use Rattle.word.specs.Numeral.{is_digit, all_digits, signed_by, leading_digits, decimal_to, decimal_from}
use Rattle.word.specs.Numeral.{capped, capped_more, capped_digits, capped_decimal}
use Rattle.word.proofs.Bool.{and_first, and_second}

-- ════════════════════════════════════════════════════════════════════════════════════════════
-- Digits
-- ════════════════════════════════════════════════════════════════════════════════════════════

pub digit-is : (c : ℕ) → 48 ≤ c → c ≤ 57 → is_digit c ≡ true
digit-is c h k = rw (le-leb 48 c h, le-leb c 57 k)

digit-bounds : (c : ℕ) → is_digit c ≡ true → (48 ≤ c) × (c ≤ 57)
digit-bounds c e = (leb-true 48 c (and_first (leb 48 c) (leb c 57) e), leb-true c 57 (and_second (leb 48 c) (leb c 57) e))

digit_value_lem : (c : ℕ) → is_digit c ≡ true → digit_value c ≡ c - 48
unfolding digit_value
digit_value_lem c e = rw (lt-ltb c 97 (omega (arith, digit-bounds c e)))

-- ════════════════════════════════════════════════════════════════════════════════════════════
-- The digits that a text begins with
-- ════════════════════════════════════════════════════════════════════════════════════════════

pub leading-none : leading_digits [] ≡ []
unfolding leading_digits
leading-none = refl

pub leading-stop : (c : ℕ) (s : List ℕ) → is_digit c ≡ false → leading_digits (c ∷ s) ≡ []
unfolding leading_digits
leading-stop c s e = rw e

pub leading-more : (c : ℕ) (s : List ℕ) → is_digit c ≡ true → leading_digits (c ∷ s) ≡ c ∷ leading_digits s
unfolding leading_digits
leading-more c s e = rw e

-- they are digits
pub leading-digits : (s : List ℕ) → all_digits (leading_digits s) ≡ true
leading-digits [] = rw leading-none
leading-digits (c ∷ s) = by (is_digit c) refl (leading-digits s)
  where
    by : (t : Bool) → is_digit c ≡ t → all_digits (leading_digits s) ≡ true → all_digits (leading_digits (c ∷ s)) ≡ true
    by true e h = rw (leading-more c s e, e) h
    by false e h = rw (leading-stop c s e)

-- ════════════════════════════════════════════════════════════════════════════════════════════
-- The number that digits are, from the highest on
-- ════════════════════════════════════════════════════════════════════════════════════════════

-- after the number n so many digits more
abbrev further : ℕ → List ℕ → ℕ
further n [] = n
further n (c ∷ ds) = further (n * 10 + (c - 48)) ds

further-value : (ds acc : List ℕ) → all_digits ds ≡ true
    → further (value_of 10 (map digit_value acc)) ds ≡ value_of 10 (map digit_value (reverse_aux ds acc))
unfolding value_of
further-value [] acc e = refl
further-value (c ∷ ds) acc e =
    let d = and_first (is_digit c) (all_digits ds) e in
    ap (λ (n : ℕ). further n ds) (add_comm (value_of 10 (map digit_value acc) * 10) (c - 48)
    ∙ ap (λ (n : ℕ). n + value_of 10 (map digit_value acc) * 10) (sym (digit_value_lem c d)))
    ∙ further-value ds (c ∷ acc) (and_second (is_digit c) (all_digits ds) e)

further-numeral : (ds : List ℕ) → all_digits ds ≡ true → further 0 ds ≡ numeral_value 10 ds
unfolding numeral_value value_of
further-numeral ds e = further-value ds [] e

-- ════════════════════════════════════════════════════════════════════════════════════════════
-- What is kept of it
-- ════════════════════════════════════════════════════════════════════════════════════════════

capped-more : (n d : ℕ) → d < 10 → capped_more (capped n) d ≡ capped (n * 10 + d)
unfolding capped capped_more
capped-more n d h = by (ltb n (10 ^ 19)) (ltb (n * 10 + d) (10 ^ 19)) refl refl
  where
    by : (s t : Bool) → ltb n (10 ^ 19) ≡ s → ltb (n * 10 + d) (10 ^ 19) ≡ t
        → choose (ltb (choose s n (10 ^ 19)) (10 ^ 18)) (choose s n (10 ^ 19) * 10 + d) (10 ^ 19) ≡ choose t (n * 10 + d) (10 ^ 19)
    by true true e f = rw (lt-ltb n (10 ^ 18) (omega (arith, ltb-true (n * 10 + d) (10 ^ 19) f)))
    by true false e f = rw (le-ltb n (10 ^ 18) (omega (arith, ltb-false (n * 10 + d) (10 ^ 19) f)))
    by false true e f = absurd (omega (arith, ltb-false n (10 ^ 19) e, ltb-true (n * 10 + d) (10 ^ 19) f))
    by false false e f = refl

-- what the loop makes of the digits that are left
abbrev keeping : ℕ → List ℕ → ℕ
keeping v [] = v
keeping v (c ∷ ds) = keeping (capped_more v (c - 48)) ds

keeping-further : (n : ℕ) (ds : List ℕ) → all_digits ds ≡ true → keeping (capped n) ds ≡ capped (further n ds)
keeping-further n [] e = refl
keeping-further n (c ∷ ds) e =
    let b = digit-bounds c (and_first (is_digit c) (all_digits ds) e) in
    ap (λ (v : ℕ). keeping v ds) (capped-more n (c - 48) (omega (arith, b)))
    ∙ keeping-further (n * 10 + (c - 48)) ds (and_second (is_digit c) (all_digits ds) e)

-- the loop over the digits: what is left of them, after what is kept, comes to what all of them come to
abbrev pub Keeps : List ℕ → ℕ → ℕ → ℕ → Type 0
Keeps s at v i =
    (keeping v (leading_digits (drop i s)) ≡ keeping 0 (leading_digits (drop at s)))
    × (i + length (leading_digits (drop i s)) ≡ at + length (leading_digits (drop at s)))

module _ (s : List ℕ) (at v i : ℕ) (k : Keeps s at v i) where
  keeps-stopped : leading_digits (drop i s) ≡ [] → record { value = v; next = i } ≡ capped_digits at (leading_digits (drop at s))
  unfolding capped
  keeps-stopped e =
      let ds = leading_digits (drop at s) in
      let value : v ≡ capped (numeral_value 10 ds) =
      sym (ap (keeping v) e) ∙ k.0 ∙ keeping-further 0 ds (leading-digits (drop at s))
      ∙ ap capped (further-numeral ds (leading-digits (drop at s))) in
      let next : i ≡ at + length ds = omega (arith, ap length e, k.1) in
      rw (value, next)

  pub keeps-end : length s ≤ i → record { value = v; next = i } ≡ capped_digits at (leading_digits (drop at s))
  keeps-end h = keeps-stopped (ap leading_digits (drop_of_length-le s h) ∙ leading-none)

  module _ (h : i < length s) where
    cons : drop i s ≡ get_or s i 0 ∷ drop (suc i) s
    cons = drop-cons s i 0 h

    pub keeps-other : is_digit (get_or s i 0) ≡ false → record { value = v; next = i } ≡ capped_digits at (leading_digits (drop at s))
    keeps-other e = keeps-stopped (ap leading_digits cons ∙ leading-stop (get_or s i 0) (drop (suc i) s) e)

    pub keeps-more : is_digit (get_or s i 0) ≡ true → Keeps s at (capped_more v (get_or s i 0 - 48)) (i + 1)
    keeps-more e =
        let n : i + 1 ≡ suc i = omega arith in
        let m : leading_digits (drop i s) ≡ get_or s i 0 ∷ leading_digits (drop (i + 1) s) =
        rw (n, cons) (leading-more (get_or s i 0) (drop (suc i) s) e) in
        (sym (ap (keeping v) m) ∙ k.0, omega (arith, ap length m, k.1))

-- ════════════════════════════════════════════════════════════════════════════════════════════
-- A number with its sign
-- ════════════════════════════════════════════════════════════════════════════════════════════

pub beyond-plus : (n : ℕ) → 2 ^ 63 ≤ n → exactly (signed_by false n) ≡ None
unfolding exactly
beyond-plus n h = rw (le-ltb n (2 ^ 63) h)

pub exact_below : (n : ℕ) → 0 < n → n ≤ 2 ^ 63 → exactly (signed_by true n) ≡ Some (negsuc (n - 1))
unfolding exactly
exact_below zero p h = absurd (omega arith)
exact_below (suc n) p h = let e : suc n - 1 ≡ n = omega arith in rw (e, lt-ltb n (2 ^ 63) (omega arith))

pub beyond-minus : (n : ℕ) → 2 ^ 63 < n → exactly (signed_by true n) ≡ None
unfolding exactly
beyond-minus zero h = absurd (omega arith)
beyond-minus (suc n) h = rw (le-ltb n (2 ^ 63) (omega arith))

pub exact_none : exactly (signed_by true 0) ≡ Some (pos 0)
unfolding exactly
exact_none = refl

-- the number, as the kit's sums with an unsigned one give it
pub minus-size : (n : ℕ) → pos 0 -ℤ pos n ≡ signed_by true n
minus-size zero = refl
minus-size (suc n) = rw (le-leb 1 (suc n) (omega arith)) (ap negsuc (omega arith))

pub plus-size : (n : ℕ) → pos 0 +ℤ pos n ≡ signed_by false n
plus-size n = ap pos (zero-add n)

-- from 10^19 on no number is a word
capped-exact : (minus : Bool) (n : ℕ) → exactly (signed_by minus (capped n)) ≡ exactly (signed_by minus n)
unfolding capped
capped-exact minus n = by minus (ltb n (10 ^ 19)) refl
  where
    by : (m t : Bool) → ltb n (10 ^ 19) ≡ t → exactly (signed_by m (choose t n (10 ^ 19))) ≡ exactly (signed_by m n)
    by m true e = refl
    by true false e = beyond-minus (10 ^ 19) (omega arith) ∙ sym (beyond-minus n (omega (arith, ltb-false n (10 ^ 19) e)))
    by false false e = beyond-plus (10 ^ 19) (omega arith) ∙ sym (beyond-plus n (omega (arith, ltb-false n (10 ^ 19) e)))

-- what is made of the digits that are kept is the number that they are
pub decimal-kept : (minus : Bool) (at : ℕ) (ds : List ℕ)
    → capped_decimal minus at (capped_digits at ds).value (capped_digits at ds).next ≡ decimal_from minus at ds
decimal-kept minus at [] = rw (eq-eqb (at + 0) at (omega arith))
decimal-kept minus at (d ∷ ds) =
    rw (ne_eqb (at + length (d ∷ ds)) at (λ e. omega arith))
    (ap (decimal_to (at + length (d ∷ ds))) (capped-exact minus (numeral_value 10 (d ∷ ds))))

module _ (at n next : ℕ) where
  decimal-some : (minus : Bool) (x : Option ℤ) → (next ≡ at → ⊥) → exactly (signed_by minus n) ≡ x
      → decimal_to next x ≡ capped_decimal minus at n next
  decimal-some minus x h e = rw (ne_eqb next at h, e)

  pub minus_is : (m : Bool) → m ≡ true → (x : Option ℤ) → (next ≡ at → ⊥) → exactly (signed_by true n) ≡ x
      → decimal_to next x ≡ capped_decimal m at n next
  minus_is m b x h e = rw b (decimal-some true x h e)

-- a minus stands within the text
pub minus-within : (s : List ℕ) (at : ℕ) → eqb (get_or s at 0) 45 ≡ true → at < length s
minus-within s at e = by (ltb at (length s)) refl
  where
    by : (t : Bool) → ltb at (length s) ≡ t → at < length s
    by true f = ltb-true at (length s) f
    by false f =
        let d = get_or-eq_default s 0 {n = at} (ltb-false at (length s) f) in
        absurd (omega (arith, d, eqb-true (get_or s at 0) 45 e))
