-- The number at a position of a text, and the words of the line that begins there.
-- Assumes nothing.
use Rattle.std.proofs.Common.{Option, None, Some}
use mathlib.Core.Path.{◌≡◌, refl, sym, ap, ◌∙◌}
use mathlib.Core.Bool.{Bool, true, false, ◌&&◌}
use mathlib.Core.List.{List, [], ◌∷◌, ◌++◌, append-nil, append_assoc}
use Prim.Native.Nat.{ℕ, ◌+◌}
use native.Mathlib.Omega.{arith}
use lib.IntN.{ℤ}
use lib.Dec.{T, eqb}
use lib.ListN.{length, drop, get_or, length-append}
use borrow.Author.Tests.{eqb-true, eqb-false, ne_eqb}
use Rattle.word.specs.Choose.{choose}
use Rattle.word.specs.Exact.{exactly}
use Rattle.word.specs.Text.{numeral_value}
use Rattle.word.specs.Numeral.{is_digit, all_digits, signed_by, digits_number, number_of, leading_digits, decimal_to, decimal_from, decimal_at}
use Rattle.word.specs.declared.numeral.Decimal.TheVariants.{Missing}
use Rattle.word.proofs.Laws.Reading.{leading-digits}
use Rattle.program.proofs.Naming.{all_letters, letters-append}
use Rattle.assembly.specs.Assembly.{words_of}
use Rattle.assembly.specs.Scan.{first_line}
use Rattle.assembly.proofs.Numerals.{digits-letters}
use Rattle.assembly.proofs.Words.{words-alone, words-space, words-other, line-letters, line-goes}
use Rattle.assembly.proofs.Words.{After, ends, goes, line_after, drop-after, byte-first}

-- ════════════════════════════════════════════════════════════════════════════════════════════
-- Digits
-- ════════════════════════════════════════════════════════════════════════════════════════════

-- a text that begins with no digit
abbrev NoDigit : List ℕ → Type 0
NoDigit [] = Unit {0}
NoDigit (c ∷ r) = is_digit c ≡ false

leading-rest : (b : List ℕ) → (r : List ℕ) × ((b ≡ leading_digits b ++ r) × NoDigit r)
unfolding leading_digits
leading-rest [] = ([], (refl, tt))
leading-rest (c ∷ b) = by (is_digit c) refl (leading-rest b)
  where
    by : (t : Bool) → is_digit c ≡ t → (r : List ℕ) × ((b ≡ leading_digits b ++ r) × NoDigit r)
        → (r : List ℕ) × ((c ∷ b ≡ choose t (c ∷ leading_digits b) [] ++ r) × NoDigit r)
    by true e h = (h.0, (ap (λ (l : List ℕ). c ∷ l) h.1.0, h.1.1))
    by false e h = (c ∷ b, (refl, e))

digits-not : (ds : List ℕ) (c : ℕ) (w : List ℕ) → is_digit c ≡ false → all_digits (ds ++ c ∷ w) ≡ false
digits-not [] c w e = rw e
digits-not (d ∷ ds) c w e = by (is_digit d) (digits-not ds c w e)
  where
    by : (t : Bool) → all_digits (ds ++ c ∷ w) ≡ false → (t && all_digits (ds ++ c ∷ w)) ≡ false
    by true h = h
    by false h = refl

-- they are no number before anything else
number-not : (minus : Bool) (ds : List ℕ) (c : ℕ) (w : List ℕ) → is_digit c ≡ false → digits_number minus (ds ++ c ∷ w) ≡ None
number-not minus [] c w e = rw e
number-not minus (d ∷ ds) c w e = rw (digits-not (d ∷ ds) c w e)

-- ════════════════════════════════════════════════════════════════════════════════════════════
-- The number at a position, and the words of the line that begins there
-- ════════════════════════════════════════════════════════════════════════════════════════════

-- b is what stands from the position p on: what is read there, and which words the line has
pub data Spells (s : List ℕ) (p : ℕ) (b : List ℕ) : Type 0 where
  -- no number: none is read, or more than a number; and the first word is none
  missing : decimal_at s p ≡ Missing → (w : List ℕ) (ws : List (List ℕ)) → words_of (first_line b) ≡ w ∷ ws → number_of w ≡ None → Spells s p b
  stuck : (next : ℕ) (x : Option ℤ) → decimal_at s p ≡ decimal_to next x → (get_or s next 10 ≡ 10 → ⊥) → (get_or s next 10 ≡ 32 → ⊥)
      → (w : List ℕ) (ws : List (List ℕ)) → words_of (first_line b) ≡ w ∷ ws → number_of w ≡ None → Spells s p b
  -- a number that ends the line, or one that a space follows
  last : (z : ℤ) (next : ℕ) → decimal_at s p ≡ decimal_to next (exactly z) → get_or s next 10 ≡ 10 → (w : List ℕ)
      → words_of (first_line b) ≡ w ∷ [] → number_of w ≡ Some z → p + length (first_line b) ≡ next → Spells s p b
  more : (z : ℤ) (next : ℕ) → decimal_at s p ≡ decimal_to next (exactly z) → (rest : List ℕ) → drop next s ≡ 32 ∷ rest → (w : List ℕ)
      → words_of (first_line b) ≡ w ∷ words_of (first_line rest) → number_of w ≡ Some z
      → p + length (first_line b) ≡ next + 1 + length (first_line rest) → Spells s p b

-- by the digits ds from q on that are read
module _ (s : List ℕ) (p : ℕ) (b : List ℕ) (minus : Bool) (q : ℕ) (w : List ℕ) where
  spells-last : (ds : List ℕ) → decimal_at s p ≡ decimal_from minus q ds → all_digits ds ≡ true → number_of w ≡ digits_number minus ds
      → get_or s (q + length ds) 10 ≡ 10 → words_of (first_line b) ≡ w ∷ [] → p + length (first_line b) ≡ q + length ds → Spells s p b
  spells-last [] e d n g v k = missing e w [] v n
  spells-last (c ∷ ds) e d n g v k = last _ (q + length (c ∷ ds)) e g w v (n ∙ rw d) k

  spells-more : (ds : List ℕ) → decimal_at s p ≡ decimal_from minus q ds → all_digits ds ≡ true → number_of w ≡ digits_number minus ds
      → (rest : List ℕ) → drop (q + length ds) s ≡ 32 ∷ rest → words_of (first_line b) ≡ w ∷ words_of (first_line rest)
      → p + length (first_line b) ≡ q + length ds + 1 + length (first_line rest) → Spells s p b
  spells-more [] e d n rest g v k = missing e w _ v n
  spells-more (c ∷ ds) e d n rest g v k = more _ (q + length (c ∷ ds)) e rest g w v (n ∙ rw d) k

  spells-stuck : (ds : List ℕ) → decimal_at s p ≡ decimal_from minus q ds → (get_or s (q + length ds) 10 ≡ 10 → ⊥)
      → (get_or s (q + length ds) 10 ≡ 32 → ⊥) → (ws : List (List ℕ)) → words_of (first_line b) ≡ w ∷ ws → number_of w ≡ None → Spells s p b
  spells-stuck [] e f g ws v n = missing e w ws v n
  spells-stuck (c ∷ ds) e f g ws v n = stuck (q + length (c ∷ ds)) (exactly (signed_by minus (numeral_value 10 (c ∷ ds)))) e f g w ws v n

-- a sign before a text: what the words are that begin as the text does
abbrev Signs : List ℕ → Bool → List ℕ → Type 0
Signs sign minus b = (w : List ℕ) → (get_or w 0 0 ≡ 45 → get_or b 0 0 ≡ 45) → number_of (sign ++ w) ≡ digits_number minus w

starts-as : (ds : List ℕ) (c : ℕ) (w y : List ℕ) → get_or (ds ++ c ∷ w) 0 0 ≡ get_or (ds ++ c ∷ y) 0 0
starts-as [] c w y = refl
starts-as (d ∷ ds) c w y = refl

starts_with : (ds r : List ℕ) → get_or ds 0 0 ≡ 45 → get_or (ds ++ r) 0 0 ≡ 45
starts_with [] r e = absurd (omega arith)
starts_with (d ∷ ds) r e = e

-- the text b is a sign and, from q on, the text t, which begins with the digits ds
module _ (s : List ℕ) (p : ℕ) (b sign : List ℕ) (minus : Bool) (q : ℕ) (t ds r : List ℕ) (letters : T (all_letters sign))
    (digits : all_digits ds ≡ true) (free : NoDigit r) (place : drop q s ≡ t) (split : t ≡ ds ++ r)
    (line : first_line b ≡ sign ++ first_line t) (from : p + length sign ≡ q) (is : decimal_at s p ≡ decimal_from minus q ds) (law : Signs sign minus t) where
  both : T (all_letters (sign ++ ds))
  both = letters-append sign ds letters (digits-letters ds digits)

  next : drop (q + length ds) s ≡ r
  next = drop-after s q ds r (place ∙ split)

  text : first_line b ≡ sign ++ ds ++ first_line r
  text =
      line ∙ ap (λ (x : List ℕ). sign ++ x) (ap first_line split ∙ line-letters ds r (digits-letters ds digits))
      ∙ sym (append_assoc sign ds (first_line r))

  size : p + length (first_line b) ≡ q + length ds + length (first_line r)
  size = omega (arith, ap length text, length-append (sign ++ ds) (first_line r), length-append sign ds)

  number : number_of (sign ++ ds) ≡ digits_number minus ds
  number = law ds (λ h. ap (λ (x : List ℕ). get_or x 0 0) split ∙ starts_with ds r h)

  -- a byte that is neither a digit nor the space belongs to the word
  number-other : (c : ℕ) (rest w : List ℕ) → r ≡ c ∷ rest → number_of (sign ++ ds ++ c ∷ w) ≡ None
  number-other c rest w f =
      let d : is_digit c ≡ false = rw f at free in
      let m : get_or (ds ++ c ∷ w) 0 0 ≡ get_or t 0 0 =
      starts-as ds c w rest ∙ ap (λ (x : List ℕ). get_or x 0 0) (ap (λ (x : List ℕ). ds ++ x) (sym f) ∙ sym split) in
      ap number_of (append_assoc sign ds (c ∷ w)) ∙ law (ds ++ c ∷ w) (λ x. sym m ∙ x) ∙ number-not minus ds c w d

  spells-digits : Spells s p b
  spells-digits = by (line_after r)
    where
      goes_on : (c : ℕ) (rest : List ℕ) → r ≡ c ∷ rest → (c ≡ 10 → ⊥) → (u : Bool) → eqb c 32 ≡ u → Spells s p b
      goes_on c rest f h true e =
          let blank : r ≡ 32 ∷ rest = f ∙ ap (λ (x : ℕ). x ∷ rest) (eqb-true c 32 e) in
          let l = ap first_line blank ∙ line-goes 32 rest (λ x. omega arith) in
          spells-more s p b minus q (sign ++ ds) ds is digits number rest (next ∙ blank)
          (ap words_of (text ∙ ap (λ (x : List ℕ). sign ++ ds ++ x) l) ∙ words-space (sign ++ ds) both (first_line rest))
          (omega (arith, size, ap length l))
      goes_on c rest f h false e =
          let other = eqb-false c 32 e in
          let k : get_or s (q + length ds) 10 ≡ c = byte-first s (q + length ds) (c ∷ rest) 10 (next ∙ f) in
          let (w, (ws, v)) = words-other (sign ++ ds) both c (first_line rest) other in
          spells-stuck s p b minus q (sign ++ ds ++ c ∷ w) ds is (λ x. h (sym k ∙ x)) (λ x. other (sym k ∙ x)) ws
          (ap words_of (text ∙ ap (λ (x : List ℕ). sign ++ ds ++ x) (ap first_line f ∙ line-goes c rest h)) ∙ v)
          (number-other c rest w f)

      by : After r → Spells s p b
      by (ends f g) =
          spells-last s p b minus q (sign ++ ds) ds is digits number (byte-first s (q + length ds) r 10 next ∙ g)
          (ap words_of (text ∙ ap (λ (x : List ℕ). sign ++ ds ++ x) f ∙ append-nil (sign ++ ds)) ∙ words-alone (sign ++ ds) both)
          (omega (arith, size, ap length f))
      by (goes c rest f h) = goes_on c rest f h (eqb c 32) refl

module _ (s : List ℕ) (p : ℕ) where
  spells-minus : (b : List ℕ) → drop p s ≡ 45 ∷ b → eqb (get_or s p 0) 45 ≡ true → Spells s p (45 ∷ b)
  unfolding decimal_at number_of
  spells-minus b e f =
      let k : drop (p + 1) s ≡ b = drop-after s p (45 ∷ []) b e in
      let (r, (split, free)) = leading-rest b in
      spells-digits s p (45 ∷ b) (45 ∷ []) true (p + 1) b (leading_digits b) r tt (leading-digits b) free k split
      (line-goes 45 b (λ x. omega arith)) refl (rw (f, k)) (λ w h. refl)

  spells-plus : (b : List ℕ) → drop p s ≡ b → eqb (get_or s p 0) 45 ≡ false → (get_or b 0 0 ≡ 45 → ⊥) → Spells s p b
  unfolding decimal_at number_of
  spells-plus b e f h =
      let (r, (split, free)) = leading-rest b in
      spells-digits s p b [] false p b (leading_digits b) r tt (leading-digits b) free e split refl (omega arith) (rw (f, e)) law
    where
      law : Signs [] false b
      law [] g = refl
      law (c ∷ w) g = rw (ne_eqb c 45 (λ x. h (g x)))

  pub spells : (b : List ℕ) → drop p s ≡ b → Spells s p b
  spells b e = by (eqb (get_or s p 0) 45) refl b e
    where
      by : (t : Bool) → eqb (get_or s p 0) 45 ≡ t → (b : List ℕ) → drop p s ≡ b → Spells s p b
      by true f [] e = absurd (omega (arith, byte-first s p [] 0 e, eqb-true (get_or s p 0) 45 f))
      by true f (c ∷ b) e =
          let m : c ≡ 45 = omega (arith, byte-first s p (c ∷ b) 0 e, eqb-true (get_or s p 0) 45 f) in
          rw m (spells-minus b (rw m at e) f)
      by false f [] e = spells-plus [] e f (λ x. omega arith)
      by false f (c ∷ b) e = spells-plus (c ∷ b) e f (λ x. eqb-false (get_or s p 0) 45 f (byte-first s p (c ∷ b) 0 e ∙ x))
