-- The lines of a text: the first one and those after it; and reading a name or a number stays within the text.
-- Assumes nothing.
use Rattle.std.proofs.Common.{None, Option, Some}
use mathlib.Core.Path.{◌≡◌, refl, sym, ap, ◌∙◌}
use mathlib.Core.Bool.{Bool, true, false}
use mathlib.Core.List.{List, [], ◌∷◌}
use Prim.Native.Nat.{ℕ, suc, ◌+◌, ◌*◌, ◌^◌, ◌<◌, ◌≤◌}
use native.Mathlib.Omega.{arith}
use lib.IntN.{ℤ, negsuc}
use lib.ListN.{length, drop, get_or, length-drop, drop_of_length-le}
use lib.Dec.{leb, eqb}
use lib.Seq.{drop-drop}
use borrow.Author.Tests.{eqb-true}
use Rattle.word.specs.Choose.{choose}
use Rattle.word.specs.Exact.{exactly}
use Rattle.word.specs.Text.{numeral_value}
use Rattle.word.specs.Numeral.{is_digit, signed_by, leading_digits, decimal_to, decimal_from, decimal_at}
use Rattle.word.specs.declared.numeral.Decimal.{Decimal}
use Rattle.word.specs.declared.numeral.Decimal.TheVariants.{Is, Beyond, Missing}
use Rattle.program.specs.declared.Operand.{Operand}
use Rattle.program.specs.declared.Operand.TheVariants.{Signed, Page, Counts}
use Rattle.word.proofs.Laws.Reading.{minus-within}
use Rattle.assembly.proofs.Keeping.{byte-within}
use Rattle.assembly.specs.Assembly.{before, cut, lines_of}
use Rattle.assembly.specs.Scan.{letters_to, letters_from, spaced_at, counted, counts_after, operand_at, NextWithin, first_line}

-- ════════════════════════════════════════════════════════════════════════════════════════════
-- The lines of a text
-- ════════════════════════════════════════════════════════════════════════════════════════════

lines_none : lines_of [] ≡ []
unfolding cut
lines_none = refl

lines_cons : (c : ℕ) (s : List ℕ) → lines_of (c ∷ s) ≡ first_line (c ∷ s) ∷ lines_of (drop (length (first_line (c ∷ s))) s)
unfolding cut first_line
lines_cons c [] = by (eqb c 10)
  where
    by : (t : Bool) → before t c [] ≡ choose t [] (c ∷ []) ∷ lines_of (drop (length (choose t [] (c ∷ []))) [])
    by true = refl
    by false = refl
lines_cons c (d ∷ r) = by (eqb c 10) (lines_of (d ∷ r)) refl (lines_cons d r)
  where
    by : (t : Bool) (ls : List (List ℕ)) → lines_of (d ∷ r) ≡ ls
        → lines_of (d ∷ r) ≡ first_line (d ∷ r) ∷ lines_of (drop (length (first_line (d ∷ r))) r)
        → before t c ls ≡ choose t [] (c ∷ first_line (d ∷ r)) ∷ lines_of (drop (length (choose t [] (c ∷ first_line (d ∷ r)))) (d ∷ r))
    by true ls e h = ap (λ (l : List (List ℕ)). [] ∷ l) (sym e)
    by false ls e h = ap (before false c) (sym e ∙ h)

lines-first : (t : List ℕ) → 0 < length t → lines_of t ≡ first_line t ∷ lines_of (drop (suc (length (first_line t))) t)
lines-first [] h = absurd (omega arith)
lines-first (c ∷ s) h = lines_cons c s

-- the first line at a position, and the lines from the position after it on
pub lines_next : (s : List ℕ) (at : ℕ) → at < length s
    → lines_of (drop at s) ≡ first_line (drop at s) ∷ lines_of (drop (at + length (first_line (drop at s)) + 1) s)
lines_next s at h =
    let t = drop at s in
    let n : at + suc (length (first_line t)) ≡ at + length (first_line t) + 1 = omega arith in
    lines-first t (omega (arith, length-drop at s))
    ∙ ap (λ (r : List ℕ). first_line t ∷ lines_of r) (drop-drop (suc (length (first_line t))) at s ∙ ap (λ (i : ℕ). drop i s) n)

first-length : (t : List ℕ) → length (first_line t) ≤ length t
unfolding first_line
first-length [] = omega arith
first-length (c ∷ t) = by (eqb c 10) (first-length t)
  where
    by : (b : Bool) → length (first_line t) ≤ length t → length (choose b [] (c ∷ first_line t)) ≤ suc (length t)
    by true h = omega arith
    by false h = omega arith

-- a line lies within the text
pub line-within : (s : List ℕ) (at : ℕ) → at ≤ length s → at + length (first_line (drop at s)) ≤ length s
line-within s at h = omega (arith, first-length (drop at s), length-drop at s)

pub lines_end : (s : List ℕ) (at : ℕ) → length s ≤ at → lines_of (drop at s) ≡ []
lines_end s at h = ap lines_of (drop_of_length-le s h) ∙ lines_none

-- ════════════════════════════════════════════════════════════════════════════════════════════
-- The position after a name
-- ════════════════════════════════════════════════════════════════════════════════════════════

letters-next : (word at : ℕ) (t : List ℕ) → (letters_from word at t).next ≤ at + length t
unfolding letters_from
letters-next word at [] = omega arith
letters-next word at (c ∷ t) = by (leb c 32) (leb (256 ^ 7) word) (letters-next (word * 256 + c) (suc at) t)
  where
    by : (b d : Bool) → (letters_from (word * 256 + c) (suc at) t).next ≤ suc at + length t
        → (choose b (letters_to word at) (choose d (letters_to 0 at) (letters_from (word * 256 + c) (suc at) t))).next ≤ at + suc (length t)
    by true d h = omega arith
    by false true h = omega arith
    by false false h = omega arith

pub letters-within : (s : List ℕ) (at : ℕ) → at ≤ length s → (letters_from 0 at (drop at s)).next ≤ length s
letters-within s at h = omega (arith, letters-next 0 at (drop at s), length-drop at s)

-- ════════════════════════════════════════════════════════════════════════════════════════════
-- The position after a number
-- ════════════════════════════════════════════════════════════════════════════════════════════

leading_length : (t : List ℕ) → length (leading_digits t) ≤ length t
unfolding leading_digits
leading_length [] = omega arith
leading_length (c ∷ t) = by (is_digit c) (leading_length t)
  where
    by : (b : Bool) → length (leading_digits t) ≤ length t → length (choose b (c ∷ leading_digits t) []) ≤ suc (length t)
    by true h = omega arith
    by false h = omega arith

decimal-to : (n next : ℕ) (x : Option ℤ) → next ≤ n → NextWithin n (decimal_to next x)
decimal-to n next (Some z) h = h
decimal-to n next None h = h

decimal-from : (n : ℕ) (minus : Bool) (at : ℕ) (ds : List ℕ) → at + length ds ≤ n → NextWithin n (decimal_from minus at ds)
decimal-from n minus at [] h = tt
decimal-from n minus at (d ∷ ds) h = decimal-to n (at + length (d ∷ ds)) (exactly (signed_by minus (numeral_value 10 (d ∷ ds)))) h

decimal-next : (s : List ℕ) (at : ℕ) → at ≤ length s → NextWithin (length s) (decimal_at s at)
unfolding decimal_at
decimal-next s at h = by (eqb (get_or s at 0) 45) refl
  where
    by : (b : Bool) → eqb (get_or s at 0) 45 ≡ b
        → NextWithin (length s) (choose b (decimal_from true (at + 1) (leading_digits (drop (at + 1) s)))
        (decimal_from false at (leading_digits (drop at s))))
    by true e =
        let k = minus-within s at e in
        decimal-from (length s) true (at + 1) (leading_digits (drop (at + 1) s))
        (omega (arith, leading_length (drop (at + 1) s), length-drop (at + 1) s))
    by false e =
        decimal-from (length s) false at (leading_digits (drop at s)) (omega (arith, leading_length (drop at s), length-drop at s))

-- and so is that after a space, and after an operand
module _ (s : List ℕ) where
  pub spaced-within : (at : ℕ) → at ≤ length s → NextWithin (length s) (spaced_at s at)
  unfolding spaced_at
  spaced-within at h = by (eqb (get_or s at 10) 32) refl
    where
      by : (t : Bool) → eqb (get_or s at 10) 32 ≡ t → NextWithin (length s) (choose t (decimal_at s (at + 1)) Missing)
      by true e = decimal-next s (at + 1) (let k = byte-within s at 32 (λ x. omega arith) (eqb-true (get_or s at 10) 32 e) in omega arith)
      by false e = tt

  counted-within : (a : ℤ) (d : Decimal) → NextWithin (length s) d → NextWithin (length s) (counted a d)
  counted-within a Missing h = tt
  counted-within a (Beyond next) h = h
  counted-within a (Is z next) h = h

  counts-within : (d : Decimal) → NextWithin (length s) d → NextWithin (length s) (counts_after s d)
  counts-within Missing h = tt
  counts-within (Beyond next) h = counted-within (negsuc 0) (spaced_at s next) (spaced-within next h)
  counts-within (Is z next) h = counted-within z (spaced_at s next) (spaced-within next h)

  pub operand-within : (at : ℕ) (x : Operand) → at ≤ length s → NextWithin (length s) (operand_at s at x)
  operand-within at (Signed k) h = spaced-within at h
  operand-within at Page h = spaced-within at h
  operand-within at Counts h = counts-within (spaced_at s at) (spaced-within at h)
