-- Names: the letters of an opcode's name stand for it, and for no other; and the code of a name is found by a guess that is tested.
-- Assumes nothing.
use Rattle.std.proofs.Common.{None, Option, Some}
use mathlib.Core.Path.{◌≡◌, refl, sym, ap, ◌∙◌}
use mathlib.Core.Bool.{Bool, true, false}
use mathlib.Core.List.{List, [], ◌∷◌}
use Prim.Native.Nat.{ℕ, ◌+◌, ◌/◌, ◌%◌}
use native.Mathlib.Omega.{arith}
use lib.Dec.{eqb, eqb→eq}
use lib.ListN.{get_or}
use Rattle.word.specs.Choose.{choose}
use Rattle.word.specs.Digits.{value_of}
use Rattle.word.proofs.Bool.{never}
use Rattle.program.specs.Command.{Opcode, opcodes, opcode_of, code_of}
use Rattle.program.specs.Name.{letters, same_text, first_that, opcode_named, packed, name_of, code_or, code_named}
use Rattle.program.proofs.Codes.{opcode_of-code_of, code_of-opcode_of, opcode-all, code-least}
use Rattle.program.proofs.Naming.{name-letters, same-equal, code_named-none, code_named-zero, code_named-packed}

-- an opcode with a code is the one opcode with that code
code_or-some : (x : Option Opcode) (o : Opcode) → code_or x ≡ code_of o → x ≡ Some o
code_or-some None o e = absurd (omega (arith, code-least o))
code_or-some (Some p) o e = sym (opcode_of-code_of p) ∙ ap opcode_of e ∙ opcode_of-code_of o

-- a name stands for the opcode that has it
pub named-letters : (o : Opcode) → opcode_named (letters o) ≡ Some o
unfolding opcode_named
named-letters o =
    code_or-some (opcode_named (letters o)) o
    (eqb→eq (code_or (opcode_named (letters o))) (code_of o)
    (opcode-all (λ o. eqb (code_or (opcode_named (letters o))) (code_of o)) tt o))

first_passes : (p : Opcode → Bool) (os : List Opcode) (o : Opcode) → first_that p os ≡ Some o → p o ≡ true
first_passes p [] o e = never (cc)
first_passes p (x ∷ os) o e = by (p x) refl e (first_passes p os o)
  where
    by : (t : Bool) → p x ≡ t → choose t (Some x) (first_that p os) ≡ Some o → (first_that p os ≡ Some o → p o ≡ true) → p o ≡ true
    by true f e g = let d : o ≡ x = cc in ap p d ∙ f
    by false f e g = g e

-- a name that stands for an opcode is its letters
pub letters-named : (name : List ℕ) (o : Opcode) → opcode_named name ≡ Some o → letters o ≡ name
unfolding opcode_named
letters-named name o e = same-equal (letters o) name (rw (first_passes (λ o. same_text (letters o) name) opcodes o e) tt)

-- ════════════════════════════════════════════════════════════════════════════════════════════
-- Guessing a name's code by some bits of its word
-- ════════════════════════════════════════════════════════════════════════════════════════════

unfoldable pub guesses : List ℕ
guesses =
    0 ∷ 0 ∷ 0 ∷ 0 ∷ 13 ∷ 0 ∷ 1 ∷ 0 ∷ 0 ∷ 11 ∷ 0 ∷ 0 ∷ 0 ∷ 0 ∷ 10 ∷ 3 ∷ 7 ∷ 0 ∷ 9 ∷ 0 ∷ 0 ∷ 4 ∷ 0 ∷ 8 ∷ 0 ∷ 0 ∷ 0 ∷ 2 ∷ 12 ∷ 5 ∷ 14 ∷ 6 ∷ []

abbrev pub guess : ℕ → ℕ
guess word = get_or guesses ((word / 256 + word / 32768) % 32) 0

-- of a name's word the guess is its code: a computed test of the list of opcodes
guess-right : (o : Opcode) → guess (packed (letters o)) ≡ code_of o
unfolding guesses packed value_of
guess-right o =
    eqb→eq (guess (packed (letters o))) (code_of o) (opcode-all (λ o. eqb (guess (packed (letters o))) (code_of o)) tt o)

named-code : (o : Opcode) → code_named (packed (letters o)) ≡ code_of o
named-code o = code_named-packed (letters o) (name-letters o) ∙ ap code_or (named-letters o)

module _ (word : ℕ) where
  -- where the name of the guess is the word, it is the code of the name
  pub guess-named : (name_of (opcode_of (guess word))).word ≡ word → guess word ≡ code_named word
  unfolding guesses
  guess-named e = by (opcode_of (guess word)) refl e
    where
      by : (x : Option Opcode) → opcode_of (guess word) ≡ x → (name_of x).word ≡ word → guess word ≡ code_named word
      by None d e = sym (ap guess e) ∙ sym code_named-zero ∙ ap code_named e
      by (Some o) d e = sym (code_of-opcode_of (guess word) o d) ∙ sym (named-code o) ∙ ap code_named e

  -- and where it is not, no name is
  pub guess-other : ((name_of (opcode_of (guess word))).word ≡ word → ⊥) → 0 ≡ code_named word
  guess-other h =
      sym (code_named-none word
      (λ o e. h (ap (λ (w : ℕ). (name_of (opcode_of (guess w))).word) e ∙ rw (guess-right o, opcode_of-code_of o) (sym e))))
