-- The names of the commands, as the table of them has them: which command a name stands for, and names as words, which the code compares.
use Rattle.std.specs.Prelude.{ℕ, Bool, true, false, ◌&&◌, List, [], ◌∷◌, reverse, length, eqb, None, Option, Some}
use Rattle.word.specs.Choose.{choose}
use Rattle.word.specs.Digits.{value_of}
use Rattle.program.specs.declared.Name.{Name}
use Rattle.program.specs.Command.{Opcode, opcodes, description, code_of}

-- its letters
abbrev pub letters : Opcode → List ℕ
letters o = (description o).name

-- are two texts the same?
abbrev pub same_text : List ℕ → List ℕ → Bool
same_text [] [] = true
same_text [] (d ∷ t) = false
same_text (c ∷ s) [] = false
same_text (c ∷ s) (d ∷ t) = eqb c d && same_text s t

-- the first opcode of a list that passes a test
abbrev pub first_that : (Opcode → Bool) → List Opcode → Option Opcode
first_that p [] = None
first_that p (o ∷ os) = choose (p o) (Some o) (first_that p os)

-- the opcode that has a name
unfoldable pub opcode_named : List ℕ → Option Opcode
opcode_named name = first_that (λ o. same_text (letters o) name) opcodes

-- ════════════════════════════════════════════════════════════════════════════════════════════
-- Names as words
-- ════════════════════════════════════════════════════════════════════════════════════════════

-- the letters as digits in base 256, the first the highest
unfoldable pub packed : List ℕ → ℕ
packed name = value_of 256 (reverse name)

-- the name of an opcode; 0, with no letters, where there is none
abbrev pub name_of : Option Opcode → Name
name_of None = record { word = 0; length = 0 }
name_of (Some o) = record { word = packed (letters o); length = length (letters o) }

abbrev pub code_or : Option Opcode → ℕ
code_or None = 0
code_or (Some o) = code_of o

-- the code of a name's word; 0 where no opcode has it
unfoldable pub code_named : ℕ → ℕ
code_named word = code_or (first_that (λ o. eqb (packed (letters o)) word) opcodes)
