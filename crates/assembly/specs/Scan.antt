-- Reading a line as the code does: at a position of the text, whose end reads as a newline.
use Rattle.std.specs.Prelude.{ℕ, suc, ◌+◌, ◌*◌, ◌^◌, ◌≤◌, List, [], ◌∷◌, ℤ, pos, negsuc, length, drop, get_or, leb, eqb, Err, None, Ok, Option, Result, Some}
use Rattle.word.specs.Choose.{choose}
use Rattle.word.specs.Numeral.{decimal_at}
use Rattle.word.specs.declared.numeral.Decimal.{Decimal}
use Rattle.program.specs.declared.Operand.{Operand}
use Rattle.program.specs.declared.Operand.TheVariants.{Signed, Page, Counts}
use Rattle.program.specs.Command.{opcode_of, code_of, width, operand_width, counts, opcode, operand}
use Rattle.program.specs.Fetch.{shape_of, takes_of}
use Rattle.program.specs.Name.{code_named}
use Rattle.assembly.specs.declared.line.Line.{Line}
use Rattle.assembly.specs.declared.line.Fault.{Fault}
use Rattle.assembly.specs.declared.line.Fault.TheVariants.{Malformed, Outside}
use Rattle.assembly.specs.declared.line.Letters.{Letters}
use Rattle.assembly.specs.Assembly as Text
use Rattle.program.specs.declared.Shape.{Shape}

abbrev pub letters_to : ℕ → ℕ → Letters
letters_to word next = record { word = word; next = next }

-- the bytes above the space as a word, after those that are read; 0, which is no name's, where they are more than 8
unfoldable pub letters_from : ℕ → ℕ → List ℕ → Letters
letters_from word at [] = letters_to word at
letters_from word at (c ∷ s) =
    choose (leb c 32) (letters_to word at)
    (choose (leb (256 ^ 7) word) (letters_to 0 at) (letters_from (word * 256 + c) (suc at) s))

-- a command that was read: its code, its operand, how many bytes it has, and the position after its line
abbrev pub reads : ℕ → ℤ → ℕ → ℕ → Result Line Fault
reads code z bytes next = Ok (record { code = code; operand = z; bytes = bytes; next = next })

-- of a line that ends at a position
abbrev pub ends_at : {A : Type 0} → List ℕ → ℕ → Result A Fault → Result A Fault
ends_at s at line = choose (eqb (get_or s at 10) 10) line (Err Malformed)

abbrev pub number_at : List ℕ → ℕ → ℕ → Decimal → Result Line Fault
number_at s code size Decimal.Missing = Err Malformed
number_at s code size (Decimal.Beyond next) = ends_at s next (Err Outside)
number_at s code size (Decimal.Is z next) =
    choose (takes_of (opcode_of code) z) (ends_at s next (reads code z size (next + 1))) (ends_at s next (Err Outside))

-- one space and the number after it
unfoldable pub spaced_at : List ℕ → ℕ → Decimal
spaced_at s at = choose (eqb (get_or s at 10) 32) (decimal_at s (at + 1)) Decimal.Missing

-- the word of two counts, of which the second is read last
abbrev pub counted : ℤ → Decimal → Decimal
counted a Decimal.Missing = Decimal.Missing
counted a (Decimal.Beyond next) = Decimal.Beyond next
counted a (Decimal.Is d next) = Decimal.Is (counts a d) next

-- and of which the first is read; one beyond the words is out of range, as −1 is
abbrev pub counts_after : List ℕ → Decimal → Decimal
counts_after s Decimal.Missing = Decimal.Missing
counts_after s (Decimal.Beyond next) = counted (negsuc 0) (spaced_at s next)
counts_after s (Decimal.Is a next) = counted a (spaced_at s next)

-- the operand of a command, by its kind
abbrev pub operand_at : List ℕ → ℕ → Operand → Decimal
operand_at s at (Signed k) = spaced_at s at
operand_at s at Page = spaced_at s at
operand_at s at Counts = counts_after s (spaced_at s at)

-- the position after a number is at most n
abbrev pub NextWithin : ℕ → Decimal → Type 0
NextWithin n (Decimal.Is z next) = next ≤ n
NextWithin n (Decimal.Beyond next) = next ≤ n
NextWithin n Decimal.Missing = Unit {0}

abbrev pub shape_at : List ℕ → ℕ → ℕ → Option Shape → Result Line Fault
shape_at s code at None = Err Malformed
shape_at s code at (Some shape) =
    choose (eqb (width shape.operand) 0) (ends_at s at (reads code (pos 0) 1 (at + 1)))
    (number_at s code (width shape.operand + 1) (operand_at s at shape.operand))

-- a row of the table of commands: an operand has at most eight bytes
abbrev pub Few : Option Shape → Type 0
Few None = Unit {0}
Few (Some shape) = width shape.operand ≤ 8

abbrev pub code_at : List ℕ → ℕ → ℕ → Result Line Fault
code_at s code at = shape_at s code at (shape_of (opcode_of code))

unfoldable pub line_at : List ℕ → ℕ → Result Line Fault
line_at s at =
    let name = letters_from 0 at (drop at s) in
    code_at s (code_named name.word) name.next

-- ════════════════════════════════════════════════════════════════════════════════════════════
-- What it is to give
-- ════════════════════════════════════════════════════════════════════════════════════════════

-- the first line of a text
unfoldable pub first_line : List ℕ → List ℕ
first_line [] = []
first_line (c ∷ s) = choose (eqb c 10) [] (c ∷ first_line s)

-- a line that was read, and the position after it
abbrev pub line_to : ℕ → Text.Line → Result Line Fault
line_to next Text.malformed = Err Malformed
line_to next Text.outside = Err Outside
line_to next (Text.says c) = reads (code_of (opcode c)) (operand c) (operand_width (opcode c) + 1) next

-- the line at a position
unfoldable pub line_of : List ℕ → ℕ → Result Line Fault
line_of s at = line_to (at + length (first_line (drop at s)) + 1) (Text.read_line (first_line (drop at s)))
