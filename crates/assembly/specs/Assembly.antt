-- Sheets in text (requests U3 and U6): how a text is read into a sheet, and how a sheet is listed as a text.
use Rattle.std.specs.Prelude.{ℕ, zero, suc, Bool, true, false, List, [], ◌∷◌, ◌++◌, ℤ, pos, length, leb, eqb, Err, None, Ok, Option, Result, Some}
use Rattle.word.specs.Choose.{choose}
use Rattle.word.specs.Lay.{laid}
use Rattle.word.specs.Text.{decimal}
use Rattle.word.specs.Numeral.{number_of}
use Rattle.program.specs.declared.Command.{Command}
use Rattle.program.specs.declared.Operand.{Operand}
use Rattle.program.specs.declared.Operand.TheVariants.{Signed, Page, Counts}
use Rattle.program.specs.declared.Refusal.{Refusal}
use Rattle.program.specs.Command.{Opcode, operand_of, counts, arguments_of, results_of, in_range, opcode, operand, command}
use Rattle.program.specs.Name.{letters, opcode_named}
use Rattle.program.specs.Decode.{Decoded, refused, accepted, refusal, prepend, decode, command_limit}
use Rattle.program.specs.Encode.{encode}

-- ════════════════════════════════════════════════════════════════════════════════════════════
-- A text is lines, a line is words
-- ════════════════════════════════════════════════════════════════════════════════════════════

abbrev pub newline : ℕ
newline = 10

abbrev pub space : ℕ
space = 32

-- a character before pieces: it ends a piece of its own, or belongs to the first
abbrev pub before : Bool → ℕ → List (List ℕ) → List (List ℕ)
before true c ps = [] ∷ ps
before false c [] = (c ∷ []) ∷ []
before false c (p ∷ ps) = (c ∷ p) ∷ ps

-- a text cut at each separator; `last` is what an empty rest gives
unfoldable pub cut : ℕ → List (List ℕ) → List ℕ → List (List ℕ)
cut separator last [] = last
cut separator last (c ∷ s) = before (eqb c separator) c (cut separator last s)

-- what follows the last newline is a line only if it is not empty
abbrev pub lines_of : List ℕ → List (List ℕ)
lines_of text = cut newline [] text

-- what follows the last space is a word, though it be empty
abbrev pub words_of : List ℕ → List (List ℕ)
words_of line = cut space ([] ∷ []) line

-- ════════════════════════════════════════════════════════════════════════════════════════════
-- Reading a line: a name and, where the command has an operand, one number or two
-- ════════════════════════════════════════════════════════════════════════════════════════════

-- refusals 10 and 11, or a command
pub data Line : Type 0 where
  malformed outside : Line
  says : Command → Line

abbrev pub read_number : Opcode → Option ℤ → Line
read_number o None = malformed
read_number o (Some z) = choose (in_range o z) (says (command o z)) outside

abbrev pub read_one : Opcode → List (List ℕ) → Line
read_one o [] = malformed
read_one o (w ∷ []) = read_number o (number_of w)
read_one o (w ∷ v ∷ ws) = malformed

-- two counts: a word that is in no range where one of them is not in its own
abbrev pub read_counts : Opcode → Option ℤ → Option ℤ → Line
read_counts o None d = malformed
read_counts o (Some a) None = malformed
read_counts o (Some a) (Some d) = read_number o (Some (counts a d))

abbrev pub read_two : Opcode → List (List ℕ) → Line
read_two o [] = malformed
read_two o (w ∷ []) = malformed
read_two o (w ∷ v ∷ []) = read_counts o (number_of w) (number_of v)
read_two o (w ∷ v ∷ u ∷ ws) = malformed

-- by the kind of the operand
abbrev pub read_operands : Opcode → Operand → List (List ℕ) → Line
read_operands o (Signed zero) [] = says (command o (pos 0))
read_operands o (Signed zero) (w ∷ ws) = malformed
read_operands o (Signed (suc k)) ws = read_one o ws
read_operands o Page ws = read_one o ws
read_operands o Counts ws = read_two o ws

abbrev pub read_named : Option Opcode → List (List ℕ) → Line
read_named None ws = malformed
read_named (Some o) ws = read_operands o (operand_of o) ws

abbrev pub read_words : List (List ℕ) → Line
read_words [] = malformed
read_words (name ∷ ws) = read_named (opcode_named name) ws

abbrev pub read_line : List ℕ → Line
read_line line = read_words (words_of line)

-- ════════════════════════════════════════════════════════════════════════════════════════════
-- Reading a text, line by line with its number from 1
-- ════════════════════════════════════════════════════════════════════════════════════════════

abbrev pub read_first : Line → ℕ → Decoded → Decoded
read_first malformed number rest = refused (refusal 10 number)
read_first outside number rest = refused (refusal 11 number)
read_first (says c) number rest = prepend c rest

-- the lines from a number on, of which `left` may follow
unfoldable pub read_from : ℕ → ℕ → List (List ℕ) → Decoded
read_from zero number [] = accepted []
read_from zero number (l ∷ ls) = refused (refusal 1 number)
read_from (suc left) number [] = accepted []
read_from (suc left) number (l ∷ ls) = read_first (read_line l) number (read_from left (suc number) ls)

-- the commands of a text
unfoldable pub read_text : List ℕ → Decoded
read_text text = read_from command_limit 1 (lines_of text)

-- ════════════════════════════════════════════════════════════════════════════════════════════
-- Listing commands: the normal text
-- ════════════════════════════════════════════════════════════════════════════════════════════

-- an operand, each number of it after one space
abbrev pub operand_text : Operand → ℤ → List ℕ
operand_text (Signed zero) z = []
operand_text (Signed (suc k)) z = space ∷ decimal z
operand_text Page z = space ∷ decimal z
operand_text Counts z = space ∷ decimal (pos (arguments_of z)) ++ space ∷ decimal (pos (results_of z))

-- a command's line, without its newline
abbrev pub opcode_text : Opcode → ℤ → List ℕ
opcode_text o z = letters o ++ operand_text (operand_of o) z

abbrev pub line_text : Command → List ℕ
line_text c = opcode_text (opcode c) (operand c)

unfoldable pub listing : List Command → List ℕ
listing [] = []
listing (c ∷ cs) = line_text c ++ newline ∷ listing cs

-- ════════════════════════════════════════════════════════════════════════════════════════════
-- What is written, and where
-- ════════════════════════════════════════════════════════════════════════════════════════════

-- bytes to be written, or why there are none
pub data Outcome : Type 0 where
  denied : Refusal → Outcome
  given : List ℕ → Outcome

abbrev pub result_of : (List Command → List ℕ) → Decoded → Outcome
result_of f (refused r) = denied r
result_of f (accepted cs) = given (f cs)

-- the sheet of a text
unfoldable pub assembled : List ℕ → Outcome
assembled text = result_of encode (read_text text)

-- the text of a sheet, refused by the sheet's checks
unfoldable pub listed : List ℕ → Outcome
listed sheet = result_of listing (decode sheet)

-- how many bytes are written into a buffer; last, 8 with place 4 where it is too short
abbrev pub answer : Outcome → List ℕ → Result ℕ Refusal
answer (denied r) out = Err r
answer (given bytes) out =
    choose (leb (length bytes) (length out)) (Ok (length bytes)) (Err (refusal 8 4))

-- the buffer then: the bytes from its start on, the rest as it came; all of it as it came where it is refused
abbrev pub left : Outcome → List ℕ → List ℕ
left (denied r) out = out
left (given bytes) out = choose (leb (length bytes) (length out)) (laid bytes out) out
