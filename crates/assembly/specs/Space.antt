-- What the code keeps in spaces of its own and of its callers.
use Rattle.std.specs.Prelude.{ℕ, zero, suc, ◌+◌, ◌*◌, ◌≤◌, ◌≡◌, List, [], ◌∷◌, ◌++◌, ℤ, pos, length, take, leb, Err, None, Ok, Option, Result, Some}
use Rattle.word.specs.Choose.{choose}
use Rattle.word.specs.Lay.{laid}
use Rattle.word.specs.Text.{decimal}
use Rattle.program.specs.declared.Command.{Command}
use Rattle.program.specs.declared.Operand.{Operand}
use Rattle.program.specs.declared.Operand.TheVariants.{Signed, Page, Counts}
use Rattle.program.specs.Command.{Opcode, operand_of, operand_width, arguments_of, results_of}
use Rattle.program.specs.Name.{letters}
use Rattle.program.specs.Decode.{Decoded, refused, accepted, refusal, decode, command_limit, check_answer}
use Rattle.assembly.specs.declared.listing.Numbers.{Numbers}
use Rattle.assembly.specs.Assembly.{Outcome, denied, given, newline, space, operand_text, listing}
use Rattle.program.specs.declared.Refusal.{Refusal}

-- room for nine bytes a line: a line has three letters and its end at least, and there are at most 4,096
abbrev pub Roomy : List ℕ → ℕ → Type 0
Roomy text space = (lines : ℕ) → lines ≤ command_limit → 4 * lines ≤ length text + 1 → 9 * lines ≤ space

-- how many bytes there are to be written, or why there are none
abbrev pub measured : Outcome → Result ℕ Refusal
measured (denied r) = Err r
measured (given bytes) = Ok (length bytes)

-- a space that holds what is to be written from its start on
abbrev pub Holding : Outcome → List ℕ → List ℕ → Type 0
Holding (denied r) old new = length new ≡ length old
Holding (given bytes) old new = (new ≡ laid bytes old) × (length bytes ≤ length old)

abbrev pub refused_at : ℕ → ℕ → Result ℕ Refusal
refused_at code position = Err (refusal code position)

-- a sheet that was read into a space, handed over where there is room
abbrev pub handed_answer : Result ℕ Refusal → List ℕ → Result ℕ Refusal
handed_answer (Err r) out = Err r
handed_answer (Ok n) out = choose (leb n (length out)) (Ok n) (refused_at 8 4)

abbrev pub handed_out : Result ℕ Refusal → List ℕ → List ℕ → List ℕ
handed_out (Err r) sheet out = out
handed_out (Ok n) sheet out = choose (leb n (length out)) (laid (take n sheet) out) out

-- ════════════════════════════════════════════════════════════════════════════════════════════
-- Listing
-- ════════════════════════════════════════════════════════════════════════════════════════════

-- a sheet with so many commands
abbrev pub Counted : List ℕ → ℕ → Type 0
Counted sheet count = check_answer (decode sheet) ≡ Ok count

abbrev pub Acceptable : List ℕ → Type 0
Acceptable sheet = (cs : List Command) × (decode sheet ≡ accepted cs)

abbrev pub text_in : Decoded → List ℕ
text_in (refused r) = []
text_in (accepted cs) = listing cs

-- its text
abbrev pub text_of : List ℕ → List ℕ
text_of sheet = text_in (decode sheet)

-- the numbers that are written of an operand
abbrev pub numbers_by : Operand → ℤ → Numbers
numbers_by (Signed zero) z = Numbers.None
numbers_by (Signed (suc k)) z = Numbers.One z
numbers_by Page z = Numbers.One z
numbers_by Counts z = Numbers.Two (pos (arguments_of z)) (pos (results_of z))

abbrev pub numbers_in : Option Opcode → ℤ → Numbers
numbers_in None z = Numbers.None
numbers_in (Some o) z = numbers_by (operand_of o) z

-- a number after one space
abbrev pub number_text : ℤ → List ℕ
number_text z = space ∷ decimal z

abbrev pub numbers_text : Numbers → List ℕ
numbers_text Numbers.None = []
numbers_text (Numbers.One a) = number_text a
numbers_text (Numbers.Two a d) = number_text a ++ number_text d

abbrev pub letters_in : Option Opcode → List ℕ
letters_in None = []
letters_in (Some o) = letters o

abbrev pub operand_in : Option Opcode → ℤ → List ℕ
operand_in None z = []
operand_in (Some o) z = operand_text (operand_of o) z

-- what has no operand
abbrev pub Bare : Option Opcode → Type 0
Bare x = (o : Opcode) × (x ≡ Some o) × (operand_width o ≡ 0)

-- the line of what a code stands for, with its newline
abbrev pub code_text : Option Opcode → ℤ → List ℕ
code_text x z = letters_in x ++ operand_in x z ++ newline ∷ []
