-- What the code reads of the table of commands, and of one command at a position.
use Rattle.std.specs.Prelude.{ℕ, ◌+◌, ◌*◌, ◌%◌, Bool, true, false, List, ℤ, pos, get_or, Err, None, Ok, Option, Result, Some}
use Rattle.program.specs.declared.Operand.{Operand}
use Rattle.program.specs.Command.{Opcode, opcode_of, operand_of, operand_width, in_range, supplies, has_result, rule_number}
use Rattle.program.specs.Command.{arguments_of, results_of}
use Rattle.program.specs.Decode.{operand_at, permitted, check_of}
use Rattle.program.specs.declared.Fault.{Fault}
use Rattle.program.specs.declared.Fault.TheVariants.{Unknown, Cut}
use Rattle.program.specs.declared.Shape.{Shape}

-- what the table says of an opcode: the operand, the inputs, whether there is a result, the number of its rule
abbrev pub shape_of : Option Opcode → Option Shape
shape_of None = None
shape_of (Some o) = Some (record { operand = operand_of o; inputs = supplies o; result = has_result o; rule = rule_number o })

-- is a number in the range of what a code stands for?
abbrev pub takes_of : Option Opcode → ℤ → Bool
takes_of None z = false
takes_of (Some o) z = in_range o z

-- may a command of this shape have this operand?
abbrev pub permits_of : Option Shape → ℤ → Bool
permits_of None z = true
permits_of (Some shape) z = permitted shape.operand z

-- the number whose lowest bytes are an operand's: of two counts a byte each, the arguments lower
abbrev pub field_of : Operand → ℤ → ℤ
field_of (Operand.Signed k) z = z
field_of Operand.Page z = z
field_of Operand.Counts z = pos (arguments_of z % 256 + 256 * results_of z)

-- the check that refuses its operand
abbrev pub refuses_of : Option Shape → ℕ
refuses_of None = 12
refuses_of (Some shape) = check_of shape.operand

-- the check that refuses bytes where there is no command
abbrev pub faults_of : Fault → ℕ
faults_of Unknown = 2
faults_of Cut = 3

abbrev pub fetch_field : Option ℤ → ℕ → Result (ℤ × ℕ) Fault
fetch_field None next = Err Cut
fetch_field (Some z) next = Ok (z, next)

abbrev pub fetch_opcode : Option Opcode → List ℕ → ℕ → Result (ℤ × ℕ) Fault
fetch_opcode None s p = Err Unknown
fetch_opcode (Some o) s p = fetch_field (operand_at (operand_of o) s p) (p + operand_width o)

-- the operand of the command at a position and the position after it
unfoldable pub fetch_of : List ℕ → ℕ → Result (ℤ × ℕ) Fault
fetch_of s at = fetch_opcode (opcode_of (get_or s at 0)) s (at + 1)
