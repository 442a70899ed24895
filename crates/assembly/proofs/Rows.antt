-- What the texts ask of every row of the table of commands: names without separators, operands of at most eight bytes, and how long a line
-- is.
-- Assumes nothing.
use Rattle.std.proofs.Common.{None, Option, Some}
use mathlib.Core.Path.{◌≡◌}
use mathlib.Core.Bool.{true}
use Prim.Native.Nat.{ℕ, zero, suc, ◌+◌, ◌≤◌}
use lib.Dec.{leb, leb→le}
use lib.ListN.{length}
use Rattle.program.specs.declared.Operand.{Operand}
use Rattle.program.specs.declared.Operand.TheVariants.{Signed, Page, Counts}
use Rattle.program.specs.Command.{Opcode, operand_of}
use Rattle.program.specs.Name.{letters}
use Rattle.program.specs.Fetch.{shape_of}
use Rattle.program.proofs.Codes.{opcode-all}
use Rattle.program.proofs.Naming.{name-letters}
use Rattle.program.proofs.Ranges.{width-most}
use Rattle.assembly.specs.Scan.{Few}
use Rattle.assembly.proofs.Cutting.{without, without-letters}

pub letters-without : (separator : ℕ) (o : Opcode) → separator ≤ 32 → without separator (letters o) ≡ true
letters-without separator o h = without-letters separator (letters o) h (name-letters o)

pub shape-few : (x : Option Opcode) → Few (shape_of x)
shape-few None = tt
shape-few (Some o) = width-most o

-- the most that an operand takes in a line: a space, a minus and 19 digits; a space and the two digits of a page, and so each
-- of two counts
abbrev pub operand_most : Operand → ℕ
operand_most (Signed zero) = 0
operand_most (Signed (suc k)) = 21
operand_most Page = 3
operand_most Counts = 6

-- a line has at most 25 characters before its newline: a computed test of the list of opcodes
pub line-most : (o : Opcode) → length (letters o) + operand_most (operand_of o) ≤ 25
line-most o =
    leb→le (length (letters o) + operand_most (operand_of o)) 25
    (opcode-all (λ o. leb (length (letters o) + operand_most (operand_of o)) 25) tt o)
