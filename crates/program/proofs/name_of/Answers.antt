-- `program::name_of` meets its contract: each arm's code is its opcode's, and no other code is one.
-- Assumes nothing.
use native.Mathlib.Omega.{arith}
use Rattle.program.proofs.Codes.{opcode_of-outside}
use Rattle.program.proofs.name_of.Goals as goal

pub returns-in_default : goal.returns-in_default
returns-in_default c = rw (opcode_of-outside c.args.code (λ h. omega (arith, c.in_default)))
