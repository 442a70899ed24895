-- `assembly::listing::line_length` meets its contract.
-- Assumes nothing.
use native.Mathlib.Omega.{arith}
use mathlib.Core.Path.{ap}
use Rattle.word.proofs.Signed.{back}
use Rattle.program.specs.Command.{opcode_of}
use Rattle.assembly.proofs.Laying.{name-length, name-few, operand-few}
use Rattle.assembly.proofs.listing.line_length.Goals as goal

pub overflow_add-result : goal.overflow_add-result
overflow_add-result c =
    let x = opcode_of c.args.code in
    omega (
      arith,
      ap (λ x. x.length) c.name_of-name.ensures,
      rw (back c.ranges.operand) at c.operand_length.ensures,
      name-length x,
      name-few x,
      operand-few x c.args.operand c.ranges.operand.sfits,
    )

pub overflow_add-result-2 : goal.overflow_add-result-2
overflow_add-result-2 c =
    let x = opcode_of c.args.code in
    omega (
      arith,
      ap (λ x. x.length) c.name_of-name.ensures,
      rw (back c.ranges.operand) at c.operand_length.ensures,
      name-length x,
      name-few x,
      operand-few x c.args.operand c.ranges.operand.sfits,
    )
