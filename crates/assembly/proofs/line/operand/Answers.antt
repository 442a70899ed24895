-- `assembly::line::operand` meets its contract.
-- Assumes nothing.
use Rattle.assembly.proofs.Lines.{spaced-within}
use Rattle.assembly.proofs.line.operand.Goals as goal

pub second-requires : goal.second-requires
second-requires c = rw c.spaced-first.ensures (spaced-within c.args.text.now c.args.at c.requires)
