-- `assembly::line::shaped` meets its contract.
-- Assumes nothing.
use Rattle.assembly.proofs.Lines.{operand-within}
use Rattle.assembly.proofs.line.shaped.Goals as goal

pub numbered-requires : goal.numbered-requires
numbered-requires c = rw c.operand.ensures (operand-within c.args.text.now c.args.at _ c.requires.0)
