-- `kernel::act` meets its contract.
-- Assumes nothing.
use Rattle.std.proofs.Common.{rules}
use Rattle.kernel.proofs.Acting.{residue-known}
use Rattle.kernel.proofs.act.Goals as goal

pub returns : goal.returns
returns c = rw (← residue-known c.args.code c.args.operand (search rules)) (search rules)
