-- `kernel::jump` meets its contract.
-- Assumes nothing.
use Rattle.std.proofs.Common.{rules}
use Rattle.kernel.proofs.Acting.{jump-done, jump-none}
use Rattle.kernel.proofs.jump.Goals as goal

pub returns-then-s-lt1 : goal.returns-then-s-lt1
returns-then-s-lt1 c = search (rules, jump-none)

pub returns : goal.returns
returns c = search (rules, jump-done)
