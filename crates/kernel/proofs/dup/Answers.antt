-- `kernel::dup` meets its contract.
-- Assumes nothing.
use Rattle.std.proofs.Common.{rules}
use Rattle.kernel.proofs.Acting.{dup-done, dup-none}
use Rattle.kernel.proofs.dup.Goals as goal

pub returns-then-s-lt1 : goal.returns-then-s-lt1
returns-then-s-lt1 c = search (rules, dup-none)

pub returns : goal.returns
returns c = search (rules, dup-done)
