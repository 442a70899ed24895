-- `kernel::swap` meets its contract.
-- Assumes nothing.
use Rattle.std.proofs.Common.{rules}
use Rattle.kernel.proofs.Acting.{swap-done, swap-none}
use Rattle.kernel.proofs.swap.Goals as goal

pub returns-then-s-lt2 : goal.returns-then-s-lt2
returns-then-s-lt2 c = search (rules, swap-none)

pub returns : goal.returns
returns c = search (rules, swap-done)
