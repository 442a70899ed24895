-- `kernel::fold` meets its contract.
-- Assumes nothing.
use Rattle.std.proofs.Common.{rules}
use Rattle.kernel.proofs.Acting.{fold_done, fold-none}
use Rattle.kernel.proofs.fold.Goals as goal

pub returns-then-s-lt2 : goal.returns-then-s-lt2
returns-then-s-lt2 c = search (rules, fold-none)

pub returns : goal.returns
returns c = search (rules, fold_done)
