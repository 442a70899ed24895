-- `kernel::bnz` meets its contract.
-- Assumes nothing.
use Rattle.std.proofs.Common.{rules}
use Rattle.kernel.proofs.Acting.{bnz-none, bnz-zero, bnz-taken}
use Rattle.kernel.proofs.bnz.Goals as goal

pub returns-then-s-lt1 : goal.returns-then-s-lt1
returns-then-s-lt1 c = search (rules, bnz-none)

pub returns-then-s-eq0 : goal.returns-then-s-eq0
returns-then-s-eq0 c = search (rules, bnz-zero)

pub returns : goal.returns
returns c = search (rules, bnz-taken)
