-- `kernel::push` meets its contract.
-- Assumes nothing.
use Rattle.std.proofs.Common.{rules}
use Rattle.kernel.proofs.Acting.{push-done, push-full}
use Rattle.kernel.proofs.push.Goals as goal

pub returns-then-s-ge64 : goal.returns-then-s-ge64
returns-then-s-ge64 c = search (rules, push-full)

pub returns : goal.returns
returns c = search (rules, push-done)
