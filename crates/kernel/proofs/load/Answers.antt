-- `kernel::load` meets its contract.
-- Assumes nothing.
use Rattle.std.proofs.Common.{rules}
use Prim.Native.Nat.{◌<◌}
use Rattle.word.proofs.Bits.{index-found}
use Rattle.kernel.proofs.Acting.{load-done, load-none, load-out}
use Rattle.kernel.proofs.load.Goals as goal

pub offset_bounds-row-i : goal.offset_bounds-row-i
offset_bounds-row-i c = let l : c.in_ok-i.i < 7 = search (rules, index-found) in search rules

pub bounds-row-i : goal.bounds-row-i
bounds-row-i c = search (rules, index-found)

pub returns-then-s-lt1 : goal.returns-then-s-lt1
returns-then-s-lt1 c = search (rules, load-none)

pub returns-in_err-i : goal.returns-in_err-i
returns-in_err-i c = search (rules, load-out)

pub returns : goal.returns
returns c = search (rules, load-done)
