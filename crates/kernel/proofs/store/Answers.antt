-- `kernel::store` meets its contract.
-- Assumes nothing.
use Rattle.std.proofs.Common.{rules}
use Prim.Native.Nat.{◌<◌}
use Rattle.word.proofs.Bits.{index-found}
use Rattle.kernel.proofs.Acting.{store-done, store-none, store_out}
use Rattle.kernel.proofs.store.Goals as goal

pub offset_bounds-row-i : goal.offset_bounds-row-i
offset_bounds-row-i c = let l : c.in_ok-i.i < 7 = search (rules, index-found) in search rules

pub bounds-row-i : goal.bounds-row-i
bounds-row-i c = search (rules, index-found)

pub returns-then-s-lt2-clause-does : goal.returns-then-s-lt2-clause-does
returns-then-s-lt2-clause-does c = search (rules, store-none)

pub returns-in_err-i-clause-does : goal.returns-in_err-i-clause-does
returns-in_err-i-clause-does c = search (rules, store_out)

pub returns-clause-does : goal.returns-clause-does
returns-clause-does c = search (rules, store-done)
