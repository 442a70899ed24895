-- The numbers of stops.
-- Assumes nothing.
use Prim.Native.Nat.{ℕ, ◌≤◌, ◌<◌}
use mathlib.Core.Path.{◌≡◌}
use mathlib.Core.Bool.{false}
use native.Mathlib.Omega.{arith}
use lib.Dec.{eqb}
use borrow.Author.Tests.{ne_eqb}
use Rattle.machine.specs.State.{stop_number}
use Rattle.machine.specs.declared.Stop.{Stop}
use Rattle.machine.specs.declared.Stop.TheVariants.{End, FuelSpent, PcOutside, ValueMissing, FrameMissing, WrongReturn, AddressOutside, Denial, NotCleared, Overflow, StackFull, OutputFull}

pub stop-number : (x : Stop) → stop_number x ≤ 11
stop-number End = omega arith
stop-number FuelSpent = omega arith
stop-number PcOutside = omega arith
stop-number ValueMissing = omega arith
stop-number FrameMissing = omega arith
stop-number WrongReturn = omega arith
stop-number AddressOutside = omega arith
stop-number Denial = omega arith
stop-number NotCleared = omega arith
stop-number Overflow = omega arith
stop-number StackFull = omega arith
stop-number OutputFull = omega arith

-- no larger number is a stop's
pub stop-other : (x : Stop) (n : ℕ) → 11 < n → eqb (stop_number x) n ≡ false
stop-other x n h = ne_eqb (stop_number x) n (λ e. omega (arith, stop-number x))
