-- `kernel::go` meets its contract. The loop's invariant: what is left to run, from where it stands, equals the whole run.
-- The measure is what is left of the places. Assumes nothing.
use Prim.Native.Nat.{◌-◌}
use Rattle.kernel.proofs.Going.{Going}
use Rattle.kernel.proofs.go.Given as goal

abbrev pub invariant-loop-at : goal.invariant-loop-at
invariant-loop-at l = Going l.count l.space l.initial.row.words l.at l.stack l.row.words l.steps

abbrev pub decreases-loop-at : goal.decreases-loop-at
decreases-loop-at l = l.limit - l.at.place
