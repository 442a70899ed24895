-- `plain::run::go` meets its contract. The loop's invariant: what is left to run, from where it stands, equals the whole run.
-- The measure is the allowance that is left. Assumes nothing.
use Prim.Native.Nat.{◌-◌, ◌≤◌}
use Rattle.step.specs.Lent.{cells_of, SameCells, lent}
use Rattle.engine.specs.Runs.{words_of, SameRuns, environment_of}
use Rattle.engine.proofs.Going.{Going}
use Rattle.plain.specs.Ruler.{standard_ruler}
use Rattle.plain.proofs.run.go.Given as goal

abbrev pub invariant-loop-left : goal.invariant-loop-left
invariant-loop-left l =
    SameCells l.cells l.initial.cells
    × SameRuns l.space l.initial.space
    × (l.left ≤ l.fuel)
    × Going standard_ruler l.count (environment_of l.surroundings) l.fuel l.program tt
    (lent l.initial.stack (cells_of l.initial.cells))
    (words_of l.initial.space)
    l.m tt (lent l.stack (cells_of l.cells)) (words_of l.space) (l.fuel - l.left)

abbrev pub decreases-loop-left : goal.decreases-loop-left
decreases-loop-left l = l.left
