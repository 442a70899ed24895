-- `tagged::run::go` meets its contract. The loop's invariant: what is left to run, from where it stands, equals the whole run, and the
-- counts are small. The measure is the allowance that is left.
-- Assumes nothing.
use Prim.Native.Nat.{◌-◌}
use Rattle.step.specs.Lent.{cells_of, SameCells, lent}
use Rattle.engine.specs.Runs.{words_of, SameRuns, environment_of}
use Rattle.engine.proofs.Going.{Going}
use Rattle.handler.specs.Space.{handle_space}
use Rattle.tagged.specs.Ruling.{tag_words, tag_kept}
use Rattle.tagged.proofs.Counts.{Few}
use Rattle.tagged.proofs.run.go.Given as goal

abbrev pub invariant-loop-steps : goal.invariant-loop-steps
invariant-loop-steps l =
    SameCells l.cells l.initial.cells
    × SameRuns l.space l.initial.space
    × Going (tag_words (handle_space l.handler l.size)) l.count (environment_of l.surroundings) l.fuel l.program (tag_kept l.initial.kept)
    (lent l.initial.stack (cells_of l.initial.cells))
    (words_of l.initial.space)
    l.m (tag_kept l.kept) (lent l.stack (cells_of l.cells)) (words_of l.space) l.steps
    × Few l.size l.steps (tag_kept l.kept)

abbrev pub decreases-loop-steps : goal.decreases-loop-steps
decreases-loop-steps l = l.fuel - l.steps
