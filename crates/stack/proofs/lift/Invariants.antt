-- `stack::lift` meets its contract. The loop's invariant: lifting what is left gives what lifting all gives.
-- Assumes nothing.
use mathlib.Core.Path.{◌≡◌}
use Rattle.stack.specs.Words.{lifted}
use Rattle.stack.proofs.lift.Given as goal

abbrev pub invariant-loop-above : goal.invariant-loop-above
invariant-loop-above l = lifted l.stack l.entry l.above ≡ lifted l.initial.stack l.entry l.count
