-- `step::find::call_values` meets its contract. The loop's invariant: what is still to be looked at decides.
-- Assumes nothing.
use mathlib.Core.Path.{◌≡◌}
use Prim.Native.Nat.{suc}
use Rattle.step.specs.Find.{top_values}
use Rattle.step.proofs.find.call_values.Given as goal

abbrev pub invariant-loop-below : goal.invariant-loop-below
invariant-loop-below l = top_values l.stack l.m.depth (suc l.below) ≡ top_values l.stack l.m.depth (suc l.arguments)
