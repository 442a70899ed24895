-- `assembly::listing::measure` meets its contract. The loop's invariant: what was measured is the text of the commands before. The measure
-- is what is left of the sheet. Assumes nothing.
use Prim.Native.Nat.{◌-◌}
use lib.ListN.{length}
use Rattle.assembly.proofs.Telling.{Told}
use Rattle.assembly.proofs.listing.measure.Given as goal

abbrev pub invariant-loop-at : goal.invariant-loop-at
invariant-loop-at l = Told l.sheet l.at l.size

abbrev pub decreases-loop-at : goal.decreases-loop-at
decreases-loop-at l = length l.sheet - l.at
