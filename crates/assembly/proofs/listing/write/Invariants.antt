-- `assembly::listing::write` meets its contract. The loop's invariant: what was written is the text of the commands before. The measure is
-- what is left of the sheet. Assumes nothing.
use Prim.Native.Nat.{◌-◌}
use lib.ListN.{length}
use Rattle.assembly.proofs.Telling.{Laid}
use Rattle.assembly.proofs.listing.write.Given as goal

abbrev pub invariant-loop-at : goal.invariant-loop-at
invariant-loop-at l = Laid l.sheet l.at l.size l.initial.out l.out

abbrev pub decreases-loop-at : goal.decreases-loop-at
decreases-loop-at l = length l.sheet - l.at
