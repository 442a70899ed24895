-- `assembly::reading::read` meets its contract. The loop's invariant: what was read, before what is left, gives the text's commands, and the
-- space holds their bytes. The measure is what is left of the text. Assumes nothing.
use Prim.Native.Nat.{◌-◌}
use lib.ListN.{length}
use Rattle.assembly.proofs.Gathering.{Gathered}
use Rattle.assembly.proofs.reading.read.Given as goal

abbrev pub invariant-loop-at : goal.invariant-loop-at
invariant-loop-at l = Gathered l.text l.at l.count l.size l.initial.space l.space

abbrev pub decreases-loop-at : goal.decreases-loop-at
decreases-loop-at l = length l.text - l.at
