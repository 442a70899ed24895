-- `report::job::read` meets its contract. The loop's invariant: what is left to read, from where it stands, gives the whole job's
-- reading. The measure is what is left of the job. Assumes nothing.
use Prim.Native.Nat.{◌-◌}
use lib.ListN.{length}
use Rattle.report.proofs.Reading.{Going}
use Rattle.report.proofs.job.read.Given as goal

abbrev pub invariant-loop-at : goal.invariant-loop-at
invariant-loop-at l = Going l.job l.initial.values l.initial.labels l.values l.labels l.at l.cells l.allowance l.reader.0

abbrev pub decreases-loop-at : goal.decreases-loop-at
decreases-loop-at l = length l.job - l.at
