-- `report::job::read` meets its contract. The loop's invariant: what is left to read, from where it stands, gives the whole job's
-- reading. The measure is what is left of the job. Assumes nothing.
use Rattle.std.proofs.Common.{rules}
use Rattle.word.proofs.Signed.{back-ok}
use Rattle.report.proofs.Reading.{answered-long, going_start, going_end, going-bad, going-sheet, going-limit}
use Rattle.report.proofs.Reading.{going-cell, going-allowance, going-reader}
use Rattle.report.proofs.job.read.Goals as goal

pub returns-then-job-gt65536 : goal.returns-then-job-gt65536
returns-then-job-gt65536 c = answered-long _ _ _ c.if-job-gt65536.true

pub loop-at-init : goal.loop-at-init
loop-at-init c = going_start _ _ _ c.if-job-gt65536.false

pub returns-in_default : goal.returns-in_default
returns-in_default c = going-bad _ _ _ _ _ _ _ _ _ c.loop-at.invariant c.loop-at-test.true (search rules)

pub returns-then-cells-eq1024 : goal.returns-then-cells-eq1024
returns-then-cells-eq1024 c =
    going-limit _ _ _ _ _ _ _ _ _ c.loop-at.invariant c.loop-at-test.true c.in-Cell.number c.in-Cell.label (search rules)
    c.if-cells-eq1024.true

pub loop-at-preserved-in-Cell : goal.loop-at-preserved-in-Cell
loop-at-preserved-in-Cell c =
    rw (c.put-in-Cell.ensures, back-ok c.from.result c.from.type_inv, c.from.ensures, c.put.ensures, back-ok c.in-Cell.number (search rules))
    (going-cell _ _ _ _ _ _ _ _ _ c.loop-at.invariant c.loop-at-test.true _ _ (search rules) c.if-cells-eq1024.false)

pub loop-at-preserved-in-Allowance : goal.loop-at-preserved-in-Allowance
loop-at-preserved-in-Allowance c =
    going-allowance _ _ _ _ _ _ _ _ _ c.loop-at.invariant c.loop-at-test.true _ (search rules)

pub loop-at-preserved : goal.loop-at-preserved
loop-at-preserved c = going-reader _ _ _ _ _ _ _ _ _ c.loop-at.invariant c.loop-at-test.true _ (search rules)

pub returns-in-Sheet : goal.returns-in-Sheet
returns-in-Sheet c = going-sheet _ _ _ _ _ _ _ _ _ c.loop-at.invariant c.loop-at-test.true (search rules)

pub returns : goal.returns
returns c = going_end _ _ _ _ _ _ _ _ _ c.loop-at.invariant c.loop-at-test.false
