-- `report::write` meets its contract: the job is bad, or its cells and its sheet are run.
-- Assumes nothing.
use mathlib.Core.Path.{◌∙◌, sym}
use native.Mathlib.Omega.{arith}
use lib.IntN.{pos}
use lib.ListN.{length-replicate}
use Rattle.report.proofs.Paging.{cells-few, page-bad, page-read}
use Rattle.report.proofs.write.Goals as goal

pub on_cells-requires : goal.on_cells-requires
on_cells-requires c =
    let a = c.args in
    let few =
    cells-few a.job.now a.out.now 0 a.out.now c.in-Ok.said
    (sym c.in-Ok.is ∙ c.read.ensures.answer) in (
      omega (arith, few, c.read.auto.values, length-replicate 1024 (pos 0)),
      omega (arith, few, c.read.auto.labels, length-replicate 1024 (pos 0)),
      c.requires,
    )

pub returns-in-Err : goal.returns-in-Err
returns-in-Err c = page-bad _ _ _ _ _ (sym c.in-Err.is ∙ c.read.ensures.answer) c.bad_job.ensures

pub returns-in-Ok : goal.returns-in-Ok
returns-in-Ok c =
    page-read _ _ _ _ _ (sym c.in-Ok.is ∙ c.read.ensures.answer) _ _ c.read.ensures.values c.read.ensures.labels c.on_cells.ensures
