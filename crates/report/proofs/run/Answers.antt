-- `report::run` meets its contract: the tag engine's end gives the text.
-- Assumes nothing.
use Rattle.std.proofs.Common.{Err, Ok, ◌≡◌, ◌∙◌, sym, subst, ap, ap₂, arith, ℕ, ℤ, pos, List}
use lib.ListN.{length-replicate}
use Rattle.step.specs.Lent.{Cells, cells, lent}
use Rattle.engine.specs.declared.Clearances.{Clearances}
use Rattle.engine.specs.Memory.{output, memory}
use Rattle.policy.specs.Standard.{standard_bytes}
use Rattle.tagged.specs.Tagged.{Left, left, ended_by, tagged}
use Rattle.report.specs.Lines.{PageWords}
use Rattle.report.specs.Page.{zeros, lent_for, handler_space, end_for}
use Rattle.report.proofs.Pages.{end-pages}
use Rattle.report.proofs.Paging.{run-written}
use Rattle.report.proofs.run.Goals as goal
use Rattle.report.proofs.run.Goals.{After-execute-ended}

-- the tag engine's end
abbrev last : (c : After-execute-ended) → Left
last c =
    let x = c.execute-ended.new in
    left
    (ended_by c.execute-ended.result
    (memory x.program (lent x.stack (cells x.values x.labels)) (output x.numbers x.line_labels x.kinds x.pages)))
    x.handler

abbrev given : (c : After-execute-ended) → Cells
given c = cells c.args.values.now c.args.labels.now

ends : (c : After-execute-ended) → last c ≡ end_for (given c) c.args.allowance c.args.sheet.now
ends c =
    let run : List ℕ → List ℤ → Clearances → Left =
    λ t row k. tagged c.args.sheet.now t row k (lent_for (given c)) handler_space c.args.allowance in
    c.execute-ended.ensures.left
    ∙ ap₂ (λ t row. run t row c.all.result) c.bytes-table.ensures c.empty.ensures
    ∙ ap (run standard_bytes (zeros 7)) c.all.ensures

pub refused-requires : goal.refused-requires
refused-requires c = omega (arith, c.requires)

pub lines-requires : goal.lines-requires
lines-requires c =
    let d = (goal.at.lines-requires c).After-execute-ended in (
      omega (arith, c.execute-ended.auto.pages, length-replicate 1024 (pos 0), c.requires),
      subst (λ (x : Left). PageWords x.ended.memory.output.pages) (sym (ends d))
          (end-pages (given d) c.args.allowance c.args.sheet.now (λ i. omega (arith, c.type_inv.sheet i))),
    )

pub returns-in-Err : goal.returns-in-Err
returns-in-Err c =
    let d = (goal.at.returns-in-Err c).After-execute-ended in
    run-written (given d) _ _ _ (last d) (ends d) _ _ _ (Err c.in-Err.r) c.in-Err.is c.refused.ensures

pub returns-in-Ok : goal.returns-in-Ok
returns-in-Ok c =
    let d = (goal.at.returns-in-Ok c).After-execute-ended in
    run-written (given d) _ _ _ (last d) (ends d) _ _ _ (Ok c.in-Ok.ran) c.in-Ok.is c.lines.ensures
