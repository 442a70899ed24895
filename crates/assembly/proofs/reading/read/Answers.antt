-- `assembly::reading::read` meets its contract: what was read, before what is left, gives the text's commands, and the space holds their
-- bytes.
-- Assumes nothing.
use Rattle.std.proofs.Common.{Ok, Err}
use mathlib.Core.Path.{sym, ap, ◌∙◌}
use native.Mathlib.Omega.{arith}
use borrow.Author.Rules.{rules}
use Rattle.word.proofs.Signed.{back-ok}
use Rattle.assembly.proofs.Gathering.{gathered-start, gathered-end, gathered-limit}
use Rattle.assembly.proofs.Gathering.{gathered-malformed, gathered-outside, gathered-forward, gathered-room, gathered_next}
use Rattle.assembly.proofs.reading.read.Goals as goal

pub loop-at-init : goal.loop-at-init
loop-at-init c = gathered-start c.args.text.now c.args.space.now

pub returns-then-count-eq4096 : goal.returns-then-count-eq4096
returns-then-count-eq4096 c =
    rw (gathered-limit c.loop-at.invariant c.loop-at-test.true c.if-count-eq4096.true)
    (record { answer = c.refused.ensures; written = c.loop-at.auto.space })

pub returns-in-Err-Malformed : goal.returns-in-Err-Malformed
returns-in-Err-Malformed c =
    let e = sym c.line_at.ensures ∙ c.in-Err-Malformed.is ∙ ap Err c.in-Err-Malformed.field-0-is in
    rw (gathered-malformed c.loop-at.invariant c.loop-at-test.true c.if-count-eq4096.false e)
    (record { answer = c.refused-in-Err-Malformed.ensures; written = c.loop-at.auto.space })

pub returns-in-Err-Outside : goal.returns-in-Err-Outside
returns-in-Err-Outside c =
    let e = sym c.line_at.ensures ∙ c.in-Err-Outside.is ∙ ap Err c.in-Err-Outside.field-0-is in
    rw (gathered-outside c.loop-at.invariant c.loop-at-test.true c.if-count-eq4096.false e)
    (record { answer = c.refused-in-Err-Outside.ensures; written = c.loop-at.auto.space })

pub overflow_add-size : goal.overflow_add-size
overflow_add-size c =
    omega (
      arith,
      gathered-room c.loop-at.invariant c.loop-at-test.true c.if-count-eq4096.false (sym c.line_at.ensures ∙ c.in-Ok.is) c.requires,
    )

pub loop-at-smaller : goal.loop-at-smaller
loop-at-smaller c =
    omega (
      arith,
      c.loop-at-test.true,
      gathered-forward c.loop-at.invariant c.loop-at-test.true c.if-count-eq4096.false (sym c.line_at.ensures ∙ c.in-Ok.is),
    )

pub loop-at-preserved : goal.loop-at-preserved
loop-at-preserved c =
    rw (c.put.ensures.written, back-ok c.in-Ok.line.operand (search rules))
    (gathered_next c.loop-at.invariant c.loop-at-test.true c.if-count-eq4096.false (sym c.line_at.ensures ∙ c.in-Ok.is) c.requires)

pub returns : goal.returns
returns c =
    let g = c.loop-at.invariant in
    rw (gathered-end g c.loop-at-test.false) (record { answer = ap Ok g.sized; written = (g.held, omega (arith, g.sized, g.roomy)) })
