-- `program::check` meets its contract. The loop's invariant: what is left to check, after what was counted, gives the whole answer.
-- The measure is what is left of the bytes. Assumes nothing.
use Rattle.std.proofs.Common.{rules, Ok}
use native.Mathlib.Omega.{arith}
use Rattle.std.proofs.lemmas.Grind.{common_steps}
use mathlib.Core.Path.{◌≡◌, ◌∙◌, sym}
use Rattle.word.proofs.Signed.{back-ok}
use Rattle.program.specs.Fetch.{permits_of}
use Rattle.program.proofs.Checking.{invariant-start, invariant-end, invariant-limit, invariant-fault}
use Rattle.program.proofs.Checking.{invariant-outside, invariant-next, invariant-forward}
use Rattle.program.proofs.check.Goals as goal

pub loop-at-init : goal.loop-at-init
loop-at-init c = invariant-start c.args.bytes.now

pub returns-then-count-eq4096 : goal.returns-then-count-eq4096
returns-then-count-eq4096 c =
    rw c.new.ensures
    (invariant-limit c.args.bytes.now c.loop-at.at c.loop-at.count c.loop-at.invariant c.loop-at-test.true c.if-count-eq4096.true)

pub returns-in_err-operand : goal.returns-in_err-operand
returns-in_err-operand c =
    grind (arith, common_steps, invariant-fault c.args.bytes.now c.loop-at.at c.loop-at.count c.loop-at.invariant c.loop-at-test.true c.if-count-eq4096.false)

pub returns-then-not-permits : goal.returns-then-not-permits
returns-then-not-permits c =
    let z = c.in_ok-operand.operand in
    let is : c.fetch.result ≡ Ok (z, c.in_ok-operand.next) = grind arith in
    let denied : c.permits.result ≡ permits_of c.shape_of-shape.result z = rw (back-ok z (search rules)) at c.permits.ensures in
    rw (c.new-then-not-permits.ensures, c.check_of.ensures, c.shape_of-shape.ensures)
    (invariant-outside c.args.bytes.now c.loop-at.at c.loop-at.count c.loop-at.invariant c.loop-at-test.true c.if-count-eq4096.false _ _
    (sym c.fetch.ensures ∙ is) (rw c.shape_of-shape.ensures at (sym denied ∙ c.if-not-permits.true)))

pub loop-at-smaller : goal.loop-at-smaller
loop-at-smaller c =
    let is : c.fetch.result ≡ Ok (c.in_ok-operand.operand, c.in_ok-operand.next) = grind arith in
    omega (
      arith,
      invariant-forward c.args.bytes.now c.loop-at.at c.loop-at.count c.loop-at.invariant c.loop-at-test.true c.if-count-eq4096.false _ _
          (sym c.fetch.ensures ∙ is),
    )

pub loop-at-preserved : goal.loop-at-preserved
loop-at-preserved c =
    let z = c.in_ok-operand.operand in
    let is : c.fetch.result ≡ Ok (z, c.in_ok-operand.next) = grind arith in
    let permitted : c.permits.result ≡ permits_of c.shape_of-shape.result z = rw (back-ok z (search rules)) at c.permits.ensures in
    invariant-next c.args.bytes.now c.loop-at.at c.loop-at.count c.loop-at.invariant c.loop-at-test.true c.if-count-eq4096.false _ _
    (sym c.fetch.ensures ∙ is) (rw c.shape_of-shape.ensures at (sym permitted ∙ c.if-not-permits.false))

pub returns : goal.returns
returns c =
    invariant-end c.args.bytes.now c.loop-at.at c.loop-at.count c.loop-at.invariant c.loop-at-test.false
