-- `tables::rule_of` meets its contract.
-- Assumes nothing.
use Rattle.std.proofs.Common.{arith}
use Rattle.tables.proofs.TableReading.{ok-some, ok-none}
use Rattle.tables.proofs.Asking.{passing-start, passing-whole, passing-next, passing-there, passing-said}
use Rattle.tables.proofs.rule_of.Goals as goal

pub loop-i-init : goal.loop-i-init
loop-i-init c = let p = c.requires in passing-start c.args.bytes.now c.args.number p.0 p.1

pub returns-in_err-at : goal.returns-in_err-at
returns-in_err-at c =
    let q = ok-none _ c.in_err-at.ensures.value in
    absurd (passing-whole _ _ _ _ _ c.loop-i.invariant _ (rw (c.owner.ensures, q.1) at c.read_rule.ensures))

pub loop-i-preserved : goal.loop-i-preserved
loop-i-preserved c =
    passing-next _ _ _ _ _ c.loop-i.invariant _ _
    (rw (c.owner.ensures, ok-some _ _ c.in_ok-at.ensures.value) at c.read_rule.ensures) c.loop-i-test.true

pub returns-in_err-verdict : goal.returns-in_err-verdict
returns-in_err-verdict c =
    let p = passing-there _ _ _ _ c.loop-i.invariant c.loop-i-test.false in
    let q = ok-none _ c.in_err-verdict.ensures.value in
    absurd (passing-whole _ _ _ _ _ p _ (rw (c.owner-2.ensures, q.1) at c.read_rule-2.ensures))

pub returns : goal.returns
returns c =
    let p = passing-there _ _ _ _ c.loop-i.invariant c.loop-i-test.false in
    passing-said _ _ _ _ _ p _ _
    (rw (c.owner-2.ensures, ok-some _ _ c.in_ok-verdict.ensures.value) at c.read_rule-2.ensures) (omega arith)
