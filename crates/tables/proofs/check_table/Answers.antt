-- `tables::check_table` meets its contract.
-- Assumes nothing.
use Rattle.std.proofs.Common.{◌≡◌}
use Rattle.std.proofs.lemmas.Result.{err_from_is_err_and}
use Rattle.program.specs.Decode.{refusal}
use Rattle.tables.proofs.TableReading.{checking-limit, checking-start, checking-fault, checking-next}
use Rattle.tables.proofs.TableReading.{checking-left-over, checking-end, mapped-ok, mapped-err}
use Rattle.tables.proofs.check_table.Goals as goal

pub returns-then-bytes-gt-TABLE_LIMIT : goal.returns-then-bytes-gt-TABLE_LIMIT
returns-then-bytes-gt-TABLE_LIMIT c = rw c.refused.ensures (checking-limit c.args.bytes.now c.if-bytes-gt-TABLE_LIMIT.true)

pub loop-i-init : goal.loop-i-init
loop-i-init c = checking-start c.args.bytes.now c.if-bytes-gt-TABLE_LIMIT.false

pub returns-in_err-at : goal.returns-in_err-at
returns-in_err-at c =
    let p = err_from_is_err_and c.from_residual.result c.from_residual.ensures.1 in
    let m = mapped-err (λ q r. r ≡ refusal 6 q) c.read_rule.result _ c.in_err-at.ensures.cases in
    rw (p.1, p.2, m.2)
    (checking-fault _ _ _ c.loop-i.invariant _ c.loop-i-test.true _ (rw (c.owner.ensures, m.1) at c.read_rule.ensures))

pub loop-i-preserved : goal.loop-i-preserved
loop-i-preserved c =
    checking-next _ _ _ c.loop-i.invariant _ c.loop-i-test.true _ _
    (rw (c.owner.ensures, mapped-ok (λ q r. r ≡ refusal 6 q) c.read_rule.result _ c.in_ok-at.ensures.cases) at c.read_rule.ensures)

pub returns-then-at-bytes : goal.returns-then-at-bytes
returns-then-at-bytes c =
    rw c.refused-then-at-bytes.ensures (checking-left-over _ _ _ c.loop-i.invariant c.loop-i-test.false c.if-at-bytes.true)

pub returns-else-at-bytes : goal.returns-else-at-bytes
returns-else-at-bytes c = checking-end _ _ _ c.loop-i.invariant c.loop-i-test.false c.if-at-bytes.false
