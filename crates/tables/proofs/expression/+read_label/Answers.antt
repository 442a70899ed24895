-- `tables::expression::read_label` meets its contract: by the first byte, and the expressions after it.
-- Assumes nothing.
use Rattle.std.proofs.lemmas.Result.{err_from_is_err_and}
use Rattle.tables.proofs.Reading.{label-deep, label-none, label-is, label-join}
use Rattle.tables.proofs.expression.+read_label.Goals as goal

pub returns-then-depth-eq0 : goal.returns-then-depth-eq0
returns-then-depth-eq0 t c = λ o. label-deep o c.args.asked c.args.depth c.args.bytes.now c.args.at c.if-depth-eq0.true

pub returns-in_err-leaf : goal.returns-in_err-leaf
returns-in_err-leaf t c =
    let a = c.args in
    let p = err_from_is_err_and c.from_residual.result c.from_residual.ensures.1 in
    λ o. rw (p.1, p.2) (label-none o a.asked a.depth a.bytes.now a.at c.if-depth-eq0.false _ c.in_err-leaf.ensures)

pub returns-in_err-a-in-Join : goal.returns-in_err-a-in-Join
returns-in_err-a-in-Join t c =
    let a = c.args in
    let p = err_from_is_err_and c.from_residual-in_err-a-in-Join.result c.from_residual-in_err-a-in-Join.ensures.1 in
    λ o. rw (p.1, p.2)
    ((label-join o a.asked a.depth a.bytes.now a.at c.if-depth-eq0.false _ _ c.in_ok-leaf.ensures c.in-Join.is).first _ (c.in_err-a-in-Join.ensures o))

pub returns-in_err-b-in-Join : goal.returns-in_err-b-in-Join
returns-in_err-b-in-Join t c =
    let a = c.args in
    let p = err_from_is_err_and c.from_residual-in_err-b-in-Join.result c.from_residual-in_err-b-in-Join.ensures.1 in
    λ o. rw (p.1, p.2)
    ((label-join o a.asked a.depth a.bytes.now a.at c.if-depth-eq0.false _ _ c.in_ok-leaf.ensures c.in-Join.is).second _ _ _ (c.in_ok-a-in-Join.ensures o) (c.in_err-b-in-Join.ensures o))

pub returns-in-Is : goal.returns-in-Is
returns-in-Is t c =
    let a = c.args in
    λ o. label-is o a.asked a.depth a.bytes.now a.at c.if-depth-eq0.false _ _ c.in_ok-leaf.ensures _ c.in-Is.is

pub returns-in_ok-b-in-Join : goal.returns-in_ok-b-in-Join
returns-in_ok-b-in-Join t c =
    let a = c.args in
    λ o. rw c.join.ensures
    ((label-join o a.asked a.depth a.bytes.now a.at c.if-depth-eq0.false _ _ c.in_ok-leaf.ensures c.in-Join.is).found _ _ _ _ (c.in_ok-a-in-Join.ensures o) (c.in_ok-b-in-Join.ensures o))
