-- `tables::expression::read_condition` meets its contract: by the first byte, and the expressions after it.
-- Assumes nothing.
use Rattle.std.proofs.lemmas.Result.{err_from_is_err_and}
use Rattle.tables.proofs.Reading.{condition-deep, condition-none, condition-true, condition-flows, condition-both}
use Rattle.tables.proofs.Reading.{condition-either}
use Rattle.tables.proofs.expression.+read_condition.Goals as goal

pub returns-then-depth-eq0 : goal.returns-then-depth-eq0
returns-then-depth-eq0 t c = λ o. condition-deep o c.args.asked c.args.depth c.args.bytes.now c.args.at c.if-depth-eq0.true

pub returns-in_err-test : goal.returns-in_err-test
returns-in_err-test t c =
    let a = c.args in
    let p = err_from_is_err_and c.from_residual.result c.from_residual.ensures.1 in
    λ o. rw (p.1, p.2) (condition-none o a.asked a.depth a.bytes.now a.at c.if-depth-eq0.false _ c.in_err-test.ensures)

pub returns-in-True : goal.returns-in-True
returns-in-True t c =
    let a = c.args in
    λ o. condition-true o a.asked a.depth a.bytes.now a.at c.if-depth-eq0.false _ _ c.in_ok-test.ensures c.in-True.is

pub returns-in_err-a-in-Flows : goal.returns-in_err-a-in-Flows
returns-in_err-a-in-Flows t c =
    let a = c.args in
    let p = err_from_is_err_and c.from_residual-in_err-a-in-Flows.result c.from_residual-in_err-a-in-Flows.ensures.1 in
    λ o. rw (p.1, p.2)
    ((condition-flows o a.asked a.depth a.bytes.now a.at c.if-depth-eq0.false _ _ c.in_ok-test.ensures c.in-Flows.is).first _ (c.in_err-a-in-Flows.ensures o))

pub returns-in_err-b-in-Flows : goal.returns-in_err-b-in-Flows
returns-in_err-b-in-Flows t c =
    let a = c.args in
    let p = err_from_is_err_and c.from_residual-in_err-b-in-Flows.result c.from_residual-in_err-b-in-Flows.ensures.1 in
    λ o. rw (p.1, p.2)
    ((condition-flows o a.asked a.depth a.bytes.now a.at c.if-depth-eq0.false _ _ c.in_ok-test.ensures c.in-Flows.is).second _ _ _ (c.in_ok-a-in-Flows.ensures o) (c.in_err-b-in-Flows.ensures o))

pub returns-in_ok-b-in-Flows : goal.returns-in_ok-b-in-Flows
returns-in_ok-b-in-Flows t c =
    let a = c.args in
    λ o. rw c.flows.ensures
    ((condition-flows o a.asked a.depth a.bytes.now a.at c.if-depth-eq0.false _ _ c.in_ok-test.ensures c.in-Flows.is).found _ _ _ _ (c.in_ok-a-in-Flows.ensures o) (c.in_ok-b-in-Flows.ensures o))

pub returns-in_err-a-in-And : goal.returns-in_err-a-in-And
returns-in_err-a-in-And t c =
    let a = c.args in
    let p = err_from_is_err_and c.from_residual-in_err-a-in-And.result c.from_residual-in_err-a-in-And.ensures.1 in
    λ o. rw (p.1, p.2)
    ((condition-both o a.asked a.depth a.bytes.now a.at c.if-depth-eq0.false _ _ c.in_ok-test.ensures c.in-And.is).first _ (c.in_err-a-in-And.ensures o))

pub returns-in_err-b-in-And : goal.returns-in_err-b-in-And
returns-in_err-b-in-And t c =
    let a = c.args in
    let p = err_from_is_err_and c.from_residual-in_err-b-in-And.result c.from_residual-in_err-b-in-And.ensures.1 in
    λ o. rw (p.1, p.2)
    ((condition-both o a.asked a.depth a.bytes.now a.at c.if-depth-eq0.false _ _ c.in_ok-test.ensures c.in-And.is).second _ _ _ (c.in_ok-a-in-And.ensures o) (c.in_err-b-in-And.ensures o))

pub returns-then-a : goal.returns-then-a
returns-then-a t c =
    let a = c.args in
    λ o. rw c.if-a.true at
    ((condition-both o a.asked a.depth a.bytes.now a.at c.if-depth-eq0.false _ _ c.in_ok-test.ensures c.in-And.is).found _ _ _ _ (c.in_ok-a-in-And.ensures o) (c.in_ok-b-in-And.ensures o))

pub returns-else-a : goal.returns-else-a
returns-else-a t c =
    let a = c.args in
    λ o. rw c.if-a.false (rw c.if-a.false at
    ((condition-both o a.asked a.depth a.bytes.now a.at c.if-depth-eq0.false _ _ c.in_ok-test.ensures c.in-And.is).found _ _ _ _ (c.in_ok-a-in-And.ensures o) (c.in_ok-b-in-And.ensures o)))

pub returns-in_err-a-in-Or : goal.returns-in_err-a-in-Or
returns-in_err-a-in-Or t c =
    let a = c.args in
    let p = err_from_is_err_and c.from_residual-in_err-a-in-Or.result c.from_residual-in_err-a-in-Or.ensures.1 in
    λ o. rw (p.1, p.2)
    ((condition-either o a.asked a.depth a.bytes.now a.at c.if-depth-eq0.false _ _ c.in_ok-test.ensures c.in-Or.is).first _ (c.in_err-a-in-Or.ensures o))

pub returns-in_err-b-in-Or : goal.returns-in_err-b-in-Or
returns-in_err-b-in-Or t c =
    let a = c.args in
    let p = err_from_is_err_and c.from_residual-in_err-b-in-Or.result c.from_residual-in_err-b-in-Or.ensures.1 in
    λ o. rw (p.1, p.2)
    ((condition-either o a.asked a.depth a.bytes.now a.at c.if-depth-eq0.false _ _ c.in_ok-test.ensures c.in-Or.is).second _ _ _ (c.in_ok-a-in-Or.ensures o) (c.in_err-b-in-Or.ensures o))

pub returns-then-a-2 : goal.returns-then-a-2
returns-then-a-2 t c =
    let a = c.args in
    λ o. rw c.if-a-2.true (rw c.if-a-2.true at
    ((condition-either o a.asked a.depth a.bytes.now a.at c.if-depth-eq0.false _ _ c.in_ok-test.ensures c.in-Or.is).found _ _ _ _ (c.in_ok-a-in-Or.ensures o) (c.in_ok-b-in-Or.ensures o)))

pub returns-else-a-2 : goal.returns-else-a-2
returns-else-a-2 t c =
    let a = c.args in
    λ o. rw c.if-a-2.false at
    ((condition-either o a.asked a.depth a.bytes.now a.at c.if-depth-eq0.false _ _ c.in_ok-test.ensures c.in-Or.is).found _ _ _ _ (c.in_ok-a-in-Or.ensures o) (c.in_ok-b-in-Or.ensures o))
