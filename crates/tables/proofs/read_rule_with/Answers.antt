-- `tables::read_rule_with` meets its contract: three expressions, each at fault or read.
-- Assumes nothing.
use Rattle.std.proofs.lemmas.Result.{err_from_is_err_and}
use Rattle.tables.specs.Value.{asked_key}
use Rattle.tables.proofs.RuleReading.{rule-condition, rule-place, rule-last, rule-whole}
use Rattle.tables.proofs.read_rule_with.Goals as goal

pub returns-in_err-allowed : goal.returns-in_err-allowed
returns-in_err-allowed c =
    let a = c.args in
    let p = err_from_is_err_and c.from_residual.result c.from_residual.ensures.1 in
    λ o. rw (p.1, p.2)
    (rule-condition (asked_key o a.asked) a.asked.supplied a.has a.bytes.now a.at _ (c.in_err-allowed.ensures o))

pub returns-in_err-place : goal.returns-in_err-place
returns-in_err-place c =
    let a = c.args in
    let p = err_from_is_err_and c.from_residual-in_err-place.result c.from_residual-in_err-place.ensures.1 in
    λ o. rw (p.1, p.2)
    (rule-place (asked_key o a.asked) a.asked.supplied a.has a.bytes.now a.at
    _ _ (c.in_ok-allowed.ensures o) _ (c.in_err-place.ensures o))

pub returns-in_err-result : goal.returns-in_err-result
returns-in_err-result c =
    let a = c.args in
    let p = err_from_is_err_and c.from_residual-in_err-result.result c.from_residual-in_err-result.ensures.1 in
    λ o. rw (p.1, p.2)
    (rule-last (asked_key o a.asked) a.asked.supplied a.has a.bytes.now a.at
    _ _ (c.in_ok-allowed.ensures o) _ _ (c.in_ok-place.ensures o) _ (c.in_err-result.ensures o))

pub returns : goal.returns
returns c =
    let a = c.args in
    λ o. rw c.then_some.ensures
    (rule-whole (asked_key o a.asked) a.asked.supplied a.has a.bytes.now a.at
    _ _ (c.in_ok-allowed.ensures o) _ _ (c.in_ok-place.ensures o) _ _ (c.in_ok-result.ensures o))
