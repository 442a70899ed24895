-- `engine::start::check` meets its contract: the sheet's answer, then the first limit that is broken.
-- Assumes nothing.
use Rattle.std.proofs.lemmas.Result.{err_from_is_err_and}
use Rattle.program.specs.Decode.{decode}
use Rattle.engine.specs.Start.{start_of}
use Rattle.engine.proofs.Limits.{start-refused, start-limited}
use Rattle.engine.proofs.start.check.Goals as goal

pub returns-in_err-count : goal.returns-in_err-count
unfolding start_of
returns-in_err-count c =
    let a = c.args in
    let p = err_from_is_err_and c.from_residual.result c.from_residual.ensures.1 in
    rw (p.1, p.2) (start-refused (decode a.sheet.now) a.labels.now a.clearances a.given a.own _ c.in_err-count.ensures)

pub returns-in_err-first_broken : goal.returns-in_err-first_broken
unfolding start_of
returns-in_err-first_broken c =
    let a = c.args in
    let p = err_from_is_err_and c.from_residual-in_err-first_broken.result c.from_residual-in_err-first_broken.ensures.1 in
    rw (p.1, p.2)
    (start-limited (decode a.sheet.now) a.labels.now a.clearances a.given a.own _ c.in_ok-count.ensures _ c.in_err-first_broken.ensures)

pub returns : goal.returns
unfolding start_of
returns c =
    let a = c.args in
    start-limited (decode a.sheet.now) a.labels.now a.clearances a.given a.own _ c.in_ok-count.ensures _ c.in_ok-first_broken.ensures
