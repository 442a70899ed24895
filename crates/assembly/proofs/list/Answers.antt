-- `assembly::list` meets its contract: the check's answer and the room decide.
-- Assumes nothing.
use Rattle.std.proofs.Common.{Ok, Err}
use Rattle.std.proofs.lemmas.Result.{err_from_is_err_and}
use mathlib.Core.Path.{refl, ap, sym, ◌∙◌}
use Rattle.assembly.proofs.Telling.{listed-refused, listed-counted}
use Rattle.assembly.proofs.list.Goals as goal

pub returns-in_err-count : goal.returns-in_err-count
returns-in_err-count c =
    let p = err_from_is_err_and c.from_residual.result c.from_residual.ensures.1 in
    rw (listed-refused c.args.sheet.now _ (sym c.check.ensures ∙ c.in_err-count.was)) (record { answer = p.1 ∙ ap Err p.2; written = refl })

pub returns-then-fits : goal.returns-then-fits
returns-then-fits c =
    rw (listed-counted c.args.sheet.now _ (sym c.check.ensures ∙ c.in_ok-count.was), sym c.fits.ensures ∙ c.if-fits.true)
    (record { answer = ap Ok c.write.ensures.answer; written = c.write.ensures.written })

pub returns-else-fits : goal.returns-else-fits
returns-else-fits c =
    rw (listed-counted c.args.sheet.now _ (sym c.check.ensures ∙ c.in_ok-count.was), sym c.fits.ensures ∙ c.if-fits.false)
    (record { answer = c.refused.ensures; written = refl })
