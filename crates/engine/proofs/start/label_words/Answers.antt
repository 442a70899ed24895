-- `engine::start::label_words` meets its contract: the first word that is no label decides.
-- Assumes nothing.
use Rattle.std.proofs.Common.{◌∙◌, sym, rules, pos, get_or}
use Rattle.word.proofs.Signed.{back-ok}
use Rattle.engine.proofs.Limits.{labelled-end, labelled-broken, labelled-next}
use Rattle.engine.proofs.start.label_words.Goals as goal

pub returns-then-is_err : goal.returns-then-is_err
returns-then-is_err c =
    labelled-broken c.args.check c.args.labels.now c.loop-i.i c.loop-i.invariant c.loop-i-test.true _
    (rw (back-ok (get_or c.args.labels.now c.loop-i.i (pos 0)) (search rules)) at c.try_from.ensures) (sym c.is_err.ensures.value ∙ c.if-is_err.true)

pub loop-i-preserved : goal.loop-i-preserved
loop-i-preserved c =
    labelled-next c.args.check c.args.labels.now c.loop-i.i c.loop-i.invariant c.loop-i-test.true _
    (rw (back-ok (get_or c.args.labels.now c.loop-i.i (pos 0)) (search rules)) at c.try_from.ensures) (sym c.is_err.ensures.value ∙ c.if-is_err.false)

pub returns : goal.returns
returns c = labelled-end c.args.check c.args.labels.now c.loop-i.i c.loop-i.invariant c.loop-i-test.false
