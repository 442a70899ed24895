-- `engine::start::label_words` meets its contract. The loop's invariant: the label words before i are labels, so that what is left decides.
-- Assumes nothing.
use Rattle.engine.proofs.Limits.{Labelled}
use Rattle.engine.proofs.start.label_words.Given as goal

abbrev pub invariant-loop-i : goal.invariant-loop-i
invariant-loop-i l = Labelled l.check l.labels l.i
