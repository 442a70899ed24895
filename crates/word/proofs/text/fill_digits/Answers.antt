-- `word::text::fill_digits` meets its contract. The loop's invariant: what is left to write, laid on what is written, is the whole numeral.
-- Assumes nothing.
use Rattle.std.proofs.Common.{◌≡◌, sym, ◌∙◌, arith}
use Rattle.word.proofs.Laws.Text.{numeral-stored-first, numeral-written-first, numeral-fills}
use Rattle.word.proofs.text.fill_digits.Goals as goal

pub loop-i-init : goal.loop-i-init
loop-i-init c = numeral-fills c.args.base c.args.n c.args.digits.now

pub loop-i-preserved : goal.loop-i-preserved
loop-i-preserved c =
    rw c.digit.ensures (numeral-stored-first c.args.base c.loop-i.i c.loop-i.rest c.loop-i.digits (omega arith) (omega arith)) ∙ c.loop-i.invariant

pub returns : goal.returns
returns c =
    let z : c.loop-i.i ≡ 0 = omega arith in
    sym (numeral-written-first c.args.base c.loop-i.rest c.loop-i.digits) ∙ (rw z at c.loop-i.invariant)
