-- `word::numeral::leading` meets its contract. The loop's invariant: what is left of the digits, after what is kept, comes to what all of
-- them come to. The measure is what is left of the text. Assumes nothing.
use Rattle.std.proofs.Common.{sym, ◌∙◌}
use Rattle.word.proofs.Laws.Reading.{keeps-end, keeps-other, keeps-more}
use Rattle.word.proofs.numeral.leading.Goals as goal

pub loop-next-preserved : goal.loop-next-preserved
loop-next-preserved c =
    let s = c.args.s.now in
    let digit = sym c.is_ascii_digit.ensures.value ∙ c.if-is_ascii_digit.true in
    rw c.more-value.ensures (keeps-more s c.args.at c.loop-next.value c.loop-next.next c.loop-next.invariant c.loop-next-test.true digit)

pub returns-else-is_ascii_digit : goal.returns-else-is_ascii_digit
returns-else-is_ascii_digit c =
    let s = c.args.s.now in
    let other = sym c.is_ascii_digit.ensures.value ∙ c.if-is_ascii_digit.false in
    keeps-other s c.args.at c.loop-next.value c.loop-next.next c.loop-next.invariant c.loop-next-test.true other

pub returns-after-loop-next : goal.returns-after-loop-next
returns-after-loop-next c =
    keeps-end c.args.s.now c.args.at c.loop-next.value c.loop-next.next c.loop-next.invariant c.loop-next-test.false
