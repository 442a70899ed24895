-- `word::text::decimal_length` meets its contract: the test of the sign decides.
-- Assumes nothing.
use Rattle.std.proofs.Common.{length, sym, ap, ◌∙◌, arith}
use Rattle.word.proofs.Laws.Numeral.{numeral-length, digit_count-le}
use Rattle.word.proofs.Laws.Text.{word-negative, word-natural}
use Rattle.word.proofs.text.decimal_length.Goals as goal

pub overflow_add-result : goal.overflow_add-result
overflow_add-result c = omega (arith, c.digit_count-count.ensures, digit_count-le 10 19 c.unsigned_abs.result)

pub returns-then-n-lt0 : goal.returns-then-n-lt0
returns-then-n-lt0 c =
    let text = word-negative c.args.n _ _ c.ranges.n c.unsigned_abs.ensures.value c.digit_count-count.ensures c.if-n-lt0.true in
    omega (arith, ap length text, numeral-length 10 c.digit_count-count.result c.unsigned_abs.result)

pub returns-else-n-lt0 : goal.returns-else-n-lt0
returns-else-n-lt0 c =
    let text = word-natural c.args.n _ _ c.ranges.n c.unsigned_abs.ensures.value c.digit_count-count.ensures c.if-n-lt0.false in
    sym (ap length text ∙ numeral-length 10 c.digit_count-count.result c.unsigned_abs.result)
