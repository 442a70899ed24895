-- `word::text::put_decimal` meets its contract: the test of the sign decides.
-- Assumes nothing.
use Rattle.std.proofs.Common.{◌+◌, ◌∷◌, ◌∙◌, arith}
use Rattle.word.specs.Text.{numeral}
use Rattle.word.proofs.Clauses.{both}
use Rattle.word.proofs.Laws.Numeral.{numeral-length, digit_count-le}
use Rattle.word.proofs.Laws.Text.{word-negative, word-natural, put-short, put-cons}
use Rattle.word.proofs.text.put_decimal.Goals as goal

pub overflow_add-count : goal.overflow_add-count
overflow_add-count c = omega (arith, c.digit_count-count.ensures, digit_count-le 10 19 c.unsigned_abs-size.result)

pub returns-in_err-end : goal.returns-in_err-end
returns-in_err-end c =
    let a = c.args in
    let size = c.unsigned_abs-size.result in
    let count = c.digit_count-count.result in
    let text = numeral 10 count size in
    rw (word-negative a.n size count c.ranges.n c.unsigned_abs-size.ensures.value c.digit_count-count.ensures c.if-n-lt0.true, c.from_residual.ensures)
    (both (put-short a.at (count + 1) (45 ∷ text) a.out.now (omega (arith, numeral-length 10 count size)) c.in_err-end.ensures))

pub returns-then-n-lt0 : goal.returns-then-n-lt0
returns-then-n-lt0 c =
    let a = c.args in
    let size = c.unsigned_abs-size.result in
    let count = c.digit_count-count.result in
    let put = put-cons a.at count 45 (numeral 10 count size) a.out.now (numeral-length 10 count size) c.in_ok-end.ensures.0 in
    rw (word-negative a.n size count c.ranges.n c.unsigned_abs-size.ensures.value c.digit_count-count.ensures c.if-n-lt0.true)
    (both (c.put_numeral.ensures.answer ∙ put.0, c.put_numeral.ensures.written ∙ put.1))

pub returns : goal.returns
returns c =
    rw (word-natural c.args.n _ _ c.ranges.n c.unsigned_abs-size.ensures.value c.digit_count-count.ensures c.if-n-lt0.false) c.put_numeral-2.ensures
