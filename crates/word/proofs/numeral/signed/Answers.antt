-- `word::numeral::signed` meets its contract: the sign decides.
-- Assumes nothing.
use Rattle.word.proofs.Laws.Exact.{exactly-if}
use Rattle.word.proofs.Laws.Reading.{minus-size, plus-size}
use Rattle.word.proofs.numeral.signed.Goals as goal

pub returns-then-minus : goal.returns-then-minus
returns-then-minus c =
    let n = c.args.size in
    rw (c.if-minus.true, ← minus-size n) (exactly-if _ _ c.checked_sub_unsigned.ensures)

pub returns-else-minus : goal.returns-else-minus
returns-else-minus c =
    let n = c.args.size in
    rw (c.if-minus.false, ← plus-size n) (exactly-if _ _ c.checked_add_unsigned.ensures)
