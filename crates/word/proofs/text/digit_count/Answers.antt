-- `word::text::digit_count` meets its contract: a number below 10 has one digit, and each power of ten one more.
-- Assumes nothing.
use Rattle.word.proofs.Laws.Text.{count-log}
use Rattle.word.proofs.text.digit_count.Goals as goal

pub returns : goal.returns
returns c =
    let l = c.ilog10.ensures in
    count-log c.args.n c.ilog10.result c.ranges.n.fits (rw c.max.ensures at l.power_le) (rw c.max.ensures at l.next_power_gt)
