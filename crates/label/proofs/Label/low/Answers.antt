-- `label::Label::low` meets its contract: the remainder keeps the lowest bits.
-- Assumes nothing.
use Rattle.word.proofs.Signed.{back}
use Rattle.label.specs.Word.{low_label}
use Rattle.label.proofs.Label.low.Goals as goal

pub returns : goal.returns
unfolding low_label
returns c = rw (c.to_bits.ensures, back c.ranges.word)
