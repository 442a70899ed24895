-- `word::wrap::to_bits` meets its contract.
-- Assumes nothing.
use Rattle.std.proofs.Common.{sym, ◌∙◌}
use Rattle.word.proofs.Signed.{back}
use Rattle.word.proofs.Laws.Word.{residue-of_z}
use Rattle.word.proofs.wrap.to_bits.Goals as goal

pub returns : goal.returns
returns c = rw (back c.ranges.word) at c.cast_unsigned.ensures ∙ sym (residue-of_z c.args.word c.ranges.word.sfits)
