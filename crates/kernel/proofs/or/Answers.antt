-- `kernel::or` meets its contract.
-- Assumes nothing.
use Rattle.std.proofs.Common.{rules}
use Rattle.word.proofs.Laws.Word.{signed-to_z, residue-of_z}
use Rattle.handler.specs.Kernel.{or_word}
use Rattle.kernel.proofs.or.Goals as goal

pub returns : goal.returns
unfolding or_word
returns c = search (rules, signed-to_z, residue-of_z)
