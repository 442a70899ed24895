-- `program::is_counts` meets its contract, by the word as an index.
-- Assumes nothing.
use Rattle.std.proofs.Common.{arith, ◌≡◌}
use Rattle.std.proofs.lemmas.Grind.{common_steps}
use Rattle.word.specs.Number.{index_of}
use Rattle.word.proofs.Signed.{back}
use Rattle.program.proofs.Counting.{outside-counts, inside-counts}
use Rattle.program.proofs.is_counts.Goals as goal

pub returns : goal.returns
returns c =
    let told : c.below.result ≡ index_of c.args.word 256 = rw (back c.ranges.word) at c.below.ensures in
    grind (arith, common_steps, outside-counts c.args.word, inside-counts c.args.word)
