-- `word::number::below` meets its contract: the bits of a negative word lie above each bound.
-- Assumes nothing.
use Rattle.std.proofs.Common.{arith}
use Rattle.word.proofs.Bits.{bits_index, bits_outside}
use Rattle.word.proofs.number.below.Goals as goal

pub returns-then-index-min : goal.returns-then-index-min
returns-then-index-min c = bits_index c.args.word c.args.bound _ c.ranges.word c.to_bits-index.ensures (omega arith)

pub returns-else-index-min : goal.returns-else-index-min
returns-else-index-min c = bits_outside c.args.word c.args.bound _ c.ranges.word c.to_bits-index.ensures (omega arith)
