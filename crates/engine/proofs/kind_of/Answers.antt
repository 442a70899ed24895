-- `engine::kind_of` meets its contract.
-- Assumes nothing.
use Rattle.word.proofs.Signed.{zero_is, zero-not}
use Rattle.engine.proofs.kind_of.Goals as goal

pub returns-then-word-eq0 : goal.returns-then-word-eq0
returns-then-word-eq0 c = rw (zero_is c.args.word c.ranges.word c.if-word-eq0.true)

pub returns-else-word-eq0 : goal.returns-else-word-eq0
returns-else-word-eq0 c = rw (zero-not c.args.word c.ranges.word c.if-word-eq0.false)
