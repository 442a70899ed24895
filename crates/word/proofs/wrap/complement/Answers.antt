-- `word::wrap::complement` meets its contract: the upper half of the bits stand for the negative numbers.
-- Assumes nothing.
use Rattle.std.proofs.Common.{rules}
use Rattle.word.proofs.Laws.Word.{upper-signed}
use Rattle.word.proofs.wrap.complement.Goals as goal

pub returns-else-bits-half : goal.returns-else-bits-half
returns-else-bits-half c =
    let a = c.args in
    upper-signed a.width a.bits (search rules) (search rules) (search rules) c.if-bits-half.false
