-- `word::part::put_bytes` meets its contract: the test of the room decides.
-- Assumes nothing.
use Rattle.std.proofs.Common.{refl}
use Rattle.word.proofs.Clauses.{both}
use Rattle.word.proofs.Laws.Text.{put-part, put-short}
use Rattle.word.proofs.part.put_bytes.Goals as goal

pub returns-in_err-next : goal.returns-in_err-next
returns-in_err-next c =
    let a = c.args in
    rw c.from_residual.ensures (both (put-short a.at _ a.bytes.now a.out.now refl c.in_err-next.ensures))

pub returns : goal.returns
returns c =
    let a = c.args in
    rw c.copy_from_slice.ensures.after (both (put-part a.at _ _ a.bytes.now a.out.now refl c.in_ok-next.ensures))
