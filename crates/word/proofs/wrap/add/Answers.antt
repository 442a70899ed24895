-- `word::wrap::add` meets its contract: the sum of two words, modulo 2^64, is that of their bits.
-- Assumes nothing.
use Rattle.word.proofs.Laws.Wrap.{add_wrap-signed}
use Rattle.word.proofs.Laws.Word.{signed-to_z, residue-of_z}
use Rattle.word.proofs.wrap.add.Goals as goal

pub returns : goal.returns
returns c =
    let r = c.ranges in
    rw (← signed-to_z _, ← residue-of_z c.args.a r.a.sfits, ← residue-of_z c.args.b r.b.sfits) (add_wrap-signed c.args.a c.args.b)
