-- `word::field::put` meets its contract: the lowest bytes of the word.
-- Assumes nothing.
use Rattle.std.proofs.Common.{◌≡◌, take, w64, of_z, ap, ◌∙◌}
use Rattle.std.specs.Int.{to_le_bytes}
use Rattle.word.specs.Field.{bytes_of}
use Rattle.word.proofs.Signed.{back}
use Rattle.word.proofs.Laws.Field.{le_bytes}
use Rattle.word.proofs.field.put.Goals as goal

pub returns : goal.returns
returns g c =
    let z = c.args.number in
    let k = g.W.Width.BYTES in
    let all : c.to_le_bytes.result ≡ to_le_bytes w64 (of_z w64 z) = rw (back c.ranges.number) at c.to_le_bytes.ensures in
    let bytes : take c.BYTES.result c.to_le_bytes.result ≡ bytes_of k z = ap (take c.BYTES.result) all ∙ ap (λ n. take n (to_le_bytes w64 (of_z w64 z))) c.BYTES.ensures ∙ le_bytes k z g.W.Width.in_a_word.1 c.ranges.number.sfits in
    rw bytes at c.put_bytes.ensures
