-- `word::wrap::sub` meets its contract: the difference of two words, modulo 2^64, is that of their bits.
-- Assumes nothing.
use Rattle.std.proofs.Common.{◌≡◌, ◌+◌, ◌-◌, ◌%◌, ◌^◌, arith}
use Rattle.word.specs.Wrap.{residue}
use Rattle.word.proofs.Laws.Wrap.{sub_wrap-signed, residue-lt}
use Rattle.word.proofs.Laws.Word.{signed-to_z, residue-of_z}
use Rattle.word.proofs.wrap.sub.Goals as goal

pub returns : goal.returns
returns c =
    let a = c.args in
    let x = residue 64 a.a in
    let y = residue 64 a.b in
    let r = (x + (2 ^ 64 - y)) % 2 ^ 64 in
    let e : (r + y) % 2 ^ 64 ≡ x = omega (arith, residue-lt 64 a.a, residue-lt 64 a.b) in
    rw (← signed-to_z _, ← residue-of_z a.a c.ranges.a.sfits, ← residue-of_z a.b c.ranges.b.sfits)
    (sub_wrap-signed a.a a.b r (omega arith) e)
