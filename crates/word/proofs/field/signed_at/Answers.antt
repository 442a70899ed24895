-- `word::field::signed_at` meets its contract: the field's bits, where it is whole, are read in two's complement.
-- Assumes nothing.
use Rattle.std.proofs.Common.{◌≡◌, sym, ap, ◌∙◌, arith}
use Rattle.word.specs.Digits.{value_of}
use Rattle.word.specs.Field.{bits_at}
use Rattle.word.proofs.Signed.{back-ok}
use Rattle.word.proofs.Laws.Field.{bits_at-lt, signed_at-whole, signed_at-cut}
use Rattle.word.proofs.field.signed_at.Goals as goal

pub returns-in_err-field : goal.returns-in_err-field
returns-in_err-field g c =
    let a = c.args in
    rw c.from_residual.ensures (sym (signed_at-cut g.W.Width.BYTES a.s.now a.at (rw c.BYTES.ensures at c.in_err-field.ensures)))

pub complement-requires : goal.complement-requires
unfolding bits_at
complement-requires g c =
    let a = c.args in
    let width = g.W.Width.in_a_word in
    let k = c.BYTES.result in
    let same : c.BYTES-2.result ≡ k = omega arith in
    let there = c.in_ok-field.ensures in
    let small = bits_at-lt k a.s.now a.at there.0 (λ i. (c.type_inv.s i).fits) in
    rw same (omega arith, omega arith, rw (c.bits.ensures, there.1) small)

pub returns : goal.returns
unfolding bits_at
returns g c =
    let a = c.args in
    let k = g.W.Width.BYTES in
    let there = rw c.BYTES.ensures at c.in_ok-field.ensures in
    let bits : c.bits.result ≡ bits_at k a.s.now a.at = c.bits.ensures ∙ ap (value_of 256) there.1 in
    rw (back-ok c.complement.result c.complement.type_inv, c.complement.ensures, bits, c.BYTES-2.ensures)
    (sym (signed_at-whole k a.s.now a.at there.0))
