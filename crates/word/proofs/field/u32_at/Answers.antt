-- `word::field::u32_at` meets its contract: the field's bits, where it is whole, fit the lower half of a word.
-- Assumes nothing.
use Rattle.std.proofs.Common.{◌≡◌, sym, ap, ◌∙◌, arith, w64}
use mir.Facts.{to_z_pos}
use Rattle.word.specs.Digits.{value_of}
use Rattle.word.specs.Field.{bits_at}
use Rattle.word.proofs.Laws.Field.{bits_at-half, unsigned_at-whole, unsigned_at-cut}
use Rattle.word.proofs.field.u32_at.Goals as goal

pub returns-in_err-field : goal.returns-in_err-field
returns-in_err-field c =
    rw c.from_residual.ensures (sym (unsigned_at-cut 4 c.args.s.now c.args.at c.in_err-field.ensures))

pub overflow_cast-result : goal.overflow_cast-result
unfolding bits_at
overflow_cast-result c =
    let there = c.in_ok-field.ensures in
    let small = bits_at-half 4 c.args.s.now c.args.at (omega arith) there.0 (λ i. (c.type_inv.s i).fits) in
    record { sfits = rw (c.bits.ensures, there.1) small }

pub returns : goal.returns
unfolding bits_at
returns c =
    let a = c.args in
    let there = c.in_ok-field.ensures in
    let small = bits_at-half 4 a.s.now a.at (omega arith) there.0 (λ i. (c.type_inv.s i).fits) in
    let bits : c.bits.result ≡ bits_at 4 a.s.now a.at = c.bits.ensures ∙ ap (value_of 256) there.1 in
    rw (bits, to_z_pos w64 small) (sym (unsigned_at-whole 4 a.s.now a.at there.0))
