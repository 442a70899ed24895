-- `program::long_at` meets its contract: eight bytes are two times four. Assumes nothing.
use native.Mathlib.Omega.{arith}
use mathlib.Core.Path.{◌≡◌, ◌∙◌, sym}
use Prim.Native.Nat.{◌+◌, ◌<◌}
use lib.IntN.{pos}
use mir.Syntax.{w64}
use mir.Val.{to_z, of_z}
use Rattle.word.specs.Field.{bits_at}
use Rattle.word.proofs.Signed.{back-ok}
use Rattle.word.proofs.Laws.Word.{signed-to_z}
use Rattle.program.proofs.Fetching.{half-read, half-cut, long-whole, long-cut}
use Rattle.program.proofs.long_at.Goals as goal

pub returns-then-bytes-at-lt8 : goal.returns-then-bytes-at-lt8
returns-then-bytes-at-lt8 c = long-cut c.args.bytes.now c.args.at (omega (arith, c.if-bytes-at-lt8.true, c.requires))

pub returns-in_err-low : goal.returns-in_err-low
returns-in_err-low c = half-cut c.args.bytes.now c.args.at (omega (arith, c.if-bytes-at-lt8.false, c.requires)) (sym c.in_err-low.ensures)

pub returns-in_err-high : goal.returns-in_err-high
returns-in_err-high c =
    half-cut c.args.bytes.now (c.args.at + 4) (omega (arith, c.if-bytes-at-lt8.false, c.requires)) (sym c.in_err-high.ensures)

pub overflow_cast-low : goal.overflow_cast-low
overflow_cast-low c =
    let (e, h) = half-read c.args.bytes.now c.args.at (λ i. (c.type_inv.bytes i).fits) c.in_ok-low.field-0
    (omega (arith, c.if-bytes-at-lt8.false, c.requires)) (sym c.in_ok-low.ensures) in
    rw e (tt, omega (arith, h))

-- the two halves
module _ (c : goal.In_ok-high) where
  low : (to_z w64 (of_z w64 c.in_ok-low.field-0) ≡ pos (bits_at 4 c.args.bytes.now c.args.at))
      × (bits_at 4 c.args.bytes.now c.args.at < 4294967296)
  low =
      half-read c.args.bytes.now c.args.at (λ i. (c.type_inv.bytes i).fits) c.in_ok-low.field-0
      (omega (arith, c.if-bytes-at-lt8.false, c.requires)) (sym c.in_ok-low.ensures)

  high : (to_z w64 (of_z w64 c.in_ok-high.field-0) ≡ pos (bits_at 4 c.args.bytes.now (c.args.at + 4)))
      × (bits_at 4 c.args.bytes.now (c.args.at + 4) < 4294967296)
  high =
      half-read c.args.bytes.now (c.args.at + 4) (λ i. (c.type_inv.bytes i).fits) c.in_ok-high.field-0
      (omega (arith, c.if-bytes-at-lt8.false, c.requires)) (sym c.in_ok-high.ensures)

pub overflow_cast-high : goal.overflow_cast-high
overflow_cast-high c = rw (high c).0 (tt, omega (arith, (high c).1))

pub overflow_mul-high : goal.overflow_mul-high
overflow_mul-high c = rw (high c).0 (omega (arith, (high c).1))

pub overflow_add-low : goal.overflow_add-low
overflow_add-low c = rw ((low c).0, (high c).0) (omega (arith, (low c).1, (high c).1))

pub returns : goal.returns
returns c =
    let a = c.args in
    let left = c.if-bytes-at-lt8.false in
    let low = half-read a.bytes.now a.at (λ i. (c.type_inv.bytes i).fits) c.in_ok-low.field-0 (omega (arith, left, c.requires)) (sym c.in_ok-low.ensures) in
    let high = half-read a.bytes.now (a.at + 4) (λ i. (c.type_inv.bytes i).fits) c.in_ok-high.field-0 (omega (arith, left, c.requires)) (sym c.in_ok-high.ensures) in
    rw (back-ok c.cast_signed.result c.cast_signed.type_inv, c.cast_signed.ensures ∙ sym (signed-to_z _), low.0, high.0)
    (long-whole a.bytes.now a.at (omega (arith, left, c.requires)))
