-- `word::field::bits` meets its contract. The loop's invariant: the number is that of the bytes from `i` on.
-- Assumes nothing.
use Rattle.std.proofs.Common.{◌≡◌, ◌-◌, length, arith, drop_of_length-le}
use Rattle.word.specs.Digits.{value_of}
use Rattle.word.proofs.Laws.Field.{value-down, value-room}
use Rattle.word.proofs.field.bits.Goals as goal

pub loop-i-init : goal.loop-i-init
unfolding value_of
loop-i-init c = let s = c.args.field.now in rw (drop_of_length-le s {i = length s} (omega arith))

pub overflow_mul-number : goal.overflow_mul-number
overflow_mul-number c =
    let room = value-room c.args.field.now c.loop-i.i c.loop-i.number (omega arith) (omega arith) c.loop-i.invariant c.requires (λ k. (c.type_inv.field k).fits) in
    record { fits = omega arith }

pub overflow_add-number : goal.overflow_add-number
overflow_add-number c =
    let room = value-room c.args.field.now c.loop-i.i c.loop-i.number (omega arith) (omega arith) c.loop-i.invariant c.requires (λ k. (c.type_inv.field k).fits) in
    let byte = (c.type_inv.field (c.loop-i.i - 1)).fits in
    record { fits = omega arith }

pub loop-i-preserved : goal.loop-i-preserved
loop-i-preserved c = value-down c.args.field.now c.loop-i.i c.loop-i.number (omega arith) (omega arith) c.loop-i.invariant

pub returns : goal.returns
returns c = let z : c.loop-i.i ≡ 0 = omega arith in rw z at c.loop-i.invariant
