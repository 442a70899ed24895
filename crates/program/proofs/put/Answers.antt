-- `program::put` meets its contract: by the shape, the code is followed by eight bytes, by two, by one or by none, if there is room.
-- Assumes nothing.
use native.Mathlib.Omega.{arith}
use Rattle.std.proofs.Common.{rules}
use mathlib.Core.Path.{refl, sym}
use mathlib.Core.List.{[]}
use Rattle.word.proofs.Clauses.{both}
use Rattle.word.proofs.Signed.{back, back-ok}
use Rattle.word.proofs.Laws.Text.{put-none}
use Rattle.program.proofs.Encoding.{put-nothing}
use Rattle.program.proofs.Fetching.{shaped, unshaped, code-byte}
use Rattle.program.proofs.Putting.{puts-none, puts-field, puts-bare}
use Rattle.program.proofs.put.Goals as goal
use Rattle.program.proofs.put.Goals.{then-out-at-2-via-then-out-at-2, then-out-at-2-via-else-out-at-2+then-out-at-3}

pub returns-then-out-at : goal.returns-then-out-at
returns-then-out-at c =
    let put = put-none c.args.at 0 [] c.args.out.now refl (search rules) in
    rw (unshaped c.args.code (sym c.in_default.ensures)) (record { answer = sym put.0; written = sym put.1 })

pub returns-else-out-at : goal.returns-else-out-at
returns-else-out-at c =
    rw (unshaped c.args.code (sym c.in_default.ensures)) (both (put-nothing c.args.at c.args.out.now c.if-out-at.false))

pub returns-then-out-at-2 : goal.returns-then-out-at-2
returns-then-out-at-2 c =
    puts-none c.args.code _ c.in-Some.ensures c.args.operand _ (rw (back c.ranges.operand) at c.field_of-field.ensures) _
    c.width_of-width.ensures c.args.at c.args.out.now
    (elim c.then-out-at-2.branch [
      | then-out-at-2-via-then-out-at-2 w ↦ omega (arith, w.if-out-at-2.true)
      | then-out-at-2-via-else-out-at-2+then-out-at-3 w ↦ omega (arith, w.if-out-at-2.false, w.if-out-at-3.true)
    ])

pub overflow_cast-out : goal.overflow_cast-out
overflow_cast-out c = omega (arith, code-byte c.args.code _ (shaped c.args.code _ (sym c.in-Some.ensures)) c.args.operand)

pub returns-in-8 : goal.returns-in-8
returns-in-8 c =
    puts-field c.args.code _ c.in-Some.ensures c.args.operand _ (rw (back c.ranges.operand) at c.field_of-field.ensures) _
    c.width_of-width.ensures c.args.at c.args.out.now
    (omega (arith, c.if-out-at-2.false, c.if-out-at-3.false)) 8 c.in-8.is
    (rw (back-ok c.field_of-field.result c.field_of-field.type_inv) at c.put.ensures)

pub returns-in-2 : goal.returns-in-2
returns-in-2 c =
    puts-field c.args.code _ c.in-Some.ensures c.args.operand _ (rw (back c.ranges.operand) at c.field_of-field.ensures) _
    c.width_of-width.ensures c.args.at c.args.out.now
    (omega (arith, c.if-out-at-2.false, c.if-out-at-3.false)) 2 c.in-2.is
    (rw (back-ok c.field_of-field.result c.field_of-field.type_inv) at c.put-in-2.ensures)

pub returns-in-1 : goal.returns-in-1
returns-in-1 c =
    puts-field c.args.code _ c.in-Some.ensures c.args.operand _ (rw (back c.ranges.operand) at c.field_of-field.ensures) _
    c.width_of-width.ensures c.args.at c.args.out.now
    (omega (arith, c.if-out-at-2.false, c.if-out-at-3.false)) 1 c.in-1.is
    (rw (back-ok c.field_of-field.result c.field_of-field.type_inv) at c.put-in-1.ensures)

pub returns-in_default-width : goal.returns-in_default-width
returns-in_default-width c =
    puts-bare c.args.code _ c.in-Some.ensures c.args.operand _ (rw (back c.ranges.operand) at c.field_of-field.ensures) _
    c.width_of-width.ensures c.args.at c.args.out.now
    c.if-out-at-2.false (λ e. omega (arith, c.in_default-width)) (λ e. omega (arith, c.in_default-width)) (λ e. omega (arith, c.in_default-width))
