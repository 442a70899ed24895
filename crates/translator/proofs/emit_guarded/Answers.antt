-- `translator::emit_guarded` meets its contract.
-- Assumes nothing.
use Prim.Native.Nat.{◌-◌, ◌^◌, ◌<◌}
use native.Mathlib.Omega.{arith}
use mir.Syntax.{w64}
use mir.Facts.{to_z_pos}
use Rattle.policy.specs.Read.{depth_limit}
use Rattle.translator.specs.Emit.{condition_code, answer_code, guarded_code}
use Rattle.handler.specs.Space.{kernel_words}
use Rattle.translator.proofs.Emitting.{emits-guarded, condition-room, answer-room}
use Rattle.translator.proofs.emit_guarded.Goals as goal

pub after-requires : goal.after-requires
after-requires c = (omega (arith, c.requires, condition-room _ _ _ c.emit_condition-condition.ensures), omega arith)

pub emit_answer-answer-requires : goal.emit_answer-answer-requires
emit_answer-answer-requires c =
    rw c.after.ensures (omega (arith, c.requires, condition-room _ _ _ c.emit_condition-condition.ensures))

pub overflow_cast-over : goal.overflow_cast-over
overflow_cast-over c =
    let f = rw c.after.ensures at c.emit_answer-answer.ensures in
    record { sfits = omega (arith, c.requires, condition-room _ _ _ c.emit_condition-condition.ensures, answer-room _ _ f) }

pub emit-requires : goal.emit-requires
emit-requires c = (omega (arith, c.requires, condition-room _ _ _ c.emit_condition-condition.ensures), omega arith)

pub emit-requires-2 : goal.emit-requires-2
emit-requires-2 c =
    let f = rw c.after.ensures at c.emit_answer-answer.ensures in
    (omega (arith, c.requires, condition-room _ _ _ c.emit_condition-condition.ensures, answer-room _ _ f), omega arith)

pub returns : goal.returns
unfolding guarded_code kernel_words
returns c =
    let a = c.args in
    let f = rw c.after.ensures at c.emit_answer-answer.ensures in
    let over : c.emit_answer-answer.result.position - c.emit_condition-condition.result.position < 2 ^ 63
    = omega (arith, c.requires, condition-room _ _ _ c.emit_condition-condition.ensures, answer-room _ _ f) in
    rw c.emit-2.ensures.behind
    (emits-guarded (condition_code depth_limit a.bytes.now a.mark.next) (answer_code a.bytes.now) a.mark.position
    _ _ _ c.emit_condition-condition.ensures _ _ f
    _ (rw (to_z_pos w64 over) at c.emit.ensures.stored) _ c.emit-2.ensures.stored)
