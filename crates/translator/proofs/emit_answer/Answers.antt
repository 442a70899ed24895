-- `translator::emit_answer` meets its contract.
-- Assumes nothing.
use native.Mathlib.Omega.{arith}
use Rattle.policy.specs.Read.{depth_limit}
use Rattle.translator.specs.Emit.{label_code, answer_code}
use Rattle.handler.specs.Space.{kernel_words}
use Rattle.translator.proofs.Emitting.{emits-answer, label-room}
use Rattle.translator.proofs.emit_answer.Goals as goal

pub emit_label-result-requires : goal.emit_label-result-requires
emit_label-result-requires c = omega (arith, c.requires, label-room _ _ _ c.emit_label-place.ensures)

pub emit-requires : goal.emit-requires
emit-requires c =
    (omega (arith, c.requires, label-room _ _ _ c.emit_label-place.ensures, label-room _ _ _ c.emit_label-result.ensures), omega arith)

pub returns : goal.returns
unfolding answer_code kernel_words
returns c =
    let a = c.args in
    rw c.emit.ensures.behind
    (emits-answer (label_code depth_limit a.bytes.now) a.mark.next a.mark.position _ _ _ c.emit_label-place.ensures _ _
    c.emit_label-result.ensures _ c.emit.ensures.stored)
