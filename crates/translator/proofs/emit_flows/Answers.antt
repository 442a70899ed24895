-- `translator::emit_flows` meets its contract.
-- Assumes nothing.
use mathlib.Core.Path.{ap}
use native.Mathlib.Omega.{arith}
use Rattle.translator.specs.declared.Mark.{Mark}
use Rattle.translator.specs.Emit.{label_code}
use Rattle.handler.specs.Space.{kernel_words}
use Rattle.translator.proofs.Emitting.{emits-flows, label-room}
use Rattle.translator.proofs.emit_flows.Goals as goal

pub emit-behind-requires : goal.emit-behind-requires
emit-behind-requires c = (omega (arith, c.requires, label-room _ _ _ c.emit_label-target.ensures), omega arith)

pub emit_label-source-requires : goal.emit_label-source-requires
emit_label-source-requires c =
    rw c.emit-behind.ensures.behind (omega (arith, c.requires, label-room _ _ _ c.emit_label-target.ensures))

pub emit-end-requires : goal.emit-end-requires
emit-end-requires c =
    let e = ap (λ (m : Mark). m.position) c.emit-behind.ensures.behind in (
      omega (arith, e, c.requires, label-room _ _ _ c.emit_label-target.ensures, label-room _ _ _ c.emit_label-source.ensures),
      omega arith,
    )

pub returns : goal.returns
unfolding kernel_words
returns c =
    let a = c.args in
    rw c.emit-end.ensures.behind
    (emits-flows (label_code a.depth a.bytes.now) a.mark.next a.mark.position _ _ c.skip_label.ensures
    _ _ c.emit_label-target.ensures _ c.emit-behind.ensures.stored
    _ _ (rw c.emit-behind.ensures.behind at c.emit_label-source.ensures) _ c.emit-end.ensures.stored)
