-- `translator::emit_label` meets its contract: by the first byte.
-- Assumes nothing.
use Prim.Native.Nat.{◌-◌, ◌^◌, ◌<◌}
use native.Mathlib.Omega.{arith}
use mir.Syntax.{w64}
use mir.Facts.{to_z_pos}
use Rattle.handler.specs.Space.{kernel_words}
use Rattle.translator.specs.Emit.{label_code}
use Rattle.translator.proofs.Pieces.{label-deep, label-none, label-empty, label-word, label-join, pow-pred}
use Rattle.translator.proofs.Emitting.{emits-nothing, emits-zero, emits-read, emits-join, label-room}
use Rattle.translator.proofs.+emit_label.Goals as goal

pub returns-then-depth-eq0 : goal.returns-then-depth-eq0
returns-then-depth-eq0 t c =
    let a = c.args in
    emits-nothing _ a.mark _ (label-deep a.depth a.bytes.now a.mark.next c.if-depth-eq0.true)

pub returns-in_default : goal.returns-in_default
returns-in_default t c =
    let a = c.args in
    emits-nothing _ a.mark _
    (label-none a.depth a.bytes.now a.mark.next c.if-depth-eq0.false _ c.in_default.ensures)

pub emit_label-first-requires : goal.emit_label-first-requires
emit_label-first-requires t c =
    let e = pow-pred c.args.depth c.if-depth-eq0.false in
    (omega (arith, c.if-depth-eq0.false, c.decreases), omega (arith, e, c.requires))

pub emit_label-second-requires : goal.emit_label-second-requires
emit_label-second-requires t c =
    let e = pow-pred c.args.depth c.if-depth-eq0.false in
    (omega (arith, c.if-depth-eq0.false, c.decreases), omega (arith, e, c.requires, label-room _ _ _ c.emit_label-first.ensures))

pub emit-requires-in-Join : goal.emit-requires-in-Join
emit-requires-in-Join t c =
    let e = pow-pred c.args.depth c.if-depth-eq0.false in (
      omega (arith, e, c.requires, label-room _ _ _ c.emit_label-first.ensures, label-room _ _ _ c.emit_label-second.ensures),
      omega arith,
    )

pub returns-in-Empty : goal.returns-in-Empty
unfolding kernel_words
returns-in-Empty t c =
    let a = c.args in
    rw c.emit.ensures.behind
    (emits-zero _ c.in-Ok.next a.mark.position _ _
    (label-empty a.depth a.bytes.now a.mark.next c.if-depth-eq0.false _ _ c.in-Ok.ensures c.in-Empty.is) c.emit.ensures.stored)

pub returns-in-Word : goal.returns-in-Word
unfolding kernel_words
returns-in-Word t c =
    let a = c.args in
    let e = label-word a.depth a.bytes.now a.mark.next c.if-depth-eq0.false _ _ c.in-Ok.ensures _ c.in-Word.is in
    let few : c.in-Word.address < 2 ^ 63 = omega (arith, e.0) in
    rw c.emit-in-Word.ensures.behind
    (emits-read _ c.in-Word.address c.in-Ok.next a.mark.position _ _ e.1 (rw (to_z_pos w64 few) at c.emit-in-Word.ensures.stored))

pub returns-in-Join : goal.returns-in-Join
unfolding kernel_words
returns-in-Join t c =
    let a = c.args in
    rw (
      label-join a.depth a.bytes.now a.mark.next c.if-depth-eq0.false _ _ c.in-Ok.ensures c.in-Join.is,
      c.emit-in-Join.ensures.behind,
    )
    (emits-join (label_code (a.depth - 1) a.bytes.now) c.in-Ok.next a.mark.position _ _ _ c.emit_label-first.ensures
    _ _ c.emit_label-second.ensures _ c.emit-in-Join.ensures.stored)
