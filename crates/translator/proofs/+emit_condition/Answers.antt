-- `translator::emit_condition` meets its contract: by the first byte.
-- Assumes nothing.
use Prim.Native.Nat.{◌-◌, ◌^◌, ◌<◌}
use native.Mathlib.Omega.{arith}
use mir.Syntax.{w64}
use mir.Facts.{to_z_pos}
use Rattle.handler.specs.Space.{kernel_words}
use Rattle.translator.specs.Emit.{condition_code}
use Rattle.translator.proofs.Pieces.{condition-deep, condition-none, condition-true, condition-flows, condition-both, condition-either, pow-pred, pow_pos}
use Rattle.translator.proofs.Emitting.{emits-nothing, emits-zero, emits-join, emits-either, condition-room}
use Rattle.translator.proofs.+emit_condition.Goals as goal

pub returns-then-depth-eq0 : goal.returns-then-depth-eq0
returns-then-depth-eq0 t c =
    let a = c.args in
    emits-nothing _ a.mark _ (condition-deep a.depth a.bytes.now a.mark.next c.if-depth-eq0.true)

pub returns-in_default : goal.returns-in_default
returns-in_default t c =
    let a = c.args in
    emits-nothing _ a.mark _
    (condition-none a.depth a.bytes.now a.mark.next c.if-depth-eq0.false _ c.in_default.ensures)

pub returns-in-True : goal.returns-in-True
unfolding kernel_words
returns-in-True t c =
    let a = c.args in
    rw c.emit.ensures.behind
    (emits-zero _ c.in-Ok.next a.mark.position _ _
    (condition-true a.depth a.bytes.now a.mark.next c.if-depth-eq0.false _ _ c.in-Ok.ensures c.in-True.is)
    c.emit.ensures.stored)

pub returns-in-Flows : goal.returns-in-Flows
returns-in-Flows t c =
    let a = c.args in
    rw (condition-flows a.depth a.bytes.now a.mark.next c.if-depth-eq0.false _ _ c.in-Ok.ensures c.in-Flows.is) c.emit_flows.ensures

pub emit_flows-requires : goal.emit_flows-requires
emit_flows-requires t c =
    omega (arith, pow-pred c.args.depth c.if-depth-eq0.false, pow_pos (c.args.depth - 1), c.requires)

-- both
pub emit_condition-first-requires : goal.emit_condition-first-requires
emit_condition-first-requires t c =
    let e = pow-pred c.args.depth c.if-depth-eq0.false in
    (omega (arith, c.if-depth-eq0.false, c.decreases), omega (arith, e, c.requires))

pub emit_condition-second-requires : goal.emit_condition-second-requires
emit_condition-second-requires t c =
    let e = pow-pred c.args.depth c.if-depth-eq0.false in
    (omega (arith, c.if-depth-eq0.false, c.decreases), omega (arith, e, c.requires, condition-room _ _ _ c.emit_condition-first.ensures))

pub emit-requires-in-And : goal.emit-requires-in-And
emit-requires-in-And t c =
    let e = pow-pred c.args.depth c.if-depth-eq0.false in (
      omega (arith, e, c.requires, condition-room _ _ _ c.emit_condition-first.ensures, condition-room _ _ _ c.emit_condition-second.ensures),
      omega arith,
    )

pub returns-in-And : goal.returns-in-And
unfolding kernel_words
returns-in-And t c =
    let a = c.args in
    rw (
      condition-both a.depth a.bytes.now a.mark.next c.if-depth-eq0.false _ _ c.in-Ok.ensures c.in-And.is,
      c.emit-in-And.ensures.behind,
    )
    (emits-join (condition_code (a.depth - 1) a.bytes.now) c.in-Ok.next a.mark.position _ _ _ c.emit_condition-first.ensures
    _ _ c.emit_condition-second.ensures _ c.emit-in-And.ensures.stored)

-- either: the second four places behind the first
pub emit_condition-first-requires-in-Or : goal.emit_condition-first-requires-in-Or
emit_condition-first-requires-in-Or t c =
    let e = pow-pred c.args.depth c.if-depth-eq0.false in
    (omega (arith, c.if-depth-eq0.false, c.decreases), omega (arith, e, c.requires))

pub after-requires : goal.after-requires
after-requires t c =
    let e = pow-pred c.args.depth c.if-depth-eq0.false in
    (omega (arith, e, c.requires, condition-room _ _ _ c.emit_condition-first-in-Or.ensures), omega arith)

pub emit_condition-second-requires-in-Or : goal.emit_condition-second-requires-in-Or
emit_condition-second-requires-in-Or t c =
    let e = pow-pred c.args.depth c.if-depth-eq0.false in (
      omega (arith, c.if-depth-eq0.false, c.decreases),
      rw c.after.ensures (omega (arith, e, c.requires, condition-room _ _ _ c.emit_condition-first-in-Or.ensures)),
    )

pub overflow_cast-over : goal.overflow_cast-over
overflow_cast-over t c =
    let e = pow-pred c.args.depth c.if-depth-eq0.false in
    let f = rw c.after.ensures at c.emit_condition-second-in-Or.ensures in
    record {
      sfits =
          omega (arith, e, c.requires, condition-room _ _ _ c.emit_condition-first-in-Or.ensures, condition-room _ _ _ f);
    }

pub emit-requires-in-Or : goal.emit-requires-in-Or
emit-requires-in-Or t c =
    let e = pow-pred c.args.depth c.if-depth-eq0.false in
    (omega (arith, e, c.requires, condition-room _ _ _ c.emit_condition-first-in-Or.ensures), omega arith)

pub returns-in-Or : goal.returns-in-Or
unfolding kernel_words
returns-in-Or t c =
    let a = c.args in
    let e = pow-pred a.depth c.if-depth-eq0.false in
    let f = rw c.after.ensures at c.emit_condition-second-in-Or.ensures in
    let over : c.emit_condition-second-in-Or.result.position - c.emit_condition-first-in-Or.result.position - 3 < 2 ^ 63
    = omega (arith, e, c.requires, condition-room _ _ _ c.emit_condition-first-in-Or.ensures, condition-room _ _ _ f) in
    rw (condition-either a.depth a.bytes.now a.mark.next c.if-depth-eq0.false _ _ c.in-Ok.ensures c.in-Or.is)
    (emits-either (condition_code (a.depth - 1) a.bytes.now) c.in-Ok.next a.mark.position _ _ _ c.emit_condition-first-in-Or.ensures
    _ _ f _ (rw (to_z_pos w64 over) at c.emit-in-Or.ensures.stored))
