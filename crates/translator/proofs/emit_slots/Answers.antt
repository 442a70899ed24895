-- `translator::emit_slots` meets its contract.
-- Assumes nothing.
use mathlib.Core.Path.{sym}
use Prim.Native.Nat.{◌+◌, ◌-◌, ◌^◌, ◌<◌}
use native.Mathlib.Omega.{arith}
use lib.ListN.{get_or}
use mir.Syntax.{w64}
use mir.Facts.{to_z_pos}
use Rattle.program.specs.Command.{opcode_of}
use Rattle.tables.proofs.RowKeys.{shape-rule}
use Rattle.handler.specs.Space.{kernel_words}
use Rattle.translator.proofs.Placing.{slotting-known, slotting-next, slotting-end}
use Rattle.translator.proofs.emit_slots.Goals as goal

pub returns-in_default : goal.returns-in_default
returns-in_default c =
    absurd (slotting-known _ _ _ _ c.loop-i.invariant c.loop-i-test.true (sym c.in_default.ensures))

pub loop-i-preserved : goal.loop-i-preserved
unfolding kernel_words
loop-i-preserved c =
    let reach = c.requires c.in-Some.shape.rule (shape-rule (opcode_of (c.loop-i.i + 1)) c.in-Some.shape (sym c.in-Some.ensures)) in
    let ahead : get_or c.args.starts.now c.in-Some.shape.rule 0 - (6 + c.loop-i.i) < 2 ^ 63 = omega (arith, reach.1) in
    slotting-next _ _ _ _ c.loop-i.invariant c.loop-i-test.true c.in-Some.shape (sym c.in-Some.ensures) _
    (rw (to_z_pos w64 ahead) at c.store.ensures) c.store.auto.space

pub returns : goal.returns
returns c = slotting-end _ _ _ _ c.loop-i.invariant c.loop-i-test.false
