-- `translator::emit_table` meets its contract.
-- Assumes nothing.
use native.Mathlib.Omega.{arith}
use Rattle.handler.specs.Space.{kernel_words}
use Rattle.translator.proofs.Placing.{placing-room, placing-next, placing-ahead, placing-count}
use Rattle.translator.proofs.Placing.{placing-written}
use Rattle.translator.proofs.emit_table.Goals as goal

pub emit_rule-mark-requires : goal.emit_rule-mark-requires
emit_rule-mark-requires c = omega (arith, placing-room _ _ _ _ _ _ c.loop-start.invariant)

pub loop-start-preserved : goal.loop-start-preserved
loop-start-preserved c =
    placing-next _ _ _ _ _ _ c.loop-start.invariant c.loop-start-test.true _ _ c.emit_rule-mark.ensures c.emit_rule-mark.auto.space

pub emit_slots-requires : goal.emit_slots-requires
emit_slots-requires c = placing-ahead _ _ _ _ _ _ c.loop-start.invariant c.loop-start-test.false

pub returns-clause-count : goal.returns-clause-count
returns-clause-count c = placing-count _ _ _ _ _ _ c.loop-start.invariant c.loop-start-test.false

pub returns-clause-written : goal.returns-clause-written
unfolding kernel_words
returns-clause-written c =
    placing-written _ _ _ _ _ _ c.loop-start.invariant c.loop-start-test.false _ _ c.store.ensures c.emit_slots.ensures
