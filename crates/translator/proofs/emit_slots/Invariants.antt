-- `translator::emit_slots`: storing the slots that are left makes all.
use Rattle.translator.proofs.Placing.{Slotting}
use Rattle.translator.proofs.emit_slots.Given as goal

abbrev pub invariant-loop-i : goal.invariant-loop-i
invariant-loop-i l = Slotting l.starts l.initial.space l.i l.space
