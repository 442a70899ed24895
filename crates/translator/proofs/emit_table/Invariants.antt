-- `translator::emit_table`: storing the bodies that are left makes all, and so for where they start.
use Rattle.translator.proofs.Placing.{Placing}
use Rattle.translator.proofs.emit_table.Given as goal

abbrev pub invariant-loop-start : goal.invariant-loop-start
invariant-loop-start l = Placing l.bytes l.initial.space l.start-index l.mark l.start-items l.space
