-- `translator::store`: what is left to store, after what was, makes the whole.
use Rattle.translator.proofs.Putting.{Storing}
use Rattle.translator.proofs.store.Given as goal

abbrev pub invariant-loop-i : goal.invariant-loop-i
invariant-loop-i l = Storing l.position l.words l.initial.space l.i l.space
