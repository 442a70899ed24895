-- `tables::rule_of`: what is left to read are the table's other rules.
use Rattle.tables.proofs.Asking.{Passing}
use Rattle.tables.proofs.rule_of.Given as goal

abbrev pub invariant-loop-i : goal.invariant-loop-i
invariant-loop-i l = Passing l.bytes l.number l.i l.at
