-- `tables::check_table`: what is left to read gives the whole table's answer.
use Rattle.tables.proofs.TableReading.{Checking}
use Rattle.tables.proofs.check_table.Given as goal

abbrev pub invariant-loop-i : goal.invariant-loop-i
invariant-loop-i l = Checking l.bytes l.i l.at
