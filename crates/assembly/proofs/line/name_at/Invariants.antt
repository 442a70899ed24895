-- `assembly::line::name_at` meets its contract. The loop's invariant: what is left of the name, after what is read, gives the whole. The
-- measure is what is left of the text. Assumes nothing.
use Rattle.assembly.proofs.Keeping.{Reads}
use Rattle.assembly.proofs.line.name_at.Given as goal

abbrev pub invariant-loop-i : goal.invariant-loop-i
invariant-loop-i l = Reads l.text l.at l.word l.i
