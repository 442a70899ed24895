-- `report::print::lines` meets its contract. The loop's invariant: what is left to print, laid from where it stands, gives the whole.
-- The measure is the number of lines that are left. Assumes nothing.
use Rattle.engine.specs.Runs.{read_in}
use Rattle.engine.specs.Layout.{lines_of}
use Rattle.report.proofs.Printing.{Printing}
use Rattle.report.proofs.print.lines.Given as goal

abbrev pub invariant-loop-i : goal.invariant-loop-i
invariant-loop-i l = Printing l.reader.0 (lines_of l.written (read_in l.fn.space)) l.initial.out l.out l.at l.i
