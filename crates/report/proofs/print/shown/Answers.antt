-- `report::print::shown` meets its contract: the test of the label decides.
-- Assumes nothing.
use Rattle.std.proofs.Common.{◌∙◌, sym}
use Rattle.report.proofs.Printing.{written_hidden}
use Rattle.report.proofs.print.shown.Goals as goal

pub returns-else-flows-clause-text : goal.returns-else-flows-clause-text
returns-else-flows-clause-text c = written_hidden _ _ _ _ (sym c.flows.ensures ∙ c.if-flows.false)
