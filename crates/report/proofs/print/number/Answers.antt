-- `report::print::number` meets its contract: there is room for the 20 digits that a number has at most.
-- Assumes nothing.
use Rattle.report.proofs.Texts.{written_natural}
use Rattle.report.proofs.print.number.Goals as goal

pub returns : goal.returns
returns c =
    let said = c.put_natural.ensures in
    written_natural _ _ _ _ _ _ c.requires said.answer said.written c.unwrap_or.ensures
