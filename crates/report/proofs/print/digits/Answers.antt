-- `report::print::digits` meets its contract: there is room for eight digits.
-- Assumes nothing.
use Rattle.report.proofs.Texts.{written_hexadecimal}
use Rattle.report.proofs.print.digits.Goals as goal

pub returns : goal.returns
returns c =
    let said = c.put_hex.ensures in
    written_hexadecimal _ _ _ _ _ _ c.requires said.answer said.written c.unwrap_or.ensures
