-- `report::print::signed_number` meets its contract: there is room for the 20 bytes that a word has at most.
-- Assumes nothing.
use Rattle.word.proofs.Signed.{back}
use Rattle.report.proofs.Texts.{written_decimal}
use Rattle.report.proofs.print.signed_number.Goals as goal

pub returns : goal.returns
returns c =
    let said = rw (back c.ranges.n) at c.put_decimal.ensures in
    written_decimal _ _ _ _ _ _ c.ranges.n c.requires said.answer said.written c.unwrap_or.ensures
