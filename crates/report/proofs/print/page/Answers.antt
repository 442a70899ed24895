-- `report::print::page` meets its contract: the page and a space, one after the other.
-- Assumes nothing.
use Rattle.std.proofs.Common.{◌≤◌, length, arith}
use Rattle.word.specs.Text.{decimal}
use Rattle.word.proofs.Signed.{back}
use Rattle.program.proofs.Ranges.{page-digits}
use Rattle.report.specs.Lines.{space, page_text}
use Rattle.report.specs.Written.{Written}
use Rattle.report.proofs.Texts.{written-append, written-room}
use Rattle.report.proofs.print.page.Goals as goal
use Rattle.report.proofs.print.page.Goals.{After-signed_number-last}

short : (c : After-signed_number-last) → length (decimal c.args.n) ≤ 2
short c = page-digits c.args.n c.requires.1

first : (c : After-signed_number-last)
    → Written (decimal c.args.n) c.args.out.now c.args.at c.signed_number-last.result c.signed_number-last.new.out
first c = rw (back c.ranges.n) at c.signed_number-last.ensures

pub bytes-requires : goal.bytes-requires
bytes-requires c =
    let d = (goal.at.bytes-requires c).After-signed_number-last in
    written-room 2 1 (short d) (omega (arith, c.requires.0)) (first d)

pub returns : goal.returns
unfolding page_text
returns c =
    let d = (goal.at.returns c).After-signed_number-last in
    written-append (decimal c.args.n) space _ _ _ _ _ _ (omega (arith, c.requires.0, short d)) (first d) c.bytes.ensures
