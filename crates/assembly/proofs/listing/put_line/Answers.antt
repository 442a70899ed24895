-- `assembly::listing::put_line` meets its contract: the name, the operand and the newline, one after the other.
-- Assumes nothing.
use Rattle.word.proofs.Signed.{back}
use Rattle.assembly.proofs.Laying.{line-written}
use Rattle.assembly.proofs.listing.put_line.Goals as goal

pub returns-clause-written : goal.returns-clause-written
returns-clause-written c =
    let put = rw (back c.ranges.operand) at c.put_operand-end.ensures in
    line-written _ c.args.operand c.args.at _ _ c.args.out.now _ _ c.name_of-name.ensures c.put_name.ensures put.answer put.written c.requires
