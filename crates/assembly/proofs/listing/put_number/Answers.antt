-- `assembly::listing::put_number` meets its contract.
-- Assumes nothing.
use Rattle.word.proofs.Signed.{back}
use Rattle.assembly.proofs.Laying.{number-written}
use Rattle.assembly.proofs.listing.put_number.Goals as goal

pub returns : goal.returns
returns c =
    let all = number-written c.args.number c.args.at c.args.out.now c.requires in
    let same = back c.ranges.number in
    record {
      answer = rw (c.unwrap_or.ensures, c.put_decimal.ensures.answer, same, all.0);
      written = rw (c.put_decimal.ensures.written, same) all.1;
    }
