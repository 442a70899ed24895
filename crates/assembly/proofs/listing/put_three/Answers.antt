-- `assembly::listing::put_three` meets its contract: three stores.
-- Assumes nothing.
use Rattle.assembly.proofs.Keeping.{three-written}
use Rattle.assembly.proofs.listing.put_three.Goals as goal

pub returns : goal.returns
returns c = three-written c.args.word c.args.at c.args.out.now c.requires
