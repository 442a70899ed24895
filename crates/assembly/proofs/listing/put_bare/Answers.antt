-- `assembly::listing::put_bare` meets its contract: the name and the newline, one after the other.
-- Assumes nothing.
use Rattle.assembly.proofs.Laying.{bare-written}
use Rattle.assembly.proofs.listing.put_bare.Goals as goal

pub returns-clause-written : goal.returns-clause-written
returns-clause-written c =
    bare-written _ c.requires.0 c.args.at _ c.args.out.now _ c.name_of-name.ensures c.put_short.ensures c.requires.1
