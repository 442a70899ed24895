-- `assembly::listing::put_letters` meets its contract.
-- Assumes nothing.
use mathlib.Core.Path.{◌∙◌}
use borrow.Author.Rules.{rules}
use Rattle.assembly.proofs.Keeping.{name-written, name-stored}
use Rattle.assembly.proofs.listing.put_letters.Goals as goal

pub loop-i-preserved : goal.loop-i-preserved
loop-i-preserved c =
    name-stored c.loop-i.i c.loop-i.rest c.args.at c.loop-i.out (search rules) (search rules) ∙ c.loop-i.invariant

pub returns : goal.returns
returns c = name-written c.loop-i.i c.loop-i.rest c.args.at c.loop-i.out (search rules) ∙ c.loop-i.invariant
