-- `assembly::listing::fits` meets its contract: a text is at most as long as the longest line of every command.
-- Assumes nothing.
use mathlib.Core.Path.{sym}
use native.Mathlib.Omega.{arith}
use borrow.Author.Tests.{le-leb}
use Rattle.assembly.proofs.Telling.{counted-few, counted-most}
use Rattle.assembly.proofs.listing.fits.Goals as goal

pub overflow_mul-count : goal.overflow_mul-count
overflow_mul-count c = omega (arith, counted-few c.args.sheet.now c.args.count c.requires (λ i. (c.type_inv.sheet i).fits))

pub returns-then-count-room : goal.returns-then-count-room
returns-then-count-room c =
    let most = counted-most c.args.sheet.now c.args.count c.requires (λ i. (c.type_inv.sheet i).fits) in
    rw (le-leb _ _ c.if-count-room.true) (sym (le-leb _ c.args.room (omega (arith, most))))
