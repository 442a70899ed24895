-- `assembly::listing::number_length` meets its contract.
-- Assumes nothing.
use native.Mathlib.Omega.{arith}
use Rattle.word.proofs.Signed.{back}
use Rattle.word.proofs.Laws.Decimal.{decimal-length}
use Rattle.assembly.proofs.listing.number_length.Goals as goal

pub overflow_add-result : goal.overflow_add-result
overflow_add-result c = omega (arith, rw (back c.ranges.number) at c.decimal_length.ensures, decimal-length c.args.number c.ranges.number.sfits)
