-- `assembly::listing::operand_length` meets its contract.
-- Assumes nothing.
use native.Mathlib.Omega.{arith}
use borrow.Author.Rules.{rules}
use Rattle.std.proofs.Common.{SFits, w64}
use Rattle.word.proofs.Signed.{back}
use Rattle.assembly.proofs.Laying.{number-few}
use Rattle.assembly.proofs.listing.operand_length.Goals as goal

pub overflow_add-result : goal.overflow_add-result
overflow_add-result c =
    let a : SFits w64 c.in-Two.a = search rules in
    let d : SFits w64 c.in-Two.d = search rules in
    omega (
      arith,
      rw (back a) at c.number_length-in-Two.ensures,
      rw (back d) at c.number_length-in-Two-2.ensures,
      number-few c.in-Two.a a.sfits,
      number-few c.in-Two.d d.sfits,
    )
