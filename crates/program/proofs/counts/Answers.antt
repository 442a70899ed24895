-- `program::counts` meets its contract, by the two counts as indices.
-- Assumes nothing.
use Rattle.std.proofs.Common.{Some}
use Prim.Native.Nat.{◌+◌, ◌*◌, ◌<◌}
use native.Mathlib.Omega.{arith}
use mathlib.Core.Path.{◌≡◌, sym, ◌∙◌}
use mir.Syntax.{w64}
use mir.Facts.{to_z_pos}
use Rattle.word.specs.Number.{index_of}
use Rattle.word.proofs.Signed.{back}
use Rattle.program.proofs.Counting.{arguments-outside, results-outside, inside-small, inside-word}
use Rattle.program.proofs.counts.Goals as goal

-- both are in range
module _ (c : goal.In-Some-Some) where
  first : index_of c.args.arguments 16 ≡ Some c.in-Some-Some.a
  first = sym (rw (back c.ranges.arguments) at c.in-Some-Some.ensures)

  second : index_of c.args.results 2 ≡ Some c.in-Some-Some.d
  second = sym (rw (back c.ranges.results) at c.in-Some-Some.ensures')

  small : (c.in-Some-Some.a < 16) × (c.in-Some-Some.d < 2)
  small = inside-small c.args.arguments c.args.results _ _ first second

pub overflow_mul-result : goal.overflow_mul-result
overflow_mul-result c = omega (arith, small c)

pub overflow_add-result : goal.overflow_add-result
overflow_add-result c = omega (arith, small c)

pub overflow_cast-result : goal.overflow_cast-result
overflow_cast-result c = omega (arith, small c)

pub returns-in_default : goal.returns-in_default
returns-in_default c = results-outside c.args.arguments c.args.results (sym (rw (back c.ranges.results) at c.in_default.ensures'))

pub returns-in_default-2 : goal.returns-in_default-2
returns-in_default-2 c =
    arguments-outside c.args.arguments c.args.results (sym (rw (back c.ranges.arguments) at c.below.ensures) ∙ c.in_default.is-0)

pub returns-in-Some-Some : goal.returns-in-Some-Some
returns-in-Some-Some c =
    rw (to_z_pos w64 {n = 16 * c.in-Some-Some.a + c.in-Some-Some.d} (omega (arith, small c)))
    (inside-word c.args.arguments c.args.results _ _ (first c) (second c))
