-- Rows of the rule memory: the test of a word for the mark, and the comparison with seven zeros.
-- Assumes nothing.
use Rattle.std.proofs.Common.{int_eq, rules}
use mathlib.Core.Path.{◌≡◌, refl}
use mathlib.Core.List.{List, [], ◌∷◌}
use Prim.Native.Nat.{zero, suc}
use native.Mathlib.Omega.{arith}
use lib.IntN.{ℤ, pos, negsuc}
use lib.Dec.{eqb}
use lib.ListN.{length, replicate}
use lib.Pointwise.{pointwise}
use borrow.Author.Tests.{ne_eqb}
use mir.Syntax.{w64}
use mir.Val.{SFits, of_z}
use Rattle.word.specs.Number.{is_zero}
use Rattle.policy.specs.Row.{is_mark, empty_row}

-- ════════════════════════════════════════════════════════════════════════════════════════════
-- Words
-- ════════════════════════════════════════════════════════════════════════════════════════════

pub mark-test : (z : ℤ) → SFits w64 z → eqb (of_z w64 z) 18446744073709551615 ≡ is_mark z
mark-test (pos n) f = ne_eqb n 18446744073709551615 (λ e. let h = f.sfits in omega arith)
mark-test (negsuc zero) f = refl
mark-test (negsuc (suc n)) f = ne_eqb (of_z w64 (negsuc (suc n))) 18446744073709551615 (λ e. let h = f.sfits in omega arith)

-- ════════════════════════════════════════════════════════════════════════════════════════════
-- The empty row
-- ════════════════════════════════════════════════════════════════════════════════════════════

zero-equal : (w : ℤ) → int_eq w (pos 0) ≡ is_zero w
zero-equal (pos zero) = refl
zero-equal (pos (suc n)) = search rules
zero-equal (negsuc n) = refl

-- it equals as many zeros
zeros-empty : (ws : List ℤ) → pointwise int_eq ws (replicate (length ws) (pos 0)) ≡ empty_row ws
zeros-empty [] = refl
zeros-empty (w ∷ ws) = rw (zero-equal w, zeros-empty ws)

-- seven of them
pub zeros_empty : (ws : List ℤ) → length ws ≡ 7 → pointwise int_eq ws (replicate 7 (pos 0)) ≡ empty_row ws
zeros_empty ws h = rw h at (zeros-empty ws)
