-- The topmost entries of a stack, one after the other: whether they are values.
-- Assumes nothing.
use mathlib.Core.Path.{◌≡◌, refl}
use mathlib.Core.Bool.{Bool, true, false}
use mathlib.Core.List.{List}
use Prim.Native.Nat.{ℕ, suc, ◌<◌}
use native.Mathlib.Omega.{arith}
use lib.IntN.{ℤ}
use Rattle.word.specs.Choose.{choose}
use Rattle.stack.specs.Words.{slot_at}
use Rattle.step.specs.Find.{is_value, top_values}

module _ (stack : List ℤ) (depth n : ℕ) where
  pub value_there : is_value (slot_at stack depth n) ≡ true → top_values stack depth (suc n) ≡ top_values stack depth n
  unfolding top_values
  value_there e = rw e

  pub value_missing : is_value (slot_at stack depth n) ≡ false → top_values stack depth (suc n) ≡ false
  unfolding top_values
  value_missing e = rw e

  -- the top alone
  pub only_top : n < 1 → top_values stack depth (suc n) ≡ is_value (slot_at stack depth 0)
  unfolding top_values
  only_top h = let e : n ≡ 0 = omega arith in rw e (by (is_value (slot_at stack depth 0)))
    where
      by : (b : Bool) → choose b true false ≡ b
      by true = refl
      by false = refl
