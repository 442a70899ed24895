-- The kernel on words: the stack that lies in a run of words, and the effects of instructions on it.
-- Assumes nothing.
use mathlib.Core.Path.{◌≡◌, refl, ap, ap₂, ◌∙◌}
use mathlib.Core.List.{List, ◌∷◌}
use Prim.Native.Nat.{ℕ, zero, suc, ◌+◌, ◌-◌, ◌<◌, ◌≤◌}
use native.Mathlib.Omega.{arith}
use lib.IntN.{ℤ, pos}
use lib.ListN.{length, get_or, set}
use lib.Seq.{get_or-set_same, get_or-set_other}
use Rattle.handler.specs.Kernel.{Effect, ends, failed, with_value, with_values}
use Rattle.kernel.specs.declared.Registers.{Registers}
use Rattle.kernel.specs.Words.{lying, topped, stack_of, below}

-- ════════════════════════════════════════════════════════════════════════════════════════════
-- Entries that lie in words
-- ════════════════════════════════════════════════════════════════════════════════════════════

module _ (w : List ℤ) where
  lying-length : (n : ℕ) → length (lying w n) ≡ n
  unfolding lying
  lying-length zero = refl
  lying-length (suc n) = ap suc (lying-length n)

  -- what lies above them does not count
  lying-above : (n i : ℕ) (a : ℤ) → n < i → lying (set w i a) n ≡ lying w n
  unfolding lying
  lying-above zero i a h = refl
  lying-above (suc n) i a h =
      ap₂ (λ (x : ℤ) (xs : List ℤ). x ∷ xs) (get_or-set_other w i (suc n) a (pos 0) (λ e. omega arith)) (lying-above n i a (omega arith))

  -- one more, on e others
  pub lying-set : (d e : ℕ) (a : ℤ) → d < length w → d ≡ e + 1 → lying (set w d a) d ≡ a ∷ lying w e
  unfolding lying
  lying-set zero e a h q = absurd (omega arith)
  lying-set (suc d) e a h q =
      let f : d ≡ e = omega arith in
      ap₂ (λ (x : ℤ) (xs : List ℤ). x ∷ xs) (get_or-set_same w (suc d) a (pos 0) (omega arith))
      (lying-above d (suc d) a (omega arith) ∙ ap (lying w) f)

  -- the topmost of them in a register
  pub lying-topped : (n : ℕ) → topped (get_or w n (pos 0)) n w ≡ lying w n
  unfolding lying
  lying-topped zero = refl
  lying-topped (suc n) = refl

  pub topped-at : (top : ℤ) (d e : ℕ) → d ≡ e + 1 → topped top d w ≡ top ∷ lying w e
  topped-at top zero e q = absurd (omega arith)
  topped-at top (suc d) e q = let f : d ≡ e = omega arith in rw f

  -- that one put to the others, and another in the register
  pub topped-push : (top a : ℤ) (d : ℕ) → d < length w → topped a (d + 1) (set w d top) ≡ a ∷ topped top d w
  unfolding lying
  topped-push top a zero h = refl
  topped-push top a (suc d) h =
      let e : suc d + 1 ≡ suc (suc d) = omega arith in
      rw e (ap (λ (xs : List ℤ). a ∷ xs) (lying-set (suc d) d top h (omega arith)))

-- ════════════════════════════════════════════════════════════════════════════════════════════
-- The stack, by its registers
-- ════════════════════════════════════════════════════════════════════════════════════════════

module _ (s : Registers) (w : List ℤ) where
  pub stack-length : length (stack_of s w) ≡ s.depth
  unfolding stack_of
  stack-length = by s.depth
    where
      by : (d : ℕ) → length (topped s.top d w) ≡ d
      by zero = refl
      by (suc d) = ap suc (lying-length w d)

  pub below-stack : stack_of (below s w) w ≡ lying w (s.depth - 1)
  unfolding stack_of
  below-stack = lying-topped w (s.depth - 1)

  -- the top, and the two topmost
  pub value-one : (k : ℤ → List ℤ → Effect) → 1 ≤ s.depth → with_value (stack_of s w) k ≡ k s.top (lying w (s.depth - 1))
  unfolding stack_of
  value-one k h = rw (topped-at w s.top s.depth (s.depth - 1) (omega arith))

  pub value_none : (k : ℤ → List ℤ → Effect) → s.depth < 1 → with_value (stack_of s w) k ≡ ends failed
  unfolding stack_of
  value_none k h = let e : s.depth ≡ 0 = omega arith in rw e

  pub values-two : (k : ℤ → ℤ → List ℤ → Effect) → 2 ≤ s.depth
      → with_values (stack_of s w) k ≡ k s.top (get_or w (s.depth - 1) (pos 0)) (lying w (s.depth - 2))
  unfolding stack_of lying
  values-two k h =
      let e : s.depth ≡ suc (suc (s.depth - 2)) = omega arith in
      let f : s.depth - 1 ≡ suc (s.depth - 2) = omega arith in
      by s.depth (s.depth - 2) e f
    where
      by : (d n : ℕ) → d ≡ suc (suc n) → s.depth - 1 ≡ suc n
          → with_values (topped s.top d w) k ≡ k s.top (get_or w (s.depth - 1) (pos 0)) (lying w n)
      by d n e f = rw (e, f)

  pub values-none : (k : ℤ → ℤ → List ℤ → Effect) → s.depth < 2 → with_values (stack_of s w) k ≡ ends failed
  unfolding stack_of lying
  values-none k h = by s.depth h
    where
      by : (d : ℕ) → d < 2 → with_values (topped s.top d w) k ≡ ends failed
      by zero h = refl
      by (suc zero) h = refl
      by (suc (suc d)) h = absurd (omega arith)
