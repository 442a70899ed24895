-- The instructions on words: each record that the code hands back stands for the instruction's effect.
-- Assumes nothing.
use Rattle.std.proofs.Common.{None, Some, Option, Err, slice_get}
use mathlib.Core.Path.{◌≡◌, refl, sym, ap, ap₂, ◌∙◌}
use mathlib.Core.Bool.{Bool, true, false, cond}
use mathlib.Core.List.{List, [], ◌∷◌}
use Prim.Native.Nat.{ℕ, zero, suc, ◌+◌, ◌-◌, ◌%◌, ◌^◌, ◌<◌, ◌≤◌}
use native.Mathlib.Nat.{mod-eq_of_lt}
use native.Mathlib.Omega.{arith}
use lib.IntN.{ℤ, pos, negsuc, ◌+ℤ◌}
use lib.ListN.{length, get_or, set}
use mir.Syntax.{w64}
use mir.Val.{SFits}
use lib.Dec.{ltb, eqb}
use borrow.Author.Tests.{lt-ltb, le-ltb, ltb-true, ltb-false, eqb-true, eqb-false}
use Rattle.word.specs.Number.{is_zero, index_if, index_of}
use Rattle.word.specs.Wrap.{residue, add_wrap, sub_wrap}
use Rattle.word.proofs.Bits.{index-found}
use Rattle.word.proofs.Bool.{never}
use Rattle.machine.specs.Step.{branch}
use Rattle.kernel.specs.declared.Outcome.TheVariants as End
use Rattle.kernel.specs.declared.Registers.{Registers}
use Rattle.handler.specs.Kernel.{Instruction, Add, Sub, Or, Load, Store, Dup, Swap, Jump, Ret, Push, Bnz}
use Rattle.handler.specs.Kernel.{Effect, ends, goes, failed, with_values, with_word, provided, pushing, jumping, effect, or_word}
use Rattle.handler.specs.Space.{code_of, known}
use Rattle.handler.proofs.Space.{unknown-code}
use Rattle.word.specs.Choose.{choose}
use Rattle.kernel.specs.Words.{topped, stack_of, registers, below, moved, Step, going, effect_of}
use Rattle.kernel.specs.Words.{DoesOn, Does, Acts, folding, combined, jumping_from}
use Rattle.kernel.proofs.Words.{lying-set, lying-topped, topped-at, topped-push, stack-length, below-stack}
use Rattle.kernel.proofs.Words.{value-one, value_none, values-two, values-none}

-- ════════════════════════════════════════════════════════════════════════════════════════════
-- Going on
-- ════════════════════════════════════════════════════════════════════════════════════════════

-- at the next place
going_next : (p d : ℕ) (top : ℤ) (w row t : List ℤ) → topped top d w ≡ t
    → effect_of (going (registers (p + 1) d top)) w row ≡ goes (suc p) t row
unfolding stack_of
going_next p d top w row t e =
    let q : p + 1 ≡ suc p = omega arith in
    ap₂ (λ (n : ℕ) (x : List ℤ). goes n x row) q e

-- ════════════════════════════════════════════════════════════════════════════════════════════
-- Add, Sub, Or
-- ════════════════════════════════════════════════════════════════════════════════════════════

folding-effect : (code place : ℕ) (s row : List ℤ)
    → effect (folding code) place s row ≡ with_values s (λ a b rest. goes (suc place) (combined code a b ∷ rest) row)
unfolding effect
folding-effect code place s row = by (eqb code (code_of Add)) (eqb code (code_of Sub))
  where
    by : (x y : Bool) → effect (choose x Add (choose y Sub Or)) place s row
        ≡ with_values s (λ a b rest. goes (suc place) (choose x (add_wrap a b) (choose y (sub_wrap a b) (or_word a b)) ∷ rest) row)
    by true y = refl
    by false true = refl
    by false false = refl

module _ (s : Registers) (w : List ℤ) where
  pub fold-none : (code : ℕ) (w' : List ℤ) → s.depth < 2 → Does (folding code) s w (Err End.Failed) w'
  unfolding Does DoesOn
  fold-none code w' h row = sym (folding-effect code s.place (stack_of s w) row ∙ values-none s w _ h)

  pub fold_done : (code : ℕ) → 2 ≤ s.depth
      → Does (folding code) s w (going (registers (s.place + 1) (s.depth - 1) (combined code s.top (get_or w (s.depth - 1) (pos 0))))) w
  unfolding Does DoesOn
  fold_done code h row =
      going_next s.place (s.depth - 1) _ w row _ (topped-at w _ (s.depth - 1) (s.depth - 2) (omega arith))
      ∙ sym (folding-effect code s.place (stack_of s w) row ∙ values-two s w _ h)

  -- ════════════════════════════════════════════════════════════════════════════════════════════
  -- Push, Dup, Swap
  -- ════════════════════════════════════════════════════════════════════════════════════════════

  pub push-full : (a : ℤ) (w' : List ℤ) → 64 ≤ s.depth → Does (Push a) s w (Err End.Failed) w'
  unfolding Does DoesOn effect
  push-full a w' h row = rw (stack-length s w, le-ltb s.depth 64 h)

  pub push-done : (a : ℤ) → s.depth < 64 → length w ≡ 64
      → Does (Push a) s w (going (registers (s.place + 1) (s.depth + 1) a)) (set w s.depth s.top)
  unfolding Does DoesOn effect stack_of
  push-done a h g row =
      rw (stack-length s w, lt-ltb s.depth 64 h)
      (going_next s.place (s.depth + 1) a _ row _ (topped-push w s.top a s.depth (omega arith)))

  pub dup-none : (w' : List ℤ) → s.depth < 1 → Does Dup s w (Err End.Failed) w'
  unfolding Does DoesOn effect
  dup-none w' h row = sym (value_none s w _ h)

  -- on one row, so that no other row is asked after
  pub dup-done-on : (r : Step) (row w' : List ℤ) → 1 ≤ s.depth → DoesOn row (Push s.top) s w r row w' → DoesOn row Dup s w r row w'
  unfolding DoesOn effect
  dup-done-on r row w' h k = k ∙ sym (value-one s w (λ a rest. pushing s.place a (stack_of s w) row) h)

  pub dup-done : (r : Step) (w' : List ℤ) → 1 ≤ s.depth → Does (Push s.top) s w r w' → Does Dup s w r w'
  unfolding Does
  dup-done r w' h k row = dup-done-on r row w' h (k row)

  pub swap-none : (w' : List ℤ) → s.depth < 2 → Does Swap s w (Err End.Failed) w'
  unfolding Does DoesOn effect
  swap-none w' h row = sym (values-none s w _ h)

  pub swap-done : 2 ≤ s.depth → s.depth ≤ 64 → length w ≡ 64
      → Does Swap s w (going (registers (s.place + 1) s.depth (get_or w (s.depth - 1) (pos 0)))) (set w (s.depth - 1) s.top)
  unfolding Does DoesOn effect
  swap-done h l g row =
      going_next s.place s.depth _ _ row _
      (topped-at (set w (s.depth - 1) s.top) _ s.depth (s.depth - 1) (omega arith)
      ∙ ap (λ (xs : List ℤ). get_or w (s.depth - 1) (pos 0) ∷ xs)
      (lying-set w (s.depth - 1) (s.depth - 2) s.top (omega arith) (omega arith)))
      ∙ sym (values-two s w _ h)

-- ════════════════════════════════════════════════════════════════════════════════════════════
-- Load and Store
-- ════════════════════════════════════════════════════════════════════════════════════════════

element-at : (row : List ℤ) (i : ℕ) → i < length row → slice_get row i ≡ Some (get_or row i (pos 0))
element-at [] i h = absurd (omega arith)
element-at (a ∷ row) zero h = refl
element-at (a ∷ row) (suc i) h = element-at row i (omega arith)

element-none : (row : List ℤ) (i : ℕ) → length row ≤ i → slice_get row i ≡ None
element-none [] i h = refl
element-none (a ∷ row) zero h = absurd (omega arith)
element-none (a ∷ row) (suc i) h = element-none row i (omega arith)

-- an address in the row, and one outside
word_in : (row : List ℤ) (z : ℤ) (i : ℕ) (k : ℕ → ℤ → Effect) → length row ≡ 7 → index_of z 7 ≡ Some i
    → with_word row z k ≡ k i (get_or row i (pos 0))
word_in row z i k h e = let q = index-found z 7 i e in rw (q.0, element-at row i (omega (arith, q.1)))

word_out : (row : List ℤ) (z : ℤ) (k : ℕ → ℤ → Effect) → length row ≡ 7 → index_of z 7 ≡ None → with_word row z k ≡ ends failed
unfolding index_of
word_out row (pos n) k h e = by (ltb n 7) refl e
  where
    by : (b : Bool) → ltb n 7 ≡ b → index_if b n ≡ None → with_word row (pos n) k ≡ ends failed
    by true t f = absurd (let x : ◌≡◌ {A = ℕ} 0 1 = cc in omega arith)
    by false t f = rw (element-none row n (omega (arith, ltb-false n 7 t)))
word_out row (negsuc n) k h e = refl

module _ (s : Registers) (w : List ℤ) where
  pub load-none : (row : List ℤ) → s.depth < 1 → DoesOn row Load s w (Err End.Failed) row w
  unfolding DoesOn effect
  load-none row h = sym (value_none s w _ h)

  pub load-out : (row : List ℤ) → 1 ≤ s.depth → length row ≡ 7 → index_of s.top 7 ≡ None
      → DoesOn row Load s w (Err End.Failed) row w
  unfolding DoesOn effect
  load-out row h e o = sym (value-one s w _ h ∙ word_out row _ _ e o)

  pub load-done : (row : List ℤ) (i : ℕ) → 1 ≤ s.depth → length row ≡ 7 → index_of s.top 7 ≡ Some i
      → DoesOn row Load s w (going (registers (s.place + 1) s.depth (get_or row i (pos 0)))) row w
  unfolding DoesOn effect
  load-done row i h e o =
      going_next s.place s.depth _ w row _ (topped-at w _ s.depth (s.depth - 1) (omega arith))
      ∙ sym (value-one s w _ h ∙ word_in row _ i _ e o)

  pub store-none : (row w' : List ℤ) → s.depth < 2 → DoesOn row Store s w (Err End.Failed) row w'
  unfolding DoesOn effect
  store-none row w' h = sym (values-none s w _ h)

  pub store_out : (row w' : List ℤ) → 2 ≤ s.depth → length row ≡ 7 → index_of s.top 7 ≡ None → DoesOn row Store s w (Err End.Failed) row w'
  unfolding DoesOn effect
  store_out row w' h e o = sym (values-two s w _ h ∙ word_out row _ _ e o)

  -- without the two topmost entries
  pub store-done : (row : List ℤ) (i : ℕ) → 2 ≤ s.depth → length row ≡ 7 → index_of s.top 7 ≡ Some i
      → DoesOn row Store s w (going (registers (s.place + 1) (s.depth - 2) (get_or w (s.depth - 2) (pos 0))))
      (set row i (get_or w (s.depth - 1) (pos 0))) w
  unfolding DoesOn effect
  store-done row i h e o =
      going_next s.place (s.depth - 2) _ w (set row i (get_or w (s.depth - 1) (pos 0))) _ (lying-topped w (s.depth - 2))
      ∙ sym (values-two s w _ h ∙ word_in row _ i _ e o)

-- ════════════════════════════════════════════════════════════════════════════════════════════
-- Jump and Bnz
-- ════════════════════════════════════════════════════════════════════════════════════════════

module _ (s : Registers) (w row : List ℤ) where
  -- where a test chooses between a place and failing
  if-goes : (b : Bool) (n : ℕ) → effect_of (choose b (going (moved s n)) (Err End.Failed)) w row ≡ provided b (goes n (stack_of s w) row)
  unfolding stack_of
  if-goes true n = refl
  if-goes false n = refl

  jump-effect : (base : ℕ) (z : ℤ) → base ≤ s.place
      → effect_of (jumping_from base z s) w row ≡ jumping s.place (pos base +ℤ z) (stack_of s w) row
  jump-effect base (pos n) h = if-goes (ltb s.place (base + n)) (base + n)
  jump-effect base (negsuc n) h = by (ltb base (suc n)) refl (eqb n base) refl
    where
      by : (b : Bool) → ltb base (suc n) ≡ b → (x : Bool) → eqb n base ≡ x
          → effect_of (choose x (Err End.Denied) (Err End.Failed)) w row
          ≡ jumping s.place (cond b (negsuc (suc n - suc base)) (pos (base - suc n))) (stack_of s w) row
      by true t true f = let q : suc n - suc base ≡ 0 = omega (arith, eqb-true n base f) in rw q
      by true t false f =
          let q : suc n - suc base ≡ suc (n - base - 1) = omega (arith, eqb-false n base f, ltb-true base (suc n) t) in
          rw q
      by false t true f = absurd (omega (arith, eqb-true n base f, ltb-false base (suc n) t))
      by false t false f = rw (le-ltb s.place (base - suc n) (omega (arith, h)))

from_zero : (z : ℤ) → pos 0 +ℤ z ≡ z
from_zero (pos n) = let e : 0 + n ≡ n = omega arith in ap pos e
from_zero (negsuc n) = let e : suc n - 1 ≡ n = omega arith in rw (lt-ltb 0 (suc n) (omega arith), e)

module _ (s : Registers) (w : List ℤ) where
  pub jump-none : (w' : List ℤ) → s.depth < 1 → Does Jump s w (Err End.Failed) w'
  unfolding Does DoesOn effect
  jump-none w' h row = sym (value_none s w _ h)

  pub jump-done : 1 ≤ s.depth → Does Jump s w (jumping_from 0 s.top (below s w)) w
  unfolding Does DoesOn effect
  jump-done h row =
      jump-effect (below s w) w row 0 s.top (omega arith) ∙ rw (from_zero s.top, below-stack s w) (sym (value-one s w _ h))

  module _ (z : ℤ) where
    pub bnz-none : (w' : List ℤ) → s.depth < 1 → Does (Bnz z) s w (Err End.Failed) w'
    unfolding Does DoesOn effect
    bnz-none w' h row = sym (value_none s w _ h)

    bnz-target : (target : ℤ) (r : Step) (row : List ℤ) → 1 ≤ s.depth → branch s.top (pos s.place) z ≡ target
        → effect_of r w row ≡ jumping s.place target (stack_of (below s w) w) row → DoesOn row (Bnz z) s w r row w
    unfolding DoesOn effect
    bnz-target target r row h t f =
        f ∙ rw (below-stack s w) (sym (value-one s w (λ b rest. jumping s.place (branch b (pos s.place) z) rest row) h ∙ rw t))

    pub bnz-zero : 1 ≤ s.depth → is_zero s.top ≡ true → Does (Bnz z) s w (going (moved (below s w) (s.place + 1))) w
    unfolding Does DoesOn stack_of
    bnz-zero h q row =
        bnz-target (pos (s.place + 1)) (going (moved (below s w) (s.place + 1))) row h (by s.top q)
        (refl ∙ rw (lt-ltb s.place (s.place + 1) (omega arith)))
      where
        by : (a : ℤ) → is_zero a ≡ true → branch a (pos s.place) z ≡ pos (s.place + 1)
        by (pos zero) f = refl
        by (pos (suc n)) f = never (cc)
        by (negsuc n) f = never (cc)

    pub bnz-taken : 1 ≤ s.depth → is_zero s.top ≡ false → Does (Bnz z) s w (jumping_from s.place z (below s w)) w
    unfolding Does DoesOn
    bnz-taken h q row =
        bnz-target (pos s.place +ℤ z) (jumping_from s.place z (below s w)) row h (by s.top q)
        (jump-effect (below s w) w row s.place z (omega arith))
      where
        by : (a : ℤ) → is_zero a ≡ false → branch a (pos s.place) z ≡ pos s.place +ℤ z
        by (pos zero) f = never (cc)
        by (pos (suc n)) f = refl
        by (negsuc n) f = refl

-- ════════════════════════════════════════════════════════════════════════════════════════════
-- The instruction that a code stands for
-- ════════════════════════════════════════════════════════════════════════════════════════════

-- past them all
pub past-known : (code : ℕ) (n : ℤ) → code_of Swap < code → code < 2 ^ 64 → known (pos code) n ≡ None
past-known code n h g = unknown-code (suc (code_of Swap)) (2 ^ 64) code n tt h g

-- a word's bits: those of a negative code are past all codes
pub residue-known : (code n : ℤ) → SFits w64 code → known (pos (residue 64 code)) n ≡ known code n
unfolding known residue
residue-known (pos code) n f =
    let h = f.sfits in
    let e : code % 2 ^ 64 ≡ code = mod-eq_of_lt (omega arith) in
    rw e
residue-known (negsuc code) n f =
    let h = f.sfits in
    let e : code % 2 ^ 64 ≡ code = mod-eq_of_lt (omega arith) in
    rw e (past-known (2 ^ 64 - suc code) n (omega arith) (omega arith))

module _ (row : List ℤ) (o : Option Instruction) (s : Registers) (w : List ℤ) where
  pub acts-on : (i : Instruction) (r : Step) (row' w' : List ℤ) → o ≡ Some i → DoesOn row i s w r row' w' → Acts row o s w r row' w'
  unfolding DoesOn Acts
  acts-on i r row' w' e h = rw e h

  pub acts : (i : Instruction) (r : Step) (w' : List ℤ) → o ≡ Some i → Does i s w r w' → Acts row o s w r row w'
  unfolding Does DoesOn Acts
  acts i r w' e h = rw e (h row)

  pub acts_none : (w' : List ℤ) → o ≡ None → Acts row o s w (Err End.Failed) row w'
  unfolding Acts
  acts_none w' e = rw e

  pub acts_ret : (w' : List ℤ) → o ≡ Some Ret → Acts row o s w (Err End.Returned) row w'
  unfolding Acts effect
  acts_ret w' e = rw e

-- where a code is or is not: Add and Sub, below them all, and between them
pub fold-known : (code : ℕ) (n : ℤ) → code_of Add ≤ code → code ≤ code_of Sub → known (pos code) n ≡ Some (folding code)
unfolding known
fold-known zero n h g = absurd (omega arith)
fold-known (suc zero) n h g = refl
fold-known (suc (suc zero)) n h g = refl
fold-known (suc (suc (suc code))) n h g = absurd (omega arith)

pub below-known : (code : ℕ) (n : ℤ) → code < code_of Add → known (pos code) n ≡ None
below-known code n h = unknown-code 0 (code_of Add) code n tt (omega arith) h

pub after-sub-known : (code : ℕ) (n : ℤ) → code_of Sub < code → code < code_of (Push n) → known (pos code) n ≡ None
after-sub-known code n h g = unknown-code (suc (code_of Sub)) (code_of (Push n)) code n tt h g

pub after-bnz-known : (code : ℕ) (n : ℤ) → code_of (Bnz n) < code → code < code_of Or → (code ≡ code_of Ret → ⊥) → known (pos code) n ≡ None
after-bnz-known code n h g f = by (ltb code (code_of Ret)) refl
  where
    by : (b : Bool) → ltb code (code_of Ret) ≡ b → known (pos code) n ≡ None
    by true e = unknown-code (suc (code_of (Bnz n))) (code_of Ret) code n tt h (ltb-true code (code_of Ret) e)
    by false e = let k = ltb-false code (code_of Ret) e in unknown-code (suc (code_of Ret)) (code_of Or) code n tt (omega arith) g
