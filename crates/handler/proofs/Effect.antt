-- What every instruction keeps, and every run of every handler on any row: it goes forward, stays within the stack's limit, leaves the
-- row as long as it was, and takes no more steps than it was given.
-- Assumes nothing.
use Rattle.std.proofs.Common.{None, Option, Some, slice_get}
use mathlib.Core.Path.{◌≡◌, refl, ap, ◌∙◌}
use mathlib.Core.Bool.{Bool, true, false}
use mathlib.Core.List.{List, [], ◌∷◌}
use Prim.Native.Nat.{ℕ, zero, suc, ◌+◌, ◌<◌, ◌≤◌}
use native.Mathlib.Omega.{arith}
use lib.IntN.{ℤ, pos, negsuc}
use lib.ListN.{length, length-set}
use lib.Dec.{ltb}
use borrow.Author.Tests.{ltb-true}
use Rattle.machine.specs.Step.{branch}
use Rattle.handler.specs.Kernel.{Instruction, Add, Sub, Or, Load, Store, Dup, Swap, Jump, Ret, Push, Bnz}
use Rattle.handler.specs.Kernel.{Outcome, returned, denied, failed, Effect, ends, goes, Code, Kernel, Result, stack_limit}
use Rattle.handler.specs.Kernel.{with_value, with_values, with_element, with_word, provided, pushing, jumping}
use Rattle.handler.specs.Kernel.{effect, effect_at, step, after, run, handle, start}
use Rattle.handler.specs.Space.{held, handle_space}
use Rattle.handler.specs.Claim.{Way, here, next}

-- ════════════════════════════════════════════════════════════════════════════════════════════
-- What every effect keeps
-- ════════════════════════════════════════════════════════════════════════════════════════════

-- it goes forward, stays within the stack's limit, and leaves the row as long as it was
pub record Kept (place : ℕ) (s w : List ℤ) (p : ℕ) (t v : List ℤ) : Type 0 where
  pub forward : place < p
  pub depth : length s ≤ stack_limit → length t ≤ stack_limit
  pub words : length v ≡ length w

abbrev pub Keeps : ℕ → List ℤ → List ℤ → Effect → Type 0
Keeps place s w (ends o) = Unit
Keeps place s w (goes p t v) = Kept place s w p t v

module _ (place : ℕ) (w : List ℤ) where
  provided-keeps : (s : List ℤ) (b : Bool) (e : Effect) → (b ≡ true → Keeps place s w e) → Keeps place s w (provided b e)
  provided-keeps s true e h = h refl
  provided-keeps s false e h = tt

  word_keeps : (s : List ℤ) (z : ℤ) (k : ℕ → ℤ → Effect) → ((i : ℕ) (a : ℤ) → Keeps place s w (k i a)) → Keeps place s w (with_word w z k)
  word_keeps s (pos i) k h = element (slice_get w i)
    where
      element : (o : Option ℤ) → Keeps place s w (with_element o (k i))
      element None = tt
      element (Some a) = h i a
  word_keeps s (negsuc i) k h = tt

  value_keeps : (s : List ℤ) (k : ℤ → List ℤ → Effect)
      → ((a : ℤ) (t : List ℤ) → s ≡ a ∷ t → Keeps place s w (k a t)) → Keeps place s w (with_value s k)
  value_keeps [] k h = tt
  value_keeps (a ∷ t) k h = h a t refl

  values-keeps : (s : List ℤ) (k : ℤ → ℤ → List ℤ → Effect)
      → ((a b : ℤ) (t : List ℤ) → s ≡ a ∷ b ∷ t → Keeps place s w (k a b t)) → Keeps place s w (with_values s k)
  values-keeps [] k h = tt
  values-keeps (a ∷ []) k h = tt
  values-keeps (a ∷ b ∷ t) k h = h a b t refl

  pushing-keeps : (s : List ℤ) (a : ℤ) → Keeps place s w (pushing place a s w)
  pushing-keeps s a =
      provided-keeps s (ltb (length s) stack_limit) (goes (suc place) (a ∷ s) w)
      (λ e. record { forward = omega arith; depth = λ h. ltb-true (length s) stack_limit e; words = refl })

  jumping-keeps : (s t : List ℤ) (z : ℤ) → length t ≤ length s → Keeps place s w (jumping place z t w)
  jumping-keeps s t (pos target) h =
      provided-keeps s (ltb place target) (goes target t w)
      (λ e. record { forward = ltb-true place target e; depth = λ g. omega arith; words = refl })
  jumping-keeps s t (negsuc zero) h = tt
  jumping-keeps s t (negsuc (suc n)) h = tt

  -- a smaller stack at the next place
  next-keeps : (s t : List ℤ) → length t ≤ length s → Keeps place s w (goes (suc place) t w)
  next-keeps s t h = record { forward = omega arith; depth = λ g. omega arith; words = refl }

  pub effect-keeps : (i : Instruction) (s : List ℤ) → Keeps place s w (effect i place s w)
  unfolding effect
  effect-keeps Add s = values-keeps s _ (λ a b t e. next-keeps s _ (omega (arith, ap length e)))
  effect-keeps Sub s = values-keeps s _ (λ a b t e. next-keeps s _ (omega (arith, ap length e)))
  effect-keeps Or s = values-keeps s _ (λ a b t e. next-keeps s _ (omega (arith, ap length e)))
  effect-keeps Load s = value_keeps s _ (λ a t e. word_keeps s a _ (λ i b. next-keeps s _ (omega (arith, ap length e))))
  effect-keeps Store s =
      values-keeps s _ (λ a b t e. word_keeps s a _ (λ i c.
      record { forward = omega arith; depth = λ g. omega (arith, ap length e); words = length-set w i b }))
  effect-keeps Dup s = value_keeps s _ (λ a t e. pushing-keeps s a)
  effect-keeps Swap s = values-keeps s _ (λ a b t e. next-keeps s _ (omega (arith, ap length e)))
  effect-keeps Jump s = value_keeps s _ (λ a t e. jumping-keeps s t a (omega (arith, ap length e)))
  effect-keeps Ret s = tt
  effect-keeps (Push n) s = pushing-keeps s n
  effect-keeps (Bnz n) s = value_keeps s _ (λ a t e. jumping-keeps s t (branch a (pos place) n) (omega (arith, ap length e)))

-- ════════════════════════════════════════════════════════════════════════════════════════════
-- And every run
-- ════════════════════════════════════════════════════════════════════════════════════════════

element-keeps : (o : Option Instruction) (x : Kernel) → Keeps x.place x.stack x.row (effect_at o x)
element-keeps None x = tt
element-keeps (Some i) x = effect-keeps x.place x.row i x.stack

module _ (code : Code) where
  step_keeps : (x : Kernel) → Keeps x.place x.stack x.row (step code x)
  unfolding step
  step_keeps x = element-keeps (code x.place) x

  pub step_kept : (x : Kernel) {p : ℕ} {s w : List ℤ} → step code x ≡ goes p s w → Kept x.place x.stack x.row p s w
  step_kept x e = rw e at (step_keeps x)

  -- what a run leaves of steps and row
  record Left (fuel : ℕ) (x : Kernel) (r : Result) : Type 0 where
    steps : r.steps ≤ x.steps + fuel
    words : length r.row ≡ length x.row

  run-left : (fuel : ℕ) (x : Kernel) → Left fuel x (run code fuel x)
  unfolding run
  run-left zero x = record { steps = omega arith; words = refl }
  run-left (suc fuel) x = by (step code x) (step_keeps x) (λ y. run-left fuel y)
    where
      by : (e : Effect) → Keeps x.place x.stack x.row e → ((y : Kernel) → Left fuel y (run code fuel y))
          → Left (suc fuel) x (after e x (λ y. run code fuel y))
      by (ends returned) k h = record { steps = omega arith; words = refl }
      by (ends denied) k h = record { steps = omega arith; words = refl }
      by (ends failed) k h = record { steps = omega arith; words = refl }
      by (goes p s w) k h =
          let l = h (record { place = p; stack = s; row = w; steps = suc x.steps }) in
          record { steps = omega (arith, l.steps); words = l.words ∙ k.words }

pub handle-steps : (code : List Instruction) (w : List ℤ) → (handle code w).steps ≤ length code
unfolding handle
handle-steps code w = omega (arith, (run-left (slice_get code) (length code) (start w)).steps)

-- the same of a handler that a space holds
pub handle_space-steps : (space : List ℤ) (count : ℕ) (w : List ℤ) → (handle_space space count w).steps ≤ count
unfolding handle_space
handle_space-steps space count w = omega (arith, (run-left (held space count) count (start w)).steps)

pub handle-words : (code : List Instruction) (w : List ℤ) → length (handle code w).row ≡ length w
unfolding handle
handle-words code w = (run-left (slice_get code) (length code) (start w)).words

-- ════════════════════════════════════════════════════════════════════════════════════════════
-- A run that does not fail
-- ════════════════════════════════════════════════════════════════════════════════════════════

abbrev pub Finished : Outcome → Type 0
Finished returned = Unit
Finished denied = Unit
Finished failed = ⊥

module _ (code : Code) where
  -- it is a way to the instruction that ends it
  pub record Leads (x : Kernel) (r : Result) : Type 0 where
    pub last : Kernel
    pub way : Way code x last
    pub ending : step code last ≡ ends r.outcome
    pub left : r.row ≡ last.row
    pub counted : r.steps ≡ suc last.steps

  pub run-leads : (fuel : ℕ) (x : Kernel) → length x.stack ≤ stack_limit → Finished (run code fuel x).outcome
      → Leads x (run code fuel x)
  unfolding run
  run-leads zero x h f = absurd f
  run-leads (suc fuel) x h f = by (step code x) refl f (λ y. run-leads fuel y)
    where
      by : (e : Effect) → step code x ≡ e → Finished (after e x (λ y. run code fuel y)).outcome
          → ((y : Kernel) → length y.stack ≤ stack_limit → Finished (run code fuel y).outcome → Leads y (run code fuel y))
          → Leads x (after e x (λ y. run code fuel y))
      by (ends returned) is f on = record { last = x; way = here; ending = is; left = refl; counted = refl }
      by (ends denied) is f on = record { last = x; way = here; ending = is; left = refl; counted = refl }
      by (ends failed) is f on = absurd f
      by (goes p s w) is f on =
          let kept = step_kept code x is in
          let few = kept.depth h in
          let l = on (record { place = p; stack = s; row = w; steps = suc x.steps }) few f in
          record {
            last = l.last;
            way = next is kept.forward (omega (arith, few)) l.way;
            ending = l.ending;
            left = l.left;
            counted = l.counted;
          }

pub handle-leads : (code : List Instruction) (w : List ℤ) → Finished (handle code w).outcome
    → Leads (slice_get code) (start w) (handle code w)
unfolding handle
handle-leads code w f = run-leads (slice_get code) (length code) (start w) (omega arith) f
