-- The meaning of a handler by recursion on the instructions that remain: a forward jump drops a prefix of them. A run with enough fuel
-- has this meaning.
-- Assumes nothing.
use Rattle.std.proofs.Common.{None, Some, slice_get}
use mathlib.Core.Path.{◌≡◌, refl, ap, ◌∙◌}
use mathlib.Core.List.{List, [], ◌∷◌}
use Prim.Native.Nat.{ℕ, zero, suc, ◌+◌, ◌-◌, ◌≤◌}
use native.Mathlib.Omega.{arith}
use lib.IntN.{ℤ}
use lib.ListN.{length, drop, length-drop, drop_of_length-le}
use lib.Seq.{drop-drop}
use Rattle.handler.specs.Kernel.{Instruction}
use Rattle.handler.specs.Kernel.{Outcome, returned, denied, failed, Effect, ends, goes, Kernel, Result}
use Rattle.handler.specs.Kernel.{effect, step, after, ended, run}
use Rattle.handler.proofs.Effect.{Keeps, effect-keeps}

-- how a handler ends, without the number of steps
pub record Ending : Type 0 where
  pub outcome : Outcome
  pub row : List ℤ

abbrev pub ending : Outcome → List ℤ → Ending
ending o w = record { outcome = o; row = w }

abbrev pub ending_of : Result → Ending
ending_of r = ending r.outcome r.row

abbrev pub resume : Effect → List ℤ → (ℕ → List ℤ → List ℤ → Ending) → Ending
resume (ends o) w k = ending o w
resume (goes p s v) w k = k p s v

-- of a handler with n instructions those that remain, of which the first `skip` are passed over
unfoldable pub exec : ℕ → List Instruction → ℕ → List ℤ → List ℤ → Ending
exec n [] skip s w = ending failed w
exec n (i ∷ rest) (suc skip) s w = exec n rest skip s w
exec n (i ∷ rest) zero s w =
    let place = n - suc (length rest) in
    resume (effect i place s w) w (λ p t v. exec n rest (p - suc place) t v)

pub exec-skip : (n : ℕ) (code : List Instruction) (skip : ℕ) (s w : List ℤ) → exec n code skip s w ≡ exec n (drop skip code) 0 s w
unfolding exec
exec-skip n code zero s w = refl
exec-skip n [] (suc skip) s w = refl
exec-skip n (i ∷ code) (suc skip) s w = exec-skip n code skip s w

-- ════════════════════════════════════════════════════════════════════════════════════════════
-- A run has this meaning
-- ════════════════════════════════════════════════════════════════════════════════════════════

abbrev pub state : ℕ → List ℤ → List ℤ → ℕ → Kernel
state p s w k = record { place = p; stack = s; row = w; steps = k }

element-none : {A : Type 0} (l : List A) (p : ℕ) → drop p l ≡ [] → slice_get l p ≡ None
element-none [] p e = refl
element-none (a ∷ l) zero e = let z : ◌≡◌ {A = ℕ} 0 1 = cc in absurd (omega arith)
element-none (a ∷ l) (suc p) e = element-none l p e

element-some : {A : Type 0} (l : List A) (p : ℕ) (a : A) (rest : List A) → drop p l ≡ a ∷ rest → slice_get l p ≡ Some a
element-some [] zero a rest e = let z : ◌≡◌ {A = ℕ} 0 1 = cc in absurd (omega arith)
element-some [] (suc p) a rest e = let z : ◌≡◌ {A = ℕ} 0 1 = cc in absurd (omega arith)
element-some (b ∷ l) zero a rest e = cc
element-some (b ∷ l) (suc p) a rest e = element-some l p a rest e

drop-rest : {A : Type 0} (l : List A) (p : ℕ) (a : A) (rest : List A) → drop p l ≡ a ∷ rest → drop (suc p) l ≡ rest
drop-rest [] zero a rest e = let z : ◌≡◌ {A = ℕ} 0 1 = cc in absurd (omega arith)
drop-rest [] (suc p) a rest e = let z : ◌≡◌ {A = ℕ} 0 1 = cc in absurd (omega arith)
drop-rest (b ∷ l) zero a rest e = cc
drop-rest (b ∷ l) (suc p) a rest e = drop-rest l p a rest e

ended-ending : (o : Outcome) (x : Kernel) → ending_of (ended o x) ≡ ending o x.row
ended-ending returned x = refl
ended-ending denied x = refl
ended-ending failed x = refl

module _ (code : List Instruction) where
  -- a run with this fuel has the meaning of the instructions from its place on
  abbrev Means : ℕ → Type 0
  Means fuel = (p : ℕ) (s w : List ℤ) (k : ℕ) → length code ≤ p + fuel
      → ending_of (run (slice_get code) fuel (state p s w k)) ≡ exec (length code) (drop p code) 0 s w

  module _ (fuel : ℕ) (means : Means fuel) (p : ℕ) (s w : List ℤ) (k : ℕ) (h : length code ≤ p + suc fuel) where
    by-effect : (rest : List Instruction) → drop (suc p) code ≡ rest → (e : Effect) → Keeps p s w e
        → ending_of (after e (state p s w k) (λ y. run (slice_get code) fuel y))
        ≡ resume e w (λ q t v. exec (length code) rest (q - suc p) t v)
    by-effect rest d (ends o) kept = ended-ending o (state p s w k)
    by-effect rest d (goes q t v) kept =
        let e : suc p + (q - suc p) ≡ q = omega (arith, kept.forward) in
        means q t v (suc k) (omega (arith, kept.forward))
        ∙ rw (exec-skip (length code) rest (q - suc p) t v, ← d, drop-drop (q - suc p) (suc p) code, e)

    by-rest : (l : List Instruction) → drop p code ≡ l
        → ending_of (run (slice_get code) (suc fuel) (state p s w k)) ≡ exec (length code) l 0 s w
    unfolding run step exec
    by-rest [] d = rw (element-none code p d)
    by-rest (i ∷ rest) d =
        let e : length code - suc (length rest) ≡ p = omega (arith, ap length d, length-drop p code) in
        rw (element-some code p i rest d, e)
        (by-effect rest (drop-rest code p i rest d) (effect i p s w) (effect-keeps p w i s))

  pub run-exec : (fuel : ℕ) → Means fuel
  run-exec zero p s w k h = unfold run exec in rw (drop_of_length-le code {i = p} (omega arith))
  run-exec (suc fuel) p s w k h = by-rest fuel (run-exec fuel) p s w k h (drop p code) refl
