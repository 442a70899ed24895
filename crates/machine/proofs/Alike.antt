-- Rulers that answer alike run alike: same stop and state, and the same of whatever each step changes.
-- Assumes nothing.
use Rattle.std.proofs.Common.{None, Option, Some}
use mathlib.Core.Path.{◌≡◌, refl, sym, ap, ◌∙◌}
use mathlib.Core.Bool.{Bool, true, false}
use mathlib.Core.List.{List}
use Prim.Native.Nat.{ℕ, zero, suc}
use lib.ListN.{length}
use Rattle.program.specs.declared.Command.{Command}
use Rattle.machine.specs.Rule.{Verdict, Policy, Ruler, rules}
use Rattle.machine.specs.Environment.{Environment}
use Rattle.machine.specs.State.{State}
use Rattle.machine.specs.declared.Stop.{Stop}
use Rattle.machine.specs.Step.{Outcome, stopped, stepped, Request, halt, ask, request, key_of, decide, consult, execute}
use Rattle.machine.specs.Run.{at_end, step, asked, Result, finish, end_barrier, run, along, Same}
use Rattle.machine.proofs.Step.{step-all, step-at, step-none}
use Rattle.machine.proofs.Run.{run_end, run-spent, run-stopped, run-stepped, along-end, along-stopped, along-stepped}

-- ════════════════════════════════════════════════════════════════════════════════════════════
-- One step
-- ════════════════════════════════════════════════════════════════════════════════════════════

-- two policies answer alike what a command asks
module _ (π σ : Policy) (env : Environment) (s : State) where
  abbrev pub AnswersAlike : Command → Request → Type 0
  AnswersAlike c (halt x) = Unit
  AnswersAlike c (ask l1 l2 l3 k) = π (key_of c s l1 l2 l3) ≡ σ (key_of c s l1 l2 l3)

  consult-alike : (c : Command) (q : Request) → AnswersAlike c q → consult π c s q ≡ consult σ c s q
  consult-alike c (halt x) e = refl
  consult-alike c (ask l1 l2 l3 k) e = ap (λ (v : Verdict). decide v k) e

  -- then they have the same step
  pub step-alike : ((c : Command) → AnswersAlike c (request env c s)) → (cs : List Command) → step π env cs s ≡ step σ env cs s
  unfolding execute
  step-alike alike cs =
      step-all π env s (λ o. o ≡ step σ env cs s) cs
      (λ c at. consult-alike c (request env c s) (alike c) ∙ sym (step-at env s cs c at σ))
      (λ out. sym (step-none env s cs out σ))

-- ════════════════════════════════════════════════════════════════════════════════════════════
-- A run
-- ════════════════════════════════════════════════════════════════════════════════════════════

-- rulers whose states are related have the same step, and stay related over it
pub record Alike {Q R : Type 0} (σ : Ruler Q) (ρ : Ruler R) (env : Environment) (cs : List Command) (E : State → Q → R → Type 0) : Type 0 where
  pub steps : (s : State) (u : Q) (v : R) → E s u v → step (rules σ u) env cs s ≡ step (rules ρ v) env cs s
  pub stays : (s t : State) (u : Q) (v : R) → E s u v → step (rules ρ v) env cs s ≡ stepped t
      → E t (asked σ env cs s u) (asked ρ env cs s v)

module _ {Q R : Type 0} (σ : Ruler Q) (ρ : Ruler R) (env : Environment) (cs : List Command) (E : State → Q → R → Type 0)
    (alike : Alike σ ρ env cs E) where
  same : {q q' : Result Q} {r r' : Result R} → q ≡ q' → r ≡ r' → Same q' r' → Same q r
  same e f h = rw (e, f) h

  -- the end line goes out, or is held back
  finish-alike : (s : State) (u : Q) (v : R) (b : Option Stop) → Same (finish b s u) (finish b s v)
  finish-alike s u v None = record { stop = refl; state = refl }
  finish-alike s u v (Some x) = record { stop = refl; state = refl }

  end-alike : (fuel : ℕ) (s : State) (u : Q) (v : R) → at_end (length cs) s.pc.number ≡ true
      → Same (run σ env cs fuel s u) (run ρ env cs fuel s v)
  end-alike fuel s u v e =
      same (run_end σ env cs fuel s u e) (run_end ρ env cs fuel s v e) (finish-alike s u v (end_barrier env s))

  -- at the end, and without allowance
  none_alike : (s : State) (u : Q) (v : R) (b : Bool) → at_end (length cs) s.pc.number ≡ b
      → Same (run σ env cs 0 s u) (run ρ env cs 0 s v)
  none_alike s u v true e = end-alike 0 s u v e
  none_alike s u v false e = same (run-spent σ env cs s u e) (run-spent ρ env cs s v e) (record { stop = refl; state = refl })

  -- by the first step, where the rest of the run is alike
  module _ (fuel : ℕ) (s : State) (u : Q) (v : R) (h : E s u v) where
    more-alike : ((t : State) (x : Q) (y : R) → E t x y → Same (run σ env cs fuel t x) (run ρ env cs fuel t y))
        → (b : Bool) → at_end (length cs) s.pc.number ≡ b → (o : Outcome) → step (rules ρ v) env cs s ≡ o
        → Same (run σ env cs (suc fuel) s u) (run ρ env cs (suc fuel) s v)
    more-alike on true e o g = end-alike (suc fuel) s u v e
    more-alike on false e (stopped x) g =
        same (run-stopped σ env cs s u e fuel x (alike.steps s u v h ∙ g)) (run-stopped ρ env cs s v e fuel x g)
        (record { stop = refl; state = refl })
    more-alike on false e (stepped t) g =
        same (run-stepped σ env cs s u e fuel t (alike.steps s u v h ∙ g)) (run-stepped ρ env cs s v e fuel t g)
        (on t _ _ (alike.stays s t u v h g))

    along-more : {A : Type 0} (change : State → A → A) (a : A)
        → ((t : State) (x : Q) (y : R) (b : A) → E t x y → along σ env cs change fuel t x b ≡ along ρ env cs change fuel t y b)
        → (b : Bool) → at_end (length cs) s.pc.number ≡ b → (o : Outcome) → step (rules ρ v) env cs s ≡ o
        → along σ env cs change (suc fuel) s u a ≡ along ρ env cs change (suc fuel) s v a
    along-more change a on true e o g =
        along-end σ env cs change s u a (suc fuel) e ∙ sym (along-end ρ env cs change s v a (suc fuel) e)
    along-more change a on false e (stopped x) g =
        along-stopped σ env cs change s u a e fuel x (alike.steps s u v h ∙ g)
        ∙ sym (along-stopped ρ env cs change s v a e fuel x g)
    along-more change a on false e (stepped t) g =
        along-stepped σ env cs change s u a e fuel t (alike.steps s u v h ∙ g)
        ∙ on t _ _ (change t a) (alike.stays s t u v h g)
        ∙ sym (along-stepped ρ env cs change s v a e fuel t g)

  -- the same stop in the same state
  pub run-alike : (fuel : ℕ) (s : State) (u : Q) (v : R) → E s u v → Same (run σ env cs fuel s u) (run ρ env cs fuel s v)
  run-alike zero s u v h = none_alike s u v _ refl
  run-alike (suc fuel) s u v h = more-alike fuel s u v h (run-alike fuel) _ refl _ refl

  -- and of what each step changes
  pub along-alike : {A : Type 0} (change : State → A → A) (fuel : ℕ) (s : State) (u : Q) (v : R) (a : A) → E s u v
      → along σ env cs change fuel s u a ≡ along ρ env cs change fuel s v a
  unfolding along
  along-alike change zero s u v a h = refl
  along-alike change (suc fuel) s u v a h =
      along-more fuel s u v h change a (λ t x y b g. along-alike change fuel t x y b g) _ refl _ refl
