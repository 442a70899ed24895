-- Reasoning about steps and runs: properties of whatever state a step gives, and of what the ruler keeps. What every step keeps, a run
-- keeps.
-- Assumes nothing.
use Rattle.std.proofs.Common.{None, Option, Some}
use mathlib.Core.Path.{◌≡◌, refl}
use mathlib.Core.Bool.{Bool, true, false}
use mathlib.Core.List.{List}
use Prim.Native.Nat.{ℕ, zero, suc}
use lib.ListN.{length}
use Rattle.program.specs.declared.Command.{Command}
use Rattle.machine.specs.Rule.{Key, Verdict, denied, allowed, Policy, Ruler, rules, fixed, standard}
use Rattle.machine.specs.Environment.{Environment}
use Rattle.machine.specs.State.{State}
use Rattle.machine.specs.declared.Stop.{Stop}
use Rattle.machine.specs.declared.Stop.TheVariants.{End, FuelSpent, PcOutside}
use Rattle.machine.specs.Step.{Outcome, stopped, stepped, Request, halt, ask, key_of, decide, consult, execute, request}
use Rattle.machine.specs.Run.{command_at, execute_some, step, asked_by, asked_some, asked, at_end, Result, result, after, closed}
use Rattle.machine.specs.Run.{finish, end_barrier, unless_end, run}
use Rattle.machine.specs.Stopped.{CommandAt, NoCommandAt}

-- the state that a step gives has the property; a stopped command gives none
abbrev pub Gives : (State → Type 0) → Outcome → Type 0
Gives P (stopped x) = Unit
Gives P (stepped t) = P t

pub gives-stepped : (P : State → Type 0) {o : Outcome} {t : State} → o ≡ stepped t → Gives P o → P t
gives-stepped P e g = rw e at g

-- the same of what a command comes to before its rule, whatever two labels the rule gives
abbrev pub Leaves : (State → Type 0) → Request → Type 0
Leaves P (halt x) = Unit
Leaves P (ask l1 l2 l3 k) = (p r : ℕ) → Gives P (k p r)

pub consult-leaves : (P : State → Type 0) (π : Policy) (c : Command) (s : State) (q : Request) → Leaves P q → Gives P (consult π c s q)
consult-leaves P π c s (halt x) g = tt
consult-leaves P π c s (ask l1 l2 l3 k) g = go (π (key_of c s l1 l2 l3))
  where
    go : (v : Verdict) → Gives P (decide v k)
    go denied = tt
    go (allowed p r) = g p r

-- a step and what it leaves of a ruler, by cases: the command at the place, or there is none
pub step_both : {R : Type 0} (ρ : Ruler R) (π : Policy) (env : Environment) (s : State) (u : R) (P : Outcome → R → Type 0) (cs : List Command)
    → ((c : Command) → CommandAt cs s.pc.number c → P (execute π env c s) (asked_by ρ c s u (request env c s)))
    → (NoCommandAt cs s.pc.number → P (stopped PcOutside) u)
    → P (step π env cs s) (asked ρ env cs s u)
unfolding step asked
step_both ρ π env s u P cs f g = go (command_at cs s.pc.number) refl
  where
    go : (o : Option Command) → command_at cs s.pc.number ≡ o → P (execute_some π env o s) (asked_some ρ env o s u)
    go None e = g e
    go (Some c) e = f c e

pub step-all : (π : Policy) (env : Environment) (s : State) (P : Outcome → Type 0) (cs : List Command)
    → ((c : Command) → CommandAt cs s.pc.number c → P (execute π env c s))
    → (NoCommandAt cs s.pc.number → P (stopped PcOutside)) → P (step π env cs s)
step-all π env s P cs f g = step_both (fixed π) π env s tt (λ o u. P o) cs f g

-- a step carries out the command at the place, which asks the ruler
module _ (env : Environment) (s : State) (cs : List Command) (c : Command) (at : CommandAt cs s.pc.number c) where
  pub step-at : (π : Policy) → step π env cs s ≡ execute π env c s
  unfolding step
  step-at π = rw at

  pub asked-at : {R : Type 0} (ρ : Ruler R) (u : R) → asked ρ env cs s u ≡ asked_by ρ c s u (request env c s)
  unfolding asked
  asked-at ρ u = rw at

-- where there is none it is stopped, and nothing is asked
module _ (env : Environment) (s : State) (cs : List Command) (out : NoCommandAt cs s.pc.number) where
  pub step-none : (π : Policy) → step π env cs s ≡ stopped PcOutside
  unfolding step
  step-none π = rw out

  pub asked-none : {R : Type 0} (ρ : Ruler R) (u : R) → asked ρ env cs s u ≡ u
  unfolding asked
  asked-none ρ u = rw out

-- induction over runs: what holds of a run that has ended, or whose end line is held back, that has no fuel or that is stopped, and of one
-- that takes a step where it holds of the rest
module _ {R : Type 0} (ρ : Ruler R) (env : Environment) (cs : List Command) (Q : ℕ → State → R → Result R → Type 0)
    (ends : (fuel : ℕ) (s : State) (u : R) → at_end (length cs) s.pc.number ≡ true → end_barrier env s ≡ None
    → Q fuel s u (result End (closed s) u))
    (bars : (fuel : ℕ) (s : State) (u : R) (x : Stop) → at_end (length cs) s.pc.number ≡ true → end_barrier env s ≡ Some x
    → Q fuel s u (result x s u))
    (spends : (s : State) (u : R) → at_end (length cs) s.pc.number ≡ false → Q zero s u (result FuelSpent s u))
    (stops : (fuel : ℕ) (s : State) (u : R) (x : Stop) → at_end (length cs) s.pc.number ≡ false
    → step (rules ρ u) env cs s ≡ stopped x → Q (suc fuel) s u (result x s (asked ρ env cs s u)))
    (goes : (fuel : ℕ) (s t : State) (u : R) (r : Result R) → at_end (length cs) s.pc.number ≡ false
    → step (rules ρ u) env cs s ≡ stepped t → Q fuel t (asked ρ env cs s u) r → Q (suc fuel) s u r) where
  after-all : (fuel : ℕ) (s : State) (u : R) → at_end (length cs) s.pc.number ≡ false
      → (o : Outcome) → step (rules ρ u) env cs s ≡ o
      → ((t : State) (v : R) → Q fuel t v (run ρ env cs fuel t v))
      → let v : R = asked ρ env cs s u in Q (suc fuel) s u (after o s v (λ t. run ρ env cs fuel t v))
  after-all fuel s u e (stopped x) g h = stops fuel s u x e g
  after-all fuel s u e (stepped t) g h = goes fuel s t u _ e g (h t _)

  finish-all : (fuel : ℕ) (s : State) (u : R) → at_end (length cs) s.pc.number ≡ true
      → (b : Option Stop) → end_barrier env s ≡ b → Q fuel s u (finish b s u)
  finish-all fuel s u e None f = ends fuel s u e f
  finish-all fuel s u e (Some x) f = bars fuel s u x e f

  unless-all : (fuel : ℕ) (s : State) (u : R) (r : Result R) (b : Bool) → at_end (length cs) s.pc.number ≡ b
      → (b ≡ false → Q fuel s u r) → Q fuel s u (unless_end env b s u r)
  unless-all fuel s u r true e h = finish-all fuel s u e _ refl
  unless-all fuel s u r false e h = h refl

  pub run-induction : (fuel : ℕ) (s : State) (u : R) → Q fuel s u (run ρ env cs fuel s u)
  unfolding run
  run-induction zero s u = unless-all zero s u _ _ refl (λ e. spends s u e)
  run-induction (suc fuel) s u = unless-all (suc fuel) s u _ _ refl (λ e. after-all fuel s u e _ refl (run-induction fuel))

-- what every step keeps, and the end line, a run keeps
pub run-keeps : {R : Type 0} (ρ : Ruler R) (env : Environment) (cs : List Command) (P : State → Type 0)
    → ((s t : State) (u : R) → at_end (length cs) s.pc.number ≡ false → step (rules ρ u) env cs s ≡ stepped t → P s → P t)
    → ((s : State) → at_end (length cs) s.pc.number ≡ true → end_barrier env s ≡ None → P s → P (closed s))
    → (fuel : ℕ) (s : State) (u : R) → P s → P (run ρ env cs fuel s u).state
run-keeps ρ env cs P keeps closes =
    run-induction ρ env cs (λ fuel s u r. P s → P r.state)
    (λ fuel s u e f h. closes s e f h)
    (λ fuel s u x e f h. h)
    (λ s u e h. h)
    (λ fuel s u x e g h. h)
    (λ fuel s t u r e g f h. f (keeps s t u e g h))

-- what a step under the standard policy gives, it gives under a policy that refines it
module _ (π : Policy) (refines : (k : Key) (p r : ℕ) → π k ≡ allowed p r → standard k ≡ allowed p r) (P : State → Type 0) where
  decide-refines : (key : Key) (k : ℕ → ℕ → Outcome) (v : Verdict) → π key ≡ v
      → Gives P (decide (standard key) k) → Gives P (decide v k)
  decide-refines key k denied e g = tt
  decide-refines key k (allowed p r) e g = rw (refines key p r e) at g

  consult-refines : (c : Command) (s : State) (q : Request) → Gives P (consult standard c s q) → Gives P (consult π c s q)
  consult-refines c s (halt x) g = tt
  consult-refines c s (ask l1 l2 l3 k) g = decide-refines _ k _ refl g

  pub execute-refines : (env : Environment) (c : Command) (s : State)
      → Gives P (execute standard env c s) → Gives P (execute π env c s)
  unfolding execute
  execute-refines env c s g = consult-refines c s (request env c s) g
