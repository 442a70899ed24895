-- Runs: why they stop, how many steps they take, that fuel adds up, and what they leave of lines, cells and stack.
-- Assumes nothing.
use Rattle.std.proofs.Common.{None, Some}
use mathlib.Core.Path.{◌≡◌, refl, ap, ◌∙◌}
use mathlib.Core.Logic.{◌≢◌, inl, inr}
use mathlib.Core.Bool.{true, false}
use mathlib.Core.List.{List, [], ◌∷◌, ◌++◌, append-nil, append_assoc}
use Prim.Native.Nat.{ℕ, zero, suc, ◌+◌, ◌≤◌, ◌<◌}
use native.Mathlib.Nat.{zero-add, suc-add}
use native.Mathlib.Omega.{arith}
use lib.IntN.{ℤ, pos, negsuc}
use lib.ListN.{length, length-append}
use lib.Dec.{eqb}
use borrow.Author.Tests.{eqb-true, eqb-false, ne_eqb}
use Rattle.program.specs.declared.Command.{Command}
use Rattle.machine.specs.Atom.{Line, end_line}
use Rattle.machine.specs.Rule.{Policy, Ruler, rules}
use Rattle.machine.specs.Environment.{Environment}
use Rattle.machine.specs.State.{State, stop_number}
use Rattle.machine.specs.declared.Stop.{Stop}
use Rattle.machine.specs.declared.Stop.TheVariants.{FuelSpent, PcOutside}
use Rattle.machine.specs.Step.{Outcome, stopped, stepped, stack_limit, execute}
use Rattle.machine.specs.Run.{at_end, step, asked, Result, result, closed, finish, end_barrier, run, along, spent, continue}
use Rattle.machine.specs.Stopped.{Counted, CommandAt, NoCommandAt, Stopped}
use Rattle.machine.proofs.Step.{step-all, run-induction, run-keeps}
use Rattle.machine.proofs.Barrier.{Barred, full, barrier-held, barred-none, barred-least, barred-other}
use Rattle.machine.proofs.Barrier as Barrier
use Rattle.machine.proofs.Execute.{Change, Cause, no_value, no-frame, no_return, no_cell, no-leave, no_number, no-env, no_line}
use Rattle.machine.proofs.Execute.{Sound, execute-sound}

-- ════════════════════════════════════════════════════════════════════════════════════════════
-- A step
-- ════════════════════════════════════════════════════════════════════════════════════════════

-- why a step is stopped
data Halt (π : Policy) (env : Environment) (cs : List Command) (s : State) : Stop → Type 0 where
  outside : NoCommandAt cs s.pc.number → Halt π env cs s PcOutside
  inside : {x : Stop} (c : Command) → CommandAt cs s.pc.number c → Cause π env c s x → Halt π env cs s x

module _ (π : Policy) (env : Environment) (cs : List Command) where
  -- a step is stopped for a reason, or changes what it may
  abbrev Explained : State → Outcome → Type 0
  Explained s (stopped x) = Halt π env cs s x
  Explained s (stepped t) = Change env s t

  step-explained : (s : State) → Explained s (step π env cs s)
  step-explained s =
      step-all π env s (Explained s) cs (λ c at. go c at (execute π env c s) (execute-sound π env c s)) outside
    where
      go : (c : Command) → CommandAt cs s.pc.number c → (o : Outcome) → Sound π env c s o → Explained s o
      go c at (stopped x) h = inside c at h
      go c at (stepped t) h = h

  stopped-explained : {s : State} {x : Stop} → step π env cs s ≡ stopped x → Halt π env cs s x
  stopped-explained {s} e = rw e at (step-explained s)

  pub stepped-explained : {s t : State} → step π env cs s ≡ stepped t → Change env s t
  stepped-explained {s} e = rw e at (step-explained s)

  -- no command stops at the end or for spent fuel
  halt-number : {s : State} {x : Stop} → Halt π env cs s x → 2 ≤ stop_number x
  halt-number (outside h) = omega arith
  halt-number (inside c at (no_value h)) = omega arith
  halt-number (inside c at (no-frame h)) = omega arith
  halt-number (inside c at (no_return h)) = omega arith
  halt-number (inside c at (no_cell h)) = omega arith
  halt-number (inside c at (no-leave h)) = omega arith
  halt-number (inside c at (no_number h)) = omega arith
  halt-number (inside c at (no-env h g)) = omega arith
  halt-number (inside c at (no_line l h b)) = omega (arith, barred-least env _ l b)

  pub stopped-other : (s : State) {x : Stop} (n : ℕ) → n < 2 → step π env cs s ≡ stopped x → eqb (stop_number x) n ≡ false
  stopped-other s {x} n h e = ne_eqb (stop_number x) n (λ f. omega (arith, halt-number (stopped-explained e)))

  -- ══════════════════════════════════════════════════════════════════════════════════════════
  -- Stops
  -- ══════════════════════════════════════════════════════════════════════════════════════════

  halt-stopped : {s : State} {x : Stop} → s.pc.number ≢ pos (length cs) → Halt π env cs s x → Stopped π env cs s x
  halt-stopped e (outside h) = (h, e)
  halt-stopped e (inside c at (no_value h)) = (c, at, h)
  halt-stopped e (inside c at (no-frame h)) = (c, at, h)
  halt-stopped e (inside c at (no_return h)) = (c, at, h)
  halt-stopped e (inside c at (no_cell h)) = (c, at, h)
  halt-stopped e (inside c at (no-leave h)) = (c, at, h)
  halt-stopped e (inside c at (no_number h)) = (c, at, h)
  halt-stopped e (inside c at (no-env h g)) = (c, at, (h, g))
  halt-stopped e (inside c at (no_line l h (full f g))) = (l, inl (c, at, h), f, g)
  halt-stopped e (inside c at (no_line l h (Barrier.closed f))) = (l, inl (c, at, h), f)

at-end : (n : ℕ) (z : ℤ) → at_end n z ≡ true → z ≡ pos n
at-end n (pos i) e = ap pos (eqb-true i n e)
at-end n (negsuc i) e = cc

not-at-end : (n : ℕ) (z : ℤ) → at_end n z ≡ false → z ≢ pos n
not-at-end n (pos i) e f = eqb-false i n e (cc)
not-at-end n (negsuc i) e f = let z : ◌≡◌ {A = ℕ} 0 1 = cc in omega arith

module _ {R : Type 0} (ρ : Ruler R) (env : Environment) (cs : List Command) where
  -- an end line that is held back
  end-stopped : (v : R) (s : State) (x : Stop) → s.pc.number ≡ pos (length cs)
      → Barred env (length s.lines) (end_line s.pc.label) (Some x) → Stopped (rules ρ v) env cs s x
  end-stopped v s x e (full f g) = (end_line s.pc.label, inr (e, refl), f, g)
  end-stopped v s x e (Barrier.closed f) = (end_line s.pc.label, inr (e, refl), f)

  -- the stop says what the state is that the run stopped in
  pub run-stop : (fuel : ℕ) (s : State) (u : R)
      → let r : Result R = run ρ env cs fuel s u in (v : R) × Stopped (rules ρ v) env cs r.state r.stop
  run-stop =
      run-induction ρ env cs (λ fuel s u r. (v : R) × Stopped (rules ρ v) env cs r.state r.stop)
      (λ fuel s u e f. (u, (at-end _ _ e, (s.lines, refl))))
      (λ fuel s u x e f. (u, end-stopped u s x (at-end _ _ e) (barrier-held env _ _ f)))
      (λ s u e. (u, not-at-end _ _ e))
      (λ fuel s u x e g. (u, halt-stopped (rules ρ u) env cs (not-at-end _ _ e) (stopped-explained (rules ρ u) env cs g)))
      (λ fuel s t u r e g h. h)

  -- ══════════════════════════════════════════════════════════════════════════════════════════
  -- Fuel
  -- ══════════════════════════════════════════════════════════════════════════════════════════

  pub run-steps : (fuel : ℕ) (s : State) (u : R) → Counted fuel s (run ρ env cs fuel s u)
  run-steps =
      run-induction ρ env cs (λ fuel s u r. Counted fuel s r)
      (λ fuel s u e f. record { least = omega arith; most = omega arith; all = λ g. cc })
      (λ fuel s u x e f.
      let h : spent x ≡ false = barred-other env (length s.lines) _ (barrier-held env (length s.lines) _ f) 1 (omega arith) in
      record { least = omega arith; most = omega arith; all = λ g. cc })
      (λ s u e. record { least = omega arith; most = omega arith; all = λ f. omega arith })
      (λ fuel s u x e g.
      let h : spent x ≡ false = stopped-other (rules ρ u) env cs s 1 (omega arith) g in
      record { least = omega arith; most = omega arith; all = λ f. cc })
      (λ fuel s t u r e g h.
      let c : Change env s t = stepped-explained (rules ρ u) env cs g in
      record { least = omega arith; most = omega arith; all = λ f. omega (arith, h.all f) })

  -- ══════════════════════════════════════════════════════════════════════════════════════════
  -- By the first step
  -- ══════════════════════════════════════════════════════════════════════════════════════════

  -- a run that has ended
  pub run_end : (fuel : ℕ) (s : State) (u : R) → at_end (length cs) s.pc.number ≡ true
      → run ρ env cs fuel s u ≡ finish (end_barrier env s) s u
  unfolding run
  run_end zero s u e = rw e
  run_end (suc fuel) s u e = rw e

  -- one without allowance, one whose next command is stopped, one that takes a step
  module _ (s : State) (u : R) (e : at_end (length cs) s.pc.number ≡ false) where
    pub run-spent : run ρ env cs 0 s u ≡ result FuelSpent s u
    unfolding run
    run-spent = rw e

    pub run-stopped : (fuel : ℕ) (x : Stop) → step (rules ρ u) env cs s ≡ stopped x
        → run ρ env cs (suc fuel) s u ≡ result x s (asked ρ env cs s u)
    unfolding run
    run-stopped fuel x g = rw (e, g)

    pub run-stepped : (fuel : ℕ) (t : State) → step (rules ρ u) env cs s ≡ stepped t
        → run ρ env cs (suc fuel) s u ≡ run ρ env cs fuel t (asked ρ env cs s u)
    unfolding run
    run-stepped fuel t g = rw (e, g)

  -- what each step changes: at the end, at a command that is stopped, after a step
  module _ {A : Type 0} (change : State → A → A) (s : State) (u : R) (a : A) where
    pub along-end : (fuel : ℕ) → at_end (length cs) s.pc.number ≡ true → along ρ env cs change fuel s u a ≡ a
    unfolding along
    along-end zero e = refl
    along-end (suc fuel) e = rw e

    module _ (e : at_end (length cs) s.pc.number ≡ false) (fuel : ℕ) where
      pub along-stopped : (x : Stop) → step (rules ρ u) env cs s ≡ stopped x → along ρ env cs change (suc fuel) s u a ≡ a
      unfolding along
      along-stopped x g = rw (e, g)

      pub along-stepped : (t : State) → step (rules ρ u) env cs s ≡ stepped t
          → along ρ env cs change (suc fuel) s u a ≡ along ρ env cs change fuel t (asked ρ env cs s u) (change t a)
      unfolding along
      along-stepped t g = rw (e, g)

  -- a run with a + b steps of fuel is one with a, carried on with b
  pub run-add : (a b : ℕ) (s : State) (u : R) → run ρ env cs (a + b) s u ≡ continue ρ env cs b (run ρ env cs a s u)
  unfolding continue
  run-add a b s u =
      run-induction ρ env cs (λ a s u r. run ρ env cs (a + b) s u ≡ continue ρ env cs b r)
      (λ a s u e f. run_end (a + b) s u e ∙ ap (λ x. finish x s u) f)
      (λ a s u x e f.
      let h : spent x ≡ false = barred-other env (length s.lines) _ (barrier-held env (length s.lines) _ f) 1 (omega arith) in
      rw (run_end (a + b) s u e, f, h))
      (λ s u e. rw zero-add)
      (λ a s u x e g. rw (suc-add, run-stopped s u e (a + b) x g, stopped-other (rules ρ u) env cs s 1 (omega arith) g))
      (λ a s t u r e g h. rw (suc-add, run-stepped s u e (a + b) t g) h)
      a s u

  -- ══════════════════════════════════════════════════════════════════════════════════════════
  -- What a run leaves
  -- ══════════════════════════════════════════════════════════════════════════════════════════

  -- what every change keeps, and the end line, a run keeps
  run-change : (P : State → Type 0) → ((s t : State) → Change env s t → P s → P t)
      → ((s : State) → end_barrier env s ≡ None → P s → P (closed s))
      → (fuel : ℕ) (s : State) (u : R) → P s → P (run ρ env cs fuel s u).state
  run-change P f g =
      run-keeps ρ env cs P (λ s t u at e h. f s t (stepped-explained (rules ρ u) env cs e) h) (λ s at e h. g s e h)

  -- lines are only added, and never more than fit
  pub run-lines : (fuel : ℕ) (s : State) (u : R) → (more : List Line) × ((run ρ env cs fuel s u).state.lines ≡ s.lines ++ more)
  run-lines fuel s u = run-change (λ t. (more : List Line) × (t.lines ≡ s.lines ++ more)) go close fuel s u ([], rw append-nil)
    where
      go : (v t : State) → Change env v t → (more : List Line) × (v.lines ≡ s.lines ++ more)
          → (more : List Line) × (t.lines ≡ s.lines ++ more)
      go v t c (ls, e) = (ls ++ c.lines.0, rw (c.lines.1, e, append_assoc))

      close : (v : State) → end_barrier env v ≡ None → (more : List Line) × (v.lines ≡ s.lines ++ more)
          → (more : List Line) × ((closed v).lines ≡ s.lines ++ more)
      close v f (ls, e) = (ls ++ (end_line v.pc.label ∷ []), rw (e, append_assoc))

  pub run_fits : (fuel : ℕ) (s : State) (u : R) → length s.lines ≤ env.room
      → length (run ρ env cs fuel s u).state.lines ≤ env.room
  run_fits =
      run-change (λ t. length t.lines ≤ env.room) (λ s t c h. c.fits h)
      (λ s f h. rw length-append (omega (arith, (barred-none env _ _ (barrier-held env (length s.lines) _ f)).1)))

  -- the cells stay as many
  pub run-memory : (fuel : ℕ) (s : State) (u : R) → length (run ρ env cs fuel s u).state.memory ≡ length s.memory
  run-memory fuel s u = run-change (λ t. length t.memory ≡ length s.memory) (λ v t c e. c.memory ∙ e) (λ v f e. e) fuel s u refl

  -- the stack stays within its limit
  pub run-depth : (fuel : ℕ) (s : State) (u : R)
      → length s.stack ≤ stack_limit → length (run ρ env cs fuel s u).state.stack ≤ stack_limit
  run-depth = run-change (λ t. length t.stack ≤ stack_limit) (λ s t c h. c.depth h) (λ s f h. h)
