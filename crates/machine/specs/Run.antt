-- A run: from any state, with an allowance (fuel), an environment and a ruler.
use Rattle.std.specs.Prelude.{ℕ, zero, suc, ◌≡◌, Bool, true, false, List, [], ◌∷◌, ◌++◌, ℤ, pos, negsuc, length, eqb, None, Option, Some, slice_get}
use Rattle.word.specs.Choose.{choose}
use Rattle.program.specs.declared.Command.{Command}
use Rattle.machine.specs.Atom.{end_line}
use Rattle.machine.specs.Rule.{Policy, Ruler, rules}
use Rattle.machine.specs.State.{State, stop_number}
use Rattle.machine.specs.declared.Stop.{Stop}
use Rattle.machine.specs.declared.Stop.TheVariants.{End, FuelSpent, PcOutside}
use Rattle.machine.specs.Environment.{Environment, barrier}
use Rattle.machine.specs.Step.{Outcome, stopped, stepped, Request, halt, ask, request, key_of, execute}

-- does the place equal the number of commands?
abbrev pub at_end : ℕ → ℤ → Bool
at_end n (pos i) = eqb i n
at_end n (negsuc i) = false

-- the command at a place; outside the program there is none
abbrev pub command_at : List Command → ℤ → Option Command
command_at cs (pos i) = slice_get cs i
command_at cs (negsuc i) = None

abbrev pub execute_some : Policy → Environment → Option Command → State → Outcome
execute_some π env None s = stopped PcOutside
execute_some π env (Some c) s = execute π env c s

-- one step in the order of the stops: the end; no allowance left; the place outside; then the command
unfoldable pub step : Policy → Environment → List Command → State → Outcome
step π env cs s = execute_some π env (command_at cs s.pc.number) s

-- it is asked where a command asks, whether the command is stopped after that or not
abbrev pub asked_by : {R : Type 0} → Ruler R → Command → State → R → Request → R
asked_by ρ c s u (halt x) = u
asked_by ρ c s u (ask l1 l2 l3 k) = (ρ u (key_of c s l1 l2 l3)).ruler

abbrev pub asked_some : {R : Type 0} → Ruler R → Environment → Option Command → State → R → R
asked_some ρ env None s u = u
asked_some ρ env (Some c) s u = asked_by ρ c s u (request env c s)

-- what the command at the place leaves of it
unfoldable pub asked : {R : Type 0} → Ruler R → Environment → List Command → State → R → R
asked ρ env cs s u = asked_some ρ env (command_at cs s.pc.number) s u

-- ════════════════════════════════════════════════════════════════════════════════════════════
-- The run
-- ════════════════════════════════════════════════════════════════════════════════════════════

-- where a run ended: the stop, the state that it stopped in, and what the ruler keeps
pub record Result (R : Type 0) : Type 0 where
  pub stop : Stop
  pub state : State
  pub ruler : R

abbrev pub result : {R : Type 0} → Stop → State → R → Result R
result x s u = record { stop = x; state = s; ruler = u }

-- what is done after an outcome
abbrev pub after : {R : Type 0} → Outcome → State → R → (State → Result R) → Result R
after (stopped x) s u k = result x s u
after (stepped t) s u k = k t

-- the end line is written, and nothing else changes: it is no step, asks no rule and no allowance
abbrev pub closed : State → State
closed s =
    record {
      pc = s.pc;
      stack = s.stack;
      memory = s.memory;
      lines = s.lines ++ (end_line s.pc.label ∷ []);
      steps = s.steps;
    }

-- at the end: stop 0, which writes the end line; where something holds that back, its stop, and nothing changes
abbrev pub finish : {R : Type 0} → Option Stop → State → R → Result R
finish None s u = result End (closed s) u
finish (Some x) s u = result x s u

-- what holds it back: it is a line of page 0
abbrev pub end_barrier : Environment → State → Option Stop
end_barrier env s = barrier env (length s.lines) (end_line s.pc.label)

-- where the place equals the number of commands, else r
abbrev pub unless_end : {R : Type 0} → Environment → Bool → State → R → Result R → Result R
unless_end env true s u r = finish (end_barrier env s) s u
unless_end env false s u r = r

module _ {R : Type 0} (ρ : Ruler R) (env : Environment) (cs : List Command) where
  -- from the state s with at most `fuel` steps
  unfoldable pub run : ℕ → State → R → Result R
  run zero s u = unless_end env (at_end (length cs) s.pc.number) s u (result FuelSpent s u)
  run (suc fuel) s u =
      let v : R = asked ρ env cs s u in
      let r : Result R = after (step (rules ρ u) env cs s) s v (λ t. run fuel t v) in
      unless_end env (at_end (length cs) s.pc.number) s u r

-- two runs, each under a ruler of its own, met the same stop in the same state: lines, cells, steps, place and stack
pub record Same {Q R : Type 0} (q : Result Q) (r : Result R) : Type 0 where
  pub stop : q.stop ≡ r.stop
  pub state : q.state ≡ r.state

-- ════════════════════════════════════════════════════════════════════════════════════════════
-- What every step changes
-- ════════════════════════════════════════════════════════════════════════════════════════════

abbrev pub changed : {A : Type 0} → Outcome → A → (State → A) → A
changed (stopped x) a k = a
changed (stepped t) a k = k t

module _ {R A : Type 0} (ρ : Ruler R) (env : Environment) (cs : List Command) (change : State → A → A) where
  -- what a run leaves of something that each step changes, after the state that the step gives
  unfoldable pub along : ℕ → State → R → A → A
  along zero s u a = a
  along (suc fuel) s u a =
      let v : R = asked ρ env cs s u in
      let b : A = changed (step (rules ρ u) env cs s) a (λ t. along fuel t v (change t a)) in
      choose (at_end (length cs) s.pc.number) a b

-- was it the allowance?
abbrev pub spent : Stop → Bool
spent x = eqb (stop_number x) 1

-- carrying on with `fuel` more steps: from a stop for spent allowance the run goes on, every other stop stays
unfoldable pub continue : {R : Type 0} → Ruler R → Environment → List Command → ℕ → Result R → Result R
continue ρ env cs fuel r = let more = run ρ env cs fuel r.state r.ruler in choose (spent r.stop) more r
