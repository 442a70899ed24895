-- Demand 2 for the tag engine, with the handler of a rule table: consulting the rule memory answers as the table does, so a run is the
-- machine's run under that table. proofs/Rules.antt and proofs/Refines.antt show it of every table that can be written (TableWritable of
-- the policy crate), as every accepted one can.
use Rattle.std.specs.Prelude.{ℕ, ◌+◌, ◌*◌, ◌≤◌, ◌≡◌, Bool, true, false, List, ℤ, length}
use Rattle.program.specs.declared.Command.{Command}
use Rattle.machine.specs.Rule.{Key, denied, Policy, fixed}
use Rattle.machine.specs.State.{State}
use Rattle.machine.specs.declared.Stop.{Stop}
use Rattle.machine.specs.Environment.{Environment}
use Rattle.machine.specs.Step.{Request, halt, ask, request, key_of}
use Rattle.machine.specs.Run.{Result, run, Same}
use Rattle.machine.specs.Stopped.{Here, denies}
use Rattle.machine.specs.Holds.{LabelsInRange}
use Rattle.engine.specs.Layout.{stack_after}
use Rattle.policy.specs.Expression.{Table}
use Rattle.policy.specs.Evaluate.{evaluate}
use Rattle.policy.specs.Row.{accepted_row, fault_row}
use Rattle.handler.specs.Kernel.{handle}
use Rattle.handler.specs.Translate.{translate}
use Rattle.handler.specs.Claim.{row_of}
use Rattle.tagging.specs.Consult.{Tag, five_of, Consulted, matches, tag_ruler}

-- a rule memory of seven words that check 7 accepts
pub record Fits (t : Table) (ws : List ℤ) : Type 0 where
  pub size : length ws ≡ 7
  pub accepted : accepted_row t ws ≡ true

-- where the five words match the row is used as it is; otherwise there is one fault, with the handler's kernel steps
abbrev pub Counts : Table → Key → List ℤ → Consulted → (matching : Bool) → Type 0
Counts t k ws c true = (c.row ≡ ws) × (c.faults ≡ 0) × (c.kernel_steps ≡ 0)
Counts t k ws c false =
    (c.faults ≡ 1)
    × (c.kernel_steps ≡ (handle (translate t) (fault_row k)).steps)
    × (c.kernel_steps ≤ length (translate t))

-- what consulting the row ws for a key gives: the table's verdict, and the key's row with the table's two labels or the −1 pair
pub record Ruled (t : Table) (k : Key) (ws : List ℤ) (c : Consulted) : Type 0 where
  pub verdict : c.verdict ≡ evaluate t k
  pub row : c.row ≡ row_of k (evaluate t k)
  pub counts : Counts t k ws c (matches (five_of k) ws)

-- the table does not allow what is asked, and the row is what the fault wrote
abbrev pub Faulted : Table → Command → State → List ℤ → Request → Type 0
Faulted t c s ws (halt x) = ⊥
Faulted t c s ws (ask l1 l2 l3 k) = (evaluate t (key_of c s l1 l2 l3) ≡ denied) × (ws ≡ fault_row (key_of c s l1 l2 l3))

module _ (t : Table) (env : Environment) (cs : List Command) where
  -- the row that a run leaves: stop 6 leaves the −1 pair of the command at the place, every other stop an accepted row
  abbrev pub LeavesIf : Bool → State → List ℤ → Type 0
  LeavesIf true s ws = Here cs s (λ c. Faulted t c s ws (request env c s))
  LeavesIf false s ws = Fits t ws

  abbrev pub Leaves : Stop → State → List ℤ → Type 0
  Leaves x s ws = LeavesIf (denies x) s ws

-- the counts of a run from s: of its commands, one a step and the one that is stopped, some did not match, and each of these took at
-- most `limit` kernel steps
pub record Adds (limit : ℕ) (s : State) (u : Tag) (r : Result Tag) : Type 0 where
  pub more : ℕ
  pub faults : r.ruler.faults ≡ u.faults + more
  pub most : more + s.steps ≤ r.state.steps + 1
  pub kernel_steps : r.ruler.kernel_steps ≤ u.kernel_steps + more * limit

-- with the handler of t, the run is the machine's under the policy π: lines, cells, stop, steps, place and stack, and every word of
-- the stack space
pub record Agrees (t : Table) (π : Policy) (env : Environment) (cs : List Command) (fuel : ℕ) (s : State) (u : Tag) : Type 0 where
  pub machine : Same (run (tag_ruler (translate t)) env cs fuel s u) (run (fixed π) env cs fuel s tt)
  pub stack : (space : List ℤ) → stack_after (tag_ruler (translate t)) env cs fuel s u space ≡ stack_after (fixed π) env cs fuel s tt space
  pub row :
      let r : Result Tag = run (tag_ruler (translate t)) env cs fuel s u in Leaves t env cs r.stop r.state r.ruler.row
  pub counts : Adds (length (translate t)) s u (run (tag_ruler (translate t)) env cs fuel s u)

-- from every state with labels in range and every accepted rule memory
abbrev pub Claim : Table → Policy → Type 0
Claim t π =
    (env : Environment) (cs : List Command) (fuel : ℕ) (s : State) (u : Tag) → LabelsInRange s → Fits t u.row → Agrees t π env cs fuel s u
