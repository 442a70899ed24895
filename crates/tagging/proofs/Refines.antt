-- Demand 2: a run of the tag engine with the handler of a rule table is the machine's run under that table.
-- Assumes nothing.
use mathlib.Core.Path.{◌≡◌, refl, subst, ap, ◌∙◌, fun_ext}
use mathlib.Core.List.{List}
use Prim.Native.Nat.{ℕ}
use native.Mathlib.Omega.{arith}
use lib.ListN.{length}
use Rattle.program.specs.declared.Command.{Command}
use Rattle.machine.specs.Rule.{Key, Verdict, denied, allowed, Ruler, rules, fixed, standard}
use Rattle.machine.specs.State.{State}
use Rattle.machine.specs.Environment.{Environment}
use Rattle.machine.specs.Step.{Outcome, stopped, stepped, Request, halt, ask, request, key_of, decide, consult, execute}
use Rattle.machine.specs.Run.{step, asked_by, asked, Result, run}
use Rattle.machine.specs.Stopped.{CommandAt}
use Rattle.machine.specs.Holds.{LabelsInRange}
use Rattle.machine.proofs.Barrier.{barrier-held, barred-other}
use Rattle.machine.proofs.Step.{gives-stepped, step_both, run-induction}
use Rattle.machine.proofs.Alike.{AnswersAlike, step-alike, Alike, run-alike, along-alike}
use Rattle.machine.proofs.Holds.{step_range}
use Rattle.machine.proofs.Asked.{Roomy, Asks, request-asks}
use Rattle.engine.specs.Layout.{stack_laid}
use Rattle.policy.specs.Expression.{Table}
use Rattle.policy.specs.Evaluate.{evaluate}
use Rattle.policy.specs.Read.{table, read_table}
use Rattle.policy.specs.Write.{TableWritable}
use Rattle.policy.specs.Standard.{standard_table, standard_bytes}
use Rattle.policy.proofs.Standard.{evaluate-standard, standard-read}
use Rattle.policy.proofs.Writable.{read-writable}
use Rattle.handler.specs.Translate.{translate}
use Rattle.handler.specs.Claim.{row_of}
use Rattle.tagging.specs.Consult.{Tag, tag_ruler}
use Rattle.tagging.specs.Claim.{Fits, Leaves, Claim}
use Rattle.tagging.proofs.Ruled.{rules-range}
use Rattle.tagging.proofs.Rules.{row_fits, consult-table}
use Rattle.tagging.proofs.Faults.{tag-counts}

module _ (t : Table) (well : TableWritable t) (env : Environment) (cs : List Command) where
  abbrev ρ : Ruler Tag
  ρ = tag_ruler (translate t)

  -- ══════════════════════════════════════════════════════════════════════════════════════════
  -- One step, from labels in range and an accepted row
  -- ══════════════════════════════════════════════════════════════════════════════════════════

  abbrev Ready : State → Tag → Type 0
  Ready s u = LabelsInRange s × Fits t u.row

  module _ (s : State) (u : Tag) (ready : Ready s u) where
    rules-alike : (c : Command) (q : Request) → Asks c s q → AnswersAlike (rules ρ u) (evaluate t) env s c q
    rules-alike c (halt x) a = tt
    rules-alike c (ask l1 l2 l3 k) a = (consult-table t (key_of c s l1 l2 l3) a.0 well u.row ready.1).verdict

    -- the rule memory rules on it as the table does
    step-rules : step (rules ρ u) env cs s ≡ step (evaluate t) env cs s
    step-rules =
        step-alike (rules ρ u) (evaluate t) env s
        (λ c. rules-alike c (request env c s) (request-asks env s ready.0 c)) cs

    -- what it leaves in the rule memory
    abbrev Left : Outcome → Tag → Type 0
    Left (stopped x) w = Leaves t env cs x s w.row
    Left (stepped v) w = Fits t w.row

    outcome-left : (o : Outcome) (w : Tag) → Roomy o → Fits t w.row → Left o w
    outcome-left (stopped x) w e h = rw e h
    outcome-left (stepped v) w e h = h

    request-left : (c : Command) → CommandAt cs s.pc.number c → (q : Request) → request env c s ≡ q → Asks c s q
        → Left (consult (evaluate t) c s q) (asked_by ρ c s u q)
    request-left c at (halt x) e a = rw a ready.1
    request-left c at (ask l1 l2 l3 k) e (m, roomy) = go (evaluate t key) refl
      where
        key : Key
        key = key_of c s l1 l2 l3

        w : Tag
        w = (ρ u key).ruler

        row : w.row ≡ row_of key (evaluate t key)
        row = (consult-table t key m well u.row ready.1).row

        go : (v : Verdict) → evaluate t key ≡ v → Left (decide v k) w
        go denied d = (c, at, rw e (d, row ∙ ap (row_of key) d))
        go (allowed p r) d =
            let is : w.row ≡ row_of key (allowed p r) = row ∙ ap (row_of key) d in
            outcome-left (k p r) w (roomy p r) (rw is (row_fits t key m p r d))

    step_left : Left (step (rules ρ u) env cs s) (asked ρ env cs s u)
    unfolding execute
    step_left =
        rw step-rules
        (step_both ρ (evaluate t) env s u Left cs
        (λ c at. request-left c at (request env c s) refl (request-asks env s ready.0 c))
        (λ out. ready.1))

    step-ready : (v : State) → step (rules ρ u) env cs s ≡ stepped v → Ready v (asked ρ env cs s u)
    step-ready v e =
        let range = step_range (rules ρ u) (rules-range (translate t) u) env cs s ready.0 in
        (gives-stepped LabelsInRange e range, rw e at step_left)

  -- ══════════════════════════════════════════════════════════════════════════════════════════
  -- A run
  -- ══════════════════════════════════════════════════════════════════════════════════════════

  alike : Alike ρ (fixed (evaluate t)) env cs (λ s u v. Ready s u)
  alike =
      record {
        steps = λ s u v ready. step-rules s u ready;
        stays = λ s w u v ready e. step-ready s u ready w (step-rules s u ready ∙ e);
      }

  -- the rule memory at the stop
  run-leaves : (fuel : ℕ) (s : State) (u : Tag) → Ready s u
      → let r : Result Tag = run ρ env cs fuel s u in Leaves t env cs r.stop r.state r.ruler.row
  run-leaves =
      run-induction ρ env cs (λ fuel s u r. Ready s u → Leaves t env cs r.stop r.state r.ruler.row)
      (λ fuel s u e f ready. ready.1)
      (λ fuel s u x e f ready. rw (barred-other env _ _ (barrier-held env (length s.lines) _ f) 6 (omega arith)) ready.1)
      (λ s u e ready. ready.1)
      (λ fuel s u x e g ready. rw g at (step_left s u ready))
      (λ fuel s v u r e g on ready. on (step-ready s u ready v g))

-- ════════════════════════════════════════════════════════════════════════════════════════════
-- The claim
-- ════════════════════════════════════════════════════════════════════════════════════════════

pub tag-agrees : (t : Table) → TableWritable t → Claim t (evaluate t)
tag-agrees t well env cs fuel s u range fits =
    let same = alike t well env cs in
    record {
      machine = run-alike _ _ env cs _ same fuel s u tt (range, fits);
      stack = λ space. along-alike _ _ env cs _ same stack_laid fuel s u tt space (range, fits);
      row = run-leaves t well env cs fuel s u (range, fits);
      counts = tag-counts (translate t) env cs fuel s u;
    }

-- of every table that check 6 accepts
pub tag_read : (bytes : List ℕ) (t : Table) → read_table bytes ≡ table t → Claim t (evaluate t)
tag_read bytes t e = tag-agrees t (read-writable bytes t e)

-- of the standard table: the run is that of the plain engine
pub tag-standard : Claim standard_table standard
tag-standard = subst (Claim standard_table) (fun_ext evaluate-standard) (tag_read standard_bytes standard_table standard-read)
