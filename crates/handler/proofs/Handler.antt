-- A fault of the handler of a rule table: what it answers, in how many steps, and that no step of it fails.
-- Assumes nothing.
use Rattle.std.proofs.Common.{Some, slice_get}
use mathlib.Core.Path.{◌≡◌, refl, sym, ap, subst, ◌∙◌}
use mathlib.Core.Bool.{Bool, true, false}
use mathlib.Core.List.{List, [], ◌∷◌}
use Prim.Native.Nat.{ℕ, zero, suc}
use native.Mathlib.Omega.{arith}
use lib.ListN.{length}
use borrow.Author.Tests.{le-leb}
use Rattle.word.proofs.Bool.{never}
use Rattle.program.specs.Command.{Opcode, ruled, supplies, rule_number}
use Rattle.machine.specs.Rule.{Input, present, missing, Key, Verdict, denied, allowed}
use Rattle.machine.specs.Holds.{Marked, WellMarked}
use Rattle.policy.specs.Expression.{Rule, Table}
use Rattle.policy.specs.Write.{RuleWritable, RulesWritable, TableWritable}
use Rattle.policy.specs.Evaluate.{eval_rule, evaluate}
use Rattle.policy.specs.Row.{fault_row}
use Rattle.policy.proofs.Ruled.{under}
use Rattle.handler.specs.Kernel.{ends, handle}
use Rattle.handler.specs.Translate.{translate}
use Rattle.handler.specs.Claim.{outcome_of, Handled}
use Rattle.handler.proofs.Exec.{exec, Ending, ending_of, run-exec}
use Rattle.handler.proofs.Effect.{Finished, handle-steps, handle-leads}
use Rattle.handler.proofs.Compile.{Readable, Reads}
use Rattle.handler.proofs.Dispatch.{ending_for, rule-run, dispatch-run}

-- ════════════════════════════════════════════════════════════════════════════════════════════
-- What a handler answers
-- ════════════════════════════════════════════════════════════════════════════════════════════

-- an input that the command supplies can be read
marked-readable : (b : Bool) (i : Input) → Marked b i → b ≡ true → Readable i
marked-readable true (present l) h e = h
marked-readable true missing h e = h
marked-readable false i h e = never (cc)

marked-reads : (k : Key) → WellMarked k → Reads (supplies k.opcode) k
marked-reads k h =
    record {
      pc = h.pc;
      input1 = λ l. marked-readable _ k.input1 h.input1 (le-leb 1 _ l);
      input2 = λ l. marked-readable _ k.input2 h.input2 (le-leb 2 _ l);
      input3 = λ l. marked-readable _ k.input3 h.input3 (le-leb 3 _ l);
    }

-- a rule of a table that has one for each command of a list
rules-rule : (os : List Opcode) (t : Table) (i : ℕ) (o : Opcode) → RulesWritable os t → slice_get os i ≡ Some o
    → (a : Rule) × (slice_get t i ≡ Some a) × RuleWritable o a
rules-rule [] t i o w e = let z : ◌≡◌ {A = ℕ} 0 1 = cc in absurd (omega arith)
rules-rule (p ∷ os) [] i o w e = absurd w
rules-rule (p ∷ os) (a ∷ t) zero o w e = let same : p ≡ o = cc in (a, refl, rw same at w.0)
rules-rule (p ∷ os) (a ∷ t) (suc i) o w e = rules-rule os t i o w.1 e

module _ (t : Table) (k : Key) (well : TableWritable t) (marked : WellMarked k) where
  exec-handler : exec (length (translate t)) (translate t) 0 [] (fault_row k) ≡ ending_for k (evaluate t k)
  unfolding evaluate
  exec-handler =
      let o = k.opcode in
      let u = under o in
      let (a, e, w) = rules-rule ruled t (rule_number o) u.owner well.rules u.at in
      rw e
      (dispatch-run t o (fault_row k) (ending_for k (eval_rule (Some a) k)) a refl e
      (λ rest. rule-run (length (translate t)) u.owner k a rest (rw u.inputs (marked-reads k marked)) w))

  handler-ending : ending_of (handle (translate t) (fault_row k)) ≡ ending_for k (evaluate t k)
  unfolding handle
  handler-ending =
      run-exec (translate t) (length (translate t)) 0 [] (fault_row k) 0 (omega arith)
      ∙ exec-handler

-- it finishes
outcome-finished : (v : Verdict) → Finished (outcome_of v)
outcome-finished denied = tt
outcome-finished (allowed p r) = tt

-- for every key with the marks of its command the handler answers as the table does: it never fails
pub handler-run : (t : Table) (k : Key) → TableWritable t → WellMarked k
    → Handled t k (translate t) (handle (translate t) (fault_row k))
handler-run t k well marked =
    let e = handler-ending t k well marked in
    let outcome : (handle (translate t) (fault_row k)).outcome ≡ outcome_of (evaluate t k) = ap (λ (x : Ending). x.outcome) e in
    let l = handle-leads (translate t) (fault_row k) (subst Finished (sym outcome) (outcome-finished (evaluate t k))) in
    record {
      last = l.last;
      way = l.way;
      ending = l.ending ∙ ap ends outcome;
      outcome = outcome;
      row = ap (λ (x : Ending). x.row) e;
      left = l.left;
      counted = l.counted;
      steps = handle-steps (translate t) (fault_row k);
    }
