-- The labels that a rule table gives are in range where those are that it is asked with, and those that the rule memory and the handler
-- give always are, whatever the words are.
-- Assumes nothing.
use Rattle.std.proofs.Common.{None, Option, Some}
use mathlib.Core.Bool.{Bool, true, false}
use mathlib.Core.List.{List}
use native.Mathlib.Nat.{mod-lt}
use native.Mathlib.Omega.{arith}
use lib.IntN.{ℤ}
use Rattle.word.specs.Wrap.{residue}
use Rattle.label.specs.Label.{InRange}
use Rattle.label.specs.Word.{low_label}
use Rattle.label.proofs.Laws.{join-range}
use Rattle.machine.specs.Rule.{Input, present, missing, Key, label_of, Verdict, denied, allowed, allowed_if, rules}
use Rattle.machine.specs.Holds.{InputHas, KeyHas, Answers}
use Rattle.policy.specs.Expression.{LabelExpr, empty, place, input1, input2, input3, join, Rule, Table}
use Rattle.policy.specs.Evaluate.{eval_label, eval_condition, eval_rule, rule_of, evaluate}
use Rattle.handler.specs.Kernel.{Instruction, Outcome, returned, failed, Result, handle}
use Rattle.handler.specs.Kernel as Kernel
use Rattle.tagging.specs.Consult.{Tag, Five, five_of, matches, missed, ruled_if, again, consult_if, consult, tag_ruler}

abbrev Ranged : Verdict → Type 0
Ranged denied = Unit
Ranged (allowed p r) = InRange p × InRange r

-- ════════════════════════════════════════════════════════════════════════════════════════════
-- A table
-- ════════════════════════════════════════════════════════════════════════════════════════════

module _ (k : Key) (h : KeyHas InRange k) where
  input-range : (i : Input) → InputHas InRange i → InRange (label_of i)
  input-range (present l) g = g
  input-range missing g = omega arith

  label-range : (e : LabelExpr) → InRange (eval_label k e)
  label-range empty = omega arith
  label-range place = h.pc
  label-range input1 = input-range k.input1 h.input1
  label-range input2 = input-range k.input2 h.input2
  label-range input3 = input-range k.input3 h.input3
  label-range (join a b) = join-range (eval_label k a) (eval_label k b)

  rule-range : (x : Option Rule) → Ranged (eval_rule x k)
  rule-range None = tt
  rule-range (Some a) = by-test (eval_condition k a.allowed)
    where
      by-test : (b : Bool) → Ranged (allowed_if b (eval_label k a.pc) (eval_label k a.result))
      by-test true = (label-range a.pc, label-range a.result)
      by-test false = tt

pub evaluate-range : (t : Table) → Answers InRange (evaluate t)
unfolding evaluate
evaluate-range t k p r h e = rw e at (rule-range k h (rule_of t k.opcode))

-- ════════════════════════════════════════════════════════════════════════════════════════════
-- The rule memory
-- ════════════════════════════════════════════════════════════════════════════════════════════

low-range : (z : ℤ) → InRange (low_label z)
unfolding low_label
low-range z = mod-lt (residue 64 z) (omega arith)

ruled-range : (b : Bool) (ws : List ℤ) → Ranged (ruled_if b ws)
ruled-range true ws = (low-range _, low-range _)
ruled-range false ws = tt

again-range : (f : Five) (o : Outcome) (ws : List ℤ) → Ranged (again f o ws)
again-range f returned ws = ruled-range (matches f ws) ws
again-range f Kernel.denied ws = tt
again-range f failed ws = tt

consult-range : (handler : List ℤ → Result) (f : Five) (ws : List ℤ) → Ranged (consult handler f ws).verdict
unfolding consult
consult-range handler f ws = go (matches f ws)
  where
    go : (b : Bool) → Ranged (consult_if b handler f ws).verdict
    go true = ruled-range true ws
    go false = again-range f (handler (missed f)).outcome (handler (missed f)).row

-- of every handler, with any rule memory
pub rules-range : (handler : List Instruction) (u : Tag) → Answers InRange (rules (tag_ruler handler) u)
rules-range handler u k p r has e = rw e at (consult-range (handle handler) (five_of k) u.row)
