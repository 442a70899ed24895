-- Reading a rule table directly: what it says for a key.
use Rattle.std.specs.Prelude.{ℕ, Bool, true, ◌&&◌, ◌||◌, None, Option, Some, slice_get}
use Rattle.label.specs.Label as Label
use Rattle.program.specs.Command.{Opcode, rule_number}
use Rattle.machine.specs.Rule.{Key, label_of, Verdict, denied, allowed_if, Policy}
use Rattle.policy.specs.Expression.{LabelExpr, empty, place, input1, input2, input3, join, Condition, flows, always, both}
use Rattle.policy.specs.Expression.{either, Rule, Table}

-- a label expression at a key: P, and the labels of the inputs
abbrev pub eval_label : Key → LabelExpr → ℕ
eval_label k empty = Label.bottom
eval_label k place = k.pc
eval_label k input1 = label_of k.input1
eval_label k input2 = label_of k.input2
eval_label k input3 = label_of k.input3
eval_label k (join a b) = Label.join (eval_label k a) (eval_label k b)

abbrev pub eval_condition : Key → Condition → Bool
eval_condition k (flows a b) = Label.flows (eval_label k a) (eval_label k b)
eval_condition k always = true
eval_condition k (both a b) = eval_condition k a && eval_condition k b
eval_condition k (either a b) = eval_condition k a || eval_condition k b

-- the rule that a command is under
abbrev pub rule_of : Table → Opcode → Option Rule
rule_of t o = slice_get t (rule_number o)

-- what it says: a command without a rule is not allowed
abbrev pub eval_rule : Option Rule → Key → Verdict
eval_rule None k = denied
eval_rule (Some r) k = allowed_if (eval_condition k r.allowed) (eval_label k r.pc) (eval_label k r.result)

-- the table as a policy
unfoldable pub evaluate : Table → Policy
evaluate t k = eval_rule (rule_of t k.opcode) k
