-- What the code reads of a rule table, which keeps no expressions: the value at given labels, and where the expression ends.
use Rattle.std.specs.Prelude.{ℕ, ◌≡◌, ◌+◌, Bool, true, false, List, leb, Err, None, Ok, Option, Result, Some}
use Rattle.std.specs.Bool.{then_some}
use Rattle.label.specs.declared.Label.{Label}
use Rattle.label.specs.Label.{bottom}
use Rattle.program.specs.Command.{Opcode}
use Rattle.machine.specs.Rule as Rule
use Rattle.tables.specs.declared.Asked.{Asked}
use Rattle.tables.specs.declared.Labels.{Labels}
use Rattle.policy.specs.declared.Token.{Token}
use Rattle.tables.specs.declared.expression.Leaf.{Leaf}
use Rattle.tables.specs.declared.expression.Test.{Test}
use Rattle.policy.specs.Expression.{LabelExpr, Condition}
use Rattle.policy.specs.Evaluate.{eval_label, eval_condition}
use Rattle.policy.specs.Read.{Read, fault, found, read_label, read_condition, result_if}

abbrev pub label_with : ℕ → Label
label_with l = record { 0 = l }

-- an input, which is missing where the command does not supply it
abbrev pub input_if : Bool → Label → Rule.Input
input_if true l = Rule.present l.0
input_if false l = Rule.missing

-- the key of a command that supplies so many inputs
abbrev pub key_of : Opcode → (supplied : ℕ) → Labels → Rule.Key
key_of o n ls =
    record {
      opcode = o;
      pc = ls.place.0;
      input1 = input_if (leb 1 n) ls.input1;
      input2 = input_if (leb 2 n) ls.input2;
      input3 = input_if (leb 3 n) ls.input3;
    }

abbrev pub asked_key : Opcode → Asked → Rule.Key
asked_key o a = key_of o a.supplied a.labels

-- what was read, with its value
abbrev pub value_read : {A B : Type 0} → (A → B) → Read A → Result (B × ℕ) ℕ
value_read value (fault at) = Err at
value_read value (found e next) = Ok (value e, next)

abbrev pub label_value : Rule.Key → LabelExpr → Label
label_value k e = label_with (eval_label k e)

abbrev pub label_read : Rule.Key → Read LabelExpr → Result (Label × ℕ) ℕ
label_read k r = value_read (label_value k) r

abbrev pub condition_read : Rule.Key → Read Condition → Result (Bool × ℕ) ℕ
condition_read k r = value_read (eval_condition k) r

-- ════════════════════════════════════════════════════════════════════════════════════════════
-- What is read at an offset, whichever command asks: only the inputs that it supplies count
-- ════════════════════════════════════════════════════════════════════════════════════════════

abbrev pub LabelAt : (depth : ℕ) → Asked → List ℕ → (at : ℕ) → Result (Label × ℕ) ℕ → Type 0
LabelAt depth a bytes at r = (o : Opcode) → r ≡ label_read (asked_key o a) (read_label depth a.supplied bytes at)

abbrev pub ConditionAt : (depth : ℕ) → Asked → List ℕ → (at : ℕ) → Result (Bool × ℕ) ℕ → Type 0
ConditionAt depth a bytes at r = (o : Opcode) → r ≡ condition_read (asked_key o a) (read_condition depth a.supplied bytes at)

-- the result of a rule
abbrev pub ResultAt : (has : Bool) → Asked → List ℕ → (at : ℕ) → Result (Label × ℕ) ℕ → Type 0
ResultAt has a bytes at r = (o : Opcode) → r ≡ label_read (asked_key o a) (result_if has a.supplied bytes at)

-- ════════════════════════════════════════════════════════════════════════════════════════════
-- A first byte, and what it starts
-- ════════════════════════════════════════════════════════════════════════════════════════════

abbrev pub leaf_of : Token → Asked → Option Leaf
leaf_of Token.Empty a = Some (Leaf.Is (label_with bottom))
leaf_of Token.Place a = Some (Leaf.Is a.labels.place)
leaf_of Token.Input1 a = then_some (leb 1 a.supplied) (Leaf.Is a.labels.input1)
leaf_of Token.Input2 a = then_some (leb 2 a.supplied) (Leaf.Is a.labels.input2)
leaf_of Token.Input3 a = then_some (leb 3 a.supplied) (Leaf.Is a.labels.input3)
leaf_of Token.Join a = Some Leaf.Join
leaf_of _ a = None

abbrev pub test_of : Token → Option Test
test_of Token.True = Some Test.True
test_of Token.Flows = Some Test.Flows
test_of Token.And = Some Test.And
test_of Token.Or = Some Test.Or
test_of _ = None

-- with the offset after it; where there is nothing, the fault
abbrev pub at_offset : {A : Type 0} → Option A → (at : ℕ) → Result (A × ℕ) ℕ
at_offset (Some a) at = Ok (a, at + 1)
at_offset None at = Err at
