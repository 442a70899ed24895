-- Writing a rule table as bytes, operator first; and the tables that can be written: depths at most 8, supplied inputs, 512 bytes.
use Rattle.std.specs.Prelude.{ℕ, suc, ◌≤◌, max, ◌≡◌, Bool, true, false, List, [], ◌∷◌, ◌++◌, length}
use Rattle.program.specs.Command.{Opcode, ruled, supplies, has_result}
use Rattle.policy.specs.Expression.{LabelExpr, empty, place, input1, input2, input3, join, Condition, flows, always, both}
use Rattle.policy.specs.Expression.{either, Rule, Table}
use Rattle.policy.specs.Read.{depth_limit, table_limit}

unfoldable pub write_label : LabelExpr → List ℕ
write_label empty = 0x10 ∷ []
write_label place = 0x11 ∷ []
write_label input1 = 0x12 ∷ []
write_label input2 = 0x13 ∷ []
write_label input3 = 0x14 ∷ []
write_label (join a b) = 0x15 ∷ write_label a ++ write_label b

unfoldable pub write_condition : Condition → List ℕ
write_condition (flows a b) = 0x16 ∷ write_label a ++ write_label b
write_condition always = 0x17 ∷ []
write_condition (both a b) = 0x18 ∷ write_condition a ++ write_condition b
write_condition (either a b) = 0x19 ∷ write_condition a ++ write_condition b

abbrev pub write_rule : Rule → List ℕ
write_rule r = write_condition r.allowed ++ (write_label r.pc ++ write_label r.result)

unfoldable pub write_table : Table → List ℕ
write_table [] = []
write_table (r ∷ rs) = write_rule r ++ write_table rs

-- how deep an expression is: a lone byte is 1 deep
abbrev pub label_depth : LabelExpr → ℕ
label_depth empty = 1
label_depth place = 1
label_depth input1 = 1
label_depth input2 = 1
label_depth input3 = 1
label_depth (join a b) = suc (max (label_depth a) (label_depth b))

abbrev pub condition_depth : Condition → ℕ
condition_depth (flows a b) = suc (max (label_depth a) (label_depth b))
condition_depth always = 1
condition_depth (both a b) = suc (max (condition_depth a) (condition_depth b))
condition_depth (either a b) = suc (max (condition_depth a) (condition_depth b))

-- an expression names none but the first n inputs
abbrev pub LabelSupplied : ℕ → LabelExpr → Type 0
LabelSupplied n empty = Unit {0}
LabelSupplied n place = Unit {0}
LabelSupplied n input1 = 1 ≤ n
LabelSupplied n input2 = 2 ≤ n
LabelSupplied n input3 = 3 ≤ n
LabelSupplied n (join a b) = LabelSupplied n a × LabelSupplied n b

abbrev pub ConditionSupplied : ℕ → Condition → Type 0
ConditionSupplied n (flows a b) = LabelSupplied n a × LabelSupplied n b
ConditionSupplied n always = Unit {0}
ConditionSupplied n (both a b) = ConditionSupplied n a × ConditionSupplied n b
ConditionSupplied n (either a b) = ConditionSupplied n a × ConditionSupplied n b

abbrev pub LabelWritable : ℕ → LabelExpr → Type 0
LabelWritable n e = (label_depth e ≤ depth_limit) × LabelSupplied n e

-- where the command has no result, it is the byte 10
abbrev pub ResultWritable : Bool → ℕ → LabelExpr → Type 0
ResultWritable true n e = LabelWritable n e
ResultWritable false n e = e ≡ empty

pub record RuleWritable (o : Opcode) (r : Rule) : Type 0 where
  pub depth : condition_depth r.allowed ≤ depth_limit
  pub supplied : ConditionSupplied (supplies o) r.allowed
  pub pc : LabelWritable (supplies o) r.pc
  pub result : ResultWritable (has_result o) (supplies o) r.result

-- a rule for each command
abbrev pub RulesWritable : List Opcode → Table → Type 0
RulesWritable [] [] = Unit {0}
RulesWritable [] (r ∷ rs) = ⊥
RulesWritable (o ∷ os) [] = ⊥
RulesWritable (o ∷ os) (r ∷ rs) = RuleWritable o r × RulesWritable os rs

pub record TableWritable (t : Table) : Type 0 where
  pub rules : RulesWritable ruled t
  pub size : length (write_table t) ≤ table_limit
