-- Reading a rule table from bytes: its rules, or the offset of the first byte at fault. Check 6.
use Rattle.std.specs.Prelude.{ℕ, zero, suc, ◌+◌, Bool, true, false, List, [], ◌∷◌, leb, ltb, eqb, length, None, Option, Some, slice_get}
use Rattle.program.specs.declared.Refusal.{Refusal}
use Rattle.program.specs.Decode.{refusal}
use Rattle.program.specs.Command.{Opcode, ret, ret_v, ruled, code_of, supplies, has_result}
use Rattle.policy.specs.declared.Token.{Token}
use Rattle.policy.specs.declared.Token.TheVariants.{Empty, Place, Input1, Input2, Input3, Join, Flows, True, And, Or, Nothing}
use Rattle.policy.specs.Expression.{LabelExpr, empty, place, input1, input2, input3, join, Condition, flows, always, both}
use Rattle.policy.specs.Expression.{either, Rule, Table}
use Rattle.policy.specs.Token.{token_at}

-- what reading at an offset gives: the offset of the first byte that is unknown, misplaced in kind, too deep, unsupplied or missing,
-- or what was read and the offset after it
pub data Read (A : Type 0) : Type 0 where
  fault : ℕ → Read A
  found : A → ℕ → Read A

abbrev pub and_then : {A B : Type 0} → Read A → (A → ℕ → Read B) → Read B
and_then (fault at) rest = fault at
and_then (found a next) rest = rest a next

-- two of a kind, one after the other
abbrev pub read_two : {A B : Type 0} → (ℕ → Read A) → (A → A → B) → ℕ → Read B
read_two read make at = and_then (read at) (λ a next. and_then (read next) (λ b end. found (make a b) end))

-- a byte that is an expression by itself, where it may stand
abbrev pub read_if : {A : Type 0} → Bool → A → ℕ → Read A
read_if true e at = found e (at + 1)
read_if false e at = fault at

-- a label expression by its first byte, in a rule of a command that supplies so many inputs; `inner` reads one that it holds
abbrev pub label_from : Token → (supplied at : ℕ) → (ℕ → Read LabelExpr) → Read LabelExpr
label_from Empty n at inner = found empty (at + 1)
label_from Place n at inner = found place (at + 1)
label_from Input1 n at inner = read_if (leb 1 n) input1 at
label_from Input2 n at inner = read_if (leb 2 n) input2 at
label_from Input3 n at inner = read_if (leb 3 n) input3 at
label_from Join n at inner = read_two inner join (at + 1)
label_from Flows n at inner = fault at
label_from True n at inner = fault at
label_from And n at inner = fault at
label_from Or n at inner = fault at
label_from Nothing n at inner = fault at

-- the label expression at an offset, at most so deep
unfoldable pub read_label : (depth supplied : ℕ) → List ℕ → (at : ℕ) → Read LabelExpr
read_label zero n bytes at = fault at
read_label (suc depth) n bytes at = label_from (token_at bytes at) n at (read_label depth n bytes)

-- a yes/no expression by its first byte; `label` and `inner` read a label expression and a yes/no expression that it holds
abbrev pub condition_from : Token → (at : ℕ) → (ℕ → Read LabelExpr) → (ℕ → Read Condition) → Read Condition
condition_from Empty at label inner = fault at
condition_from Place at label inner = fault at
condition_from Input1 at label inner = fault at
condition_from Input2 at label inner = fault at
condition_from Input3 at label inner = fault at
condition_from Join at label inner = fault at
condition_from Flows at label inner = read_two label flows (at + 1)
condition_from True at label inner = found always (at + 1)
condition_from And at label inner = read_two inner both (at + 1)
condition_from Or at label inner = read_two inner either (at + 1)
condition_from Nothing at label inner = fault at

-- the yes/no expression at an offset, at most so deep
unfoldable pub read_condition : (depth supplied : ℕ) → List ℕ → (at : ℕ) → Read Condition
read_condition zero n bytes at = fault at
read_condition (suc depth) n bytes at = condition_from (token_at bytes at) at (read_label depth n bytes) (read_condition depth n bytes)

-- an expression may hold expressions, at most 8 deep; a lone byte is 1 deep
abbrev pub depth_limit : ℕ
depth_limit = 8

-- the byte 10; another one counts as misplaced
abbrev pub empty_byte : Option ℕ → (at : ℕ) → Read LabelExpr
empty_byte None at = fault at
empty_byte (Some b) at = read_if (eqb b 0x10) empty at

-- the result of a rule: where the command has none, it must be the byte 10
abbrev pub result_if : Bool → (supplied : ℕ) → List ℕ → (at : ℕ) → Read LabelExpr
result_if true n bytes at = read_label depth_limit n bytes at
result_if false n bytes at = empty_byte (slice_get bytes at) at

-- a rule: three expressions (allowed, place, result)
unfoldable pub read_rule_with : (supplied : ℕ) (result : Bool) → List ℕ → (at : ℕ) → Read Rule
read_rule_with n has bytes at =
    and_then (read_condition depth_limit n bytes at) (λ c at2.
    and_then (read_label depth_limit n bytes at2) (λ p at3.
    and_then (result_if has n bytes at3) (λ r end.
    found (record { allowed = c; pc = p; result = r }) end)))

-- the rule of a command
abbrev pub read_rule : Opcode → List ℕ → (at : ℕ) → Read Rule
read_rule o bytes at = read_rule_with (supplies o) (has_result o) bytes at

abbrev pub prepend : Rule → Read Table → Read Table
prepend r (fault at) = fault at
prepend r (found rs end) = found (r ∷ rs) end

-- a table has a rule for each command that has its own
abbrev pub rule_count : ℕ
rule_count = length ruled

abbrev pub owner_if : Bool → (rule : ℕ) → ℕ
owner_if true i = i + 1
owner_if false i = code_of ret_v

-- the code of the command that has the rule with a number: the first rules are those of the codes up to Ret's, the last is RetV's
unfoldable pub owner_code : (rule : ℕ) → ℕ
owner_code i = owner_if (ltb i (code_of ret)) i

-- the rules of commands in order
unfoldable pub read_rules : List Opcode → List ℕ → (at : ℕ) → Read Table
read_rules [] bytes at = found [] at
read_rules (o ∷ os) bytes at = and_then (read_rule o bytes at) (λ r next. prepend r (read_rules os bytes next))

pub data ReadTable : Type 0 where
  refused : Refusal → ReadTable
  table : Table → ReadTable

-- after the rules nothing may be left over
abbrev pub whole_if : Bool → Table → (end : ℕ) → ReadTable
whole_if true t end = refused (refusal 6 end)
whole_if false t end = table t

abbrev pub whole : (size : ℕ) → Read Table → ReadTable
whole size (fault at) = refused (refusal 6 at)
whole size (found t end) = whole_if (ltb end size) t end

-- the largest number of bytes
abbrev pub table_limit : ℕ
table_limit = 512

abbrev pub table_if : Bool → List ℕ → ReadTable
table_if true bytes = whole (length bytes) (read_rules ruled bytes 0)
table_if false bytes = refused (refusal 6 table_limit)

unfoldable pub read_table : List ℕ → ReadTable
read_table bytes = table_if (leb (length bytes) table_limit) bytes
