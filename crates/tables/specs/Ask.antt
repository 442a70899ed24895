-- What the code reads of a rule and of a table, and what a table in bytes says when it is asked.
use Rattle.std.specs.Prelude.{ℕ, ◌≡◌, Bool, List, Err, None, Ok, Option, Result, Some}
use Rattle.program.specs.Command.{Opcode, supplies, has_result, rule_number}
use Rattle.machine.specs.Rule as Rules
use Rattle.tables.specs.declared.Labels.{Labels}
use Rattle.policy.specs.Expression.{Rule}
use Rattle.policy.specs.Evaluate.{eval_rule, evaluate}
use Rattle.policy.specs.Read.{Read, read_rule_with, ReadTable, refused, table}
use Rattle.tables.specs.Value.{label_with, key_of, asked_key, value_read}
use Rattle.tables.specs.declared.Asked.{Asked}
use Rattle.tables.specs.declared.Allowed.{Allowed}
use Rattle.program.specs.declared.Refusal.{Refusal}

abbrev pub verdict_of : Rules.Verdict → Option Allowed
verdict_of Rules.denied = None
verdict_of (Rules.allowed p r) = Some (record { place = label_with p; result = label_with r })

abbrev pub rule_value : Rules.Key → Rule → Option Allowed
rule_value k r = verdict_of (eval_rule (Some r) k)

abbrev pub rule_read : Rules.Key → Read Rule → Result (Option Allowed × ℕ) ℕ
rule_read k r = value_read (rule_value k) r

-- a rule at an offset, whichever command asks
abbrev pub RuleAt : Asked → (has : Bool) → List ℕ → (at : ℕ) → Result (Option Allowed × ℕ) ℕ → Type 0
RuleAt a has bytes at r = (o : Opcode) → r ≡ rule_read (asked_key o a) (read_rule_with a.supplied has bytes at)

-- the rule of the command with a code
abbrev pub CodeAt : Option Opcode → Labels → List ℕ → (at : ℕ) → Result (Option Allowed × ℕ) ℕ → Type 0
CodeAt None ls bytes at r = r ≡ Err at
CodeAt (Some o) ls bytes at r = RuleAt (record { supplied = supplies o; labels = ls }) (has_result o) bytes at r

-- check 6: the table is accepted, or the refusal
abbrev pub check_answer : ReadTable → Result (Unit {0}) Refusal
check_answer (refused r) = Err r
check_answer (table t) = Ok tt

abbrev pub Readable : ReadTable → Type 0
Readable (refused r) = ⊥
Readable (table t) = Unit {0}

-- what a table says for a command and labels: nothing is allowed by what is no table
abbrev pub ask : ReadTable → Opcode → Labels → Rules.Verdict
ask (refused r) o ls = Rules.denied
ask (table t) o ls = evaluate t (key_of o (supplies o) ls)

-- what its rule with a number says, whichever command under that rule asks
abbrev pub RuleSays : ReadTable → (rule : ℕ) → Labels → Option Allowed → Type 0
RuleSays t n ls v = (o : Opcode) → rule_number o ≡ n → v ≡ verdict_of (ask t o ls)
