-- The tag engine's own limits among those of a start: checks 6 and 7, and 8 at place 3.
use Rattle.std.specs.Prelude.{ℕ, ◌*◌, List, ℤ, length, leb, Err, Ok, Result}
use Rattle.program.specs.declared.Refusal.{Refusal}
use Rattle.program.specs.Decode.{refusal}
use Rattle.engine.specs.declared.start.Own.{Own}
use Rattle.engine.specs.Start.{kept_if}
use Rattle.policy.specs.Read.{ReadTable, refused, table}
use Rattle.policy.specs.Row.{row_answer}
use Rattle.handler.specs.Translate.{handler_of}
use Rattle.tagged.specs.declared.start.Found.{Found}

-- check 6: the rules are no table
abbrev pub rules_limit : ReadTable → Result (Unit {0}) Refusal
rules_limit (refused r) = Err r
rules_limit (table t) = Ok tt

-- check 7: the rule memory is neither empty nor an allowed row of this table
abbrev pub row_limit : ReadTable → List ℤ → Result (Unit {0}) Refusal
row_limit rules row = kept_if (row_answer rules row) (refusal 7 0)

-- check 8, place 3: the handler space is shorter than the handler, two words a kernel command
abbrev pub handler_limit : ReadTable → ℕ → Result (Unit {0}) Refusal
handler_limit rules space = kept_if (leb (2 * length (handler_of rules)) space) (refusal 8 3)

-- of the table, the rule memory and the length of the handler space
abbrev pub own_of : ReadTable → List ℤ → ℕ → Own
own_of rules row space = record { rules = rules_limit rules; row = row_limit rules row; handler = handler_limit rules space }

-- with the handler's length
abbrev pub found_of : ReadTable → List ℤ → ℕ → Found
found_of rules row space = record { own = own_of rules row space; size = length (handler_of rules) }
