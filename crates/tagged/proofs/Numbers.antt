-- What the tag engine refuses has a number, which is not 0.
-- Assumes nothing.
use Rattle.std.proofs.Common.{Err}
use mathlib.Core.Path.{◌≡◌}
use mathlib.Core.Bool.{Bool, true, false}
use mathlib.Core.List.{List}
use Prim.Native.Nat.{ℕ, ◌*◌, ◌≤◌}
use native.Mathlib.Omega.{arith}
use lib.IntN.{ℤ}
use lib.ListN.{length}
use lib.Dec.{leb, ltb}
use Rattle.program.specs.Command.{ruled}
use Rattle.program.specs.declared.Refusal.{Refusal}
use Rattle.program.specs.Decode.{refusal}
use Rattle.engine.specs.declared.Clearances.{Clearances}
use Rattle.engine.specs.Memory.{Memory}
use Rattle.engine.specs.Start.{given}
use Rattle.engine.proofs.Numbers.{LimitNumbered, broken, kept, kept-numbered, OwnNumbered, start-numbered, answer-numbered}
use Rattle.policy.specs.Expression.{Table}
use Rattle.policy.specs.Read.{Read, fault, found, read_rules, whole_if, whole, table_limit, table_if, read_table}
use Rattle.policy.specs.Row.{row_answer}
use Rattle.handler.specs.Translate.{handler_of}
use Rattle.tagging.specs.Consult.{tag_ruler}
use Rattle.tagged.specs.Start.{rules_limit, own_of}
use Rattle.tagged.specs.Tagged.{tag_of, start_tagged, tagged}

-- check 6
rules-numbered : (bytes : List ℕ) → LimitNumbered (rules_limit (read_table bytes))
unfolding read_table
rules-numbered bytes = limit (leb (length bytes) table_limit)
  where
    over : (b : Bool) (t : Table) (end : ℕ) → LimitNumbered (rules_limit (whole_if b t end))
    over true t end = broken {r = refusal 6 end} (omega arith)
    over false t end = kept

    rules : (x : Read Table) → LimitNumbered (rules_limit (whole (length bytes) x))
    rules (fault at) = broken {r = refusal 6 at} (omega arith)
    rules (found t end) = over (ltb end (length bytes)) t end

    limit : (b : Bool) → LimitNumbered (rules_limit (table_if b bytes))
    limit true = rules (read_rules ruled bytes 0)
    limit false = broken {r = refusal 6 table_limit} (omega arith)

own-numbered : (bytes : List ℕ) (row : List ℤ) (space : ℕ) → OwnNumbered (own_of (read_table bytes) row space)
own-numbered bytes row space =
    record {
      rules = rules-numbered bytes;
      row = kept-numbered (row_answer (read_table bytes) row) 7 0 (omega arith);
      handler = kept-numbered (leb (2 * length (handler_of (read_table bytes))) space) 8 3 (omega arith);
    }

pub tagged-numbered : (sheet bytes : List ℕ) (row : List ℤ) (c : Clearances) (m : Memory) (handler : List ℤ) (fuel : ℕ) (q : Refusal)
    → (tagged sheet bytes row c m handler fuel).ended.answer ≡ Err q → 1 ≤ q.code
unfolding tagged
tagged-numbered sheet bytes row c m handler fuel q e =
    answer-numbered (tag_ruler (handler_of (read_table bytes))) (start_tagged sheet (read_table bytes) row c m handler fuel) (tag_of row) c m fuel
    (start-numbered m.lent.cells.labels c (given m fuel) _ (own-numbered bytes row (length handler)) sheet) q e
