-- Demand 1 for every engine, of what their contracts say (`plain`, `tagged`): a start is refused by the first of document 01's checks that
-- applies, with its number and place, and then all that was lent is as it came; every other start is run to one of the twelve stops
-- within its allowance. This file states it; proofs/Refusals.antt shows it.
use Rattle.std.specs.Prelude.{ℕ, suc, ◌*◌, ◌^◌, ◌<◌, ◌≤◌, min, ◌≡◌, ◌≢◌, false, List, [], ◌∷◌, ℤ, pos, negsuc, length, Err, Ok}
use Rattle.program.specs.declared.Command.{Command}
use Rattle.program.specs.declared.Refusal.{Refusal}
use Rattle.program.specs.Decode.{refusal, decode}
use Rattle.program.specs.Decode as Decode
use Rattle.machine.specs.State.{stop_number}
use Rattle.engine.specs.declared.Clearances.{Clearances}
use Rattle.engine.specs.declared.Ran.{Ran}
use Rattle.engine.specs.Memory.{Memory}
use Rattle.engine.specs.Ended.{Ended, ended}
use Rattle.plain.specs.Plain.{plain}
use Rattle.policy.specs.Expression.{Table}
use Rattle.policy.specs.Read.{table, read_table}
use Rattle.policy.specs.Read as Read
use Rattle.policy.specs.Row.{accepted_row}
use Rattle.handler.specs.Translate.{translate}
use Rattle.tagged.specs.Tagged.{Left, left, tag_of, tagged}

-- ════════════════════════════════════════════════════════════════════════════════════════════
-- Checks
-- ════════════════════════════════════════════════════════════════════════════════════════════

-- a check is the refusals that it gives
abbrev pub Check : Type 1
Check = Refusal → Type 0

-- one, where a condition holds
pub data Gives (P : Type 0) (q : Refusal) : Refusal → Type 0 where
  broken : P → Gives P q q

abbrev pub Nothing : Check → Type 0
Nothing c = (r : Refusal) → c r → ⊥

-- checked downwards: what the first gives, or the others where the first gives nothing
infixr 3 ◌before◌
pub data ◌before◌ (c d : Check) (r : Refusal) : Type 0 where
  first : c r → ◌before◌ c d r
  next : Nothing c → d r → ◌before◌ c d r

abbrev pub FirstOf : List Check → Check
FirstOf [] = λ r. ⊥
FirstOf (c ∷ cs) = c before FirstOf cs

-- 1 to 3, 12 and 14, the sheet: as reading it from the left gives them
abbrev pub Sheet : List ℕ → Check
Sheet sheet r = decode sheet ≡ Decode.refused r

-- 5 and 13, by their number: a word outside 0 to 2^32 − 1; of the cells, or the pages, from i on, the first such
abbrev pub Outside : ℤ → Type 0
Outside (pos n) = 2 ^ 32 ≤ n
Outside (negsuc n) = Unit

abbrev pub Labels : (number : ℕ) → ℕ → List ℤ → Check
Labels number i [] = λ r. ⊥
Labels number i (w ∷ ws) = Gives (Outside w) (refusal number i) before Labels number (suc i) ws

-- a condition on the commands of a sheet, and one on the table of some bytes
abbrev pub OfSheet : List ℕ → (List Command → Type 0) → Type 0
OfSheet sheet P = (cs : List Command) × (decode sheet ≡ Decode.accepted cs) × P cs

abbrev pub OfTable : List ℕ → (Table → Type 0) → Type 0
OfTable bytes P = (t : Table) × (read_table bytes ≡ table t) × P t

-- what an engine checks of its own: the rules, the rule memory, the handler space
pub record Own : Type 1 where
  pub rules : Check
  pub row : Check
  pub handler : Check

-- the plain engine skips them
abbrev pub none_own : Own
none_own = record { rules = λ r. ⊥; row = λ r. ⊥; handler = λ r. ⊥ }

-- of a table's bytes, the rule memory and the handler space
abbrev pub tagged_own : List ℕ → (row handler : List ℤ) → Own
tagged_own bytes row handler =
    record {
      rules = λ r. read_table bytes ≡ Read.refused r;
      row = Gives (OfTable bytes (λ t. accepted_row t row ≡ false)) (refusal 7 0);
      handler = Gives (OfTable bytes (λ t. length handler < 2 * length (translate t))) (refusal 8 3);
    }

-- all of them, in their order
abbrev pub Checks : List ℕ → Clearances → Memory → ℕ → Own → Check
Checks sheet c m fuel own =
    let values = length m.lent.cells.values in
    let labels = length m.lent.cells.labels in
    FirstOf (
    -- 1 to 3, 12 and 14
    Sheet sheet
    -- 4: the runs of the cells differ in length, else over 1,024
    ∷ Gives (values ≢ labels) (refusal 4 (min values labels))
    ∷ Gives (1024 < values) (refusal 4 1024)
    -- 5
    ∷ Labels 5 0 m.lent.cells.labels
    -- 13: the clearances are not sixteen words, else a word
    ∷ Gives (c.count ≢ 16) (refusal 13 16)
    ∷ Labels 13 0 c.words
    -- 6: unknown, misplaced, too deep, unsupplied, missing or left over; 7: neither empty nor an allowed row of this table
    ∷ own.rules
    ∷ own.row
    -- 8: shorter than the sheet's commands, 256 stack entries, the handler
    ∷ Gives (OfSheet sheet (λ cs. length m.program < 2 * length cs)) (refusal 8 1)
    ∷ Gives (length m.lent.stack < 768) (refusal 8 2)
    ∷ own.handler
    -- 9
    ∷ Gives (1000000 < fuel) (refusal 9 0)
    ∷ []
    )

-- ════════════════════════════════════════════════════════════════════════════════════════════
-- Demand 1
-- ════════════════════════════════════════════════════════════════════════════════════════════

-- of what an engine leaves: refused exactly as the checks say, and otherwise stopped
pub record Demand (checks refused : Check) (stopped : Type 0) : Type 0 where
  pub only : (r : Refusal) → refused r → checks r
  pub always : (r : Refusal) → checks r → refused r
  pub otherwise : Nothing checks → stopped

-- one of the twelve stops, within the allowance
abbrev pub StoppedBy : {R : Type 0} → ℕ → Ended R → Type 0
StoppedBy {R} fuel x =
    (ran : Ran) × (u : R) × (after : Memory) × (x ≡ ended (Ok ran) u after) × (stop_number ran.stop ≤ 11) × (ran.steps ≤ fuel)

abbrev pub TaggedDemand : List ℕ → Clearances → Memory → ℕ → List ℕ → (row handler : List ℤ) → Left → Type 0
TaggedDemand sheet c m fuel bytes row handler x =
    Demand (Checks sheet c m fuel (tagged_own bytes row handler)) (λ r. x ≡ left (ended (Err r) (tag_of row) m) handler)
    (StoppedBy fuel x.ended)

-- for all arguments
abbrev pub PlainClaim : Type 0
PlainClaim =
    (sheet : List ℕ) (c : Clearances) (m : Memory) (fuel : ℕ)
    → let x : Ended Unit = plain sheet c m fuel in
    Demand (Checks sheet c m fuel none_own) (λ r. x ≡ ended (Err r) tt m) (StoppedBy fuel x)

abbrev pub TaggedClaim : Type 0
TaggedClaim =
    (sheet : List ℕ) (c : Clearances) (m : Memory) (fuel : ℕ) (bytes : List ℕ) (row handler : List ℤ)
    → TaggedDemand sheet c m fuel bytes row handler (tagged sheet bytes row c m handler fuel)
