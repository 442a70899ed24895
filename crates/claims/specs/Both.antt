-- Demand 2 of the engines as they are called, of what their contracts say (`plain`, `tagged`). This file states it; proofs/Both.antt shows
-- it.
use Rattle.std.specs.Prelude.{ℕ, ◌≡◌, List, ℤ, length, Ok}
use Rattle.engine.specs.declared.Clearances.{Clearances}
use Rattle.engine.specs.declared.Ran.{Ran}
use Rattle.engine.specs.Memory.{Memory}
use Rattle.engine.specs.Ended.{ended, directly}
use Rattle.policy.specs.Evaluate.{evaluate}
use Rattle.policy.specs.Standard.{standard_bytes}
use Rattle.plain.specs.Plain.{plain}
use Rattle.tagging.specs.Consult.{Tag}
use Rattle.tagged.specs.Tagged.{left, tagged}
use Rattle.claims.specs.Refusals.{Nothing, OfTable, tagged_own, Checks}

-- for all accepted bytes: where the tag engine answers with a stop, its answer (place, stack depth, lines written, stop, steps) and every
-- lent run (cells, working space, stack, lines) are those of reading the table directly
abbrev pub Reads : Type 0
Reads =
    (sheet bytes : List ℕ) (row : List ℤ) (c : Clearances) (m : Memory) (handler : List ℤ) (fuel : ℕ) → length row ≡ 7
    → (r : Ran) (u : Tag) (after : Memory) (handler' : List ℤ)
    → tagged sheet bytes row c m handler fuel ≡ left (ended (Ok r) u after) handler'
    → OfTable bytes (λ t. directly (evaluate t) sheet c m fuel ≡ ended (Ok r) tt after)

-- and the reverse: every start that the checks accept has that run, on both
abbrev pub Runs : Type 0
Runs =
    (sheet bytes : List ℕ) (row : List ℤ) (c : Clearances) (m : Memory) (handler : List ℤ) (fuel : ℕ) → length row ≡ 7
    → Nothing (Checks sheet c m fuel (tagged_own bytes row handler))
    → OfTable bytes (λ t.
    (r : Ran) × (u : Tag) × (after : Memory) × (handler' : List ℤ)
    × (directly (evaluate t) sheet c m fuel ≡ ended (Ok r) tt after)
    × (tagged sheet bytes row c m handler fuel ≡ left (ended (Ok r) u after) handler'))

-- under the standard table, from a start that both engines accept, it is the plain engine's
abbrev pub Claim : Type 0
Claim =
    (sheet : List ℕ) (c : Clearances) (m : Memory) (fuel : ℕ) (row handler : List ℤ) → length row ≡ 7
    → (p : Ran) (after : Memory) → plain sheet c m fuel ≡ ended (Ok p) tt after
    → (r : Ran) (u : Tag) (after' : Memory) (handler' : List ℤ)
    → tagged sheet standard_bytes row c m handler fuel ≡ left (ended (Ok r) u after') handler'
    → (r ≡ p) × (after' ≡ after)
