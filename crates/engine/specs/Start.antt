-- What is refused before the first step, in document 01's order.
use Rattle.std.specs.Prelude.{ℕ, suc, ◌*◌, min, Bool, true, false, List, [], ◌∷◌, ℤ, length, leb, eqb, Err, None, Ok, Option, Result, Some}
use Rattle.label.specs.Word.{stored}
use Rattle.program.specs.declared.Command.{Command}
use Rattle.program.specs.declared.Refusal.{Refusal}
use Rattle.program.specs.Decode.{Decoded, refused, accepted, refusal, decode}
use Rattle.engine.specs.declared.Clearances.{Clearances}
use Rattle.engine.specs.declared.start.Given.{Given}
use Rattle.engine.specs.declared.start.Own.{Own}
use Rattle.engine.specs.Memory.{Memory}
use Rattle.label.specs.declared.Label.{Label}

-- a limit, kept where the test holds
abbrev pub kept_if : Bool → Refusal → Result (Unit {0}) Refusal
kept_if true r = Ok tt
kept_if false r = Err r

-- the first of two that is broken, and of a list
abbrev pub or_else : Result (Unit {0}) Refusal → Result (Unit {0}) Refusal → Result (Unit {0}) Refusal
or_else (Err r) other = Err r
or_else (Ok tt) other = other

abbrev pub first_of : List (Result (Unit {0}) Refusal) → Result (Unit {0}) Refusal
first_of [] = Ok tt
first_of (l ∷ ls) = or_else l (first_of ls)

-- checks 5 and 13, by their number, from the cell or the page i on: a word outside 0 to 2^32 − 1, the first such
abbrev pub or_label : (check : ℕ) → Option Label → ℕ → Result (Unit {0}) Refusal → Result (Unit {0}) Refusal
or_label check (Some l) i rest = rest
or_label check None i rest = Err (refusal check i)

unfoldable pub labels_limit : (check : ℕ) → ℕ → List ℤ → Result (Unit {0}) Refusal
labels_limit check i [] = Ok tt
labels_limit check i (w ∷ words) = or_label check (stored w) i (labels_limit check (suc i) words)

-- the lengths and the allowance that were given, with the label words of the cells
abbrev pub given : Memory → ℕ → Given
given m fuel =
    record {
      values = length m.lent.cells.values;
      program = length m.program;
      stack = length m.lent.stack;
      fuel = fuel;
    }

-- an engine's own limits, of the rules, the rule memory and the handler space: the plain engine has none
abbrev pub none_own : Own
none_own = record { rules = Ok tt; row = Ok tt; handler = Ok tt }

-- after the sheet's, of a sheet of so many commands
abbrev pub limits : (count : ℕ) → List ℤ → Clearances → Given → Own → List (Result (Unit {0}) Refusal)
limits count labels c g own =
    -- 4: the runs of the cells differ in length (place: the shorter length), else over 1,024
    kept_if (eqb g.values (length labels)) (refusal 4 (min g.values (length labels)))
    ∷ kept_if (leb g.values 1024) (refusal 4 1024)
    -- 5: a label word
    ∷ labels_limit 5 0 labels
    -- 13: the clearances are not sixteen words, else a word
    ∷ kept_if (eqb c.count 16) (refusal 13 16)
    ∷ labels_limit 13 0 c.words
    -- 6 and 7: the rules, the rule memory
    ∷ own.rules
    ∷ own.row
    -- 8: working space for the sheet's commands, two words each, for 256 stack entries, three words each, for the handler
    ∷ kept_if (leb (2 * count) g.program) (refusal 8 1)
    ∷ kept_if (leb 768 g.stack) (refusal 8 2)
    ∷ own.handler
    -- 9: the allowance is over 1,000,000
    ∷ kept_if (leb g.fuel 1000000) (refusal 9 0)
    ∷ []

abbrev pub within : Result (Unit {0}) Refusal → List Command → Decoded
within (Err r) cs = refused r
within (Ok tt) cs = accepted cs

-- the sheet first, checks 1 to 3 and 12, then the rest
abbrev pub start_decoded : Decoded → List ℤ → Clearances → Given → Own → Decoded
start_decoded (refused r) labels c g own = refused r
start_decoded (accepted cs) labels c g own = within (first_of (limits (length cs) labels c g own)) cs

-- the program's commands, or the first refusal that applies
unfoldable pub start_of : List ℕ → List ℤ → Clearances → Given → Own → Decoded
start_of sheet labels c g own = start_decoded (decode sheet) labels c g own
