-- What the code finds of a row, step by step.
use Rattle.std.specs.Prelude.{ℕ, Bool, true, false, ◌&&◌, List, ℤ, leb, None, Option, Some}
use Rattle.std.specs.Bool.{then_some}
use Rattle.label.specs.declared.Label.{Label}
use Rattle.label.specs.Label.{bottom}
use Rattle.label.specs.Word.{stored}
use Rattle.program.specs.Command.{Opcode}
use Rattle.tables.specs.declared.row.Inspected.{Inspected}
use Rattle.tables.specs.Value.{label_with}
use Rattle.tables.specs.Ask.{check_answer}
use Rattle.policy.specs.Read.{ReadTable, refused, table}
use Rattle.policy.specs.Row.{is_mark, is_stored, given, word, row_of, row_answer}
use Rattle.tables.specs.declared.Labels.{Labels}
use Rattle.tables.specs.declared.Allowed.{Allowed}

-- the label of an input's word; that of a missing input is the empty one
abbrev pub input_stored : (supplied : Bool) → ℤ → Option Label
input_stored true w = stored w
input_stored false w = then_some (is_mark w) (label_with bottom)

-- two words are the labels of a verdict
abbrev pub verdict_agrees : Option Allowed → (place result : ℤ) → Bool
verdict_agrees None p r = false
verdict_agrees (Some a) p r = is_stored (stored p) a.place.0 && is_stored (stored r) a.result.0

-- the labels of a row, if all four are
abbrev pub row_labels : (supplied : ℕ) → List ℤ → Option Labels
row_labels n ws =
    given (stored (word ws 1)) (λ p.
    given (input_stored (leb 1 n) (word ws 2)) (λ a.
    given (input_stored (leb 2 n) (word ws 3)) (λ b.
    given (input_stored (leb 3 n) (word ws 4)) (λ c.
    Some (record { place = p; input1 = a; input2 = b; input3 = c })))))

-- a row whose command is known, of a table in bytes
abbrev pub row_in : ReadTable → Option Opcode → List ℤ → Bool
row_in (refused r) x ws = false
row_in (table t) x ws = row_of t x ws

-- checks 6 and 7
abbrev pub inspected : ReadTable → List ℤ → Inspected
inspected rules ws = record { table = check_answer rules; row = row_answer rules ws }
