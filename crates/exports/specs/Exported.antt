-- What a call through the C interface gives back and what every lent word is at its return, for all arguments.
use Rattle.std.specs.Prelude.{ℕ, ◌≡◌, List, ℤ}
use Rattle.engine.specs.Memory.{Memory}
use Rattle.engine.specs.Ended.{Ended, directly}
use Rattle.word.specs.Lay.{laid}
use Rattle.policy.specs.Evaluate.{evaluate}
use Rattle.policy.specs.Read.{read_table}
use Rattle.handler.specs.Space.{kernel_words}
use Rattle.handler.specs.Claim.{Handles}
use Rattle.plain.specs.Plain.{plain}
use Rattle.tagging.specs.Consult.{Tag}
use Rattle.tagged.specs.Tagged.{Left, tagged}
use Rattle.exports.specs.declared.result.LuvrodanResult.{LuvrodanResult}
use Rattle.report.specs.Page.{page_answer, page_out}
use Rattle.exports.specs.declared.result.LuvrodanPageResult.{LuvrodanPageResult}
use Rattle.assembly.specs.Assembly.{Outcome, answer, left}
use Rattle.exports.specs.declared.result.LuvrodanWritten.{LuvrodanWritten}
use Rattle.exports.specs.Result.{result_of, page_result, written_result}
use Rattle.exports.specs.Row.{given_row, left_row}
use Rattle.exports.specs.Clearance.{given_clearances}

-- the result and the lent runs
pub record PlainLeft : Type 0 where
  pub result : LuvrodanResult
  pub memory : Memory

abbrev pub plain_left : LuvrodanResult → Memory → PlainLeft
plain_left r m = record { result = r; memory = m }

-- of what an engine without rule memory leaves
abbrev pub exported_end : Ended Unit → PlainLeft
exported_end e = plain_left (result_of e.answer 0 0) e.memory

-- of the sheet, the clearances' words, of which there may be any number, the lent runs and the allowance
unfoldable pub exported_plain : List ℕ → List ℤ → Memory → ℕ → PlainLeft
exported_plain sheet clearances m fuel = exported_end (plain sheet (given_clearances clearances) m fuel)

-- the result, the lent rule memory, the lent runs that both engines have, and the handler space
pub record TaggedLeft : Type 0 where
  pub result : LuvrodanResult
  pub row : List ℤ
  pub memory : Memory
  pub handler : List ℤ

abbrev pub tagged_left : LuvrodanResult → List ℤ → Memory → List ℤ → TaggedLeft
tagged_left r row m handler = record { result = r; row = row; memory = m; handler = handler }

-- of the sheet, the table's bytes, the lent rule memory, the clearances' words, the lent runs, the handler space and the allowance
unfoldable pub exported_tagged : List ℕ → List ℕ → List ℤ → List ℤ → Memory → List ℤ → ℕ → TaggedLeft
exported_tagged sheet bytes lent clearances m handler fuel =
    let x : Left = tagged sheet bytes (given_row lent) (given_clearances clearances) m handler fuel in
    let e : Ended Tag = x.ended in
    tagged_left (result_of e.answer e.ruler.faults e.ruler.kernel_steps) (left_row e.ruler.row lent) e.memory x.handler

-- without the counts
abbrev pub uncounted : LuvrodanResult → LuvrodanResult
uncounted r =
    record {
      refusal = r.refusal;
      position = r.position;
      stop = r.stop;
      steps = r.steps;
      pc = r.pc;
      label = r.label;
      depth = r.depth;
      lines = r.lines;
      faults = 0;
      kernel = 0;
    }

-- what is promised where the bytes are a table and nothing was refused: its handler, as asked, lies in its space, and all but the counts is
-- that of reading the table directly
abbrev pub ExportedPromises : List ℕ → List ℕ → List ℤ → Memory → List ℤ → ℕ → TaggedLeft → Type 0
ExportedPromises sheet bytes clearances m handler fuel x =
    Handles (read_table bytes) (λ t code. x.result.refusal ≡ 0
    → (x.handler ≡ laid (kernel_words code) handler)
    × (plain_left (uncounted x.result) x.memory ≡ exported_end (directly (evaluate t) sheet (given_clearances clearances) m fuel)))

-- the result and the lent bytes
pub record PageLeft : Type 0 where
  pub result : LuvrodanPageResult
  pub page : List ℕ

abbrev pub page_left : LuvrodanPageResult → List ℕ → PageLeft
page_left r page = record { result = r; page = page }

-- of the job and the lent bytes
unfoldable pub exported_page : List ℕ → List ℕ → PageLeft
exported_page job page = page_left (page_result (page_answer job page)) (page_out job page)

-- the result and the lent bytes
pub record WrittenLeft : Type 0 where
  pub result : LuvrodanWritten
  pub bytes : List ℕ

abbrev pub written_left : LuvrodanWritten → List ℕ → WrittenLeft
written_left r bytes = record { result = r; bytes = bytes }

-- of what is to be written, a sheet or a text, and the lent bytes
unfoldable pub exported_written : Outcome → List ℕ → WrittenLeft
exported_written x bytes = written_left (written_result (answer x bytes)) (left x bytes)
