-- Demand 3 for pages: what the page of a job tells its reader. This file states it; proofs/PagesPrivate.antt, PagesComplete.antt and
-- PagesRefused.antt show it.
use Rattle.std.specs.Prelude.{ℕ, ◌≤◌, ◌≡◌, ◌≢◌, ◌⊎◌, true, false, List, [], ◌++◌, length, drop, Err, Ok, Result}
use Rattle.word.specs.Field.{Bytes}
use Rattle.label.specs.Label.{flows}
use Rattle.program.specs.declared.Refusal.{Refusal}
use Rattle.machine.specs.Atom.{Atom, end_line}
use Rattle.machine.specs.State.{stop_number}
use Rattle.machine.specs.Claim.{Alike, Start, OneStartsOther}
use Rattle.step.specs.Lent.{Cells, cells}
use Rattle.engine.specs.declared.Ran as Engine
use Rattle.engine.specs.Layout.{cells_of}
use Rattle.report.specs.Job.{Heard, Ending, sheet, read_job, sheet_of}
use Rattle.report.specs.Job as Job
use Rattle.report.specs.Lines.{job_text, refused_text, line_text}
use Rattle.report.specs.Page.{end_for, page_of, page_limit, page_answer, page_out, printed_of}

-- what a job says
abbrev pub reader_of : List ℕ → ℕ
reader_of job = (read_job job).heard.reader

abbrev pub allowance_of : List ℕ → ℕ
allowance_of job = (read_job job).heard.allowance

-- the cells that it gives
abbrev pub cell_words_of : Heard → Cells
cell_words_of h = cells h.values h.labels

abbrev pub cells_given : List ℕ → List Atom
cells_given job = cells_of (cell_words_of (read_job job).heard)

-- bad at an offset; refused with a number and a place; or its sheet is run
pub data Fate : Type 0 where
  bad : ℕ → Fate
  refused : ℕ → ℕ → Fate
  ran : Fate

abbrev pub answered : Result Engine.Ran Refusal → Fate
answered (Err r) = refused r.code r.position
answered (Ok x) = ran

abbrev pub fate_from : List ℕ → Heard → Ending → Fate
fate_from job h (Job.bad offset) = bad offset
fate_from job h (sheet start) = answered (end_for (cell_words_of h) h.allowance (drop start job)).ended.answer

unfoldable pub fate_of : List ℕ → Fate
fate_of job = fate_from job (read_job job).heard (read_job job).ending

-- two jobs that are run, with the same sheet and reader's set and with cells that are alike for that set, whatever their allowances: so
-- are the two pages
abbrev pub Related : (List ℕ → List ℕ → Type 0) → Type 0
Related So =
    (job₁ job₂ : List ℕ) → fate_of job₁ ≡ ran → fate_of job₂ ≡ ran →
    sheet_of job₁ ≡ sheet_of job₂ → reader_of job₁ ≡ reader_of job₂ →
    Alike (reader_of job₁) (cells_given job₁) (cells_given job₂) →
    So (page_of job₁) (page_of job₂)

-- one is the start of the other
abbrev pub Claim : Type 0
Claim = Related OneStartsOther

-- the bytes of an end line, and a page whose last line is one
abbrev pub end_text : (label : ℕ) → List ℕ
end_text label = line_text (end_line label)

abbrev pub Ends : List ℕ → Type 0
Ends page = (before : List ℕ) × (label : ℕ) × (page ≡ before ++ end_text label)

-- what the end line is for, on pages: after it stands nothing; a page that ends in it is whole, so that the other is a start of it, and
-- equal where that ends so too
pub record Tells (p q : List ℕ) : Type 0 where
  pub last : (before after : List ℕ) (label : ℕ) → p ≡ before ++ end_text label ++ after → after ≡ []
  pub start : Ends p → Start q p
  pub equal : Ends p → Ends q → p ≡ q

abbrev pub Complete : Type 0
Complete = Related Tells

-- and what it tells of the run: with it, that the run met stop 0, at a place whose label is inside the reader's set; without, that it met
-- another stop, or that it ended at a place whose label is outside
abbrev pub answer_to : List ℕ → Result Engine.Ran Refusal
answer_to job = let h : Heard = (read_job job).heard in (end_for (cell_words_of h) h.allowance (sheet_of job)).ended.answer

pub record Means (job : List ℕ) (r : Engine.Ran) : Type 0 where
  pub present : Ends (page_of job) → (stop_number r.stop ≡ 0) × (flows r.machine.label.0 (reader_of job) ≡ true)
  pub missing : (Ends (page_of job) → ⊥) → (stop_number r.stop ≢ 0) ⊎ (flows r.machine.label.0 (reader_of job) ≡ false)

abbrev pub Meant : Type 0
Meant = (job : List ℕ) → fate_of job ≡ ran → (r : Engine.Ran) → answer_to job ≡ Ok r → Means job r

-- a job that is not run prints one line, which says so and nothing else
abbrev pub Says : List ℕ → Fate → Type 0
Says page (bad offset) = page ≡ job_text offset
Says page (refused number place) = page ≡ refused_text number place
Says page ran = Unit

abbrev pub Unrun : Type 0
Unrun = (job : List ℕ) → Says (page_of job) (fate_of job)

-- in a space that holds the longest page, what is printed of it is the whole page and nothing else
abbrev pub Printed : Type 0
Printed = (job out : List ℕ) → page_limit ≤ length out → printed_of (page_answer job out) (page_out job out) ≡ page_of job

-- a job that is not bad: its sheet starts somewhere
abbrev pub Read : List ℕ → Type 0
Read job = (start : ℕ) × ((read_job job).ending ≡ sheet start)

-- whether a job is run or how it is refused depends on its sheet and its allowance only: of its cells it tells nothing
abbrev pub Refusals : Type 0
Refusals =
    (job₁ job₂ : List ℕ) → Bytes job₁ → Bytes job₂ → Read job₁ → Read job₂ →
    sheet_of job₁ ≡ sheet_of job₂ → allowance_of job₁ ≡ allowance_of job₂ →
    fate_of job₁ ≡ fate_of job₂

-- so with one allowance nothing is left to except but a bad job
abbrev pub Whole : Type 0
Whole =
    (job₁ job₂ : List ℕ) → Bytes job₁ → Bytes job₂ → Read job₁ → Read job₂ →
    sheet_of job₁ ≡ sheet_of job₂ → allowance_of job₁ ≡ allowance_of job₂ → reader_of job₁ ≡ reader_of job₂ →
    Alike (reader_of job₁) (cells_given job₁) (cells_given job₂) →
    OneStartsOther (page_of job₁) (page_of job₂)
