-- A page from the parts of its making: the job's reading, the run's end, the text.
-- Assumes nothing.
use Rattle.std.proofs.lemmas.List.{drop_min}
use Rattle.std.proofs.Common.{Err, None, Ok, Option, Result, Some, unwrap_or}
use mathlib.Core.Path.{◌≡◌, refl, sym, ap, subst, ◌∙◌}
use mathlib.Core.Bool.{Bool, true, false}
use mathlib.Core.List.{List}
use Prim.Native.Nat.{ℕ, zero, suc, ◌+◌, ◌<◌, ◌≤◌, min}
use native.Mathlib.Nat.{zero-add}
use native.Mathlib.Omega.{arith}
use lib.IntN.{ℤ, pos}
use lib.ListN.{length, take, drop, length-append, length-replicate, drop_of_length-le}
use lib.Dec.{ltb, leb}
use borrow.Author.Tests.{lt-ltb, le-ltb, ltb-true}
use Rattle.word.proofs.Lay.{laid_at-zero}
use Rattle.word.specs.Choose.{choose}
use Rattle.word.proofs.Bool.{never}
use Rattle.step.specs.Lent.{Cells, cells}
use Rattle.tagged.specs.Tagged.{Left}
use Rattle.report.specs.declared.job.Item.{Item}
use Rattle.report.specs.declared.job.Item.TheVariants.{Cell, Allowance, Reader, Sheet}
use Rattle.report.specs.declared.job.Said.{Said}
use Rattle.report.specs.Job.{Heard, silence, with_cell, with_allowance, with_reader, Ending, bad, sheet, Reading, reading}
use Rattle.report.specs.Job.{item_at, follow, read_from, read_job, sheet_from, sheet_of, answer_of, job_answer, fitted}
use Rattle.report.specs.Lines.{job_text}
use Rattle.report.specs.Written.{Written}
use Rattle.report.specs.Page.{zeros, end_for, answer_text, ended_text, run_text, reading_text, page_of, page_limit, page_answer, page_out, printed_of}
use Rattle.report.proofs.Reading.{fitted-take}
use Rattle.program.specs.declared.Refusal.{Refusal}
use Rattle.engine.specs.declared.Ran.{Ran}

-- ════════════════════════════════════════════════════════════════════════════════════════════
-- At most 1,024 cells, each with a label
-- ════════════════════════════════════════════════════════════════════════════════════════════

pub record Few (h : Heard) : Type 0 where
  pub values : length h.values ≤ 1024
  pub labels : length h.labels ≡ length h.values

module _ (on : ℕ → Heard → Reading) (keeps : (at : ℕ) (h : Heard) → Few h → Few (on at h).heard) (at : ℕ) (h : Heard) (f : Few h) where
  few-cell : (z : ℤ) (l : ℕ) (b : Bool) → ltb (length h.values) 1024 ≡ b
      → Few (choose b (on (at + 13) (with_cell h z l)) (reading h (bad at))).heard
  few-cell z l true e =
      keeps (at + 13) (with_cell h z l)
      (record {
        values = simp length-append (omega (arith, ltb-true (length h.values) 1024 e));
        labels = simp length-append (let k = f.labels in omega arith);
      })
  few-cell z l false e = f

  few-item : (i : Option Item) → Few (follow i at h on).heard
  few-item (Some (Cell z l)) = few-cell z l.0 (ltb (length h.values) 1024) refl
  few-item (Some (Allowance k)) = keeps (at + 5) (with_allowance h k) (record { values = f.values; labels = f.labels })
  few-item (Some (Reader l)) = keeps (at + 5) (with_reader h l.0) (record { values = f.values; labels = f.labels })
  few-item (Some Sheet) = f
  few-item None = f

few-if : (b : Bool) (x y : Reading) → Few x.heard → Few y.heard → Few (choose b x y).heard
few-if true x y p q = p
few-if false x y p q = q

few-from : (n : ℕ) (s : List ℕ) (at : ℕ) (h : Heard) → Few h → Few (read_from n s at h).heard
unfolding read_from
few-from zero s at h f = f
few-from (suc n) s at h f =
    few-if (ltb at (length s)) (follow (item_at s at) at h (λ at' h'. read_from n s at' h')) (reading h (bad (length s)))
    (few-item (λ at' h'. read_from n s at' h') (λ at' h' f'. few-from n s at' h' f') at h f (item_at s at)) f

pub few : (s : List ℕ) → Few (read_job s).heard
unfolding read_job
few s =
    let none : Few silence = record { values = omega arith; labels = refl } in
    few-if (leb (length s) 65536) (read_from (length s) s 0 silence) (reading silence (bad 65536))
    (few-from (length s) s 0 silence none) none

-- ════════════════════════════════════════════════════════════════════════════════════════════
-- The run's end
-- ════════════════════════════════════════════════════════════════════════════════════════════

module _ (c : Cells) (allowance reader : ℕ) (bytes : List ℕ) (l : Left) (d : l ≡ end_for c allowance bytes)
    (old : List ℕ) (n : ℕ) (new : List ℕ) where
  run-text : ended_text reader l.ended ≡ run_text c allowance reader bytes
  unfolding run_text
  run-text = ap (λ (x : Left). ended_text reader x.ended) d

  pub run-written : (x : Result Ran Refusal) → l.ended.answer ≡ x → Written (answer_text reader x l.ended.memory.output) old 0 n new
      → Written (run_text c allowance reader bytes) old 0 n new
  run-written x e w =
      subst (λ (t : List ℕ). Written t old 0 n new) (sym (ap (λ x. answer_text reader x l.ended.memory.output) e) ∙ run-text) w

-- ════════════════════════════════════════════════════════════════════════════════════════════
-- The job's reading
-- ════════════════════════════════════════════════════════════════════════════════════════════

-- from where the reader says that the sheet starts; a bad job's starts at the end
abbrev pub start_of : List ℕ → Result Said ℕ → ℕ
start_of job (Ok said) = said.sheet
start_of job (Err offset) = length job

module _ (job : List ℕ) where
  pub sheet-read : drop (min (start_of job (job_answer (read_job job))) (length job)) job ≡ sheet_of job
  sheet-read = by (read_job job).ending
    where
      by : (x : Ending) → drop (min (start_of job (answer_of (read_job job).heard x)) (length job)) job ≡ sheet_from job x
      by (bad k) = drop_of_length-le job (omega arith)
      by (sheet k) = drop_min k job

module _ (job old : List ℕ) (n : ℕ) (new : List ℕ) where
  pub page-bad : (offset : ℕ) → Err offset ≡ job_answer (read_job job) → Written (job_text offset) old 0 n new
      → Written (page_of job) old 0 n new
  unfolding page_of
  page-bad offset e w = by (read_job job).ending e
    where
      by : (x : Ending) → Err offset ≡ answer_of (read_job job).heard x → Written (reading_text job (read_job job).heard x) old 0 n new
      by (bad k) e = let d : offset ≡ k = cc in subst (λ (k : ℕ). Written (job_text k) old 0 n new) d w
      by (sheet k) e = never (cc)

  module _ (said : Said) (e : Ok said ≡ job_answer (read_job job)) where
    -- what was said is what was heard
    heard : (x : Ending) → Ok said ≡ answer_of (read_job job).heard x
        → (said.cells ≡ length (read_job job).heard.values) × (said.cells ≤ 1024)
    heard (bad k) e = never (cc)
    heard (sheet k) e =
        let h = (read_job job).heard in
        let same : said ≡ record { cells = length h.values; allowance = h.allowance; reader = record { 0 = h.reader }; sheet = k } =
        cc in
        let d = ap (λ (x : Said). x.cells) same in
        (d, omega (arith, (few job).values))

    -- the text of what was said, on cells
    abbrev said_text : Said → (values labels : List ℤ) → List ℕ → List ℕ
    said_text x values labels bytes = run_text (cells values labels) x.allowance x.reader.0 bytes

    pub cells-few : said.cells ≤ 1024
    cells-few = (heard (read_job job).ending e).1

    cells_are : said.cells ≡ length (read_job job).heard.values
    cells_are = (heard (read_job job).ending e).0

    module _ (values labels : List ℤ) (v : values ≡ fitted (read_job job).heard.values (zeros 1024))
        (l : labels ≡ fitted (read_job job).heard.labels (zeros 1024)) where
      values-are : take said.cells values ≡ (read_job job).heard.values
      values-are =
          rw (
            cells_are,
            v,
          ) (fitted-take (read_job job).heard.values (zeros 1024) (omega (arith, (few job).values, length-replicate 1024 (pos 0))))

      labels-are : take said.cells labels ≡ (read_job job).heard.labels
      labels-are =
          rw (cells_are, l, ← (few job).labels)
          (fitted-take (read_job job).heard.labels (zeros 1024)
          (omega (arith, (few job).values, (few job).labels, length-replicate 1024 (pos 0))))

      pub page-read : Written (said_text said (take said.cells values) (take said.cells labels) (sheet_of job)) old 0 n new
          → Written (page_of job) old 0 n new
      unfolding page_of
      page-read w = by (read_job job).ending e (rw (values-are, labels-are) at w)
        where
          by : (x : Ending) → Ok said ≡ answer_of (read_job job).heard x
              → Written (said_text said (read_job job).heard.values (read_job job).heard.labels (sheet_from job x)) old 0 n new
              → Written (reading_text job (read_job job).heard x) old 0 n new
          by (bad k) e w = never (cc)
          by (sheet k) e w =
              let h = (read_job job).heard in
              let same : said ≡ record {
                cells = length h.values;
                allowance = h.allowance;
                reader = record { 0 = h.reader };
                sheet =
                    k;
              } = cc in
              subst (λ (x : Said). Written (said_text x h.values h.labels (drop k job)) old 0 n new) same w

-- ════════════════════════════════════════════════════════════════════════════════════════════
-- The space for the page
-- ════════════════════════════════════════════════════════════════════════════════════════════

pub printed_first : (made : Option ℕ) (out : List ℕ) (n : ℕ) → n ≡ unwrap_or made 0 → take n out ≡ printed_of made out
printed_first (Some m) out n e = ap (λ n. take n out) e
printed_first None out n e = ap (λ n. take n out) e

module _ (job old : List ℕ) where
  pub page_short : length old < page_limit → record { answer : None ≡ page_answer job old; out : old ≡ page_out job old }
  page_short h = rw (lt-ltb (length old) page_limit h) (record { answer = refl; out = refl })

  module _ (h : page_limit ≤ length old) (n : ℕ) (new : List ℕ) (w : Written (page_of job) old 0 n new) where
    pub page_answered : Some n ≡ page_answer job old
    page_answered = rw (le-ltb (length old) page_limit h) (ap Some (w.end ∙ zero-add (length (page_of job))))

    pub page_written : new ≡ page_out job old
    page_written = rw (le-ltb (length old) page_limit h) (w.space ∙ laid_at-zero (page_of job) old)

  -- the same as the function's two clauses
  pub page-short : length old < page_limit → record { answer : None ≡ page_answer job old; out : old ≡ page_out job old }
  page-short h = page_short h

  pub page-written : page_limit ≤ length old → (n : ℕ) (new : List ℕ) → Written (page_of job) old 0 n new
      → record { answer : Some n ≡ page_answer job old; out : new ≡ page_out job old }
  page-written h n new w = record { answer = page_answered h n new w; out = page_written h n new w }
