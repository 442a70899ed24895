-- Demand 3 for pages (specs/Pages.antt): a page is the text of its reader's view of the run's lines.
-- Assumes nothing.
use Rattle.std.proofs.Common.{Err, Ok, Result}
use mathlib.Core.Path.{◌≡◌, refl, sym, ap, subst, ◌∙◌}
use mathlib.Core.Bool.{Bool, true, false}
use mathlib.Core.List.{List, [], ◌∷◌, ◌++◌}
use Prim.Native.Nat.{ℕ}
use lib.IntN.{ℤ}
use lib.ListN.{length, drop}
use lib.Seq.{take-append_seam}
use borrow.Author.Tests.{le-ltb}
use Rattle.word.specs.Choose.{choose}
use Rattle.word.specs.Lay.{laid}
use Rattle.word.proofs.Bool.{never}
use Rattle.label.specs.Label.{flows}
use Rattle.program.specs.declared.Refusal.{Refusal}
use Rattle.machine.specs.Atom.{Line}
use Rattle.machine.specs.Claim.{keep, view, OneStartsOther}
use Rattle.engine.specs.declared.Ran as Engine
use Rattle.engine.specs.Memory.{all_cleared, Memory}
use Rattle.engine.specs.Layout.{cells_of}
use Rattle.engine.specs.Ended.{Ended, ended}
use Rattle.tagging.specs.Consult.{Tag}
use Rattle.tagged.specs.Tagged.{Left, left}
use Rattle.report.specs.Job.{Heard, Ending, sheet, read_job, sheet_from, sheet_of}
use Rattle.report.specs.Job as Job
use Rattle.report.specs.Lines.{line_text, lines_text}
use Rattle.report.specs.Page.{zeros, lent_for, handler_space, end_for, answer_text, ended_text, run_text, reading_text, page_of, page_limit}
use Rattle.claims.specs.Privacy.{Ran, on_tagged, lines_in, Views}
use Rattle.claims.specs.Pages.{reader_of, cell_words_of, cells_given, answered, fate_from, fate_of, Related, Claim, Says, Unrun, Printed}
use Rattle.claims.specs.Pages as Pages
use Rattle.claims.proofs.Private.{runs-private}
use Rattle.claims.proofs.Starts.{texts, texts-starts}

-- ════════════════════════════════════════════════════════════════════════════════════════════
-- The text of lines is that of the view
-- ════════════════════════════════════════════════════════════════════════════════════════════

lines-view : (S : ℕ) (ls : List Line) → lines_text S ls ≡ texts line_text (view S ls)
unfolding lines_text
lines-view S [] = refl
lines-view S (l ∷ ls) = by (flows l.label S) (lines-view S ls)
  where
    by : (b : Bool) → lines_text S ls ≡ texts line_text (view S ls)
        → choose b (line_text l) [] ++ lines_text S ls ≡ texts line_text (keep b l (view S ls))
    by true e = ap (λ (t : List ℕ). line_text l ++ t) e
    by false e = e

-- ════════════════════════════════════════════════════════════════════════════════════════════
-- A job that is run
-- ════════════════════════════════════════════════════════════════════════════════════════════

-- its page is the text of the lines that the tag engine's run left
pub record Shown (h : Heard) (bytes : List ℕ) (page : List ℕ) : Type 0 where
  pub ran : Engine.Ran
  pub lines : List Line
  pub stopped : (end_for (cell_words_of h) h.allowance bytes).ended.answer ≡ Ok ran
  pub by : Ran bytes all_cleared (cells_of (cell_words_of h)) ran lines
  pub is : page ≡ texts line_text (view h.reader lines)

shown-run : (h : Heard) (bytes : List ℕ) → answered (end_for (cell_words_of h) h.allowance bytes).ended.answer ≡ Pages.ran
    → Shown h bytes (run_text (cell_words_of h) h.allowance h.reader bytes)
unfolding run_text
shown-run h bytes e =
    let x : Left = end_for (cell_words_of h) h.allowance bytes in
    go x.ended.answer x.ended.ruler x.ended.memory x.handler refl e
  where
    go : (a : Result Engine.Ran Refusal) (u : Tag) (m : Memory) (handler : List ℤ)
        → end_for (cell_words_of h) h.allowance bytes ≡ left (ended a u m) handler → answered a ≡ Pages.ran
        → Shown h bytes (answer_text h.reader a m.output)
    go (Err r) u m handler d e = never (cc)
    go (Ok ran) u m handler d e =
        record {
          ran = ran;
          lines = lines_in ran m;
          stopped = ap (λ (x : Left). x.ended.answer) d;
          by = on_tagged (zeros 7) refl (lent_for (cell_words_of h)) handler_space h.allowance ran u m handler d;
          is = lines-view h.reader (lines_in ran m);
        }

pub shown : (job : List ℕ) → fate_of job ≡ Pages.ran → Shown (read_job job).heard (sheet_of job) (page_of job)
unfolding fate_of page_of
shown job e = go (read_job job).ending e
  where
    go : (x : Ending) → fate_from job (read_job job).heard x ≡ Pages.ran
        → Shown (read_job job).heard (sheet_from job x) (reading_text job (read_job job).heard x)
    go (Job.bad offset) e = never (cc)
    go (sheet start) e = shown-run (read_job job).heard (drop start job) e

-- ════════════════════════════════════════════════════════════════════════════════════════════
-- The claims
-- ════════════════════════════════════════════════════════════════════════════════════════════

-- what holds of the texts of two views holds of two pages
pub pages-related : (So : List Line → List Line → Type 0) → Views So → (To : List ℕ → List ℕ → Type 0)
    → ((v w : List Line) → So v w → To (texts line_text v) (texts line_text w)) → Related To
pages-related So views To text job₁ job₂ e₁ e₂ sheets readers alike =
    let s₁ = shown job₁ e₁ in
    let s₂ = shown job₂ e₂ in
    let S = reader_of job₁ in
    let ran₂ = subst (λ (x : List ℕ). Ran x all_cleared (cells_given job₂) s₂.ran s₂.lines) (sym sheets) s₂.by in
    let so =
    views S (sheet_of job₁) all_cleared all_cleared (cells_given job₁) (cells_given job₂) s₁.ran s₂.ran s₁.lines s₂.lines s₁.by ran₂
    alike in
    let page₂ = s₂.is ∙ ap (λ (S : ℕ). texts line_text (view S s₂.lines)) (sym readers) in
    subst (λ (p : List ℕ). To p (page_of job₂)) (sym s₁.is)
    (subst (λ (p : List ℕ). To (texts line_text (view S s₁.lines)) p) (sym page₂) (text _ _ so))

pub pages-private : Claim
pages-private = pages-related OneStartsOther runs-private OneStartsOther (texts-starts line_text)

unrun-answer : (reader : ℕ) (e : Ended Tag) → Says (ended_text reader e) (answered e.answer)
unrun-answer reader e = go e.answer
  where
    go : (a : Result Engine.Ran Refusal) → Says (answer_text reader a e.memory.output) (answered a)
    go (Err r) = refl
    go (Ok x) = tt

pub pages-unrun : Unrun
unfolding fate_of page_of run_text
pages-unrun job = go (read_job job).ending
  where
    go : (x : Ending) → Says (reading_text job (read_job job).heard x) (fate_from job (read_job job).heard x)
    go (Job.bad offset) = refl
    go (sheet start) =
        let h : Heard = (read_job job).heard in unrun-answer h.reader (end_for (cell_words_of h) h.allowance (drop start job)).ended

pub pages-printed : Printed
unfolding laid
pages-printed job out h =
    rw (le-ltb (length out) page_limit h) (take-append_seam (page_of job) (drop (length (page_of job)) out))
