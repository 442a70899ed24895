-- Refusals of jobs (specs/Pages.antt): a job has at most 1,024 cells, each with a label in range, so its start is refused or accepted as
-- one without cells is.
-- Assumes nothing.
use Rattle.std.proofs.Common.{Ok}
use mathlib.Core.Path.{◌≡◌, refl, sym, ap, ap₂, subst, ◌∙◌}
use mathlib.Core.Logic.{inl}
use mathlib.Core.List.{List, []}
use Prim.Native.Nat.{ℕ}
use lib.ListN.{length, take, drop}
use lib.Seq.{take-length}
use borrow.Author.Tests.{le-leb, eq-eqb}
use Rattle.word.specs.Field.{Bytes}
use Rattle.word.proofs.Bool.{never}
use Rattle.program.specs.Decode.{Decoded, refused, accepted, decode}
use Rattle.machine.specs.Claim.{OneStartsOther}
use Rattle.engine.specs.declared.start.Given.{Given}
use Rattle.engine.specs.declared.start.Own.{Own}
use Rattle.engine.specs.Memory.{all_cleared}
use Rattle.engine.specs.Start.{labels_limit, start_decoded, start_of}
use Rattle.policy.specs.Read.{read_table}
use Rattle.policy.specs.Standard.{standard_bytes}
use Rattle.tagged.specs.Tagged.{start_tagged, tagged_of, tagged}
use Rattle.report.specs.Job.{Heard, Ending, bad, sheet, read_job, sheet_from, sheet_of}
use Rattle.report.specs.Lines.{job_text, refused_text}
use Rattle.report.specs.Page.{zeros, lent_for, handler_space, end_for, page_of}
use Rattle.report.proofs.Paging.{Few, few}
use Rattle.claims.specs.Pages.{cell_words_of, allowance_of, Fate, answered, fate_from, fate_of, Says, Read}
use Rattle.claims.specs.Pages.{Refusals, Whole}
use Rattle.claims.specs.Pages as Pages
use Rattle.claims.proofs.PagesPrivate.{pages-private, pages-unrun}
use Rattle.claims.proofs.Labels.{labels-kept}

abbrev start_fate : Decoded → Fate
start_fate (refused r) = Pages.refused r.code r.position
start_fate (accepted cs) = Pages.ran

-- what the start of a job comes to, with the page program's spaces
abbrev started : Heard → List ℕ → Decoded
started h bytes = start_tagged bytes (read_table standard_bytes) (zeros 7) all_cleared (lent_for (cell_words_of h)) handler_space h.allowance

-- the fate of a sheet with an allowance, and no cells
abbrev without : ℕ → Heard
without fuel = record { values = []; labels = []; allowance = fuel; reader = 0 }

abbrev sheet_fate : List ℕ → ℕ → Fate
sheet_fate bytes fuel = start_fate (started (without fuel) bytes)

module _ (h : Heard) (few : Few h) (labels : labels_limit 5 0 h.labels ≡ Ok tt) (bytes : List ℕ) where
  abbrev lengths : (values program stack : ℕ) → Given
  lengths values program stack = record { values = values; program = program; stack = stack; fuel = h.allowance }

  start-same : started h bytes ≡ started (without h.allowance) bytes
  unfolding start_of labels_limit
  start-same = go (decode bytes) _ _ _
    where
      go : (d : Decoded) (program stack : ℕ) (own : Own)
          → start_decoded d h.labels all_cleared (lengths (length h.values) program stack) own
          ≡ start_decoded d [] all_cleared (lengths 0 program stack) own
      go (refused r) program stack own = refl
      go (accepted cs) program stack own =
          rw (eq-eqb (length h.values) (length h.labels) (sym few.labels), le-leb (length h.values) 1024 few.values, labels)

  start-answered : answered (end_for (cell_words_of h) h.allowance bytes).ended.answer ≡ start_fate (started h bytes)
  unfolding tagged
  start-answered = go (started h bytes)
    where
      go : (d : Decoded)
          → answered
          (tagged_of d (read_table standard_bytes) (zeros 7) all_cleared (lent_for (cell_words_of h)) handler_space h.allowance).ended.answer
          ≡ start_fate d
      go (refused r) = refl
      go (accepted cs) = refl

fate-sheet : (job : List ℕ) → Bytes job → Read job → fate_of job ≡ sheet_fate (sheet_of job) (allowance_of job)
unfolding fate_of
fate-sheet job bytes read = go (read_job job).ending read.1
  where
    go : (x : Ending) → x ≡ sheet read.0 → fate_from job (read_job job).heard x ≡ sheet_fate (sheet_from job x) (allowance_of job)
    go (bad offset) e = never (cc)
    go (sheet start) e =
        start-answered (read_job job).heard (few job) (labels-kept job bytes) (drop start job)
        ∙ ap start_fate (start-same (read_job job).heard (few job) (labels-kept job bytes) (drop start job))

pub pages-refusals : Refusals
pages-refusals job₁ job₂ bytes₁ bytes₂ read₁ read₂ sheets allowances =
    fate-sheet job₁ bytes₁ read₁
    ∙ ap₂ (λ (s : List ℕ) (n : ℕ). sheet_fate s n) sheets allowances
    ∙ sym (fate-sheet job₂ bytes₂ read₂)

pub pages-whole : Whole
pages-whole job₁ job₂ bytes₁ bytes₂ read₁ read₂ sheets allowances readers alike =
    let fates = sym (pages-refusals job₁ job₂ bytes₁ bytes₂ read₁ read₂ sheets allowances) in
    go (fate_of job₁) refl fates (pages-unrun job₁) (subst (λ (x : Fate). Says (page_of job₂) x) fates (pages-unrun job₂))
  where
    same : (t : List ℕ) → page_of job₁ ≡ t → page_of job₂ ≡ t → OneStartsOther (page_of job₁) (page_of job₂)
    same t p q = inl (sym (take-length (page_of job₁)) ∙ ap (take (length (page_of job₁))) (p ∙ sym q))

    go : (x : Fate) → fate_of job₁ ≡ x → fate_of job₂ ≡ x → Says (page_of job₁) x → Says (page_of job₂) x
        → OneStartsOther (page_of job₁) (page_of job₂)
    go (Pages.bad offset) e f p q = same (job_text offset) p q
    go (Pages.refused number place) e f p q = same (refused_text number place) p q
    go Pages.ran e f p q = pages-private job₁ job₂ e f sheets readers alike
