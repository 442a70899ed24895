-- Clearances (specs/Clearance.antt): every line that goes out is cleared for its page, so that a page which is cleared for C is its part
-- that a reader of C sees, and privacy for C speaks of all of it.
-- Assumes nothing.
use mathlib.Core.Path.{◌≡◌, refl}
use mathlib.Core.Bool.{Bool, true, false}
use mathlib.Core.List.{List, [], ◌∷◌}
use Prim.Native.Nat.{ℕ}
use lib.IntN.{ℤ}
use lib.Dec.{T}
use Rattle.word.specs.Number.{same_word}
use Rattle.word.proofs.Laws.Test.{same_word_lem}
use Rattle.label.specs.Label.{flows}
use Rattle.label.proofs.Laws.{flows-trans}
use Rattle.machine.specs.Atom.{Line}
use Rattle.machine.specs.Rule.{standard, fixed}
use Rattle.machine.specs.State.{start}
use Rattle.machine.specs.Environment.{Environment, cleared}
use Rattle.machine.specs.Run.{run}
use Rattle.machine.specs.Claim.{keep, view, OneStartsOther}
use Rattle.machine.specs.Page.{on_page}
use Rattle.machine.specs.Clearance.{AllCleared, LinesCleared, Closed, PagesClosed}
use Rattle.machine.proofs.Lines.{run-each}
use Rattle.machine.proofs.Privacy.{privacy}
use Rattle.machine.proofs.Privacy.Effect.{view-append}
use Rattle.machine.proofs.Page.{starts-of, page-append}

pub lines-cleared : LinesCleared
lines-cleared R ρ env cs fuel cells u =
    run-each (λ l. cleared env l ≡ true) ρ env cs (λ z c at page w n l e. e) (λ l e. e) fuel (start cells) u tt

-- of a page that is cleared for C a reader of C sees all
module _ (env : Environment) (page : ℤ) (C : ℕ) (fits : flows (env.clearance page) C ≡ true) where
  page-seen : (ls : List Line) → AllCleared env ls → on_page page (view C ls) ≡ on_page page ls
  page-seen [] h = refl
  page-seen (l ∷ ls) h = go (flows l.label C) (same_word l.page page) refl refl (page-seen ls h.1)
    where
      -- a line of the page is seen
      seen : flows l.label C ≡ false → same_word l.page page ≡ true → ⊥
      seen e g =
          let there : page ≡ l.page = same_word_lem l.page page g in
          let fits' : flows (env.clearance l.page) C ≡ true = rw there at fits in
          let t : T (flows l.label C) = flows-trans l.label (env.clearance l.page) C (rw h.0 tt) (rw fits' tt) in
          absurd (rw e at t)

      go : (b k : Bool) → flows l.label C ≡ b → same_word l.page page ≡ k → on_page page (view C ls) ≡ on_page page ls
          → on_page page (keep b l (view C ls)) ≡ keep k l (on_page page ls)
      go true k e g on = rw (g, on)
      go false true e g on = absurd (seen e g)
      go false false e g on = on

pub pages-closed : PagesClosed
pages-closed Q R σ ρ refines₁ refines₂ cs C cells₁ cells₂ alike env₁ env₂ fuel₁ fuel₂ u v page fits₁ fits₂ =
    record { whole = whole; read = λ S. starts-of (view S) (view-append S) _ _ whole }
  where
    lines₁ : List Line
    lines₁ = (run σ env₁ cs fuel₁ (start cells₁) u).state.lines

    lines₂ : List Line
    lines₂ = (run ρ env₂ cs fuel₂ (start cells₂) v).state.lines

    whole : OneStartsOther (on_page page lines₁) (on_page page lines₂)
    whole =
        rw (
          ← page-seen env₁ page C fits₁ lines₁ (lines-cleared Q σ env₁ cs fuel₁ cells₁ u),
          ← page-seen env₂ page C fits₂ lines₂ (lines-cleared R ρ env₂ cs fuel₂ cells₂ v),
        )
        (starts-of (on_page page) (page-append page) _ _
        (privacy Q R σ ρ refines₁ refines₂ cs C cells₁ cells₂ alike env₁ env₂ fuel₁ fuel₂ u v))

pub standard-closed : Closed (fixed standard) (fixed standard)
standard-closed = pages-closed Unit Unit (fixed standard) (fixed standard) (λ u k p r e. e) (λ u k p r e. e)
