-- Pages (specs/Page.antt): a start of a list of lines is one on each page, and the lines of a run are on the pages that its commands name.
-- Assumes nothing.
use mathlib.Core.Path.{◌≡◌, refl, sym, ap, ◌∙◌}
use mathlib.Core.Logic.{inl, inr}
use mathlib.Core.Bool.{Bool, true, false}
use mathlib.Core.List.{List, [], ◌∷◌, ◌++◌}
use Prim.Native.Nat.{ℕ}
use lib.IntN.{ℤ, pos, negsuc}
use lib.ListN.{length, drop, take-append-drop}
use lib.Seq.{take-append_seam}
use Rattle.program.specs.declared.Command.{Command}
use Rattle.program.specs.declared.Command.TheVariants.{OutputTo}
use Rattle.program.specs.Command.{is_page}
use Rattle.program.specs.Decode.{accepted, decode}
use Rattle.program.proofs.Encoding.{decoded-writable}
use Rattle.program.proofs.Words.{writable-at}
use Rattle.word.specs.Number.{same_word}
use Rattle.word.specs.Field.{Bytes}
use Rattle.word.proofs.Bool.{never}
use Rattle.machine.specs.Atom.{Line, number_line}
use Rattle.machine.specs.Rule.{standard, fixed}
use Rattle.machine.specs.Environment.{cleared}
use Rattle.machine.specs.State.{start}
use Rattle.machine.specs.Stopped.{CommandAt, Writes, plain, to}
use Rattle.machine.specs.Claim.{keep, Start, OneStartsOther, Views}
use Rattle.machine.specs.End.{Tells}
use Rattle.machine.specs.Page.{on_page, TellsPage, PagesPrivate, PagesGiven, PagesKept}
use Rattle.machine.proofs.Lines.{run-each}
use Rattle.machine.proofs.Privacy.{privacy}
use Rattle.machine.proofs.End.{complete}

-- ════════════════════════════════════════════════════════════════════════════════════════════
-- One page of a list
-- ════════════════════════════════════════════════════════════════════════════════════════════

-- what is chosen from lists, each by itself: of a start a start is left
module _ (chosen : List Line → List Line) (each : (ls ms : List Line) → chosen (ls ++ ms) ≡ chosen ls ++ chosen ms) where
  start_of : (v w : List Line) → Start v w → Start (chosen v) (chosen w)
  start_of v w e =
      let rest = drop (length v) w in
      let joined : w ≡ v ++ rest = sym (take-append-drop (length v) w) ∙ ap (λ (ls : List Line). ls ++ rest) (sym e) in
      rw (joined, each v rest) (sym (take-append_seam (chosen v) (chosen rest)))

  pub starts-of : (v w : List Line) → OneStartsOther v w → OneStartsOther (chosen v) (chosen w)
  starts-of v w (inl s) = inl (start_of v w s)
  starts-of v w (inr s) = inr (start_of w v s)

module _ (page : ℤ) where
  pub page-append : (ls ms : List Line) → on_page page (ls ++ ms) ≡ on_page page ls ++ on_page page ms
  page-append [] ms = refl
  page-append (l ∷ ls) ms = rw (page-append ls ms) (go (same_word l.page page))
    where
      go : (b : Bool) → keep b l (on_page page ls ++ on_page page ms) ≡ keep b l (on_page page ls) ++ on_page page ms
      go true = refl
      go false = refl

  page-start : (v w : List Line) → Start v w → Start (on_page page v) (on_page page w)
  page-start = start_of (on_page page) page-append

  pub tells-page : (v w : List Line) → OneStartsOther v w → Tells v w → TellsPage page v w
  tells-page v w s t =
      record {
        starts = starts-of (on_page page) page-append v w s;
        start = λ e. page-start w v (t.start e);
        equal = λ e f. ap (on_page page) (t.equal e f);
      }

pub pages-private : PagesPrivate
pages-private Q R σ ρ refines₁ refines₂ page cs S cells₁ cells₂ alike env₁ env₂ fuel₁ fuel₂ u v =
    tells-page page _ _
    (privacy Q R σ ρ refines₁ refines₂ cs S cells₁ cells₂ alike env₁ env₂ fuel₁ fuel₂ u v)
    (complete Q R σ ρ refines₁ refines₂ cs S cells₁ cells₂ alike env₁ env₂ fuel₁ fuel₂ u v)

pub standard-pages : (page : ℤ) → Views (TellsPage page) (fixed standard) (fixed standard)
standard-pages = pages-private Unit Unit (fixed standard) (fixed standard) (λ u k p r e. e) (λ u k p r e. e)

-- ════════════════════════════════════════════════════════════════════════════════════════════
-- Which pages there are
-- ════════════════════════════════════════════════════════════════════════════════════════════

-- the pages of a program that was read are 0 to 15
pub decoded-pages : (sheet : List ℕ) (cs : List Command) → Bytes sheet → decode sheet ≡ accepted cs → PagesGiven cs
decoded-pages sheet cs bytes e (pos i) page at = writable-at cs i (OutputTo page) (decoded-writable sheet cs bytes e).1 at
decoded-pages sheet cs bytes e (negsuc i) page at = never (cc)

pub pages-kept : PagesKept
pages-kept R ρ env cs given fuel cells u =
    run-each (λ l. is_page l.page ≡ true) ρ env cs named (λ l e. refl) fuel (start cells) u tt
  where
    named : (z : ℤ) (c : Command) → CommandAt cs z c → (page : ℤ) → Writes c page → (n : ℤ) (l : ℕ)
        → cleared env (number_line page n l) ≡ true → is_page page ≡ true
    named z c at page plain n l e = refl
    named z c at page to n l e = given z page at
