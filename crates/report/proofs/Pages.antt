-- The pages of the page program's run: every word of that run is one of the sixteen.
-- Assumes nothing.
use mathlib.Core.Path.{◌≡◌, refl, ap, ◌∙◌}
use mathlib.Core.List.{List, [], ◌∷◌, ◌++◌}
use Prim.Native.Nat.{ℕ, zero, suc}
use lib.IntN.{ℤ, pos}
use lib.ListN.{length, drop}
use lib.Seq.{get_or-drop}
use Rattle.word.specs.Field.{Bytes}
use Rattle.word.specs.Lay.{laid}
use Rattle.program.specs.Command.{is_page}
use Rattle.program.specs.Decode.{Decoded, refused, accepted}
use Rattle.machine.specs.Atom.{Line}
use Rattle.machine.specs.Page.{OnPages}
use Rattle.machine.proofs.Page.{decoded-pages, pages-kept}
use Rattle.step.specs.Lent.{Cells}
use Rattle.engine.specs.Memory.{Memory, surroundings, all_cleared}
use Rattle.engine.specs.Layout.{line_pages, cells_of}
use Rattle.engine.specs.Ended.{result_of}
use Rattle.engine.proofs.Accepted.{start_fine}
use Rattle.policy.specs.Standard.{standard_bytes}
use Rattle.policy.specs.Read.{read_table}
use Rattle.handler.specs.Translate.{handler_of}
use Rattle.tagging.specs.Consult.{Tag, tag_ruler}
use Rattle.tagged.specs.Start.{own_of}
use Rattle.tagged.specs.Tagged.{tag_of, start_tagged, tagged_of, tagged}
use Rattle.report.specs.Lines.{PageWords}
use Rattle.report.specs.Page.{zeros, lent_for, handler_space, end_for}

zero-pages : (n : ℕ) → PageWords (zeros n)
zero-pages zero i = refl
zero-pages (suc n) zero = refl
zero-pages (suc n) (suc i) = zero-pages n i

laid-pages : (ls : List Line) (old : List ℤ) → OnPages ls → PageWords old → PageWords (laid (line_pages ls) old)
unfolding laid
laid-pages ls old on h = go ls on (λ i. ap is_page (get_or-drop (length (line_pages ls)) old i (pos 0)) ∙ h _)
  where
    rest : List ℤ
    rest = drop (length (line_pages ls)) old

    go : (ls : List Line) → OnPages ls → PageWords rest → PageWords (line_pages ls ++ rest)
    go [] on h i = h i
    go (l ∷ ls) on h zero = on.0
    go (l ∷ ls) on h (suc i) = go ls on.1 h i

module _ (c : Cells) (allowance : ℕ) (sheet : List ℕ) (bytes : Bytes sheet) where
  abbrev m : Memory
  m = lent_for c

  abbrev PagesIn : Decoded → Type 0
  PagesIn d = PageWords (tagged_of d (read_table standard_bytes) (zeros 7) all_cleared m handler_space allowance).ended.memory.output.pages

  pub end-pages : PageWords (end_for c allowance sheet).ended.memory.output.pages
  unfolding tagged
  end-pages = by (start_tagged sheet (read_table standard_bytes) (zeros 7) all_cleared m handler_space allowance) refl
    where
      by : (d : Decoded) → start_tagged sheet (read_table standard_bytes) (zeros 7) all_cleared m handler_space allowance ≡ d → PagesIn d
      by (refused r) e = zero-pages 1024
      by (accepted cs) e =
          let own = own_of (read_table standard_bytes) (zeros 7) (length handler_space) in
          let fine = start_fine sheet all_cleared m allowance own cs e in
          let ρ = tag_ruler (handler_of (read_table standard_bytes)) in
          laid-pages (result_of ρ cs (tag_of (zeros 7)) all_cleared m allowance).state.lines (zeros 1024)
          (pages-kept Tag ρ (surroundings all_cleared m.output) cs
          (decoded-pages sheet cs bytes fine.decoded) allowance (cells_of c) (tag_of (zeros 7)))
          (zero-pages 1024)
