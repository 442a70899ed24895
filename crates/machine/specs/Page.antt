-- Request U4: pages. The lines of one page; what a reader of a set of owners sees of one page of two runs; which pages there are.
-- proofs/Page.antt proves it.
use Rattle.std.specs.Prelude.{ℕ, ◌≡◌, true, List, [], ◌∷◌, ℤ}
use Rattle.word.specs.Number.{same_word}
use Rattle.program.specs.declared.Command.{Command}
use Rattle.program.specs.declared.Command.TheVariants.{OutputTo}
use Rattle.program.specs.Command.{is_page}
use Rattle.machine.specs.Atom.{Atom, Line}
use Rattle.machine.specs.Rule.{Ruler}
use Rattle.machine.specs.Environment.{Environment}
use Rattle.machine.specs.State.{start}
use Rattle.machine.specs.Run.{run}
use Rattle.machine.specs.Stopped.{CommandAt}
use Rattle.machine.specs.Holds.{Each}
use Rattle.machine.specs.Claim.{keep, Start, OneStartsOther, Refines, Views}
use Rattle.machine.specs.End.{has_end}

-- the lines of a page, in order
abbrev pub on_page : ℤ → List Line → List Line
on_page page [] = []
on_page page (l ∷ ls) = keep (same_word l.page page) l (on_page page ls)

-- what one view tells of another on a page: one list is the start of the other; if the view has an end line, on whichever page that stands,
-- the other's page is a start of its own; if both have one, the two pages are equal
pub record TellsPage (page : ℤ) (v w : List Line) : Type 0 where
  pub starts : OneStartsOther (on_page page v) (on_page page w)
  pub start : has_end v ≡ true → Start (on_page page w) (on_page page v)
  pub equal : has_end v ≡ true → has_end w ≡ true → on_page page v ≡ on_page page w

-- a page of its own is as private as the whole: of any two runs that a reader cannot tell apart by their cells
abbrev pub PagesPrivate : Type 1
PagesPrivate =
    (Q R : Type 0) (σ : Ruler Q) (ρ : Ruler R) → Refines σ → Refines ρ → (page : ℤ) → Views (TellsPage page) σ ρ

-- a program's OutputTos have pages from 0 to 15, as check 12 leaves them
abbrev pub PagesGiven : List Command → Type 0
PagesGiven cs = (z page : ℤ) → CommandAt cs z (OutputTo page) → is_page page ≡ true

-- then every line of a run is on one of these
abbrev pub OnPages : List Line → Type 0
OnPages ls = Each (λ l. is_page l.page ≡ true) ls

abbrev pub PagesKept : Type 1
PagesKept =
    (R : Type 0) (ρ : Ruler R) (env : Environment) (program : List Command) → PagesGiven program
    → (fuel : ℕ) (cells : List Atom) (u : R) → OnPages (run ρ env program fuel (start cells) u).state.lines
