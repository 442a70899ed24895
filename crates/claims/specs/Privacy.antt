-- Demand 3: what a reader of a set of owners sees of two whole runs, each on either engine, from starts that its engine accepts; and what
-- the end line tells him. A run is what the engines' contracts say of it (`plain`, `tagged`). This file states it; proofs/Private.antt
-- shows it.
use Rattle.std.specs.Prelude.{ℕ, ◌≡◌, true, List, ℤ, length, Ok}
use Rattle.word.specs.Field.{Bytes}
use Rattle.label.specs.Label.{flows}
use Rattle.machine.specs.Atom.{Atom, Line}
use Rattle.machine.specs.State.{stop_number}
use Rattle.machine.specs.Claim.{view, Alike, OneStartsOther}
use Rattle.machine.specs.End.{Tells, Means}
use Rattle.machine.specs.Holds.{Each}
use Rattle.machine.specs.Page.{TellsPage, OnPages}
use Rattle.machine.specs.Clearance.{PageAlike}
use Rattle.engine.specs.declared.Clearances.{Clearances}
use Rattle.engine.specs.declared.Ran as Engine
use Rattle.engine.specs.Memory.{Memory, clearance_of}
use Rattle.engine.specs.Layout.{cells_of, lines_of}
use Rattle.engine.specs.Ended.{ended}
use Rattle.policy.specs.Standard.{standard_bytes}
use Rattle.plain.specs.Plain.{plain}
use Rattle.tagging.specs.Consult.{Tag}
use Rattle.tagged.specs.Tagged.{left, tagged}

abbrev pub cells_in : Memory → List Atom
cells_in m = cells_of m.lent.cells

-- the lines that a run left: so many as its result says were written, in the lent output space
abbrev pub lines_in : Engine.Ran → Memory → List Line
lines_in ran m = lines_of ran.machine.lines m.output

-- a sheet was run, with which clearances, from which cells, where it ended and with which lines: an engine accepted the start and the run
-- met a stop. Of the lent memory, the allowance and, on the tag engine, the rule memory of seven words and the handler space nothing is
-- asked but that; its table is the standard one
pub data Ran (sheet : List ℕ) (c : Clearances) : List Atom → Engine.Ran → List Line → Type 0 where
  on_plain :
      (m : Memory) (fuel : ℕ) (ran : Engine.Ran) (after : Memory)
      → plain sheet c m fuel ≡ ended (Ok ran) tt after
      → Ran sheet c (cells_in m) ran (lines_in ran after)
  on_tagged :
      (row : List ℤ) → length row ≡ 7
      → (m : Memory) (handler : List ℤ) (fuel : ℕ) (ran : Engine.Ran) (u : Tag) (after : Memory) (handler' : List ℤ)
      → tagged sheet standard_bytes row c m handler fuel ≡ left (ended (Ok ran) u after) handler'
      → Ran sheet c (cells_in m) ran (lines_in ran after)

-- for every set of owners, every sheet and any two runs of it from cells that are alike for the set, each on either engine and with
-- clearances of its own, the same or others: so are the two views
abbrev pub Views : (List Line → List Line → Type 0) → Type 0
Views So =
    (S : ℕ) (sheet : List ℕ) (c₁ c₂ : Clearances) (cells₁ cells₂ : List Atom) (ran₁ ran₂ : Engine.Ran) (lines₁ lines₂ : List Line) →
    Ran sheet c₁ cells₁ ran₁ lines₁ → Ran sheet c₂ cells₂ ran₂ lines₂ → Alike S cells₁ cells₂ →
    So (view S lines₁) (view S lines₂)

-- one is the start of the other
abbrev pub Claim : Type 0
Claim = Views OneStartsOther

-- what the end line is for: one that has it is whole, and tells the other
abbrev pub Complete : Type 0
Complete = Views Tells

-- and what it tells of its run, present or missing
abbrev pub Meant : Type 0
Meant =
    (S : ℕ) (sheet : List ℕ) (c : Clearances) (cells : List Atom) (ran : Engine.Ran) (lines : List Line) →
    Ran sheet c cells ran lines → Means S (view S lines) (stop_number ran.stop) ran.machine.label.0

-- a page of its own is as private as the whole: the same of the lines of one page, whichever it is
abbrev pub EachPage : Type 0
EachPage = (page : ℤ) → Views (TellsPage page)

-- and there are no other pages than 0 to 15
abbrev pub Paged : Type 0
Paged =
    (sheet : List ℕ) → Bytes sheet → (c : Clearances) (cells : List Atom) (ran : Engine.Ran) (lines : List Line) →
    Ran sheet c cells ran lines → OnPages lines

-- request U5: a page's clearance
abbrev pub clearance_in : Clearances → ℤ → ℕ
clearance_in c page = clearance_of c.words page

-- of one run: every line's label flows to its page's clearance
abbrev pub Cleared : Type 0
Cleared =
    (sheet : List ℕ) (c : Clearances) (cells : List Atom) (ran : Engine.Ran) (lines : List Line) →
    Ran sheet c cells ran lines → Each (λ l. flows l.label (clearance_in c l.page) ≡ true) lines

-- of two, whose cells are alike for C: a page that is cleared for C in both, or for fewer owners, is in one the start of what it is in the
-- other, all of it and whatever a reader sees of it
abbrev pub ClosedPage : Type 0
ClosedPage =
    (C : ℕ) (sheet : List ℕ) (c₁ c₂ : Clearances) (cells₁ cells₂ : List Atom) (ran₁ ran₂ : Engine.Ran) (lines₁ lines₂ : List Line) →
    Ran sheet c₁ cells₁ ran₁ lines₁ → Ran sheet c₂ cells₂ ran₂ lines₂ → Alike C cells₁ cells₂ →
    (page : ℤ) → flows (clearance_in c₁ page) C ≡ true → flows (clearance_in c₂ page) C ≡ true →
    PageAlike page lines₁ lines₂
