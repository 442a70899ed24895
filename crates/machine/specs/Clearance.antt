-- Request U5: what a page's clearance is for. Of one run, that nothing stands on a page that the page is not cleared for; and of two, that
-- the page was computed without other owners' data. This file states it; proofs/Clearance.antt proves it.
use Rattle.std.specs.Prelude.{ℕ, ◌≡◌, true, List, ℤ}
use Rattle.label.specs.Label.{flows}
use Rattle.program.specs.declared.Command.{Command}
use Rattle.machine.specs.Atom.{Atom, Line}
use Rattle.machine.specs.Rule.{Ruler}
use Rattle.machine.specs.State.{start}
use Rattle.machine.specs.Environment.{Environment, cleared}
use Rattle.machine.specs.Run.{run}
use Rattle.machine.specs.Holds.{Each}
use Rattle.machine.specs.Claim.{view, OneStartsOther, Alike, Refines}
use Rattle.machine.specs.Page.{on_page}

-- every line's label flows to its page's clearance
abbrev pub AllCleared : Environment → List Line → Type 0
AllCleared env ls = Each (λ l. cleared env l ≡ true) ls

-- of every run under any rules
abbrev pub LinesCleared : Type 1
LinesCleared =
    (R : Type 0) (ρ : Ruler R) (env : Environment) (program : List Command) (fuel : ℕ) (cells : List Atom) (u : R)
    → AllCleared env (run ρ env program fuel (start cells) u).state.lines

-- a page of two runs: all of it, and what any reader sees of it
pub record PageAlike (page : ℤ) (v w : List Line) : Type 0 where
  pub whole : OneStartsOther (on_page page v) (on_page page w)
  pub read : (S : ℕ) → OneStartsOther (view S (on_page page v)) (view S (on_page page w))

-- a page that is cleared for C, or for fewer owners, in both of two runs whose cells are alike for C: one page is the start of the other,
-- whoever reads, whatever allowance, output space and other clearances each has
abbrev pub Closed : {Q R : Type 0} → Ruler Q → Ruler R → Type 0
Closed {Q} {R} σ ρ =
    (program : List Command) (C : ℕ) (cells₁ cells₂ : List Atom) →
    Alike C cells₁ cells₂ →
    (env₁ env₂ : Environment) (fuel₁ fuel₂ : ℕ) (u : Q) (v : R) (page : ℤ) →
    flows (env₁.clearance page) C ≡ true → flows (env₂.clearance page) C ≡ true →
    PageAlike page
    (run σ env₁ program fuel₁ (start cells₁) u).state.lines
    (run ρ env₂ program fuel₂ (start cells₂) v).state.lines

abbrev pub PagesClosed : Type 1
PagesClosed = (Q R : Type 0) (σ : Ruler Q) (ρ : Ruler R) → Refines σ → Refines ρ → Closed σ ρ
