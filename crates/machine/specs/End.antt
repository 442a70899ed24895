-- What the end line is for: what it tells of a view, and what its absence tells. This file states it; proofs/End.antt proves it.
use Rattle.std.specs.Prelude.{ℕ, ◌≡◌, ◌≢◌, ◌⊎◌, Bool, true, false, ◌||◌, List, [], ◌∷◌, ◌++◌, eqb}
use Rattle.word.specs.Choose.{choose}
use Rattle.label.specs.Label.{flows}
use Rattle.program.specs.declared.Command.{Command}
use Rattle.machine.specs.declared.Kind.{Kind}
use Rattle.machine.specs.declared.Kind.TheVariants.{Number, End}
use Rattle.machine.specs.Atom.{Atom, Line, end_line}
use Rattle.machine.specs.Rule.{Ruler}
use Rattle.machine.specs.Environment.{Environment}
use Rattle.machine.specs.State.{State, stop_number, start}
use Rattle.machine.specs.declared.Stop.{Stop}
use Rattle.machine.specs.Run.{Result, run}
use Rattle.machine.specs.Claim.{view, Start, Refines, Views}

-- is it an end line?
abbrev pub is_end : Kind → Bool
is_end Number = false
is_end End = true

-- is there one among the lines?
abbrev pub has_end : List Line → Bool
has_end [] = false
has_end (l ∷ ls) = is_end l.kind || has_end ls

-- what stands after the numbers: at stop 0 the end line, at another stop nothing
abbrev pub closing : Stop → ℕ → List Line
closing x p = choose (eqb (stop_number x) 0) (end_line p ∷ []) []

-- the lines of a run that met a stop are numbers, and then that
pub record Closes (x : Stop) (s : State) : Type 0 where
  pub numbers : List Line
  pub unended : has_end numbers ≡ false
  pub lines : s.lines ≡ numbers ++ closing x s.pc.label

-- the last line is an end line, and no other is
pub record Whole (ls : List Line) : Type 0 where
  pub before : List Line
  pub label : ℕ
  pub last : ls ≡ before ++ (end_line label ∷ [])
  pub only : has_end before ≡ false

-- what one view tells of another: if it has an end line, that is its last and the other is a start of it; if both have one, they are equal
pub record Tells (v w : List Line) : Type 0 where
  pub whole : has_end v ≡ true → Whole v
  pub start : has_end v ≡ true → Start w v
  pub equal : has_end v ≡ true → has_end w ≡ true → v ≡ w

-- of any two runs that a reader cannot tell apart by their cells
abbrev pub Complete : Type 1
Complete = (Q R : Type 0) (σ : Ruler Q) (ρ : Ruler R) → Refines σ → Refines ρ → Views Tells σ ρ

-- what a view tells of its run: with an end line, that the run met stop 0, at a place whose label is inside the set; without, that it met
-- another stop, or that it ended at a place whose label is outside
pub record Means (S : ℕ) (view : List Line) (stop label : ℕ) : Type 0 where
  pub present : has_end view ≡ true → (stop ≡ 0) × (flows label S ≡ true)
  pub missing : has_end view ≡ false → (stop ≢ 0) ⊎ (flows label S ≡ false)

-- of every run
abbrev pub Meant : Type 1
Meant =
    (R : Type 0) (ρ : Ruler R) (program : List Command) (S : ℕ) (cells : List Atom) (env : Environment) (fuel : ℕ) (u : R)
    → let r : Result R = run ρ env program fuel (start cells) u in
    Means S (view S r.state.lines) (stop_number r.stop) r.state.pc.label
