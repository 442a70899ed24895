-- Demand 3: of what a reader sees of two runs from cells that are alike for him, one is the start of the other
-- (specs/Claim.antt).
-- The proof looks at one run at a time. Privacy/Erasure.antt gives what is seen of a state and a machine on such views;
-- here, each step of a run leaves what is seen of its state or moves it as that machine does. So what is seen of two
-- runs from alike cells is the same view after some number of moves each, and moves only add lines. Of labels it uses
-- that a join flows where both sides do, that the empty label flows everywhere, and that flowing is transitive.
-- While the place is not seen, the view's stack is cut down to its topmost visible frame, and all that can be seen is the
-- return to it. Which return it is, Ret or RetV, is hidden, and one leaves a value where the other leaves none: so the view
-- after it must not depend on that. It does not, since that frame decides: a return is carried out only if it gives what
-- the frame owes, and the frame was made where its place was seen. This is what stop 11 is for; without it the two would
-- leave stacks of different depth under one view, and what is printed next would tell them apart.
-- Assumes nothing.
mod Seen
mod Erasure
pub mod Effect
mod Act
mod Move
use mathlib.Core.Path.{◌≡◌, refl, sym, ap, subst, ◌∙◌}
use mathlib.Core.Logic.{inl, inr}
use mathlib.Core.Bool.{true, false}
use mathlib.Core.List.{List, map}
use Prim.Native.Nat.{ℕ, suc}
use lib.ListN.{length}
use Rattle.label.specs.Label.{flows}
use Rattle.program.specs.declared.Command.{Command}
use Rattle.machine.specs.Atom.{Atom}
use Rattle.machine.specs.Rule.{Ruler, rules, fixed, standard}
use Rattle.machine.specs.Environment.{Environment}
use Rattle.machine.specs.State.{State, start}
use Rattle.machine.specs.Run.{at_end, step, closed, run}
use Rattle.machine.specs.Claim.{Alike, none, same, hidden, Refines, Private, Claim}
use Rattle.machine.proofs.Step.{Gives, gives-stepped, step-all, run-keeps, execute-refines}
use Rattle.machine.proofs.Privacy.Seen.{see, see-outside}
use Rattle.machine.proofs.Privacy.Erasure.{View, erase, trim, end_of, act_at, move, moves}
use Rattle.machine.proofs.Privacy.Effect.{view-append, see-line}
use Rattle.machine.proofs.Privacy.Act.{act-shows}
use Rattle.machine.proofs.Privacy.Move.{Moves, at-moves, moves-start, moves-suc}

-- the cells that a reader cannot tell apart look the same
alike-see : {S : ℕ} {xs ys : List Atom} → Alike S xs ys → map (see S) xs ≡ map (see S) ys
alike-see none = refl
alike-see (same alike) = rw (alike-see alike)
alike-see {S} (hidden {a = a} {b = b} out out' alike) = rw (see-outside S a out, see-outside S b out', alike-see alike)

module _ {R : Type 0} (ρ : Ruler R) (refines : Refines ρ) (env : Environment) (cs : List Command) (S : ℕ) where
  -- the state t is seen as what the place of s makes of what is seen of s
  abbrev Shows : State → State → Type 0
  Shows s t = erase S t ≡ act_at cs s.pc.number (erase S s)

  -- so is a step, and so is the end line
  step-shows : (s : State) (u : R) → at_end (length cs) s.pc.number ≡ false → Gives (λ t. Shows s t) (step (rules ρ u) env cs s)
  step-shows s u e =
      step-all (rules ρ u) env s (Gives (λ t. Shows s t)) cs
      (λ c at. rw (e, at) (execute-refines (rules ρ u) (refines u) _ env c s (act-shows S env c s)))
      (λ out. tt)

  closed-shows : (s : State) → at_end (length cs) s.pc.number ≡ true → Shows s (closed s)
  closed-shows s e = rw (e, view-append, see-line S end_of s.pc refl)

  -- what is seen of a state; a step leaves it or moves it
  abbrev seen : State → View
  seen s = trim (erase S s)

  abbrev Moved : State → State → Type 0
  Moved s t = Moves cs (erase S s) (erase S t)

  shows_moves : (s t : State) → Shows s t → Moved s t
  unfolding see
  shows_moves s t e = subst (Moves cs (erase S s)) (sym e) (at-moves cs (flows s.pc.label S) s.pc _ _ _)

  -- some number of moves leads from a view to what is seen of a state
  abbrev Reached : View → State → Type 0
  Reached v s = (n : ℕ) × (seen s ≡ moves cs n v)

  shows-reaches : (v : View) (s t : State) → Reached v s → Shows s t → Reached v t
  shows-reaches v s t (n, e) d = go (shows_moves s t d)
    where
      go : Moved s t → Reached v t
      go (inl f) = (n, f ∙ e)
      go (inr f) = (suc n, f ∙ ap (move cs) e ∙ sym (moves-suc cs n v))

  run-reaches : (fuel : ℕ) (s : State) (u : R) → Reached (seen s) (run ρ env cs fuel s u).state
  run-reaches fuel s u =
      run-keeps ρ env cs (Reached (seen s))
      (λ v t w at e h. shows-reaches (seen s) v t h (gives-stepped (Shows v) e (step-shows v w at)))
      (λ v at f h. shows-reaches (seen s) v (closed v) h (closed-shows v at))
      fuel s u (0, refl)

pub privacy : Claim
privacy Q R σ ρ refines₁ refines₂ cs S cells₁ cells₂ alike env₁ env₂ fuel₁ fuel₂ u v =
    let (n, e) = run-reaches σ refines₁ env₁ cs S fuel₁ (start cells₁) u in
    let (m, f) = run-reaches ρ refines₂ env₂ cs S fuel₂ (start cells₂) v in
    rw (ap (λ (v : View). v.lines) e, ap (λ (v : View). v.lines) f, alike-see alike) (moves-start cs n m _)

pub standard-private : Private (fixed standard) (fixed standard)
standard-private = privacy Unit Unit (fixed standard) (fixed standard) (λ u k p r e. e) (λ u k p r e. e)
