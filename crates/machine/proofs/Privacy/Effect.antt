-- What a reader sees of a cell that is read, of a cell that is written and of a line that is written.
-- Assumes nothing.
use mathlib.Core.Path.{◌≡◌, refl, ap, ◌∙◌}
use mathlib.Core.Bool.{Bool, true, false, ◌&&◌}
use mathlib.Core.List.{List, [], ◌∷◌, ◌++◌, map}
use Prim.Native.Nat.{ℕ, zero, suc}
use lib.Dec.{T}
use lib.IntN.{pos}
use lib.ListN.{set}
use Rattle.label.specs.Label.{join, flows}
use Rattle.label.proofs.Laws.{flows-join, flows-trans}
use Rattle.machine.specs.Atom.{Atom, Line}
use Rattle.machine.specs.Claim.{keep, view}
use Rattle.machine.proofs.Request.{At, here, there}
use Rattle.machine.proofs.Privacy.Seen.{Seen, show_if, see, joined, both, see-both, both-unseen, see-outside}
use Rattle.machine.proofs.Privacy.Erasure.{element, cell, changed, written, first, second}

module _ (S : ℕ) where
  element-at : {cells : List Atom} {i : ℕ} {c : Atom} → At cells i c → element (map (see S) cells) i ≡ see S c
  element-at here = refl
  element-at (there at) = element-at at

  map-set : (cells : List Atom) (i : ℕ) (x : Atom) → map (see S) (set cells i x) ≡ set (map (see S) cells) i (see S x)
  map-set [] i x = refl
  map-set (c ∷ cells) zero x = refl
  map-set (c ∷ cells) (suc i) x = rw (map-set cells i x)

  set_same : {cells : List Atom} {i : ℕ} {c : Atom} (x : Atom) → At cells i c → see S x ≡ see S c
      → map (see S) (set cells i x) ≡ map (see S) cells
  set_same x here e = rw e
  set_same x (there at) e = rw (set_same x at e)

  -- a label that one flows to which does not flow to S, does not either
  flows-outside : (l m : ℕ) → flows l m ≡ true → flows l S ≡ false → flows m S ≡ false
  flows-outside l m e f = go (flows m S) refl
    where
      go : (p : Bool) → flows m S ≡ p → p ≡ false
      go true g = let t : T (flows l S) = flows-trans l m S (rw e tt) (rw g tt) in absurd (rw f at t)
      go false g = refl

  -- nor does a join with more
  join-outside : (l m n : ℕ) → flows (join l n) S ≡ false → flows (join (join l m) n) S ≡ false
  join-outside l m n e = rw (flows-join, flows-join) (go (flows l S) (flows m S) (flows n S) (rw flows-join at e))
    where
      go : (p q r : Bool) → (p && r) ≡ false → (p && q && r) ≡ false
      go true true r g = g
      go true false r g = refl
      go false q r g = refl

  -- Load: the cell at an address
  pub see-cell : {cells : List Atom} {i : ℕ} {c : Atom} (a : Atom) → a.number ≡ pos i → At cells i c
      → both second (see S a) (see S c) ≡ both second (see S a) (cell (map (see S) cells) (see S a))
  unfolding see
  see-cell {cells} {i} {c} a e at = go (flows a.label S)
    where
      seen : List Seen
      seen = map (see S) cells

      go : (p : Bool) → both second (show_if p a) (see S c) ≡ both second (show_if p a) (cell seen (show_if p a))
      go true = rw (e, element-at at)
      go false = both-unseen second (see S c)

  -- Store: b at the address a, from the place p, in a cell whose label the address's and the place's flow to
  pub see-stored : {cells : List Atom} {i : ℕ} {c : Atom} (a b p : Atom) → a.number ≡ pos i → At cells i c
      → flows (join a.label p.label) c.label ≡ true
      → map (see S) (set cells i (joined first (joined second a b) p))
      ≡ changed (map (see S) cells) (both first (see S a) (see S p)) (both first (both second (see S a) (see S b)) (see S p))
  unfolding see
  see-stored {cells} {i} {c} a b p e at f =
      rw (← see-both S second a b, ← see-both S first (joined second a b) p, ← see-both S first a p) (go (flows address.label S) refl)
    where
      address : Atom
      address = joined first a p

      new : Atom
      new = joined first (joined second a b) p

      go : (q : Bool) → flows address.label S ≡ q
          → map (see S) (set cells i new) ≡ changed (map (see S) cells) (show_if q address) (see S new)
      go true g = rw e (map-set cells i new)
      go false g =
          let outside : flows new.label S ≡ false = join-outside a.label b.label p.label g in
          set_same new at (rw (see-outside S new outside, see-outside S c (flows-outside _ _ f g)))

-- the lines of two lists are seen one after the other
pub view-append : (S : ℕ) (ls ms : List Line) → view S (ls ++ ms) ≡ view S ls ++ view S ms
view-append S [] ms = refl
view-append S (l ∷ ls) ms = rw (view-append S ls ms) (go (flows l.label S))
  where
    go : (p : Bool) → keep p l (view S ls ++ view S ms) ≡ keep p l (view S ls) ++ view S ms
    go true = refl
    go false = refl

-- Output and the end: the line of an atom, with its label
pub see-line : (S : ℕ) (line : Atom → Line) (a : Atom) → (line a).label ≡ a.label → view S (line a ∷ []) ≡ written line (see S a)
unfolding see
see-line S line a e = ap (λ (l : ℕ). keep (flows l S) (line a) []) e ∙ go (flows a.label S)
  where
    go : (p : Bool) → keep p (line a) [] ≡ written line (show_if p a)
    go true = refl
    go false = refl
