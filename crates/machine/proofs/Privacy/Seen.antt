-- What a reader of a set S sees of an atom: the atom if its label flows to S, and otherwise nothing. What is computed
-- from two atoms and labelled by their join is seen exactly if both are, and then computed from what is seen of them.
-- Assumes nothing.
use mathlib.Core.Path.{◌≡◌, refl}
use mathlib.Core.Bool.{Bool, true, false, ◌&&◌}
use Prim.Native.Nat.{ℕ}
use lib.IntN.{ℤ}
use Rattle.label.specs.Label.{bottom, join, flows}
use Rattle.label.proofs.Laws.{flows-join, flows-bottom}
use Rattle.machine.specs.Atom.{Atom}
use Rattle.machine.specs.Step.{atom}

pub data Seen : Type 0 where
  shown : Atom → Seen
  unseen : Seen

abbrev pub show_if : Bool → Atom → Seen
show_if true a = shown a
show_if false a = unseen

unfoldable pub see : ℕ → Atom → Seen
see S a = show_if (flows a.label S) a

-- a number computed from one atom, with its label
abbrev pub one : (ℤ → ℤ) → Seen → Seen
one f (shown a) = shown (atom (f a.number) a.label)
one f unseen = unseen

-- a number computed from two atoms, with the join of their labels
abbrev pub joined : (ℤ → ℤ → ℤ) → Atom → Atom → Atom
joined f a b = atom (f a.number b.number) (join a.label b.label)

abbrev pub both : (ℤ → ℤ → ℤ) → Seen → Seen → Seen
both f (shown a) (shown b) = shown (joined f a b)
both f unseen (shown b) = unseen
both f x unseen = unseen

pub see-one : (S : ℕ) (f : ℤ → ℤ) (a : Atom) → see S (atom (f a.number) a.label) ≡ one f (see S a)
unfolding see
see-one S f a = go (flows a.label S)
  where
    go : (p : Bool) → show_if p (atom (f a.number) a.label) ≡ one f (show_if p a)
    go true = refl
    go false = refl

pub see-both : (S : ℕ) (f : ℤ → ℤ → ℤ) (a b : Atom) → see S (joined f a b) ≡ both f (see S a) (see S b)
unfolding see
see-both S f a b = rw flows-join (go (flows a.label S) (flows b.label S))
  where
    go : (p q : Bool) → show_if (p && q) (joined f a b) ≡ both f (show_if p a) (show_if q b)
    go true true = refl
    go true false = refl
    go false true = refl
    go false false = refl

pub both-unseen : (f : ℤ → ℤ → ℤ) (y : Seen) → both f unseen y ≡ unseen
both-unseen f (shown b) = refl
both-unseen f unseen = refl

-- what has the empty label is seen by everybody
pub see-bottom : (S : ℕ) (n : ℤ) → see S (atom n bottom) ≡ shown (atom n bottom)
unfolding see
see-bottom S n = rw flows-bottom

-- an atom whose label does not flow to S is not seen
pub see-outside : (S : ℕ) (a : Atom) → flows a.label S ≡ false → see S a ≡ unseen
unfolding see
see-outside S a e = rw e
