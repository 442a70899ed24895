-- The laws of labels: those of sets, at the number of principals. Whatever stands above labels uses these alone.
-- Assumes nothing.
use mathlib.Core.Path.{◌≡◌}
use mathlib.Core.Bool.{true, ◌&&◌}
use Prim.Native.Nat.{ℕ}
use lib.Bits.{bit_or}
use lib.Dec.{T, eqb}
use Rattle.label.specs.Label.{principals, InRange, bottom, join, flows}
use Rattle.label.proofs.Set as Set

pub join-range : (a b : ℕ) → InRange (join a b)
unfolding join
join-range a b = Set.union-lt principals a b

pub join-comm : (a b : ℕ) → join a b ≡ join b a
unfolding join
join-comm a b = Set.union_comm principals a b

pub join-assoc : (a b c : ℕ) → join (join a b) c ≡ join a (join b c)
unfolding join
join-assoc a b c = Set.union_assoc principals a b c

pub join-idem : (a : ℕ) → InRange a → join a a ≡ a
unfolding join
join-idem a h = Set.union-idem principals a h

pub join-bottom : (a : ℕ) → InRange a → join bottom a ≡ a
unfolding join
join-bottom a h = Set.union-empty principals a h

pub join-bit_or : (a b : ℕ) → InRange a → InRange b → bit_or a b ≡ join a b
unfolding join
join-bit_or a b h k = Set.union-bit_or principals a b h k

pub flows-refl : (a : ℕ) → T (flows a a)
unfolding flows
flows-refl a = Set.subset-refl principals a

pub flows-trans : (a b c : ℕ) → T (flows a b) → T (flows b c) → T (flows a c)
unfolding flows
flows-trans a b c s t = Set.subset-trans principals a b c s t

pub flows-antisym : (a b : ℕ) → InRange a → InRange b → T (flows a b) → T (flows b a) → a ≡ b
unfolding flows
flows-antisym a b h k s t = Set.subset-antisym principals a b h k s t

-- the empty label flows everywhere
pub flows-bottom : (a : ℕ) → flows bottom a ≡ true
unfolding flows
flows-bottom a = Set.subset-empty principals a

-- a join flows exactly where both sides do
pub flows-join : (a b c : ℕ) → flows (join a b) c ≡ (flows a c && flows b c)
unfolding join flows
flows-join a b c = Set.union-subset principals a b c

-- both sides flow to their join
pub flows-left : (a b : ℕ) → T (flows a (join a b))
unfolding join flows
flows-left a b = Set.subset_left principals a b

pub flows-right : (a b : ℕ) → T (flows b (join a b))
unfolding join flows
flows-right a b = Set.subset_right principals a b

-- a flows to b exactly where b is their join
pub flows-is-join : (a b : ℕ) → InRange b → flows a b ≡ eqb (join a b) b
unfolding join flows
flows-is-join a b h = Set.subset-union principals a b h
