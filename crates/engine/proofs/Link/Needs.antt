-- What a command needs, on words and in the machine: the tests of the slots that are read go with the machine's cases.
-- Assumes nothing.
use Rattle.std.proofs.Common.{None, Option, Some}
use mathlib.Core.Path.{◌≡◌, refl, ap}
use mathlib.Core.Bool.{Bool, true, false}
use mathlib.Core.List.{List, [], ◌∷◌, ◌++◌}
use Prim.Native.Nat.{ℕ, zero, suc, ◌≤◌, ◌<◌, zero-le}
use native.Mathlib.Omega.{arith}
use lib.IntN.{ℤ, pos, negsuc}
use lib.ListN.{length}
use borrow.Author.Tests.{lt-ltb, le-ltb}
use Rattle.word.specs.Number.{index_of}
use Rattle.machine.specs.Atom.{Atom, Entry, value, frame}
use Rattle.machine.specs.declared.Stop.{Stop}
use Rattle.machine.specs.declared.Stop.TheVariants.{ValueMissing, FrameMissing, WrongReturn, AddressOutside}
use Rattle.machine.specs.Step.{Outcome, stopped, Request, halt, provided, with_value, with_values, with_arguments}
use Rattle.machine.specs.Step.{with_frame, with_element, with_cell}
use Rattle.machine.proofs.Request.{At, here, there, Values, none, more}
use Rattle.word.specs.Choose.{choose}
use Rattle.stack.specs.declared.Kind.TheVariants.{Frame, Owing}
use Rattle.stack.specs.Words.{by_kind}
use Rattle.step.specs.Find.{is_value, top_values}
use Rattle.engine.proofs.Link.Stack.{Held, held-tail, Labelled, top_slot, below, slot-top, top-values, no-values}

-- R relates what the machine asks to what is left on words
module _ {B : Type 0} (R : Request → B → Type 0) where
  pub value-needed : (es : List Entry) (k : Atom → List Entry → Request) (x y : B) → R (halt ValueMissing) y
      → ((a : Atom) (rest : List Entry) → es ≡ value a ∷ rest → R (k a rest) x)
      → R (with_value es k) (choose (is_value (top_slot es)) x y)
  value-needed [] k x y h f = h
  value-needed (value a ∷ rest) k x y h f = f a rest refl
  value-needed (frame owes a ∷ rest) k x y h f = by owes
    where
      by : (b : Bool) → R (halt ValueMissing) (choose (by_kind (choose b Owing Frame) true false false false) x y)
      by true = h
      by false = h

  pub values-needed : (es : List Entry) (k : Atom → Atom → List Entry → Request) (x y : B) → R (halt ValueMissing) y
      → ((a b : Atom) (rest : List Entry) → es ≡ value a ∷ value b ∷ rest → R (k a b rest) x)
      → R (with_values es k) (choose (is_value (top_slot (below es))) (choose (is_value (top_slot es)) x y) y)
  values-needed [] k x y h f = h
  values-needed (value a ∷ rest) k x y h f = value-needed rest (k a) x y h (λ b rest e. f a b _ (ap (λ (es : List Entry). value a ∷ es) e))
  values-needed (frame owes a ∷ rest) k x y h f = by (is_value (top_slot rest)) owes
    where
      by : (b c : Bool) → R (halt ValueMissing) (choose b (choose (by_kind (choose c Owing Frame) true false false false) x y) y)
      by true true = h
      by true false = h
      by false c = h

  pub frame-needed : (returns : Bool) (es : List Entry) (k : Atom → List Entry → Request) (x y z : B) → R (halt FrameMissing) y
      → R (halt WrongReturn) z → ((a : Atom) (rest : List Entry) → es ≡ frame returns a ∷ rest → R (k a rest) x)
      → R (with_frame returns es k)
      (by_kind (top_slot es).kind y (choose returns z x) (choose returns x z) y)
  frame-needed true [] k x y z h g f = h
  frame-needed false [] k x y z h g f = h
  frame-needed true (value a ∷ rest) k x y z h g f = h
  frame-needed false (value a ∷ rest) k x y z h g f = h
  frame-needed true (frame true a ∷ rest) k x y z h g f = f a rest refl
  frame-needed true (frame false a ∷ rest) k x y z h g f = g
  frame-needed false (frame true a ∷ rest) k x y z h g f = g
  frame-needed false (frame false a ∷ rest) k x y z h g f = f a rest refl

  -- so many values on top of the entries es of a stack
  module _ (st : List ℤ) (room : 768 ≤ length st) where
    pub arguments-needed : (n : ℕ) (es : List Entry) (k : List Entry → List Entry → Request) (x y : B) → Held es st → Labelled es
        → length es ≤ 256 → R (halt ValueMissing) y
        → ((arguments rest : List Entry) → Values n arguments → es ≡ arguments ++ rest → R (k arguments rest) x)
        → R (with_arguments n es k) (choose (top_values st (length es) n) x y)
    unfolding top_values
    arguments-needed zero es k x y held labels fits h f = f [] es none refl
    arguments-needed (suc n) [] k x y held labels fits h f = rw (no-values st n) h
    arguments-needed (suc n) (value a ∷ es) k x y held labels fits h f =
        rw (top-values st (length es) n fits, slot-top (value a ∷ es) held labels fits room)
        (arguments-needed n es _ x y (held-tail (value a) es held) labels.1 (omega arith) h (λ arguments rest v e.
        f (value a ∷ arguments) rest (more v) (ap (λ (l : List Entry). value a ∷ l) e)))
    arguments-needed (suc n) (frame owes a ∷ es) k x y held labels fits h f =
        rw (top-values st (length es) n fits, slot-top (frame owes a ∷ es) held labels fits room) (by owes)
      where
        by : (b : Bool) → R (halt ValueMissing) (choose (choose (by_kind (choose b Owing Frame) true false false false) (top_values st (length es) n) false) x y)
        by true = h
        by false = h

    -- a target on top of them
    pub calling-needed : (n : ℕ) (es : List Entry) (k : Atom → List Entry → List Entry → Request) (x y : B) → Held es st → Labelled es
        → length es ≤ 256 → R (halt ValueMissing) y
        → ((a : Atom) (arguments rest : List Entry) → Values n arguments → es ≡ value a ∷ arguments ++ rest → R (k a arguments rest) x)
        → R (with_value es (λ a below. with_arguments n below (k a))) (choose (top_values st (length es) (suc n)) x y)
    calling-needed n [] k x y held labels fits h f = rw (no-values st n) h
    calling-needed n (value a ∷ es) k x y held labels fits h f =
        rw (top-values st (length es) n fits, slot-top (value a ∷ es) held labels fits room)
        (arguments-needed n es (k a) x y (held-tail (value a) es held) labels.1 (omega arith) h (λ arguments rest v e.
        f a arguments rest v (ap (λ (l : List Entry). value a ∷ l) e)))
    calling-needed n (frame owes a ∷ es) k x y held labels fits h f =
        rw (top-values st (length es) n fits, slot-top (frame owes a ∷ es) held labels fits room) (by owes)
      where
        by : (b : Bool) → R (halt ValueMissing) (choose (choose (by_kind (choose b Owing Frame) true false false false) (top_values st (length es) n) false) x y)
        by true = h
        by false = h

element-all : (Q : Request → Type 0) (cells : List Atom) (i : ℕ) (k : Atom → Request)
    → (length cells ≤ i → Q (halt AddressOutside)) → ((c : Atom) → i < length cells → At cells i c → Q (k c))
    → Q (with_element cells i k)
element-all Q [] i k h f = h zero-le
element-all Q (c ∷ cells) zero k h f = f c (omega arith) here
element-all Q (c ∷ cells) (suc i) k h f =
    element-all Q cells i k (λ g. h (omega arith)) (λ c g at. f c (omega arith) (there at))

module _ {B : Type 0} (R : Request → B → Type 0) where
  pub cell-needed : (cells : List Atom) (z : ℤ) (k : ℕ → Atom → Request) (x : Option ℕ → B)
      → R (halt AddressOutside) (x None)
      → ((i : ℕ) (c : Atom) → At cells i c → index_of z (length cells) ≡ Some i → R (k i c) (x (Some i)))
      → R (with_cell cells z k) (x (index_of z (length cells)))
  unfolding index_of
  cell-needed cells (negsuc i) k x h f = h
  cell-needed cells (pos i) k x h f =
      element-all (λ q. R q (x (index_of (pos i) (length cells)))) cells i (k i)
      (λ g. rw (le-ltb i (length cells) g) h)
      (λ c g at. rw (lt-ltb i (length cells) g) (f i c at (rw (lt-ltb i (length cells) g))))

-- where the machine tests for room, the words are tested too
module _ {B : Type 0} (R : Outcome → B → Type 0) where
  pub room-needed : (b : Bool) (x : Stop) (o : Outcome) (u v : B) → (b ≡ true → R o u) → R (stopped x) v
      → R (provided b x o) (choose b u v)
  room-needed true x o u v f h = f refl
  room-needed false x o u v f h = h
