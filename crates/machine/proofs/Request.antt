-- What a command comes to before its rule, by cases: whether it finds what it needs.
-- Assumes nothing.
use mathlib.Core.Path.{◌≡◌, refl, ap, ◌∙◌}
use mathlib.Core.Bool.{Bool, true, false}
use mathlib.Core.List.{List, [], ◌∷◌, ◌++◌}
use Prim.Native.Nat.{ℕ, zero, suc}
use lib.IntN.{ℤ, pos, negsuc}
use Rattle.machine.specs.Atom.{Atom, Entry, value, frame}
use Rattle.machine.specs.declared.Stop.{Stop}
use Rattle.machine.specs.declared.Stop.TheVariants.{ValueMissing, FrameMissing, WrongReturn, AddressOutside}
use Rattle.machine.specs.Step.{Outcome, stopped, Request, halt, provided}
use Rattle.machine.specs.Step.{with_value, with_values, with_arguments, with_frame, with_element, with_cell}

-- the cell at an index
pub data At : List Atom → ℕ → Atom → Type 0 where
  here : {a : Atom} {cells : List Atom} → At (a ∷ cells) zero a
  there : {a b : Atom} {cells : List Atom} {i : ℕ} → At cells i a → At (b ∷ cells) (suc i) a

-- so many values
pub data Values : ℕ → List Entry → Type 0 where
  none : Values zero []
  more : {n : ℕ} {a : Atom} {es : List Entry} → Values n es → Values (suc n) (value a ∷ es)

module _ (Q : Request → Type 0) where
  pub value-all : (es : List Entry) (k : Atom → List Entry → Request) → Q (halt ValueMissing)
      → ((a : Atom) (rest : List Entry) → es ≡ value a ∷ rest → Q (k a rest)) → Q (with_value es k)
  value-all [] k h f = h
  value-all (value a ∷ rest) k h f = f a rest refl
  value-all (frame owes a ∷ rest) k h f = h

  pub values-all : (es : List Entry) (k : Atom → Atom → List Entry → Request) → Q (halt ValueMissing)
      → ((a b : Atom) (rest : List Entry) → es ≡ value a ∷ value b ∷ rest → Q (k a b rest)) → Q (with_values es k)
  values-all es k h f = value-all es _ h (λ a below e. value-all below _ h (λ b rest g. f a b rest (cc)))

  pub arguments-all : (n : ℕ) (es : List Entry) (k : List Entry → List Entry → Request) → Q (halt ValueMissing)
      → ((arguments rest : List Entry) → Values n arguments → es ≡ arguments ++ rest → Q (k arguments rest)) → Q (with_arguments n es k)
  arguments-all zero es k h f = f [] es none refl
  arguments-all (suc n) es k h f =
      value-all es _ h (λ a below e. arguments-all n below _ h (λ arguments rest v g.
      f (value a ∷ arguments) rest (more v) (e ∙ ap (λ (l : List Entry). value a ∷ l) g)))

  pub frame-all : (returns : Bool) (es : List Entry) (k : Atom → List Entry → Request) → Q (halt FrameMissing) → Q (halt WrongReturn)
      → ((a : Atom) (rest : List Entry) → es ≡ frame returns a ∷ rest → Q (k a rest)) → Q (with_frame returns es k)
  frame-all returns [] k h w f = h
  frame-all returns (value a ∷ rest) k h w f = h
  frame-all true (frame true a ∷ rest) k h w f = f a rest refl
  frame-all true (frame false a ∷ rest) k h w f = w
  frame-all false (frame true a ∷ rest) k h w f = w
  frame-all false (frame false a ∷ rest) k h w f = f a rest refl

  element-all : (cells : List Atom) (i : ℕ) (k : Atom → Request) → Q (halt AddressOutside)
      → ((c : Atom) → At cells i c → Q (k c)) → Q (with_element cells i k)
  element-all [] i k h f = h
  element-all (c ∷ cells) zero k h f = f c here
  element-all (c ∷ cells) (suc i) k h f = element-all cells i k h (λ d at. f d (there at))

  pub cell-all : (cells : List Atom) (z : ℤ) (k : ℕ → Atom → Request) → Q (halt AddressOutside)
      → ((i : ℕ) (c : Atom) → z ≡ pos i → At cells i c → Q (k i c)) → Q (with_cell cells z k)
  cell-all cells (pos i) k h f = element-all cells i (k i) h (λ c at. f i c refl at)
  cell-all cells (negsuc i) k h f = h

pub provided-all : (R : Outcome → Type 0) (b : Bool) (x : Stop) (o : Outcome)
    → (b ≡ true → R o) → (b ≡ false → R (stopped x)) → R (provided b x o)
provided-all R true x o f g = f refl
provided-all R false x o f g = g refl
