-- Demand 3 for the machine: what a reader of a set of owners sees of two runs. This file states it; proofs/Privacy.antt proves it.
use Rattle.std.specs.Prelude.{ℕ, ◌≡◌, ◌⊎◌, Bool, true, false, List, [], ◌∷◌, length, take}
use Rattle.label.specs.Label.{flows}
use Rattle.program.specs.declared.Command.{Command}
use Rattle.machine.specs.Atom.{Atom, Line}
use Rattle.machine.specs.Rule.{Key, allowed, Ruler, rules, standard}
use Rattle.machine.specs.Environment.{Environment}
use Rattle.machine.specs.State.{start}
use Rattle.machine.specs.Run.{run}

-- a line is inside a set if its label flows to the set
abbrev pub inside : ℕ → Line → Bool
inside S l = flows l.label S

abbrev pub keep : Bool → Line → List Line → List Line
keep true l ls = l ∷ ls
keep false l ls = ls

-- the view for a set: the lines inside, in order
abbrev pub view : ℕ → List Line → List Line
view S [] = []
view S (l ∷ ls) = keep (inside S l) l (view S ls)

-- the first list is the first elements of the second
abbrev pub Start : {A : Type 0} → List A → List A → Type 0
Start xs ys = xs ≡ take (length xs) ys

-- of two lists one is the start of the other
abbrev pub OneStartsOther : {A : Type 0} → List A → List A → Type 0
OneStartsOther xs ys = Start xs ys ⊎ Start ys xs

-- a cell is outside a set if its label does not flow to the set
abbrev pub Outside : ℕ → Atom → Type 0
Outside S a = flows a.label S ≡ false

-- two runs of cells are alike for a set: equally many, each pair equal or outside in both
pub data Alike (S : ℕ) : List Atom → List Atom → Type 0 where
  none : Alike S [] []
  same : {a : Atom} {xs ys : List Atom} → Alike S xs ys → Alike S (a ∷ xs) (a ∷ ys)
  hidden : {a b : Atom} {xs ys : List Atom} → Outside S a → Outside S b → Alike S xs ys → Alike S (a ∷ xs) (b ∷ ys)

-- a ruler that allows only what the standard allows, and then gives its two labels, in every state
abbrev pub Refines : {R : Type 0} → Ruler R → Type 0
Refines {R} ρ = (u : R) (k : Key) (p r : ℕ) → rules ρ u k ≡ allowed p r → standard k ≡ allowed p r

-- for every program, every set of owners and any two starts from alike cells, each under a ruler of its own, whatever that keeps and
-- whatever allowance and output space either has: so are the two views
abbrev pub Views : (List Line → List Line → Type 0) → {Q R : Type 0} → Ruler Q → Ruler R → Type 0
Views So {Q} {R} σ ρ =
    (program : List Command) (S : ℕ) (cells₁ cells₂ : List Atom) →
    Alike S cells₁ cells₂ →
    (env₁ env₂ : Environment) (fuel₁ fuel₂ : ℕ) (u : Q) (v : R) →
    So
    (view S (run σ env₁ program fuel₁ (start cells₁) u).state.lines)
    (view S (run ρ env₂ program fuel₂ (start cells₂) v).state.lines)

-- one is the start of the other
abbrev pub Private : {Q R : Type 0} → Ruler Q → Ruler R → Type 0
Private σ ρ = Views OneStartsOther σ ρ

abbrev pub Claim : Type 1
Claim = (Q R : Type 0) (σ : Ruler Q) (ρ : Ruler R) → Refines σ → Refines ρ → Private σ ρ
