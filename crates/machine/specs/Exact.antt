-- Request U2: no number is ever a wrapped one. What Add and Sub give, and where every number comes from that a step leaves: said of a step,
-- under any rules. proofs/Exact.antt shows it.
use Rattle.std.specs.Prelude.{ℕ, ◌≡◌, List, ◌∷◌, ℤ, pos, ◌+ℤ◌}
use Rattle.word.specs.Wrap.{Signed}
use Rattle.program.specs.declared.Command.{Command}
use Rattle.program.specs.declared.Command.TheVariants.{Push, Bnz}
use Rattle.machine.specs.Atom.{value}
use Rattle.machine.specs.Rule.{missing, Verdict, denied, allowed, Policy}
use Rattle.machine.specs.Environment.{Environment}
use Rattle.machine.specs.State.{State}
use Rattle.machine.specs.declared.Stop.TheVariants.{Denial, Overflow}
use Rattle.machine.specs.Step.{stopped, stepped, of, atom, next, key_of}
use Rattle.machine.specs.Run.{step}
use Rattle.machine.specs.Stopped.{CommandAt, Made, number}
use Rattle.machine.specs.Holds.{Holds}

-- a step of Add or Sub with two values on top. Stop 6 where its rule denies it. Where that allows it, the whole number that it makes of
-- them stands in their place if it has 64 bits, and it is stop 9 if it has not: no other stop hides that
pub record Summing (π : Policy) (env : Environment) (cs : List Command) (s : State) (c : Command) (m : Made c s) (v : Verdict) : Type 0 where
  pub refused : v ≡ denied → step π env cs s ≡ stopped Denial
  pub inside : (p r : ℕ) → v ≡ allowed p r → Signed 64 (number m)
      → step π env cs s ≡ next s p (value (atom (number m) r) ∷ m.rest)
  pub outside : (p r : ℕ) → v ≡ allowed p r → (Signed 64 (number m) → ⊥) → step π env cs s ≡ stopped Overflow

abbrev pub Sums : Type 0
Sums =
    (π : Policy) (env : Environment) (cs : List Command) (s : State) (c : Command) (m : Made c s)
    → CommandAt cs s.pc.number c
    → Summing π env cs s c m (π (key_of c s (of m.top) (of m.next) missing))

-- what a command may bring into a state beside the numbers that are there: its operand, the places that it may go on to, and what Add or
-- Sub makes of the two values on top
pub record Brings (N : ℤ → Type 0) (c : Command) (s : State) : Type 0 where
  pub pushed : (n : ℤ) → c ≡ Push n → N n
  pub branched : (n : ℤ) → c ≡ Bnz n → N (s.pc.number +ℤ n)
  pub following : N (s.pc.number +ℤ pos 1)
  pub made : (m : Made c s) → Signed 64 (number m) → N (number m)

-- whatever is so of those is so of every number that a step leaves, in the lines, the cells, the stack and the place
abbrev pub Origins : Type 1
Origins =
    (N : ℤ → Type 0) (π : Policy) (env : Environment) (cs : List Command) (s t : State) (c : Command)
    → CommandAt cs s.pc.number c
    → step π env cs s ≡ stepped t
    → Holds N (λ l. Unit) s
    → Brings N c s
    → Holds N (λ l. Unit) t
