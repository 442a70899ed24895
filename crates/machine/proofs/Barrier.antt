-- What holds a line back, and why: it is not cleared for its page, or it is and there is no room.
-- Assumes nothing.
use Rattle.std.proofs.Common.{None, Option, Some}
use mathlib.Core.Path.{◌≡◌, refl}
use mathlib.Core.Bool.{Bool, true, false}
use Prim.Native.Nat.{ℕ, ◌≤◌, ◌<◌}
use native.Mathlib.Omega.{arith}
use lib.Dec.{ltb, eqb}
use borrow.Author.Tests.{ltb-true, ltb-false, ne_eqb}
use Rattle.word.specs.Choose.{choose}
use Rattle.machine.specs.Atom.{Line}
use Rattle.machine.specs.State.{stop_number}
use Rattle.machine.specs.declared.Stop.{Stop}
use Rattle.machine.specs.declared.Stop.TheVariants.{NotCleared, OutputFull}
use Rattle.machine.specs.Environment.{Environment, cleared, barrier}
use Rattle.machine.specs.Step.{Outcome, stopped, unless_barred}

pub data Barred (env : Environment) (written : ℕ) (l : Line) : Option Stop → Type 0 where
  goes : cleared env l ≡ true → written < env.room → Barred env written l None
  full : cleared env l ≡ true → env.room ≤ written → Barred env written l (Some OutputFull)
  closed : cleared env l ≡ false → Barred env written l (Some NotCleared)

module _ (env : Environment) (written : ℕ) (l : Line) where
  pub barrier-is : Barred env written l (barrier env written l)
  unfolding barrier
  barrier-is = go (cleared env l) (ltb written env.room) refl refl
    where
      go : (b f : Bool) → cleared env l ≡ b → ltb written env.room ≡ f
          → Barred env written l (choose b (choose f None (Some OutputFull)) (Some NotCleared))
      go true true e g = goes e (ltb-true _ _ g)
      go true false e g = full e (ltb-false _ _ g)
      go false f e g = closed e

  pub barrier-held : {b : Option Stop} → barrier env written l ≡ b → Barred env written l b
  barrier-held e = rw e at barrier-is

  -- one that goes out is cleared, and there is room
  pub barred-none : Barred env written l None → (cleared env l ≡ true) × (written < env.room)
  barred-none (goes e h) = (e, h)

  -- the stop of another is 8 or more
  pub barred-least : {x : Stop} → Barred env written l (Some x) → 8 ≤ stop_number x
  barred-least (full e g) = omega arith
  barred-least (closed e) = omega arith

  pub barred-other : {x : Stop} → Barred env written l (Some x) → (n : ℕ) → n < 8 → eqb (stop_number x) n ≡ false
  barred-other {x} b n h = ne_eqb (stop_number x) n (λ e. omega (arith, barred-least b))

  -- what is done with a line that goes out, else its stop
  pub barred-all : (R : Outcome → Type 0) (o : Outcome) → (cleared env l ≡ true → written < env.room → R o)
      → ((x : Stop) → Barred env written l (Some x) → R (stopped x)) → R (unless_barred (barrier env written l) o)
  barred-all R o f g = go (barrier env written l) barrier-is
    where
      go : (b : Option Stop) → Barred env written l b → R (unless_barred b o)
      go None (goes e h) = f e h
      go (Some x) b = g x b
