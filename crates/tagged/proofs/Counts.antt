-- The counts of the run on words: a command adds at most one fault, of at most `size` kernel steps, to whatever they are. So they fit.
-- Assumes nothing.
use Rattle.std.proofs.Common.{Err, Ok}
use mathlib.Core.Path.{◌≡◌, sym, ap, ◌∙◌}
use mathlib.Core.Bool.{Bool, true, false}
use mathlib.Core.List.{List}
use Prim.Native.Nat.{ℕ, ◌+◌, ◌*◌, ◌^◌, ◌<◌, ◌≤◌}
use native.Mathlib.Nat.{zero-add, add-zero, mul-le-mul}
use native.Mathlib.Omega.{arith}
use lib.IntN.{ℤ}
use Rattle.word.specs.Wrap.{residue}
use Rattle.stack.specs.declared.Machine.{Machine}
use Rattle.step.specs.Lent.{Lent}
use Rattle.step.specs.Find.{Found, find_of}
use Rattle.engine.specs.Act.{Acted, acted, act_found, act_of}
use Rattle.handler.specs.Kernel.{Result}
use Rattle.tagging.specs.Consult.{Tag, tag, Five, matches, missed, consult_if, consult, counted}
use Rattle.tagged.specs.Ruling.{tag_words}

-- what a command adds, its counts from zero on
abbrev pub added : Tag → Tag → Tag
added u v = tag v.row (u.faults + v.faults) (u.kernel_steps + v.kernel_steps)

-- the counts after so many commands
pub record Few (size steps : ℕ) (u : Tag) : Type 0 where
  pub faults : u.faults ≤ steps
  pub kernel_steps : u.kernel_steps ≤ steps * size

pub few-none : (size : ℕ) (row : List ℤ) → Few size 0 (tag row 0 0)
few-none size row = record { faults = omega arith; kernel_steps = omega arith }

module _ {size steps : ℕ} {u v : Tag} (g : Few size steps u) (h : Few size 1 v) where
  pub few-more : Few size (steps + 1) (added u v)
  few-more =
      record {
        faults = omega (arith, g.faults, h.faults);
        kernel_steps = sum steps size u.kernel_steps v.kernel_steps g.kernel_steps h.kernel_steps;
      }
    where
      sum : (n s a b : ℕ) → a ≤ n * s → b ≤ 1 * s → a + b ≤ (n + 1) * s
      sum n s a b p q = omega (arith, p, q)

  -- within 64 bits
  module _ (short : size ≤ 8192) (bound : steps ≤ 1000000) where
    pub faults-fit : u.faults + v.faults < 2 ^ 64
    faults-fit = omega (arith, g.faults, h.faults)

    pub steps-fit : u.kernel_steps + v.kernel_steps < 2 ^ 64
    steps-fit =
        let r : steps * size ≤ 1000000 * 8192 = mul-le-mul bound short in
        omega (arith, g.kernel_steps, h.kernel_steps, r)

module _ (handler : List ℤ → Result) (word operand : ℤ) (m : Machine) (l : Lent) where
  abbrev acts : Tag → Acted Tag
  acts u = act_of (tag_words handler) word operand m u l

  abbrev finds : Found → Tag → Acted Tag
  finds f u = act_found (tag_words handler) word operand m u l f

  found-added : (u : Tag) (f : Found) → let a : Acted Tag = finds f (tag u.row 0 0) in finds f u ≡ acted a.after (added u a.ruler)
  found-added u (Ok i) = simp zero-add
  found-added u (Err stop) = simp add-zero

  added-all : (u : Tag) → let a : Acted Tag = acts (tag u.row 0 0) in acts u ≡ acted a.after (added u a.ruler)
  unfolding act_of
  added-all u = found-added u (find_of (residue 64 word) operand m l)

  -- a command does the same whatever the counts are, and adds to them
  pub act-added : (u : Tag) (a : Acted Tag) → a ≡ acts (tag u.row 0 0) → acted a.after (added u a.ruler) ≡ acts u
  act-added u a e = ap (λ a. acted a.after (added u a.ruler)) e ∙ sym (added-all u)

  module _ (size : ℕ) (short : (row : List ℤ) → (handler row).steps ≤ size) where
    consult-few : (row : List ℤ) (f : Five) → Few size 1 (counted (tag row 0 0) (consult handler f row))
    unfolding consult
    consult-few row f = go (matches f row)
      where
        go : (b : Bool) → Few size 1 (counted (tag row 0 0) (consult_if b handler f row))
        go true = record { faults = omega arith; kernel_steps = omega arith }
        go false = record { faults = omega arith; kernel_steps = omega (arith, short (missed f)) }

    found-few : (row : List ℤ) (f : Found) → Few size 1 (finds f (tag row 0 0)).ruler
    found-few row (Ok i) = consult-few row _
    found-few row (Err stop) = record { faults = omega arith; kernel_steps = omega arith }

    few-all : (row : List ℤ) → Few size 1 (acts (tag row 0 0)).ruler
    unfolding act_of
    few-all row = found-few row (find_of (residue 64 word) operand m l)

    pub act-few : (row : List ℤ) (a : Acted Tag) → a ≡ acts (tag row 0 0) → Few size 1 a.ruler
    act-few row a e = rw e (few-all row)
