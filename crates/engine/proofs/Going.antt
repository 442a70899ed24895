-- Going round the loop on words: what is left to run, from where it stands, equals the whole run.
-- Assumes nothing.
use Rattle.std.proofs.Common.{Err, None, Ok, Result, Some}
use mathlib.Core.Path.{◌≡◌, refl, sym, ap, ◌∙◌}
use mathlib.Core.List.{List}
use Prim.Native.Nat.{ℕ, suc, ◌+◌, ◌-◌, ◌<◌, ◌≤◌}
use native.Mathlib.Nat.{sub-zero}
use native.Mathlib.Omega.{arith}
use lib.IntN.{ℤ}
use lib.ListN.{length}
use Rattle.word.specs.Number.{index_of}
use Rattle.machine.specs.declared.Stop.{Stop}
use Rattle.machine.specs.declared.Stop.TheVariants.{FuelSpent, PcOutside}
use Rattle.machine.specs.Environment.{Environment}
use Rattle.stack.specs.declared.Machine.{Machine}
use Rattle.stack.specs.Words.{started}
use Rattle.step.specs.Lent.{Lent}
use Rattle.engine.specs.declared.Went.{Went}
use Rattle.engine.specs.Memory.{Output}
use Rattle.engine.specs.Act.{WordRuler, Acted, act_of, emitted, emit_of, closed, end_or}
use Rattle.engine.specs.Loop.{Done, done, ran, halted, word_at, operand_at, onward, at_place, loop_of}

-- ════════════════════════════════════════════════════════════════════════════════════════════
-- The lent runs keep their lengths
-- ════════════════════════════════════════════════════════════════════════════════════════════

-- each lent run is as long as it came
pub record SameLengths (l : Lent) (o : Output) (l₀ : Lent) (o₀ : Output) : Type 0 where
  pub stack : length l.stack ≡ length l₀.stack
  pub values : length l.cells.values ≡ length l₀.cells.values
  pub labels : length l.cells.labels ≡ length l₀.cells.labels
  pub numbers : length o.numbers ≡ length o₀.numbers
  pub line_labels : length o.labels ≡ length o₀.labels
  pub kinds : length o.kinds ≡ length o₀.kinds
  pub pages : length o.pages ≡ length o₀.pages

pub same_start : (l : Lent) (o : Output) → SameLengths l o l o
same_start l o = record { stack = refl; values = refl; labels = refl; numbers = refl; line_labels = refl; kinds = refl; pages = refl }

pub same-on : {l₂ l₁ l₀ : Lent} {o₂ o₁ o₀ : Output} → SameLengths l₂ o₂ l₁ o₁ → SameLengths l₁ o₁ l₀ o₀ → SameLengths l₂ o₂ l₀ o₀
same-on s t =
    record {
      stack = s.stack ∙ t.stack;
      values = s.values ∙ t.values;
      labels = s.labels ∙ t.labels;
      numbers = s.numbers ∙ t.numbers;
      line_labels = s.line_labels ∙ t.line_labels;
      kinds = s.kinds ∙ t.kinds;
      pages = s.pages ∙ t.pages;
    }

-- where only the output space was written to
pub same_lines : {l l₀ : Lent} {o₁ o o₀ : Output} → length o₁.numbers ≡ length o.numbers → length o₁.labels ≡ length o.labels
    → length o₁.kinds ≡ length o.kinds → length o₁.pages ≡ length o.pages → SameLengths l o l₀ o₀ → SameLengths l o₁ l₀ o₀
same_lines {l = l} n m k p s =
    same-on {l₂ = l} {l₁ = l} (record { stack = refl; values = refl; labels = refl; numbers = n; line_labels = m; kinds = k; pages = p }) s

-- ════════════════════════════════════════════════════════════════════════════════════════════
-- What is left to run
-- ════════════════════════════════════════════════════════════════════════════════════════════

module _ {R : Type 0} (ω : WordRuler R) (count : ℕ) (env : Environment) (fuel : ℕ) (program : List ℤ) (u₀ : R) (l₀ : Lent) (o₀ : Output) where
  abbrev whole : Done R
  whole = loop_of ω count env program fuel 0 started u₀ l₀ o₀

  -- from the head of the loop, after so many steps
  pub record Going (m : Machine) (u : R) (l : Lent) (o : Output) (steps : ℕ) : Type 0 where
    pub few : steps ≤ fuel
    pub left : loop_of ω count env program (fuel - steps) steps m u l o ≡ whole

  -- from a command
  pub record Acting (word operand : ℤ) (m : Machine) (u : R) (l : Lent) (o : Output) (steps : ℕ) : Type 0 where
    pub below : steps < fuel
    pub left : onward env (act_of ω word operand m u l) m o steps
        (λ m' u' l' o'. loop_of ω count env program (fuel - (steps + 1)) (steps + 1) m' u' l' o') ≡ whole

  pub going_start : Going started u₀ l₀ o₀ 0
  going_start = record { few = omega arith; left = ap (λ n. loop_of ω count env program n 0 started u₀ l₀ o₀) (sub-zero fuel) }

  -- the command leaves a, and with its line written w and o'
  module _ (word operand : ℤ) (m : Machine) (u : R) (l : Lent) (o : Output) (steps : ℕ) (g : Acting word operand m u l o steps)
      (a : Acted R) (d : a ≡ act_of ω word operand m u l)
      (w : Result Machine Stop) (o' : Output) (f : emitted w o' ≡ emit_of env m a.after.stepped o) where
    pub going-stopped : (stop : Stop) → w ≡ Err stop → done (ran m stop steps) a.ruler a.after.lent o' ≡ whole
    going-stopped stop e = rw (← d, ← f, e) at g.left

    pub going_on : (on : Machine) → w ≡ Ok on → Going on a.ruler a.after.lent o' (steps + 1)
    going_on on e = let k = g.below in record { few = omega arith; left = rw (← d, ← f, e) at g.left }

  module _ (m : Machine) (u : R) (l : Lent) (o : Output) (steps : ℕ) (g : Going m u l o steps) where
    -- where it ends, with the end line or without, as w and o'
    module _ (w : Went) (o' : Output) where
      abbrev ending : Done R
      ending = done (ran w.machine w.stop steps) u l o'

      pub going_end : closed w o' ≡ end_or count env m FuelSpent o → fuel ≤ steps → ending ≡ whole
      unfolding loop_of
      going_end e h =
          let z : fuel - steps ≡ 0 = omega arith in
          ap (λ x. halted x u l steps) e ∙ sym (ap (λ n. loop_of ω count env program n steps m u l o) z) ∙ g.left

    module _ (h : steps < fuel) where
      -- one step more
      one : at_place ω count env program (index_of m.pc.0 count) steps m u l o
          (λ m' u' l' o'. loop_of ω count env program (fuel - (steps + 1)) (steps + 1) m' u' l' o') ≡ whole
      unfolding loop_of
      one =
          let z : fuel - steps ≡ suc (fuel - (steps + 1)) = omega arith in
          sym (ap (λ n. loop_of ω count env program n steps m u l o) z) ∙ g.left

      pub going-outside : (w : Went) (o' : Output) → closed w o' ≡ end_or count env m PcOutside o → index_of m.pc.0 count ≡ None
          → ending w o' ≡ whole
      going-outside w o' f e = ap (λ x. halted x u l steps) f ∙ (rw e at one)

      -- the command at the place
      pub going-at : (i : ℕ) → index_of m.pc.0 count ≡ Some i → Acting (word_at program i) (operand_at program i) m u l o steps
      going-at i e = record { below = h; left = rw e at one }
