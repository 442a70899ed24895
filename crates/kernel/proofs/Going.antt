-- The kernel's loop on words: what is left to run, from where it stands, equals the whole run. Every instruction goes forward, so that
-- no more steps are taken than places are passed.
-- Assumes nothing.
use Rattle.std.proofs.Common.{None, Option, Some, Ok, Err, OnErr, ◌≢◌}
use mathlib.Core.Path.{◌≡◌, refl, sym, ap, ◌∙◌}
use mathlib.Core.Bool.{Bool, true, false, ◌&&◌}
use mathlib.Core.List.{List}
use Prim.Native.Nat.{ℕ, min, zero, suc, ◌+◌, ◌-◌, ◌*◌, ◌/◌, ◌<◌, ◌≤◌}
use native.Mathlib.Nat.{sub-zero}
use native.Mathlib.Omega.{arith}
use lib.IntN.{ℤ, pos}
use lib.ListN.{length}
use lib.Dec.{ltb}
use borrow.Author.Tests.{ltb-true, ltb-false, lt-ltb, le-ltb}
use Rattle.kernel.specs.declared.Outcome as Ended
use Rattle.kernel.specs.declared.Outcome.TheVariants as End
use Rattle.kernel.specs.declared.Registers.{Registers}
use Rattle.handler.specs.Kernel.{Instruction, Outcome, returned, denied, failed, Effect, ends, goes, effect_at}
use Rattle.handler.specs.Kernel.{Code, Kernel, Result, ended, after, step, run, start}
use Rattle.handler.specs.Space.{instruction_at, held, handle_space}
use Rattle.kernel.specs.Words.{stack_of, registers, state, outcome_of, effect_of, Step, Acts, Held}
use Rattle.kernel.proofs.Words.{stack-length}
use Rattle.handler.proofs.Effect.{step_kept}

pub record Going (count : ℕ) (space row₀ : List ℤ) (s : Registers) (stack row : List ℤ) (steps : ℕ) : Type 0 where
  pub few : steps ≤ s.place
  pub deep : s.depth ≤ 64
  pub size : length stack ≡ 64
  pub words : length row ≡ 7
  pub left : run (held space count) (count - steps) (state s stack row steps) ≡ handle_space space count row₀

abbrev pub result : Outcome → List ℤ → ℕ → Result
result o row steps = record { outcome = o; row = row; steps = steps }

-- ════════════════════════════════════════════════════════════════════════════════════════════
-- The places that hold an instruction
-- ════════════════════════════════════════════════════════════════════════════════════════════

-- both words of an instruction are there, and it is one of so many, below half of the words or the count, whichever is less
held_is : (words count limit place : ℕ) → limit ≡ min (words / 2) count → (ltb place count && ltb (2 * place + 1) words) ≡ ltb place limit
held_is words count limit place e = by (ltb place count) (ltb (2 * place + 1) words) refl refl
  where
    by : (a b : Bool) → ltb place count ≡ a → ltb (2 * place + 1) words ≡ b → (a && b) ≡ ltb place limit
    by true true f g = sym (lt-ltb place limit (omega (arith, ltb-true place count f, ltb-true (2 * place + 1) words g)))
    by true false f g = sym (le-ltb place limit (omega (arith, ltb-false (2 * place + 1) words g)))
    by false b f g = sym (le-ltb place limit (omega (arith, ltb-false place count f)))

-- those are the places that have both of their words
pub held-least : (words count limit : ℕ) → limit ≡ min (words / 2) count → Held words count limit
unfolding Held
held-least words count limit e place = sym (held_is words count limit place e)

-- both words of an instruction at a place below the limit are there
pub held_both : (words count limit place : ℕ) → Held words count limit → place < limit → (place < count) × (2 * place + 1 < words)
unfolding Held
held_both words count limit place h p = by (ltb place count) (ltb (2 * place + 1) words) refl refl (sym (h place) ∙ lt-ltb place limit p)
  where
    by : (a b : Bool) → ltb place count ≡ a → ltb (2 * place + 1) words ≡ b → (a && b) ≡ true → (place < count) × (2 * place + 1 < words)
    by true true f g e = (ltb-true place count f, ltb-true (2 * place + 1) words g)
    by true false f g e = absurd (let x : ◌≡◌ {A = ℕ} 0 1 = cc in omega arith)
    by false b f g e = absurd (let x : ◌≡◌ {A = ℕ} 0 1 = cc in omega arith)

-- ════════════════════════════════════════════════════════════════════════════════════════════
-- The loop
-- ════════════════════════════════════════════════════════════════════════════════════════════

-- an instruction, or none, does not ask after the steps
act-at : (o : Option Instruction) (s : Registers) (stack row : List ℤ) (n m : ℕ)
    → effect_at o (state s stack row n) ≡ effect_at o (state s stack row m)
act-at None s stack row n m = refl
act-at (Some i) s stack row n m = refl

-- with none there the run fails, whatever steps are left
run_none : (code : Code) (fuel : ℕ) (x : Kernel) → code x.place ≡ None → run code fuel x ≡ ended failed x
unfolding run step
run_none code zero x e = refl
run_none code (suc fuel) x e = rw e

module _ (count : ℕ) (space row₀ : List ℤ) where
  pub going_start : (stack : List ℤ) → length stack ≡ 64 → length row₀ ≡ 7 → Going count space row₀ (registers 0 0 (pos 0)) stack row₀ 0
  unfolding handle_space stack_of
  going_start stack h l =
      record {
        few = omega arith;
        deep = omega arith;
        size = h;
        words = l;
        left = ap (λ (n : ℕ). run (held space count) n (start row₀)) (sub-zero count);
      }

  module _ (limit : ℕ) (h : limit ≡ min (length space / 2) count) (s : Registers) (stack row : List ℤ) (steps : ℕ)
      (g : Going count space row₀ s stack row steps) where
    pub going_end : limit ≤ s.place → result failed row steps ≡ handle_space space count row₀
    going_end l =
        let e = held_is (length space) count limit s.place h ∙ le-ltb s.place limit l in
        sym (run_none (held space count) (count - steps) (state s stack row steps) (rw e)) ∙ g.left

    module _ (p : s.place < limit) where
      -- one step more
      next : after (step (held space count) (state s stack row steps)) (state s stack row steps)
          (λ y. run (held space count) (count - (steps + 1)) y) ≡ handle_space space count row₀
      unfolding run
      next =
          let z : count - steps ≡ suc (count - (steps + 1)) = omega (arith, g.few) in
          sym (ap (λ (n : ℕ). run (held space count) n (state s stack row steps)) z) ∙ g.left

      -- the instruction there is carried out where the row has seven words, as it has here
      module _ (r : Step) (stack' row' : List ℤ) (a : length row ≡ 7 → Acts row (instruction_at space s.place) s stack r row' stack') where
        here : step (held space count) (state s stack row steps) ≡ effect_of r stack' row'
        unfolding step Acts
        here =
            let e = held_is (length space) count limit s.place h ∙ lt-ltb s.place limit p in
            rw e (act-at (instruction_at space s.place) s stack row steps 0 ∙ sym (a g.words))

        by : (e : Effect) → effect_of r stack' row' ≡ e
            → after e (state s stack row steps) (λ y. run (held space count) (count - (steps + 1)) y)
            ≡ handle_space space count row₀
        by e f = rw (here ∙ f) at next

        -- an end leaves the row as it was
        module _ (k : OnErr r (row' ≡ row)) where
          kept : (o : Ended.Outcome) → r ≡ Err o → row' ≡ row
          kept o q = rw q at k

          pub going_failed : r ≡ Err End.Failed → result failed row' steps ≡ handle_space space count row₀
          going_failed q = rw (kept End.Failed q) (by (ends failed) (rw q))

          -- an end that is a step
          pub going_ended : (o : Ended.Outcome) → r ≡ Err o → o ≢ End.Failed
              → result (outcome_of o) row' (steps + 1) ≡ handle_space space count row₀
          going_ended End.Returned q f =
              let z : steps + 1 ≡ suc steps = omega arith in
              rw (kept End.Returned q) (ap (result returned row) z ∙ by (ends returned) (rw q))
          going_ended End.Denied q f =
              let z : steps + 1 ≡ suc steps = omega arith in
              rw (kept End.Denied q) (ap (result denied row) z ∙ by (ends denied) (rw q))
          going_ended End.Failed q f = absurd (f refl)

        module _ (t : Registers) (q : r ≡ Ok t) where
          gone : effect_of r stack' row' ≡ goes t.place (stack_of t stack') row'
          gone = rw q

          forward : s.place < t.place
          forward = (step_kept (held space count) (state s stack row steps) (here ∙ gone)).forward

          pub going_less : limit - t.place < limit - s.place
          going_less = omega (arith, forward)

          pub going_on : length stack' ≡ length stack → Going count space row₀ t stack' row' (steps + 1)
          going_on l =
              let k = step_kept (held space count) (state s stack row steps) (here ∙ gone) in
              let f = stack-length s stack in
              record {
                few = omega (arith, g.few, forward);
                deep = rw (stack-length t stack') at (k.depth (omega (arith, g.deep)));
                size = l ∙ g.size;
                words = k.words ∙ g.words;
                left =
                    let z : steps + 1 ≡ suc steps = omega arith in
                    ap (λ (n : ℕ). run (held space count) (count - (steps + 1)) (state t stack' row' n)) z
                    ∙ by (goes t.place (stack_of t stack') row') gone;
              }
