-- A Push is carried out with the command after it: both come to what going one command at a time comes to.
-- Assumes nothing.
use Rattle.std.proofs.Common.{Ok, Some}
use mathlib.Core.Path.{◌≡◌, refl, ap, ◌∙◌}
use mathlib.Core.Bool.{Bool, true, false}
use mathlib.Core.List.{List}
use Prim.Native.Nat.{ℕ, ◌+◌, ◌-◌, ◌<◌, ◌≤◌}
use native.Mathlib.Omega.{arith}
use lib.IntN.{ℤ, pos}
use lib.Dec.{ltb, eqb}
use borrow.Author.Tests.{eqb-true, ltb-true, lt-ltb}
use Rattle.word.specs.Choose.{choose}
use Rattle.word.specs.Number.{index_of}
use Rattle.word.specs.Wrap.{Signed, add_wrap, residue}
use Rattle.word.proofs.Bits.{index-found}
use Rattle.label.specs.Label.{bottom}
use Rattle.machine.specs.Environment.{Environment}
use Rattle.stack.specs.declared.Machine.{Machine}
use Rattle.stack.specs.Words.{pushed, pushed_stack, gone, following, carried}
use Rattle.step.specs.Lent.{Lent, lent, after}
use Rattle.step.specs.Find.{inputs, find_of}
use Rattle.step.specs.Effect.{push_effect, effect_of}
use Rattle.engine.specs.Memory.{Output}
use Rattle.engine.specs.Act.{acted, act_of, emit_of}
use Rattle.engine.specs.Loop.{word_at, operand_at}
use Rattle.engine.proofs.Link.Record.{add_wrap-id}
use Rattle.engine.proofs.Going.{Going, Acting, going-at, going_on}
use Rattle.plain.specs.Ruler.{standard_by, standard_ruler}
use Rattle.plain.specs.Next.{Ready, ready, chosen, next_of}
use Rattle.plain.proofs.Acting.{act-allowed}

-- the index of the place after a command of so few is that of the command after it
index-after : (z : ℤ) (n i : ℕ) → n ≤ 4096 → index_of z n ≡ Some i → i + 1 < n → index_of (add_wrap z (pos 1)) n ≡ Some (i + 1)
unfolding index_of
index-after z n i few e h =
    let s : Signed 64 (pos (i + 1)) = omega arith in
    rw ((index-found z n i e).0, add_wrap-id (pos i) (pos 1) s, lt-ltb (i + 1) n h)

-- a step more is one less of the allowance
pub one_less : (fuel left : ℕ) → 0 < left → left ≤ fuel → fuel - left + 1 ≡ fuel - (left - 1)
one_less fuel left h k = omega arith

module _ (count : ℕ) (env : Environment) (fuel : ℕ) (program : List ℤ) (l₀ : Lent) (o₀ : Output) where
  -- going on with the command that is chosen, with so much of the allowance left or one less
  pub record Chose (l : Lent) (o : Output) (left : ℕ) (a : Ready) : Type 0 where
    pub since : a.next.left ≤ left
    pub acting : Acting standard_ruler count env fuel program tt l₀ o₀
        a.next.word a.next.operand a.next.machine tt (lent a.stack l.cells) o (fuel - a.next.left)

  module _ (m : Machine) (l : Lent) (o : Output) (left : ℕ) (k : left ≤ fuel)
      (g : Going standard_ruler count env fuel program tt l₀ o₀ m tt l o (fuel - left))
      (h : 0 < left) (i : ℕ) (e : index_of m.pc.0 count ≡ Some i) (few : count ≤ 4096) where
    abbrev over : Machine
    over = following (pushed m) m.label.0

    abbrev stack : List ℤ
    stack = pushed_stack m l.stack (pos 0) (operand_at program i) bottom

    here : Acting standard_ruler count env fuel program tt l₀ o₀ (word_at program i) (operand_at program i) m tt l o (fuel - left)
    here = going-at standard_ruler count env fuel program tt l₀ o₀ m tt l o _ g (omega arith) i e

    module _ (d : ltb m.depth 256 ≡ true) (c : eqb (residue 64 (word_at program i)) 5 ≡ true) where
      push_goes : acted (after (carried over) (lent stack l.cells)) tt
          ≡ act_of standard_ruler (word_at program i) (operand_at program i) m tt l
      unfolding find_of standard_by effect_of push_effect
      push_goes =
          let is = eqb-true (residue 64 (word_at program i)) 5 c in
          ap (λ a. acted a tt)
          (act-allowed (word_at program i) (operand_at program i) m l (inputs 0 0 0 0) (rw is) m.label.0 0 (rw is) _ (rw (is, d)))

      push-place : over.pc.0 ≡ add_wrap m.pc.0 (pos 1)
      unfolding following gone pushed
      push-place = rw d

      chose-over : ltb 1 left ≡ true → ltb (i + 1) count ≡ true
          → Chose l o left (ready (chosen over (word_at program (i + 1)) (operand_at program (i + 1)) (left - 1)) stack)
      unfolding emit_of
      chose-over f b =
          let on =
          going_on standard_ruler count env fuel program tt l₀ o₀ (word_at program i) (operand_at program i) m tt l o _ here
          _ push_goes (Ok over) o refl over refl in
          let at = ap (λ z. index_of z count) push-place ∙ index-after m.pc.0 count i few e (ltb-true (i + 1) count b) in
          record {
            since = omega arith;
            acting = going-at standard_ruler count env fuel program tt l₀ o₀ over tt (lent stack l.cells) o _
                (rw (one_less fuel left h k) at on) (omega (arith, ltb-true 1 left f)) (i + 1) at;
          }

    pub going_next : Chose l o left (next_of count program i m left l.stack)
    unfolding next_of
    going_next = either _ (λ d. either _ (λ c. either _ (λ f. either _ (λ b. chose-over d c f b))))
      where
        stays : Ready
        stays = ready (chosen m (word_at program i) (operand_at program i) left) l.stack

        either : (b : Bool) {x : Ready} → (b ≡ true → Chose l o left x) → Chose l o left (choose b x stays)
        either true f = f refl
        either false f = record { since = omega arith; acting = here }
