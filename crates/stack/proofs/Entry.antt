-- What is found on the stack: an entry that is there is read, and one that was a value is refilled as a value is pushed.
-- Assumes nothing.
use mathlib.Core.Path.{◌≡◌, refl}
use mathlib.Core.Bool.{Bool, true, false}
use mathlib.Core.List.{List}
use Prim.Native.Nat.{ℕ, zero, suc, ◌+◌, ◌-◌, ◌*◌, ◌<◌, ◌≤◌}
use native.Mathlib.Omega.{arith}
use lib.IntN.{ℤ, pos, negsuc}
use lib.ListN.{length, get_or}
use lib.Seq.{set-get_or}
use lib.Dec.{ltb, leb, eqb, eqb-suc-zero}
use borrow.Author.Tests.{lt-leb, le-ltb}
use Rattle.word.specs.Choose.{choose}
use Rattle.stack.specs.declared.Machine.{Machine}
use Rattle.stack.specs.declared.Kind.TheVariants.{Value, Frame, Owing}
use Rattle.stack.specs.declared.Slot.{Slot}
use Rattle.stack.specs.Words.{no_slot, kind_of, entry_at, slot_at, set_entry, pushed_stack, refilled_stack}
use Rattle.stack.specs.Words.{raised, lifted}

-- so many below the top, in a space for 256 entries
pub slot-entry : (stack : List ℤ) (depth below i : ℕ) → below < depth → depth ≤ 256 → 768 ≤ length stack → depth - below - 1 ≡ i
    → slot_at stack depth below ≡ entry_at stack i
unfolding slot_at
slot-entry stack depth below i h fits space e =
    rw (lt-leb depth below h, le-ltb 256 depth fits, le-ltb (length stack) 768 space, e)

-- one value after the other is lifted
pub lifted_next : (stack : List ℤ) (i left : ℕ) → 0 < left → lifted stack i left ≡ lifted (raised stack (i + (left - 1))) i (left - 1)
unfolding lifted
lifted_next stack i zero h = absurd (omega arith)
lifted_next stack i (suc n) h = let e : suc n - 1 ≡ n = omega arith in rw e

pub lifted_none : (stack : List ℤ) (i left : ℕ) → left ≤ 0 → lifted stack i left ≡ stack
unfolding lifted
lifted_none stack i zero h = refl
lifted_none stack i (suc n) h = absurd (omega arith)

-- ════════════════════════════════════════════════════════════════════════════════════════════
-- Refilling
-- ════════════════════════════════════════════════════════════════════════════════════════════

kind-zero : (z : ℤ) → kind_of z ≡ Value → z ≡ pos 0
kind-zero (pos zero) e = refl
kind-zero (pos (suc n)) e = by (eqb (suc n) 2) (rw eqb-suc-zero at e)
  where
    by : (b : Bool) → choose b Owing Frame ≡ Value → pos (suc n) ≡ pos 0
    by true e = cc
    by false e = cc
kind-zero (negsuc n) e = cc

-- where a value is found, its kind word is 0
value-word : (stack : List ℤ) (depth below : ℕ) → (slot_at stack depth below).kind ≡ Value
    → get_or stack (3 * (depth - below - 1)) (pos 0) ≡ pos 0
unfolding slot_at entry_at
value-word stack depth below e =
    kind-zero _ (found (ltb (length stack) 768) _ (found (ltb 256 depth) _ (found (leb depth below) _ e)))
  where
    found : (b : Bool) (s : Slot) → (choose b no_slot s).kind ≡ Value → s.kind ≡ Value
    found true s e = cc
    found false s e = e

-- the kind word of a value stays when a value is pushed there
pub refill-push : (m : Machine) (stack : List ℤ) (depth below : ℕ) (n : ℤ) (label : ℕ) → m.depth ≡ depth - below - 1
    → (slot_at stack depth below).kind ≡ Value → refilled_stack m stack n label ≡ pushed_stack m stack (pos 0) n label
unfolding refilled_stack pushed_stack set_entry
refill-push m stack depth below n label d e = rw (d, ← value-word stack depth below e, set-get_or)
