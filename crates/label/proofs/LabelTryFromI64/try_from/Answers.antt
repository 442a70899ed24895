-- `label::LabelTryFromI64::try_from` meets its contract: the words of labels are those that 32 bits hold.
-- Assumes nothing.
use Rattle.std.proofs.Common.{◌≡◌, ◌∙◌, refl, ap, Some, None, ℤ, ℕ, pos, negsuc, ◌^◌, nat_abs}
use Rattle.std.specs.Int.{FitsUnsignedBits}
use borrow.Author.Tests.{lt-ltb, le-ltb}
use native.Mathlib.Omega.{arith}
use Prim.Native.Nat.{◌≤◌}
use Rattle.word.proofs.Signed.{back}
use Rattle.label.specs.Word.{stored}
use Rattle.label.proofs.LabelTryFromI64.try_from.Goals as goal

found : (z : ℤ) (n : ℕ) → FitsUnsignedBits 32 z → n ≡ nat_abs z → Some (record { 0 = n }) ≡ stored z
unfolding stored
found (pos m) n h e = rw (lt-ltb _ _ h, e)
found (negsuc m) n h e = absurd h

missing : (z : ℤ) → (FitsUnsignedBits 32 z → ⊥) → None ≡ stored z
unfolding stored
missing (pos m) h = let out : 2 ^ 32 ≤ m = omega (arith, h) in rw (le-ltb _ _ out)
missing (negsuc m) h = refl

pub returns-in-Ok : goal.returns-in-Ok
returns-in-Ok c = found _ _ (rw (back c.ranges.word) at c.in-Ok.ensures.0) (c.in-Ok.ensures.1 ∙ ap nat_abs (back c.ranges.word))

pub returns-in-Err : goal.returns-in-Err
returns-in-Err c = missing _ (rw (back c.ranges.word) at c.in-Err.ensures)
