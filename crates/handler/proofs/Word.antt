-- What Or, Sub and Add do to labels and small numbers.
-- Assumes nothing.
use mathlib.Core.Path.{◌≡◌, sym, ap}
use mathlib.Core.Bool.{◌&&◌}
use Prim.Native.Nat.{ℕ, zero, suc, ◌+◌, ◌-◌, ◌%◌, ◌^◌, ◌≤◌}
use native.Mathlib.Nat.{mod-eq_of_lt}
use native.Mathlib.Omega.{arith}
use lib.IntN.{pos, ◌-ℤ◌}
use lib.Bits.{or_add_and, and_le_l}
use lib.Dec.{eqb, eqb-suc-zero}
use borrow.Author.Tests.{le-ltb, ne_eqb}
use mir.Facts.{yes_eqb, eqb_yes}
use Rattle.word.specs.Wrap.{residue, add_wrap, sub_wrap}
use Rattle.word.proofs.Laws.Wrap.{signed_lower, wrap-id}
use Rattle.word.proofs.Bool.{bool-ext}
use Rattle.label.specs.Label.{InRange, join}
use Rattle.label.proofs.Laws.{join-range, join-comm, join-bottom, join-bit_or}
use Rattle.handler.specs.Kernel.{or_word}

-- Or of two labels is their join
pub or_word-join : (a b : ℕ) → InRange a → InRange b → or_word (pos a) (pos b) ≡ pos (join a b)
unfolding or_word residue
or_word-join a b h g =
    let x : a % 2 ^ 64 ≡ a = mod-eq_of_lt (omega arith) in
    let y : b % 2 ^ 64 ≡ b = mod-eq_of_lt (omega arith) in
    rw (x, y, join-bit_or a b h g) (signed_lower 64 (join a b) (omega (arith, join-range a b)))

-- a join is no less than its second part
pub join-le : (a b : ℕ) → InRange a → InRange b → b ≤ join a b
join-le a b h g = omega (arith, join-bit_or a b h g, or_add_and a b, and_le_l a b)

-- a join is zero exactly where both parts are
pub join-zero : (a b : ℕ) → InRange a → InRange b → (eqb a 0 && eqb b 0) ≡ eqb (join b a) 0
join-zero zero zero h g = rw (join-bottom 0 h)
join-zero zero (suc b) h g =
    rw (eqb-suc-zero b) (sym (ne_eqb (join (suc b) 0) 0 (λ e. omega (arith, join-le 0 (suc b) h g, join-comm 0 (suc b)))))
join-zero (suc a) b h g = rw (eqb-suc-zero a) (sym (ne_eqb (join b (suc a)) 0 (λ e. omega (arith, join-le b (suc a) g h))))

pub difference-zero : (a b : ℕ) → b ≤ a → eqb a b ≡ eqb (a - b) 0
difference-zero a b h =
    bool-ext (eqb a b) (eqb (a - b) 0)
    (λ t. yes_eqb {a = a - b} {b = 0} (omega (arith, eqb_yes {a = a} {b = b} t)))
    (λ t. yes_eqb {a = a} {b = b} (omega (arith, eqb_yes {a = a - b} {b = 0} t)))

difference : (a b : ℕ) → b ≤ a → pos a -ℤ pos b ≡ pos (a - b)
difference a zero h = ap pos (omega arith)
difference a (suc b) h = rw (le-ltb a (suc b) h)

pub sub_wrap-pos : (a b : ℕ) → InRange a → b ≤ a → sub_wrap (pos a) (pos b) ≡ pos (a - b)
unfolding sub_wrap
sub_wrap-pos a b h g = rw (difference a b g) (wrap-id (pos (a - b)) (omega arith))

pub add_wrap-pos : (a b : ℕ) → InRange a → InRange b → add_wrap (pos a) (pos b) ≡ pos (a + b)
unfolding add_wrap
add_wrap-pos a b h g = wrap-id (pos (a + b)) (omega arith)
