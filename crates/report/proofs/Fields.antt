-- The 4-byte fields of a job.
-- Assumes nothing.
use Rattle.std.proofs.Common.{Some}
use mathlib.Core.Path.{◌≡◌, refl}
use mathlib.Core.Bool.{Bool, true, false}
use mathlib.Core.List.{List}
use Prim.Native.Nat.{ℕ, ◌+◌, ◌≤◌}
use native.Mathlib.Omega.{arith}
use lib.IntN.{ℤ, pos, nat_abs}
use lib.Signed.{non_neg}
use lib.ListN.{length}
use lib.Dec.{T, leb}
use mir.Syntax.{w32}
use mir.Val.{Fits}
use borrow.Author.Tests.{leb-true}
use Rattle.word.specs.Field.{Bytes, bits_at, whole, unsigned_at}
use Rattle.word.proofs.Laws.Field.{bits_at-lt}

-- a whole field is the number in its bytes
unsigned-number : (k : ℕ) (s : List ℕ) (at : ℕ) (z : ℤ) → unsigned_at k s at ≡ Some z → (at + k ≤ length s) × (z ≡ pos (bits_at k s at))
unfolding unsigned_at
unsigned-number k s at z e = by (leb (at + k) (length s)) refl e
  where
    by : (b : Bool) → leb (at + k) (length s) ≡ b → whole b (pos (bits_at k s at)) ≡ Some z
        → (at + k ≤ length s) × (z ≡ pos (bits_at k s at))
    by true t e = (leb-true (at + k) (length s) t, cc)
    by false t e = absurd (let x : ◌≡◌ {A = ℕ} 0 1 = cc in omega arith)

-- four bytes fit 32 bits
pub four_fits : (s : List ℕ) (at : ℕ) (z : ℤ) → unsigned_at 4 s at ≡ Some z → Bytes s → T (non_neg z) × Fits w32 (nat_abs z)
four_fits s at z e f =
    let n = unsigned-number 4 s at z e in
    rw n.1 (tt, record { fits = bits_at-lt 4 s at n.0 f })
