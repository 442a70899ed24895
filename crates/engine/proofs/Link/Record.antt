-- The methods of the machine record, where they change it: the fields computed.
-- Assumes nothing.
use mathlib.Core.Path.{◌≡◌}
use Prim.Native.Nat.{ℕ, suc, ◌-◌, ◌<◌}
use native.Mathlib.Omega.{arith}
use native.Mathlib.Numerals.{add-one}
use lib.IntN.{ℤ, pos, ◌+ℤ◌}
use borrow.Author.Tests.{lt-ltb}
use Rattle.word.specs.Wrap.{Signed, add_wrap}
use Rattle.word.proofs.Laws.Wrap.{wrap-id}
use Rattle.stack.specs.Words.{machine, pushed, dropped, gone, following, printed}

-- a sum that has 64 bits does not wrap
pub add_wrap-id : (a b : ℤ) → Signed 64 (a +ℤ b) → add_wrap a b ≡ a +ℤ b
unfolding add_wrap
add_wrap-id a b h = wrap-id (a +ℤ b) h

pub dropped-entry : (pc : ℤ) (label depth lines : ℕ) → dropped (machine pc label (suc depth) lines) ≡ machine pc label depth lines
unfolding dropped
dropped-entry pc label depth lines =
    let e : suc depth - 1 ≡ depth = omega arith in rw (lt-ltb 0 (suc depth) (omega arith), e)

module _ (pc : ℤ) (label depth lines : ℕ) where
  pub dropped-entries : dropped (dropped (machine pc label (suc (suc depth)) lines)) ≡ machine pc label depth lines
  dropped-entries = rw (dropped-entry pc label (suc depth) lines) (dropped-entry pc label depth lines)

  pub pushed-entry : depth < 256 → pushed (machine pc label depth lines) ≡ machine pc label (suc depth) lines
  unfolding pushed
  pushed-entry h = rw (lt-ltb depth 256 h, add-one)

  pub printed-line : (room : ℕ) → lines < room → printed (machine pc label depth lines) room ≡ machine pc label depth (suc lines)
  unfolding printed
  printed-line room h = rw (lt-ltb lines room h, add-one)

  pub following-next : (p : ℕ) → Signed 64 (pc +ℤ pos 1)
      → following (machine pc label depth lines) p ≡ machine (pc +ℤ pos 1) p depth lines
  unfolding following gone
  following-next p h = rw (add_wrap-id pc (pos 1) h)
