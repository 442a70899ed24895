-- The range of an operand, by the table of commands: what its bytes hold, and so a word.
-- Assumes nothing.
use mathlib.Core.Path.{◌≡◌}
use mathlib.Core.Bool.{true}
use Prim.Native.Nat.{ℕ, zero, suc, ◌*◌, ◌-◌, ◌≤◌}
use native.Mathlib.Omega.{arith}
use lib.IntN.{ℤ, pos, negsuc}
use borrow.Author.Tests.{ltb-true}
use lib.Pow.{pow_mono}
use lib.Dec.{leb, leb→le}
use lib.ListN.{length}
use Rattle.word.specs.Exact.{is_signed}
use Rattle.word.specs.Text.{digit_count, natural, decimal}
use Rattle.word.specs.Wrap.{Signed}
use Rattle.word.proofs.Bool.{never}
use Rattle.word.proofs.Laws.Exact.{signed_test, test-signed}
use Rattle.word.proofs.Laws.Numeral.{numeral-length, digit_count-within}
use Rattle.program.specs.declared.Operand.{Operand}
use Rattle.program.specs.Command.{Opcode, operand_of, width, operand_width, is_page, is_counts, holds, in_range}
use Rattle.program.specs.Encode.{FitsBytes, Fits}
use Rattle.program.proofs.Counting.{word-range}
use Rattle.program.proofs.Codes.{opcode-all}

pub width-most : (o : Opcode) → operand_width o ≤ 8
width-most o = leb→le (operand_width o) 8 (opcode-all (λ o. leb (operand_width o) 8) tt o)

module _ (o : Opcode) (z : ℤ) where
  -- what fits is a word
  pub fits_word : Fits (operand_of o) z → Signed 64 z
  fits_word w = by (operand_of o) (width-most o) w
    where
      bytes : (k : ℕ) → k ≤ 8 → FitsBytes k z → Signed 64 z
      bytes zero h w = rw w (omega arith)
      bytes (suc k) h w = omega (arith, pow_mono {i = 8 * suc k - 1} {j = 63} (omega arith))

      by : (x : Operand) → width x ≤ 8 → Fits x z → Signed 64 z
      by (Operand.Signed k) h w = bytes k h w
      by Operand.Page h w = page z w
        where
          page : (z : ℤ) → is_page z ≡ true → Signed 64 z
          page (pos n) w = omega (arith, ltb-true n 16 w)
          page (negsuc n) w = never (cc)
      by Operand.Counts h w = word z w
        where
          word : (z : ℤ) → is_counts z ≡ true → Signed 64 z
          word (pos n) w = omega (arith, word-range (pos n) w)
          word (negsuc n) w = never (cc)

  -- where there is no operand, 0 fits and nothing else
  pub fits-none : operand_width o ≡ 0 → Fits (operand_of o) z → z ≡ pos 0
  fits-none e w = by (operand_of o) e w
    where
      by : (x : Operand) → width x ≡ 0 → Fits x z → z ≡ pos 0
      by (Operand.Signed k) e w = rw e at w
      by Operand.Page e w = absurd (omega arith)
      by Operand.Counts e w = absurd (omega arith)

  pub none-fits : operand_width o ≡ 0 → z ≡ pos 0 → Fits (operand_of o) z
  none-fits e d = by (operand_of o) e
    where
      by : (x : Operand) → width x ≡ 0 → Fits x z
      by (Operand.Signed k) e = rw e d
      by Operand.Page e = absurd (omega arith)
      by Operand.Counts e = absurd (omega arith)

  -- what is in range fits; and what fits an operand is in its range
  pub range-fits : in_range o z ≡ true → Fits (operand_of o) z
  range-fits e = by (operand_of o) e
    where
      by : (x : Operand) → holds x z ≡ true → Fits x z
      by (Operand.Signed zero) e = never (cc)
      by (Operand.Signed (suc k)) e = test-signed (8 * suc k) z e
      by Operand.Page e = e
      by Operand.Counts e = e

  pub fits-range : (k : ℕ) → operand_width o ≡ suc k → Fits (operand_of o) z → in_range o z ≡ true
  fits-range k e w = by (operand_of o) e w
    where
      by : (x : Operand) → width x ≡ suc k → Fits x z → holds x z ≡ true
      by (Operand.Signed zero) e w = absurd (omega arith)
      by (Operand.Signed (suc j)) e w = signed_test (8 * suc j) z w
      by Operand.Page e w = w
      by Operand.Counts e w = w

  pub range-word : in_range o z ≡ true → is_signed 64 z ≡ true
  range-word e = signed_test 64 z (fits_word (range-fits e))

-- a page has at most two digits
pub page-digits : (z : ℤ) → is_page z ≡ true → length (decimal z) ≤ 2
unfolding decimal natural
page-digits (pos n) h =
    omega (arith, numeral-length 10 (digit_count 10 19 n) n, digit_count-within 10 19 1 n (omega (arith, ltb-true n 16 h)))
page-digits (negsuc n) h = never (cc)
