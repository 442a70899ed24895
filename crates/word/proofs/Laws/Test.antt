-- Tests of numbers: two with the same outcome; whether two words are the same.
-- Assumes nothing.
use Rattle.std.proofs.Common.{◌≡◌, ℕ, ◌+◌, ◌-◌, ◌≤◌, Bool, true, false, leb, ℤ, pos, negsuc, sym, refl, ap, arith, eq-eqb, eqb-true, le-leb, leb-false, leb-true}
use borrow.Author.Tests.{lt-leb}
use Rattle.word.specs.Number.{same_word}
use Rattle.word.proofs.Bool.{never}

-- a sum is tested by a difference
pub leb-shift : (a b c : ℕ) → b ≤ c → leb a (c - b) ≡ leb (a + b) c
leb-shift a b c h = by (leb a (c - b)) refl
  where
    by : (t : Bool) → leb a (c - b) ≡ t → t ≡ leb (a + b) c
    by true e = sym (le-leb (a + b) c (omega (arith, leb-true a (c - b) e)))
    by false e = sym (lt-leb (a + b) c (omega (arith, leb-false a (c - b) e)))

-- words are the same exactly where they are equal
pub same_word_lem : (a b : ℤ) → same_word a b ≡ true → b ≡ a
same_word_lem (pos a) (pos b) e = ap pos (sym (eqb-true a b e))
same_word_lem (pos a) (negsuc b) e = never (cc)
same_word_lem (negsuc a) (pos b) e = never (cc)
same_word_lem (negsuc a) (negsuc b) e = ap negsuc (sym (eqb-true a b e))

pub word_same : (a : ℤ) → same_word a a ≡ true
word_same (pos a) = eq-eqb a a refl
word_same (negsuc a) = eq-eqb a a refl
