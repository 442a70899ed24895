-- Two counts and their word: the word of two counts in range has them, and a word that is in range is that of its two counts.
-- Assumes nothing.
use Rattle.std.proofs.Common.{None, Some}
use mathlib.Core.Path.{◌≡◌, refl, sym, ap, ◌∙◌}
use mathlib.Core.Bool.{Bool, true, false}
use Prim.Native.Nat.{ℕ, ◌+◌, ◌*◌, ◌/◌, ◌%◌, ◌<◌}
use native.Mathlib.Omega.{arith}
use lib.IntN.{ℤ, pos, negsuc}
use lib.Dec.{ltb}
use borrow.Author.Tests.{lt-ltb, ltb-true}
use Rattle.word.specs.Choose.{choose}
use Rattle.word.specs.Number.{index_of, index_if}
use Rattle.word.proofs.Bits.{index-found}
use Rattle.word.proofs.Bool.{never, and_first, and_second}
use Rattle.program.specs.Command.{counts, arguments_of, results_of, is_counts}

-- two counts in range
module _ (a d : ℕ) (h : a < 16) (k : d < 2) where
  pub counts-word : counts (pos a) (pos d) ≡ pos (16 * a + d)
  counts-word = rw (lt-ltb a 16 h, lt-ltb d 2 k)

  pub counts-arguments : arguments_of (counts (pos a) (pos d)) ≡ a
  counts-arguments = ap arguments_of counts-word ∙ omega arith

  pub counts-results : results_of (counts (pos a) (pos d)) ≡ d
  counts-results = ap results_of counts-word ∙ omega arith

  pub counts-in : is_counts (counts (pos a) (pos d)) ≡ true
  counts-in = ap is_counts counts-word ∙ rw (lt-ltb (16 * a + d) 256 (omega arith), lt-ltb ((16 * a + d) % 16) 2 (omega arith))

-- two counts whose word is in range are
pub counts-range : (a d : ℕ) → is_counts (counts (pos a) (pos d)) ≡ true → (a < 16) × (d < 2)
counts-range a d e = by (ltb a 16) (ltb d 2) refl refl e
  where
    by : (s t : Bool) → ltb a 16 ≡ s → ltb d 2 ≡ t → is_counts (choose s (choose t (pos (16 * a + d)) (negsuc 0)) (negsuc 0)) ≡ true
        → (a < 16) × (d < 2)
    by true true f g e = (ltb-true a 16 f, ltb-true d 2 g)
    by true false f g e = never (cc)
    by false t f g e = never (cc)

-- and are the two that the word has
pub counts-both : (a d : ℤ) → is_counts (counts a d) ≡ true
    → (a ≡ pos (arguments_of (counts a d))) × (d ≡ pos (results_of (counts a d)))
counts-both (pos a) (pos d) e =
    let (h, k) = counts-range a d e in (ap pos (sym (counts-arguments a d h k)), ap pos (sym (counts-results a d h k)))
counts-both (pos a) (negsuc d) e = never (cc)
counts-both (negsuc a) d e = never (cc)

-- a word in range: its two counts are
pub word-range : (z : ℤ) → is_counts z ≡ true → (arguments_of z < 16) × (results_of z < 2)
word-range (pos n) e =
    let g = ltb-true n 256 (and_first (ltb n 256) (ltb (n % 16) 2) e) in
    (omega arith, ltb-true (n % 16) 2 (and_second (ltb n 256) (ltb (n % 16) 2) e))
word-range (negsuc n) e = never (cc)

-- and it is their word
pub word_counts : (z : ℤ) → is_counts z ≡ true → counts (pos (arguments_of z)) (pos (results_of z)) ≡ z
word_counts (pos n) e =
    let h = word-range (pos n) e in
    let k : 16 * (n / 16) + n % 16 ≡ n = omega arith in
    counts-word (n / 16) (n % 16) h.0 h.1 ∙ ap pos k
word_counts (negsuc n) e = never (cc)

-- what a word says of results fits a byte
pub results-small : (z : ℤ) → results_of z < 16
results-small (pos n) = omega arith
results-small (negsuc n) = omega arith

-- ════════════════════════════════════════════════════════════════════════════════════════════
-- As the code reads words
-- ════════════════════════════════════════════════════════════════════════════════════════════

not-below : (n b : ℕ) → index_of (pos n) b ≡ None → ltb n b ≡ false
unfolding index_of
not-below n b e = by (ltb n b) e
  where
    by : (t : Bool) → index_if t n ≡ None → t ≡ false
    by true e = never (cc)
    by false e = refl

pub outside-counts : (z : ℤ) → index_of z 256 ≡ None → false ≡ is_counts z
outside-counts (pos n) e = rw (not-below n 256 e)
outside-counts (negsuc n) e = refl

pub inside-counts : (z : ℤ) (n : ℕ) → index_of z 256 ≡ Some n → ltb (n % 16) 2 ≡ is_counts z
inside-counts z n e = let (d, h) = index-found z 256 n e in rw (d, lt-ltb n 256 h)

pub arguments-outside : (a d : ℤ) → index_of a 16 ≡ None → negsuc 0 ≡ counts a d
arguments-outside (pos a) (pos d) e = rw (not-below a 16 e)
arguments-outside (pos a) (negsuc d) e = refl
arguments-outside (negsuc a) d e = refl

pub results-outside : (a d : ℤ) → index_of d 2 ≡ None → negsuc 0 ≡ counts a d
results-outside (pos a) (pos d) e = rw (not-below d 2 e) (by (ltb a 16))
  where
    by : (t : Bool) → negsuc 0 ≡ choose t (negsuc 0) (negsuc 0)
    by true = refl
    by false = refl
results-outside (pos a) (negsuc d) e = refl
results-outside (negsuc a) d e = refl

pub inside-small : (a d : ℤ) (i j : ℕ) → index_of a 16 ≡ Some i → index_of d 2 ≡ Some j → (i < 16) × (j < 2)
inside-small a d i j e f = ((index-found a 16 i e).1, (index-found d 2 j f).1)

pub inside-word : (a d : ℤ) (i j : ℕ) → index_of a 16 ≡ Some i → index_of d 2 ≡ Some j → pos (16 * i + j) ≡ counts a d
inside-word a d i j e f =
    let (k, g) = index-found a 16 i e in
    let (l, h) = index-found d 2 j f in
    rw (k, l) (sym (counts-word i j g h))
