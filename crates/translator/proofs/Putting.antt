-- Laws of words stored one after the other: in two parts, in either order where the parts lie apart, and as a whole that has room.
-- Assumes nothing.
use mathlib.Core.Path.{◌≡◌, refl, sym, ap, ◌∙◌}
use mathlib.Core.List.{List, [], ◌∷◌, ◌++◌}
use Prim.Native.Nat.{ℕ, suc, ◌+◌, ◌*◌, ◌<◌, ◌≤◌}
use native.Mathlib.Nat.{add-zero, add-suc, suc-add}
use native.Mathlib.Omega.{arith}
use lib.IntN.{ℤ, pos}
use lib.ListN.{length, set, length-set, get_or, drop, drop_of_length-le}
use lib.Seq.{set_comm, drop-cons}
use native.Mathlib.Numerals.{add-one}
use Rattle.word.specs.Lay.{laid, laid_at}
use Rattle.word.proofs.Lay.{laid_at-nil, laid_at-zero, laid_at-cons}
use Rattle.handler.specs.Kernel.{Instruction}
use Rattle.handler.specs.Space.{kernel_words}
use Rattle.translator.specs.Emit.{put_all, put_code}
use Rattle.handler.proofs.Space.{kernel_words-length, kernel_words-append}

put_all-append : (at : ℕ) (xs ys s : List ℤ) → put_all at (xs ++ ys) s ≡ put_all (at + length xs) ys (put_all at xs s)
unfolding put_all
put_all-append at [] ys s = rw (add-zero at)
put_all-append at (x ∷ xs) ys s = rw (add-suc at (length xs), ← suc-add at (length xs)) (put_all-append (suc at) xs ys (set s at x))

-- a word before them
put_all-set : (at : ℕ) (xs s : List ℤ) (j : ℕ) (w : ℤ) → j < at → put_all at xs (set s j w) ≡ set (put_all at xs s) j w
unfolding put_all
put_all-set at [] s j w h = refl
put_all-set at (x ∷ xs) s j w h =
    ap (put_all (suc at) xs) (set_comm s j at w x (λ e. omega arith)) ∙ put_all-set (suc at) xs (set s at x) j w (omega arith)

put_all-comm : (a : ℕ) (xs : List ℤ) (b : ℕ) (ys s : List ℤ) → a + length xs ≤ b → put_all b ys (put_all a xs s) ≡ put_all a xs (put_all b ys s)
unfolding put_all
put_all-comm a [] b ys s h = refl
put_all-comm a (x ∷ xs) b ys s h =
    put_all-comm (suc a) xs b ys (set s a x) (omega arith) ∙ ap (put_all (suc a) xs) (put_all-set b ys s a x (omega arith))

pub put_all-laid_at : (at : ℕ) (ws s : List ℤ) → at + length ws ≤ length s → put_all at ws s ≡ laid_at at ws s
unfolding put_all
put_all-laid_at at [] s h = sym (laid_at-nil at s)
put_all-laid_at at (w ∷ ws) s h =
    put_all-laid_at (suc at) ws (set s at w) (rw (length-set s at w) (omega arith)) ∙ sym (laid_at-cons at w ws s (omega arith))

-- ════════════════════════════════════════════════════════════════════════════════════════════
-- One after the other
-- ════════════════════════════════════════════════════════════════════════════════════════════

-- i words are stored, and storing the others makes the whole
pub record Storing (position : ℕ) (words before : List ℤ) (i : ℕ) (now : List ℤ) : Type 0 where
  pub few : i ≤ length words
  pub size : length now ≡ length before
  pub left : put_all (2 * position + i) (drop i words) now ≡ put_all (2 * position) words before

module _ (position : ℕ) (words before : List ℤ) where
  pub storing-start : Storing position words before 0 before
  storing-start = record { few = omega arith; size = refl; left = rw (add-zero (2 * position)) }

  module _ (i : ℕ) (now : List ℤ) (st : Storing position words before i now) where
    pub storing-next : i < length words → Storing position words before (i + 1) (set now (2 * position + i) (get_or words i (pos 0)))
    unfolding put_all
    storing-next h =
        let e : 2 * position + (i + 1) ≡ suc (2 * position + i) = omega arith in
        let d : drop i words ≡ get_or words i (pos 0) ∷ drop (i + 1) words = rw (add-one i) (drop-cons words i (pos 0) h) in
        record {
          few = omega arith;
          size = length-set now (2 * position + i) (get_or words i (pos 0)) ∙ st.size;
          left = rw e (rw d at st.left);
        }

    pub storing-end : length words ≤ i → now ≡ put_all (2 * position) words before
    unfolding put_all
    storing-end h = rw (drop_of_length-le words h) at st.left

-- ════════════════════════════════════════════════════════════════════════════════════════════
-- Instructions
-- ════════════════════════════════════════════════════════════════════════════════════════════

pub put_code-append : (p : ℕ) (a b : List Instruction) (s : List ℤ) → put_code p (a ++ b) s ≡ put_code (p + length a) b (put_code p a s)
put_code-append p a b s =
    let e : 2 * p + length (kernel_words a) ≡ 2 * (p + length a) = omega (arith, kernel_words-length a) in
    ap (λ ws. put_all (2 * p) ws s) (kernel_words-append a b)
    ∙ put_all-append (2 * p) (kernel_words a) (kernel_words b) s
    ∙ ap (λ n. put_all n (kernel_words b) (put_all (2 * p) (kernel_words a) s)) e

put_code-comm : (p : ℕ) (a : List Instruction) (q : ℕ) (b : List Instruction) (s : List ℤ) → p + length a ≤ q
    → put_code q b (put_code p a s) ≡ put_code p a (put_code q b s)
put_code-comm p a q b s h =
    put_all-comm (2 * p) (kernel_words a) (2 * q) (kernel_words b) s (omega (arith, kernel_words-length a))

-- instructions left out, and stored when those behind them are
pub put_code-late : (p : ℕ) (a b : List Instruction) (s : List ℤ) → put_code p a (put_code (p + length a) b s) ≡ put_code p (a ++ b) s
put_code-late p a b s = sym (put_code-comm p a (p + length a) b s (omega arith)) ∙ sym (put_code-append p a b s)

pub put_code-laid : (code : List Instruction) (s : List ℤ) → 2 * length code ≤ length s → put_code 0 code s ≡ laid (kernel_words code) s
put_code-laid code s h = put_all-laid_at 0 (kernel_words code) s (omega (arith, kernel_words-length code)) ∙ laid_at-zero (kernel_words code) s
