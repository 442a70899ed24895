-- Numbers as text in lent memory: what the loop that writes a numeral keeps, how many digits a number has, and what is written.
-- Assumes nothing.
use Rattle.std.proofs.Common.{◌≡◌, ℕ, suc, ◌+◌, ◌-◌, ◌*◌, ◌/◌, ◌%◌, ◌^◌, ◌<◌, ◌≤◌, max, Bool, true, false, ltb, List, ◌∷◌, length, take, drop, set, append_assoc, drop-drop, ℤ, pos, negsuc, nat_abs, sym, refl, ap, ◌∙◌, pow-suc, add-one, zero-add, append-nil, drop_of_length-le, arith, w64, SFits, to_z, of_z, length-set, ltb-false, ltb-true, le-leb, None, Some}
use native.Mathlib.Nat.{pow-le-pow_right}
use lib.Signed.{lt_z}
use borrow.Author.Tests.{lt-leb}
use borrow.Rule.Slice.PartMut.{put_mid}
use Rattle.word.specs.Lay.{laid, laid_at}
use Rattle.word.specs.Text.{digit_char, numeral, digit_count, natural, decimal, put_answer, put_out}
use Rattle.word.proofs.Signed.{back}
use Rattle.word.proofs.Lay.{laid_at-nil, laid_at-cons, laid_at-snoc, laid_at-zero}
use Rattle.word.proofs.Laws.Numeral.{numeral-none, numeral-snoc, numeral-length}
use Rattle.word.proofs.Laws.Numeral.{digit_count-pos, digit_count-suffices, digit_count-within}

-- ════════════════════════════════════════════════════════════════════════════════════════════
-- Writing a numeral from its lowest digit on
-- ════════════════════════════════════════════════════════════════════════════════════════════

-- nothing is left to write of a numeral at its start
pub numeral-written : (b i n at : ℕ) (old : List ℕ) → i ≤ 0 → old ≡ laid_at at (numeral b i n) old
numeral-written b i n at old h = let e : i ≡ 0 = omega arith in rw (e, numeral-none b n) (sym (laid_at-nil at old))

-- once its lowest digit is stored, what is left is the rest of it
numeral-store : (b k n at : ℕ) (old : List ℕ) → at + k < length old
    → laid_at at (numeral b k (n / b)) (set old (at + k) (digit_char (n % b))) ≡ laid_at at (numeral b (suc k) n) old
numeral-store b k n at old h =
    let l = numeral-length b k (n / b) in
    let s = laid_at-snoc at (numeral b k (n / b)) (digit_char (n % b)) old (rw l h) in
    rw (numeral-snoc b k n) (sym (rw l at s))

pub numeral-stored : (b i n at : ℕ) (old : List ℕ) (x : ℕ) → 0 < i → at + i ≤ length old → x ≡ digit_char (n % b)
    → laid_at at (numeral b (i - 1) (n / b)) (set old (at + (i - 1)) x) ≡ laid_at at (numeral b i n) old
numeral-stored b i n at old x p h e =
    let f : suc (i - 1) ≡ i = omega arith in
    rw e (numeral-store b (i - 1) n at old (omega arith) ∙ ap (λ (j : ℕ). laid_at at (numeral b j n) old) f)

-- both in a place of its own, which it is written in from the start on
pub numeral-written-first : (b n : ℕ) (old : List ℕ) → laid (numeral b 0 n) old ≡ old
numeral-written-first b n old = sym (numeral-written b 0 n 0 old (omega arith) ∙ laid_at-zero (numeral b 0 n) old)

pub numeral-stored-first : (b i n : ℕ) (old : List ℕ) → 0 < i → i ≤ length old
    → laid (numeral b (i - 1) (n / b)) (set old (i - 1) (digit_char (n % b))) ≡ laid (numeral b i n) old
numeral-stored-first b i n old p h =
    rw (zero-add (i - 1), laid_at-zero (numeral b (i - 1) (n / b)), laid_at-zero (numeral b i n) old)
    at (numeral-stored b i n 0 old (digit_char (n % b)) p (omega arith) refl)

-- a numeral fills a place of its length
pub numeral-fills : (b n : ℕ) (old : List ℕ) → laid (numeral b (length old) n) old ≡ numeral b (length old) n
unfolding laid
numeral-fills b n old =
    rw (numeral-length b (length old) n, drop_of_length-le old {i = length old} (omega arith), append-nil)

-- ════════════════════════════════════════════════════════════════════════════════════════════
-- Counting digits
-- ════════════════════════════════════════════════════════════════════════════════════════════

-- with k + 1 digits a number is below 10^(k + 1) and, unless there is one, at least 10^k
count-is : (n k : ℕ) → n < 2 ^ 64 → (0 < k → 10 ^ k ≤ n) → n < 10 ^ suc k → digit_count 10 19 n ≡ suc k
count-is n k w l h = by (ltb k (digit_count 10 19 n)) refl
  where
    by : (t : Bool) → ltb k (digit_count 10 19 n) ≡ t → digit_count 10 19 n ≡ suc k
    by true e = omega (arith, ltb-true k (digit_count 10 19 n) e, digit_count-within 10 19 k n h)
    by false e =
        let few = ltb-false k (digit_count 10 19 n) e in
        let some = digit_count-pos 10 19 n in
        let below = digit_count-suffices 10 19 n (omega arith) (omega arith) in
        absurd (omega (arith, l (omega arith), below, pow-le-pow_right {n = 10} (omega arith) {i = digit_count 10 19 n} {j = k} few))

-- so many digits are too few for n, or all but one
abbrev pub Counting : ℕ → ℕ → ℕ → Type 0
Counting n count limit = (0 < count) × (count ≤ 19) × (limit ≡ 10 ^ count) × (1 < count → 10 ^ (count - 1) ≤ n)

pub counting_more : (n count limit : ℕ) → Counting n count limit → count < 19 → limit ≤ n → Counting n (count + 1) (limit * 10)
counting_more n count limit c h l =
    let e : count + 1 ≡ suc count = omega arith in
    let f : count + 1 - 1 ≡ count = omega arith in
    (omega arith, omega arith, rw (e, pow-suc 10 count) (ap (λ (m : ℕ). m * 10) c.2), λ k. rw f (omega (arith, c.2)))

-- one digit more than the power of ten that n reaches
pub count-log : (n k : ℕ) → n < 2 ^ 64 → 10 ^ k ≤ max n 1 → max n 1 < 10 * 10 ^ k → k + 1 ≡ digit_count 10 19 n
count-log n k w l h =
    let some : 0 < k → 10 ^ k ≤ n = λ p. omega (arith, l, pow-le-pow_right {n = 10} (omega arith) {i = 1} {j = k} p) in
    add-one k ∙ sym (count-is n k w some (omega (arith, h, pow-suc 10 k)))

-- ════════════════════════════════════════════════════════════════════════════════════════════
-- Decimals
-- ════════════════════════════════════════════════════════════════════════════════════════════

-- the text of a number of a given size with so many digits, by its sign
module _ (z : ℤ) (size count : ℕ) (s : size ≡ nat_abs z) (k : count ≡ digit_count 10 19 size) where
  natural-numeral : natural (nat_abs z) ≡ numeral 10 count size
  unfolding natural
  natural-numeral = rw (k, s)

  pub decimal-negative : lt_z z (pos 0) ≡ true → decimal z ≡ 45 ∷ numeral 10 count size
  unfolding decimal
  decimal-negative e = by z e ∙ ap (λ (text : List ℕ). 45 ∷ text) natural-numeral
    where
      by : (z : ℤ) → lt_z z (pos 0) ≡ true → decimal z ≡ 45 ∷ natural (nat_abs z)
      by (pos n) e = absurd (omega (arith, ltb-true n 0 e))
      by (negsuc n) e = refl

  pub decimal-natural : lt_z z (pos 0) ≡ false → decimal z ≡ numeral 10 count size
  unfolding decimal
  decimal-natural e = by z e ∙ natural-numeral
    where
      by : (z : ℤ) → lt_z z (pos 0) ≡ false → decimal z ≡ natural (nat_abs z)
      by (pos n) e = refl
      by (negsuc n) e = let z : ◌≡◌ {A = ℕ} 0 1 = cc in absurd (omega arith)

-- and of a word, by what its bits are
module _ (z : ℤ) (size count : ℕ) (f : SFits w64 z) (s : size ≡ nat_abs (to_z w64 (of_z w64 z))) (k : count ≡ digit_count 10 19 size) where
  pub word-negative : lt_z (to_z w64 (of_z w64 z)) (pos 0) ≡ true → decimal z ≡ 45 ∷ numeral 10 count size
  word-negative e = decimal-negative z size count (s ∙ ap nat_abs (back f)) k (rw (back f) at e)

  pub word-natural : lt_z (to_z w64 (of_z w64 z)) (pos 0) ≡ false → decimal z ≡ numeral 10 count size
  word-natural e = decimal-natural z size count (s ∙ ap nat_abs (back f)) k (rw (back f) at e)

-- ════════════════════════════════════════════════════════════════════════════════════════════
-- A text is written if there is room
-- ════════════════════════════════════════════════════════════════════════════════════════════

pub put-room : (at k : ℕ) (text old : List ℕ) → length text ≡ k → at + k ≤ length old
    → (put_answer at text old ≡ Some (at + k)) × (put_out at text old ≡ laid_at at text old)
unfolding put_answer put_out
put-room at k text old e h = rw (e, le-leb (at + k) (length old) h) (refl, refl)

pub put-none : (at k : ℕ) (text old : List ℕ) → length text ≡ k → length old < at + k
    → (put_answer at text old ≡ None) × (put_out at text old ≡ old)
unfolding put_answer put_out
put-none at k text old e h = rw (e, lt-leb (at + k) (length old) h) (refl, refl)

-- as the code finds it out: what stands in the place of as many bytes is written there
pub put-part : (at k next : ℕ) (text old : List ℕ) → length text ≡ k → (at + k ≤ length old) × (next ≡ at + k)
    → (Some next ≡ put_answer at text old) × (put_mid at (next - at) old text ≡ put_out at text old)
unfolding laid_at
put-part at k next text old e h =
    let put = put-room at k text old e h.0 in
    let n : at + (next - at) ≡ at + length text = omega (arith, h.1) in
    let d : drop (next - at) (drop at old) ≡ drop (at + length text) old = drop-drop (next - at) at old ∙ ap (λ (m : ℕ). drop m old) n in
    (ap Some h.1 ∙ sym put.0, rw d (sym (append_assoc (take at old) text (drop (at + length text) old))) ∙ sym put.1)

pub put-short : (at k : ℕ) (text old : List ℕ) → length text ≡ k → length old < at + k
    → (None ≡ put_answer at text old) × (old ≡ put_out at text old)
put-short at k text old e h = let put = put-none at k text old e h in (sym put.0, sym put.1)

-- a text whose first character is stored is written from the next position on
pub put-cons : (at k x : ℕ) (text old : List ℕ) → length text ≡ k → at + (k + 1) ≤ length old
    → (put_answer (at + 1) text (set old at x) ≡ put_answer at (x ∷ text) old)
    × (put_out (at + 1) text (set old at x) ≡ put_out at (x ∷ text) old)
put-cons at k x text old e h =
    let f : at + 1 + k ≡ at + (k + 1) = omega arith in
    let new = put-room (at + 1) k text (set old at x) e (rw (length-set old at x) (omega arith)) in
    let all = put-room at (k + 1) (x ∷ text) old (rw e (omega arith)) h in
    (new.0 ∙ ap Some f ∙ sym all.0, new.1 ∙ rw (add-one at) (sym (laid_at-cons at x text old (omega arith))) ∙ sym all.1)
