-- Reading the bytes of a line: what the loop over a name keeps, a byte whose absence reads as a newline, and a name written from its word.
-- Assumes nothing.
use mathlib.Core.Path.{◌≡◌, refl, sym, ap, ◌∙◌}
use mathlib.Core.Bool.{Bool, true, false}
use mathlib.Core.List.{List, [], ◌∷◌, ◌++◌, reverse, reverse-cons, reverse-append}
use Prim.Native.Nat.{ℕ, zero, suc, ◌+◌, ◌-◌, ◌*◌, ◌/◌, ◌%◌, ◌^◌, ◌<◌, ◌≤◌}
use native.Mathlib.Nat.{div-div-eq-div-mul}
use native.Mathlib.Omega.{arith}
use lib.ListN.{length, drop, get_or, set, length-set, length-append, length-reverse, drop_of_length-le, get_or-eq_default}
use lib.Dec.{ltb}
use lib.Seq.{drop-cons}
use borrow.Author.Tests.{le-leb, lt-leb, ltb-true, ltb-false}
use Rattle.word.specs.Digits.{digits_of}
use Rattle.word.specs.Lay.{laid_at}
use Rattle.word.proofs.Lay.{laid_at-nil, laid_at-cons, laid_at-snoc, laid_at-both}
use Rattle.word.proofs.Laws.Digits.{digits-length, digits_append}
use Rattle.word.proofs.Laws.Field.{pow-bytes}
use Rattle.assembly.specs.Scan.{letters_to, letters_from}

-- within a list no default is needed
pub get_d-within : (l : List ℕ) (i d e : ℕ) → i < length l → get_or l i d ≡ get_or l i e
get_d-within [] i d e h = absurd (omega arith)
get_d-within (x ∷ l) zero d e h = refl
get_d-within (x ∷ l) (suc i) d e h = get_d-within l i d e (omega arith)

-- a byte that is no newline stands within the text
pub byte-within : (s : List ℕ) (at b : ℕ) → (b ≡ 10 → ⊥) → get_or s at 10 ≡ b → at < length s
byte-within s at b n e = by (ltb at (length s)) refl
  where
    by : (t : Bool) → ltb at (length s) ≡ t → at < length s
    by true f = ltb-true at (length s) f
    by false f = absurd (n (sym e ∙ get_or-eq_default s 10 {n = at} (ltb-false at (length s) f)))

-- ════════════════════════════════════════════════════════════════════════════════════════════
-- A name: what is left of it, after what is read, gives the whole
-- ════════════════════════════════════════════════════════════════════════════════════════════

abbrev pub Reads : List ℕ → ℕ → ℕ → ℕ → Type 0
Reads s at word i = letters_from word i (drop i s) ≡ letters_from 0 at (drop at s)

module _ (s : List ℕ) (at word i : ℕ) (r : Reads s at word i) where
  pub reads_end : length s ≤ i → letters_to word i ≡ letters_from 0 at (drop at s)
  unfolding letters_from
  reads_end h = sym (ap (letters_from word i) (drop_of_length-le s h)) ∙ r

  module _ (h : i < length s) where
    step : letters_from word i (get_or s i 0 ∷ drop (suc i) s) ≡ letters_from 0 at (drop at s)
    step = ap (letters_from word i) (sym (drop-cons s i 0 h)) ∙ r

    pub reads-blank : get_or s i 0 ≤ 32 → letters_to word i ≡ letters_from 0 at (drop at s)
    unfolding letters_from
    reads-blank b = rw (le-leb (get_or s i 0) 32 b) at step

    pub reads-long : 32 < get_or s i 0 → 256 ^ 7 ≤ word → letters_to 0 i ≡ letters_from 0 at (drop at s)
    unfolding letters_from
    reads-long b w = rw (lt-leb (get_or s i 0) 32 b, le-leb (256 ^ 7) word w) at step

    pub reads_more : 32 < get_or s i 0 → word < 256 ^ 7 → Reads s at (word * 256 + get_or s i 0) (i + 1)
    unfolding letters_from
    reads_more b w =
        let n : i + 1 ≡ suc i = omega arith in
        rw n (rw (lt-leb (get_or s i 0) 32 b, lt-leb (256 ^ 7) word w) at step)

-- ════════════════════════════════════════════════════════════════════════════════════════════
-- Writing a name: its last letter is the lowest digit of its word
-- ════════════════════════════════════════════════════════════════════════════════════════════

pub name-written : (i n at : ℕ) (old : List ℕ) → i ≤ 0 → old ≡ laid_at at (reverse (digits_of 256 i n)) old
unfolding digits_of
name-written i n at old h = let e : i ≡ 0 = omega arith in rw e (sym (laid_at-nil at old))

name-store : (k n at : ℕ) (old : List ℕ) → at + k < length old
    → laid_at at (reverse (digits_of 256 k (n / 256))) (set old (at + k) (n % 256)) ≡ laid_at at (reverse (digits_of 256 (suc k) n)) old
unfolding digits_of
name-store k n at old h =
    let ds = digits_of 256 k (n / 256) in
    let l : length (reverse ds) ≡ k = length-reverse ds ∙ digits-length 256 k (n / 256) in
    let s = laid_at-snoc at (reverse ds) (n % 256) old (rw l h) in
    rw (reverse-cons (n % 256) ds) (sym (rw l at s))

pub name-stored : (i n at : ℕ) (old : List ℕ) → 0 < i → at + i ≤ length old
    → laid_at at (reverse (digits_of 256 (i - 1) (n / 256))) (set old (at + (i - 1)) (n % 256))
    ≡ laid_at at (reverse (digits_of 256 i n)) old
name-stored i n at old p h =
    let f : suc (i - 1) ≡ i = omega arith in
    name-store (i - 1) n at old (omega arith) ∙ ap (λ (j : ℕ). laid_at at (reverse (digits_of 256 j n)) old) f

-- the three lowest letters
pub three-written : (w at : ℕ) (old : List ℕ) → at + 3 ≤ length old
    → set (set (set old at (w / 65536 % 256)) (at + 1) (w / 256 % 256)) (at + 2) (w % 256) ≡ laid_at at (reverse (digits_of 256 3 w)) old
unfolding digits_of
three-written w at old h =
    let x = w / 65536 % 256 in
    let y = w / 256 % 256 in
    let z = w % 256 in
    let one = set old at x in
    let two = set one (suc at) y in
    let m : length one ≡ length old = length-set old at x in
    let n : length two ≡ length one = length-set one (suc at) y in
    let e : at + 1 ≡ suc at = omega arith in
    let f : at + 2 ≡ suc (suc at) = omega arith in
    rw (e, f, div-div-eq-div-mul w 256 256)
    (sym (laid_at-cons at x (y ∷ z ∷ []) old (omega arith) ∙ laid_at-cons (suc at) y (z ∷ []) one (omega arith)
    ∙ laid_at-cons (suc (suc at)) z [] two (omega arith) ∙ laid_at-nil (suc (suc (suc at))) (set two (suc (suc at)) z)))

-- the letters above the lowest ones, and these
parts : (j k w : ℕ) → reverse (digits_of 256 (j + k) w) ≡ reverse (digits_of 256 k (w / 256 ^ j)) ++ reverse (digits_of 256 j w)
parts j k w = ap reverse (digits_append 256 j k w) ∙ reverse-append (digits_of 256 j w) (digits_of 256 k (w / 256 ^ j))

-- a name is its first three letters and its last three
pub name-both : (w count at : ℕ) (old : List ℕ) → 3 ≤ count → count ≤ 6 → at + count ≤ length old
    → laid_at (at + (count - 3)) (reverse (digits_of 256 3 w)) (laid_at at (reverse (digits_of 256 3 (w / 2 ^ (8 * (count - 3))))) old)
    ≡ laid_at at (reverse (digits_of 256 count w)) old
name-both w count at old l u h =
    let m = count - 3 in
    let xs = reverse (digits_of 256 3 (w / 256 ^ m)) in
    let front = reverse (digits_of 256 m (w / 256 ^ 3)) in
    let ys = reverse (digits_of 256 3 w) in
    let all : reverse (digits_of 256 count w) ≡ front ++ ys = ap (λ (n : ℕ). reverse (digits_of 256 n w)) (omega arith) ∙ parts 3 m w in
    let same : xs ++ reverse (digits_of 256 m w) ≡ front ++ ys =
    sym (ap (λ (n : ℕ). reverse (digits_of 256 n w)) (omega arith) ∙ parts m 3 w) ∙ all in
    let n : length front ≡ m = length-reverse (digits_of 256 m (w / 256 ^ 3)) ∙ digits-length 256 m (w / 256 ^ 3) in
    let p : length xs ≡ 3 = length-reverse (digits_of 256 3 (w / 256 ^ m)) ∙ digits-length 256 3 (w / 256 ^ m) in
    let q : length ys ≡ 3 = length-reverse (digits_of 256 3 w) ∙ digits-length 256 3 w in
    let r = length-append front ys in
    rw (← pow-bytes m)
    (ap (λ (i : ℕ). laid_at (at + i) ys (laid_at at xs old)) (sym n)
    ∙ laid_at-both at xs (reverse (digits_of 256 m w)) front ys old same (omega (arith, n, p)) (omega (arith, n, q, r)) (omega (arith, n, p, q, r))
    ∙ ap (λ (t : List ℕ). laid_at at t old) (sym all))
