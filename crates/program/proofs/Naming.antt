-- Names: a name stands for the one opcode that has it; two names whose bytes are letters are the same where their words are; and a name's
-- letters are given back by its word.
-- Assumes nothing.
use Rattle.std.proofs.Common.{None, Option, Some}
use mathlib.Core.Path.{◌≡◌, refl, sym, ap, ap₂, ◌∙◌}
use mathlib.Core.Bool.{Bool, true, false, ◌&&◌}
use mathlib.Core.List.{List, [], ◌∷◌, ◌++◌, reverse, reverse_aux, reverse-append, reverse-reverse}
use Prim.Native.Nat.{ℕ, zero, suc, ◌+◌, ◌*◌, ◌^◌, ◌<◌, ◌≤◌}
use native.Mathlib.Nat.{pow-zero, pow-suc, add_comm}
use native.Mathlib.Omega.{arith}
use lib.Dec.{T, leb, eqb, leb→le, eqb→eq, eqb_refl}
use lib.ListN.{length, length-reverse}
use borrow.Author.Tests.{ne_eqb}
use Rattle.word.specs.Digits.{value_of, digits_of}
use Rattle.word.proofs.Bool.{bool-ext, and_left, and_right, and_intro}
use Rattle.word.proofs.Laws.Digits.{Below, value-digits}
use Rattle.program.specs.Command.{Opcode, opcodes, opcode_of}
use Rattle.program.specs.Name.{letters, same_text, first_that, opcode_named, packed, code_or, code_named}
use Rattle.program.proofs.Codes.{opcode_of-code_of, opcode-all}

-- ════════════════════════════════════════════════════════════════════════════════════════════
-- Letters: bytes above the space
-- ════════════════════════════════════════════════════════════════════════════════════════════

abbrev pub is_letter : ℕ → Bool
is_letter c = leb 33 c && leb c 255

abbrev pub all_letters : List ℕ → Bool
all_letters [] = true
all_letters (c ∷ s) = is_letter c && all_letters s

pub letter-bounds : (c : ℕ) → T (is_letter c) → (33 ≤ c) × (c ≤ 255)
letter-bounds c t = (leb→le 33 c (and_left (leb 33 c) (leb c 255) t), leb→le c 255 (and_right (leb 33 c) (leb c 255) t))

module _ (c : ℕ) (s : List ℕ) (t : T (all_letters (c ∷ s))) where
  pub letters-first : (33 ≤ c) × (c ≤ 255)
  letters-first = letter-bounds c (and_left (is_letter c) (all_letters s) t)

  pub letters-rest : T (all_letters s)
  letters-rest = and_right (is_letter c) (all_letters s) t

pub letters-append : (a b : List ℕ) → T (all_letters a) → T (all_letters b) → T (all_letters (a ++ b))
letters-append [] b s t = t
letters-append (c ∷ a) b s t =
    and_intro (is_letter c) (all_letters (a ++ b)) (and_left (is_letter c) (all_letters a) s) (letters-append a b (letters-rest c a s) t)

letters-reversed : (a b : List ℕ) → T (all_letters a) → T (all_letters b) → T (all_letters (reverse_aux a b))
letters-reversed [] b s t = t
letters-reversed (c ∷ a) b s t =
    letters-reversed a (c ∷ b) (letters-rest c a s)
    (and_intro (is_letter c) (all_letters b) (and_left (is_letter c) (all_letters a) s) t)

-- a name has letters only, at least three and at most 8
pub name-letters : (o : Opcode) → T (all_letters (letters o))
name-letters o = opcode-all (λ o. all_letters (letters o)) tt o

pub name-long : (o : Opcode) → 3 ≤ length (letters o)
name-long o = leb→le 3 (length (letters o)) (opcode-all (λ o. leb 3 (length (letters o))) tt o)

pub name-short : (o : Opcode) → length (letters o) ≤ 8
name-short o = leb→le (length (letters o)) 8 (opcode-all (λ o. leb (length (letters o)) 8) tt o)

-- ════════════════════════════════════════════════════════════════════════════════════════════
-- Letters as a word
-- ════════════════════════════════════════════════════════════════════════════════════════════

value_same : (a b : List ℕ) → T (all_letters a) → T (all_letters b) → value_of 256 a ≡ value_of 256 b → a ≡ b
unfolding value_of
value_same [] [] s t e = refl
value_same [] (d ∷ b) s t e = absurd (omega (arith, letters-first d b t))
value_same (c ∷ a) [] s t e = absurd (omega (arith, letters-first c a s))
value_same (c ∷ a) (d ∷ b) s t e =
    let h : c ≡ d = omega (arith, letters-first c a s, letters-first d b t) in
    let k : value_of 256 a ≡ value_of 256 b = omega (arith, letters-first c a s, letters-first d b t) in
    ap₂ (λ (x : ℕ) (l : List ℕ). x ∷ l) h (value_same a b (letters-rest c a s) (letters-rest d b t) k)

pub packed-same : (m n : List ℕ) → T (all_letters m) → T (all_letters n) → packed m ≡ packed n → m ≡ n
unfolding packed
packed-same m n s t e =
    let h = value_same (reverse m) (reverse n) (letters-reversed m [] s tt) (letters-reversed n [] t tt) e in
    sym (reverse-reverse m) ∙ ap reverse h ∙ reverse-reverse n

letters-below : (s : List ℕ) → T (all_letters s) → Below 256 s
letters-below [] t i h = absurd (omega arith)
letters-below (c ∷ s) t zero h = omega (arith, letters-first c s t)
letters-below (c ∷ s) t (suc i) h = letters-below s (letters-rest c s t) i (omega arith)

-- the letters are the digits of the word, the last the lowest
pub packed-letters : (m : List ℕ) → T (all_letters m) → reverse (digits_of 256 (length m) (packed m)) ≡ m
unfolding packed
packed-letters m t =
    let s = reverse m in
    let d = value-digits 256 s (letters-below s (letters-reversed m [] t tt)) in
    ap reverse (ap (λ (n : ℕ). digits_of 256 n (value_of 256 s)) (sym (length-reverse m)) ∙ d) ∙ reverse-reverse m

pub packed_none : packed [] ≡ 0
unfolding packed value_of
packed_none = refl

-- one letter more
pub packed_more : (m : List ℕ) (c : ℕ) → packed (m ++ (c ∷ [])) ≡ packed m * 256 + c
unfolding packed value_of
packed_more m c = rw (reverse-append m (c ∷ [])) (add_comm c (packed m * 256))

value-below : (k : ℕ) (a : List ℕ) → T (all_letters a) → length a ≤ k → value_of 256 a < 256 ^ k
unfolding value_of
value-below zero [] t h = omega (arith, pow-zero 256)
value-below zero (c ∷ a) t h = absurd (omega arith)
value-below (suc k) [] t h = omega (arith, pow-suc 256 k, value-below k [] tt (omega arith))
value-below (suc k) (c ∷ a) t h =
    omega (arith, pow-suc 256 k, letters-first c a t, value-below k a (letters-rest c a t) (omega arith))

value-least : (k : ℕ) (a : List ℕ) → T (all_letters a) → k < length a → 256 ^ k ≤ value_of 256 a
unfolding value_of
value-least k [] t h = absurd (omega arith)
value-least zero (c ∷ a) t h = omega (arith, pow-zero 256, letters-first c a t)
value-least (suc k) (c ∷ a) t h = omega (arith, pow-suc 256 k, value-least k a (letters-rest c a t) (omega arith))

module _ (k : ℕ) (m : List ℕ) (t : T (all_letters m)) where
  pub packed-below : length m ≤ k → packed m < 256 ^ k
  unfolding packed
  packed-below h = value-below k (reverse m) (letters-reversed m [] t tt) (omega (arith, length-reverse m))

  pub packed-least : k < length m → 256 ^ k ≤ packed m
  unfolding packed
  packed-least h = value-least k (reverse m) (letters-reversed m [] t tt) (omega (arith, length-reverse m))

-- ════════════════════════════════════════════════════════════════════════════════════════════
-- What a name stands for
-- ════════════════════════════════════════════════════════════════════════════════════════════

pub same-equal : (a b : List ℕ) → T (same_text a b) → a ≡ b
same-equal [] [] t = refl
same-equal [] (d ∷ b) t = absurd t
same-equal (c ∷ a) [] t = absurd t
same-equal (c ∷ a) (d ∷ b) t =
    ap₂ (λ (x : ℕ) (l : List ℕ). x ∷ l) (eqb→eq c d (and_left (eqb c d) (same_text a b) t))
    (same-equal a b (and_right (eqb c d) (same_text a b) t))

same-itself : (a : List ℕ) → T (same_text a a)
same-itself [] = tt
same-itself (c ∷ a) = and_intro (eqb c c) (same_text a a) (eqb_refl c) (same-itself a)

not_same : (a b : List ℕ) → (a ≡ b → ⊥) → same_text a b ≡ false
not_same a b h = bool-ext (same_text a b) false (λ t. h (same-equal a b t)) (λ t. absurd t)

packed-test : (a b : List ℕ) → T (all_letters a) → T (all_letters b) → eqb (packed a) (packed b) ≡ same_text a b
packed-test a b s t =
    bool-ext (eqb (packed a) (packed b)) (same_text a b)
    (λ e. rw (packed-same a b s t (eqb→eq (packed a) (packed b) e)) (same-itself b))
    (λ e. rw (same-equal a b e) (eqb_refl (packed b)))

first-none : (p : Opcode → Bool) (os : List Opcode) → ((o : Opcode) → p o ≡ false) → first_that p os ≡ None
first-none p [] h = refl
first-none p (o ∷ os) h = rw (h o) (first-none p os h)

-- a word that is no name's has the code 0
pub code_named-none : (word : ℕ) → ((o : Opcode) → word ≡ packed (letters o) → ⊥) → code_named word ≡ 0
unfolding code_named
code_named-none word h =
    ap code_or (first-none (λ o. eqb (packed (letters o)) word) opcodes
    (λ o. ne_eqb (packed (letters o)) word (λ e. h o (sym e))))

first-same : (p q : Opcode → Bool) (os : List Opcode) → ((o : Opcode) → p o ≡ q o) → first_that p os ≡ first_that q os
first-same p q [] h = refl
first-same p q (o ∷ os) h = rw (h o, first-same p q os h)

-- letters have the code of the name that they are
pub code_named-packed : (m : List ℕ) → T (all_letters m) → code_named (packed m) ≡ code_or (opcode_named m)
unfolding code_named opcode_named
code_named-packed m t =
    ap code_or (first-same (λ o. eqb (packed (letters o)) (packed m)) (λ o. same_text (letters o) m) opcodes
    (λ o. packed-test (letters o) m (name-letters o) t))

opcode_named-none : (m : List ℕ) → ((o : Opcode) → letters o ≡ m → ⊥) → opcode_named m ≡ None
unfolding opcode_named
opcode_named-none m h = first-none (λ o. same_text (letters o) m) opcodes (λ o. not_same (letters o) m (h o))

-- what is longer than every name, or not letters only, is none
pub opcode_named-long : (m : List ℕ) → 8 < length m → opcode_named m ≡ None
opcode_named-long m h = opcode_named-none m (λ o e. omega (arith, ap length e, name-short o))

pub opcode_named-other : (m : List ℕ) → (T (all_letters m) → ⊥) → opcode_named m ≡ None
opcode_named-other m h = opcode_named-none m (λ o e. h (rw e at (name-letters o)))

-- 0 is no name's word
pub code_named-zero : code_named 0 ≡ 0
code_named-zero =
    ap code_named (sym packed_none) ∙ code_named-packed [] tt
    ∙ ap code_or (opcode_named-none [] (λ o e. omega (arith, ap length e, name-long o)))

-- an opcode is found under the code of its name
pub opcode_of-code_or : (x : Option Opcode) → opcode_of (code_or x) ≡ x
unfolding opcode_of
opcode_of-code_or None = refl
opcode_of-code_or (Some o) = opcode_of-code_of o
