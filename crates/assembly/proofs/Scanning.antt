-- The line that is read at a position of a text, as the code reads it, is what its words say.
-- Assumes nothing.
use Rattle.std.proofs.Common.{Err, None, Option, Result, Some}
use mathlib.Core.Path.{◌≡◌, refl, sym, ap, ◌∙◌}
use mathlib.Core.Bool.{Bool, true, false}
use mathlib.Core.List.{List, [], ◌∷◌, ◌++◌, append-nil}
use Prim.Native.Nat.{ℕ, zero, suc, ◌+◌, ◌*◌, ◌^◌, ◌<◌, ◌≤◌}
use native.Mathlib.Omega.{arith}
use lib.IntN.{pos}
use lib.Dec.{T, leb, eqb, le→leb}
use lib.ListN.{length, drop, get_or, length-append}
use lib.Seq.{append_snoc, get_or-drop}
use borrow.Author.Tests.{le-leb, lt-leb, leb-true, leb-false, eqb-true, eqb-false, ne_eqb}
use Rattle.word.specs.Choose.{choose}
use Rattle.word.specs.Field.{Bytes}
use Rattle.word.proofs.Bool.{and_left, and_intro}
use Rattle.word.specs.declared.numeral.Decimal.TheVariants.{Missing}
use Rattle.program.specs.declared.Operand.{Operand}
use Rattle.program.specs.declared.Operand.TheVariants.{Signed, Page, Counts}
use Rattle.program.specs.Command.{Opcode, opcode_of, code_of, operand_of, width, operand_width}
use Rattle.program.specs.Fetch.{shape_of}
use Rattle.program.specs.Name.{opcode_named, packed, code_or, code_named}
use Rattle.program.proofs.Codes.{opcode-command, operand-command}
use Rattle.program.proofs.Naming.{is_letter, all_letters, letters-first, letters-rest, letters-append}
use Rattle.program.proofs.Naming.{packed_none, packed_more, packed-below, packed-least}
use Rattle.program.proofs.Naming.{code_named-packed, code_named-zero, opcode_named-long, opcode_named-other, opcode_of-code_or}
use Rattle.assembly.specs.declared.line.Line.{Line}
use Rattle.assembly.specs.declared.line.Fault.{Fault}
use Rattle.assembly.specs.declared.line.Fault.TheVariants.{Malformed}
use Rattle.assembly.specs.declared.line.Letters.{Letters}
use Rattle.assembly.specs.Assembly.{words_of, read_operands, read_named, read_words}
use Rattle.assembly.specs.Scan.{reads, letters_to, letters_from, ends_at, number_at, operand_at, shape_at, code_at, line_at}
use Rattle.assembly.specs.Scan.{first_line, line_to, line_of}
use Rattle.assembly.proofs.Words.{words-some, words-alone, words-space, words-other, line-letters, line-goes}
use Rattle.assembly.proofs.Words.{After, ends, goes, line_after, drop-after, byte-first}
use Rattle.assembly.proofs.Operand.{operand-missing, operand-line}

-- ════════════════════════════════════════════════════════════════════════════════════════════
-- The letters that a text begins with
-- ════════════════════════════════════════════════════════════════════════════════════════════

-- a text that begins with no letter
abbrev Stops : List ℕ → Type 0
Stops [] = Unit {0}
Stops (c ∷ r) = c ≤ 32

record Named (t : List ℕ) : Type 0 where
  name : List ℕ
  rest : List ℕ
  whole : t ≡ name ++ rest
  letters : T (all_letters name)
  stops : Stops rest

named : (t : List ℕ) → Bytes t → Named t
named [] h = record { name = []; rest = []; whole = refl; letters = tt; stops = tt }
named (c ∷ t) h = by (leb c 32) refl (named t (λ i. h (suc i)))
  where
    by : (b : Bool) → leb c 32 ≡ b → Named t → Named (c ∷ t)
    by true e n = record { name = []; rest = c ∷ t; whole = refl; letters = tt; stops = leb-true c 32 e }
    by false e n =
        let l = leb-false c 32 e in
        let m : c < 256 = h 0 in
        record {
          name = c ∷ n.name;
          rest = n.rest;
          whole = ap (λ (x : List ℕ). c ∷ x) n.whole;
          letters = and_intro (is_letter c) (all_letters n.name)
              (and_intro (leb 33 c) (leb c 255) (le→leb 33 c (omega arith)) (le→leb c 255 (omega arith))) n.letters;
          stops = n.stops;
        }

-- ════════════════════════════════════════════════════════════════════════════════════════════
-- They are read as a word
-- ════════════════════════════════════════════════════════════════════════════════════════════

letters-stop : (word at : ℕ) (r : List ℕ) → Stops r → letters_from word at r ≡ letters_to word at
unfolding letters_from
letters-stop word at [] h = refl
letters-stop word at (c ∷ r) h = rw (le-leb c 32 h)

module _ (word at c : ℕ) (r : List ℕ) (h : 32 < c) where
  letters-full : 256 ^ 7 ≤ word → letters_from word at (c ∷ r) ≡ letters_to 0 at
  unfolding letters_from
  letters-full k = rw (lt-leb c 32 h, le-leb (256 ^ 7) word k)

  letters-more : word < 256 ^ 7 → letters_from word at (c ∷ r) ≡ letters_from (word * 256 + c) (suc at) r
  unfolding letters_from
  letters-more k = rw (lt-leb c 32 h, lt-leb (256 ^ 7) word k)

-- what follows a name that was read
abbrev name_line : List ℕ → Letters → Result Line Fault
name_line s l = code_at s (code_named l.word) l.next

name-none : (s : List ℕ) (at : ℕ) → code_at s 0 at ≡ Err Malformed
unfolding opcode_of
name-none s at = refl

module _ (s : List ℕ) where
  -- the letters w have been read, the letters m are left
  name-read : (m r w : List ℕ) (at : ℕ) → T (all_letters m) → T (all_letters w) → Stops r → length w ≤ 8
      → name_line s (letters_from (packed w) at (m ++ r)) ≡ code_at s (code_or (opcode_named (w ++ m))) (at + length m)
  name-read [] r w at t u h k =
      let z : at + 0 ≡ at = omega arith in
      rw (letters-stop (packed w) at r h, code_named-packed w u, append-nil w, z)
  name-read (c ∷ m) r w at t u h k = by (leb 8 (length w)) refl (λ q v. name-read m r (w ++ (c ∷ [])) (suc at) (letters-rest c m t) v h q)
    where
      above : 32 < c
      above = (letters-first c m t).0

      by : (b : Bool) → leb 8 (length w) ≡ b
          → (length (w ++ (c ∷ [])) ≤ 8 → T (all_letters (w ++ (c ∷ [])))
          → name_line s (letters_from (packed (w ++ (c ∷ []))) (suc at) (m ++ r))
          ≡ code_at s (code_or (opcode_named (w ++ (c ∷ []) ++ m))) (suc at + length m))
          → name_line s (letters_from (packed w) at (c ∷ m ++ r)) ≡ code_at s (code_or (opcode_named (w ++ c ∷ m))) (at + suc (length m))
      by true e f =
          let l = leb-true 8 (length w) e in
          rw (
            letters-full (packed w) at c (m ++ r) above (packed-least 7 w u (omega arith)),
            code_named-zero,
            opcode_named-long (w ++ c ∷ m) (omega (arith, length-append w (c ∷ m))),
            name-none s at,
          )
          (sym (name-none s (at + suc (length m))))
      by false e f =
          let l = leb-false 8 (length w) e in
          let q : length (w ++ (c ∷ [])) ≤ 8 = omega (arith, length-append w (c ∷ [])) in
          let v : T (all_letters (w ++ (c ∷ []))) =
          letters-append w (c ∷ []) u (and_intro (is_letter c) true (and_left (is_letter c) (all_letters m) t) tt) in
          let n : at + suc (length m) ≡ suc at + length m = omega arith in
          rw (
            letters-more (packed w) at c (m ++ r) above (packed-below 7 w u (omega arith)),
            sym (packed_more w c),
            sym (append_snoc w c m),
            n,
          ) (f q v)

-- ════════════════════════════════════════════════════════════════════════════════════════════
-- What follows them
-- ════════════════════════════════════════════════════════════════════════════════════════════

module _ (s : List ℕ) (n : ℕ) where
  named-ends : (x : Option Opcode) → get_or s n 10 ≡ 10 → shape_at s (code_or x) n (shape_of x) ≡ line_to (n + 1) (read_named x [])
  named-ends None e = refl
  named-ends (Some o) e = by (operand_of o) refl
    where
      missing : (x : Operand) → operand_at s n x ≡ Missing
      missing x = operand-missing s n (λ h. omega arith) x

      by : (x : Operand) → operand_of o ≡ x
          → choose (eqb (width x) 0) (ends_at s n (reads (code_of o) (pos 0) 1 (n + 1))) (number_at s (code_of o) (width x + 1) (operand_at s n x))
          ≡ line_to (n + 1) (read_operands o x [])
      by (Signed zero) w = rw (e, opcode-command o (pos 0), operand-command o (pos 0) (λ h. refl), w)
      by (Signed (suc k)) w = rw (ne_eqb (suc k) 0 (λ h. omega arith), missing (Signed (suc k)))
      by Page w = rw (missing Page)
      by Counts w = rw (missing Counts)

  module _ (b : List ℕ) (space : drop n s ≡ 32 ∷ b) where
    byte : get_or s n 10 ≡ 32
    byte = byte-first s n (32 ∷ b) 10 space

    named-space : (x : Option Opcode)
        → shape_at s (code_or x) n (shape_of x) ≡ line_to (n + 1 + length (first_line b) + 1) (read_named x (words_of (first_line b)))
    named-space None = refl
    named-space (Some o) = by (operand_of o) refl
      where
        by : (x : Operand) → operand_of o ≡ x
            → choose (eqb (width x) 0) (ends_at s n (reads (code_of o) (pos 0) 1 (n + 1))) (number_at s (code_of o) (width x + 1) (operand_at s n x))
            ≡ line_to (n + 1 + length (first_line b) + 1) (read_operands o x (words_of (first_line b)))
        by (Signed zero) w = let e = (words-some (first_line b)).1.1 in rw (byte, e)
        by (Signed (suc k)) w = rw (ne_eqb (suc k) 0 (λ h. omega arith)) (operand-line s o n b space (Signed (suc k)) w (λ h. omega arith))
        by Page w = operand-line s o n b space Page w (λ h. omega arith)
        by Counts w = operand-line s o n b space Counts w (λ h. omega arith)

  named_other : (x : Option Opcode) → (get_or s n 10 ≡ 10 → ⊥) → (get_or s n 10 ≡ 32 → ⊥) → shape_at s (code_or x) n (shape_of x) ≡ Err Malformed
  named_other None e f = refl
  named_other (Some o) e f = rw (operand-missing s n f (operand_of o)) (by (eqb (operand_width o) 0))
    where
      by : (t : Bool) → choose t (ends_at s n (reads (code_of o) (pos 0) 1 (n + 1))) (Err Malformed) ≡ Err Malformed
      by true = rw (ne_eqb (get_or s n 10) 10 e)
      by false = refl

letters-not : (m : List ℕ) (c : ℕ) (w : List ℕ) → c ≤ 32 → T (all_letters (m ++ c ∷ w)) → ⊥
letters-not [] c w h t = omega (arith, letters-first c w t)
letters-not (d ∷ m) c w h t = letters-not m c w h (letters-rest d (m ++ c ∷ w) t)

module _ (s m r : List ℕ) (n : ℕ) (letters : T (all_letters m)) (stops : Stops r) (place : drop n s ≡ r) where
  follows-other : (c : ℕ) (y : List ℕ) → c ≤ 32 → (c ≡ 32 → ⊥) → (i : ℕ) → line_to i (read_words (words_of (m ++ c ∷ y))) ≡ Err Malformed
  follows-other c y h k i =
      let (w, (ws, e)) = words-other m letters c y k in
      rw (e, opcode_named-other (m ++ c ∷ w) (letters-not m c w h))

  -- the rest of the line
  follows : shape_at s (code_or (opcode_named m)) n (shape_of (opcode_named m))
      ≡ line_to (n + length (first_line r) + 1) (read_words (words_of (m ++ first_line r)))
  follows = by (line_after r)
    where
      goes_on : (c : ℕ) (rest : List ℕ) → r ≡ c ∷ rest → (c ≡ 10 → ⊥) → (t : Bool) → eqb c 32 ≡ t
          → shape_at s (code_or (opcode_named m)) n (shape_of (opcode_named m))
          ≡ line_to (n + suc (length (first_line rest)) + 1) (read_words (words_of (m ++ c ∷ first_line rest)))
      goes_on c rest e h true f =
          let k : n + suc (length (first_line rest)) + 1 ≡ n + 1 + length (first_line rest) + 1 = omega arith in
          let c32 = eqb-true c 32 f in
          rw (c32, words-space m letters (first_line rest), k)
          (named-space s n rest (place ∙ e ∙ ap (λ (x : ℕ). x ∷ rest) c32) (opcode_named m))
      goes_on c rest e h false f =
          let k = byte-first s n (c ∷ rest) 10 (place ∙ e) in
          let c32 = eqb-false c 32 f in
          named_other s n (opcode_named m) (λ x. h (sym k ∙ x)) (λ x. c32 (sym k ∙ x))
          ∙ sym (follows-other c (first_line rest) (rw e at stops) c32 (n + suc (length (first_line rest)) + 1))

      by : After r → shape_at s (code_or (opcode_named m)) n (shape_of (opcode_named m))
          ≡ line_to (n + length (first_line r) + 1) (read_words (words_of (m ++ first_line r)))
      by (ends f g) =
          let z : n + 0 + 1 ≡ n + 1 = omega arith in
          rw (f, append-nil m, words-alone m letters, z) (named-ends s n (opcode_named m) (byte-first s n r 10 place ∙ g))
      by (goes c rest e h) = rw (ap first_line e ∙ line-goes c rest h) (goes_on c rest e h (eqb c 32) refl)

-- ════════════════════════════════════════════════════════════════════════════════════════════
-- The line at a position
-- ════════════════════════════════════════════════════════════════════════════════════════════

module _ (s : List ℕ) (at : ℕ) (b : Bytes s) where
  split : Named (drop at s)
  split = named (drop at s) (λ i. rw (get_or-drop at s i 0) (b (at + i)))

  line-name : (n : Named (drop at s))
      → line_at s at ≡ shape_at s (code_or (opcode_named n.name)) (at + length n.name) (shape_of (opcode_named n.name))
  unfolding line_at
  line-name n =
      ap (λ (t : List ℕ). name_line s (letters_from 0 at t)) n.whole
      ∙ ap (λ (w : ℕ). name_line s (letters_from w at (n.name ++ n.rest))) (sym packed_none)
      ∙ name-read s n.name n.rest [] at n.letters tt n.stops (omega arith)
      ∙ ap (λ (x : Option Opcode). shape_at s (code_or (opcode_named n.name)) (at + length n.name) (shape_of x))
      (opcode_of-code_or (opcode_named n.name))

  line-words : (n : Named (drop at s))
      → line_to (at + length n.name + length (first_line n.rest) + 1) (read_words (words_of (n.name ++ first_line n.rest)))
      ≡ line_of s at
  unfolding line_of
  line-words n =
      let e : first_line (drop at s) ≡ n.name ++ first_line n.rest =
      ap first_line n.whole ∙ line-letters n.name n.rest n.letters in
      let k : at + length n.name + length (first_line n.rest) + 1 ≡ at + length (n.name ++ first_line n.rest) + 1 =
      omega (arith, length-append n.name (first_line n.rest)) in
      rw (e, k)

  line-is : Named (drop at s) → line_at s at ≡ line_of s at
  line-is n =
      line-name n
      ∙ follows s n.name n.rest (at + length n.name) n.letters n.stops (drop-after s at n.name n.rest n.whole)
      ∙ line-words n

-- the code's way of reading a line gives what its words say
pub line-at : (s : List ℕ) (at : ℕ) → Bytes s → at < length s → line_at s at ≡ line_of s at
line-at s at b h = line-is s at b (split s at b)
