-- The line of a command in lent memory: its name, its operand's numbers, each after one space, its newline.
-- Assumes nothing.
use Rattle.std.proofs.Common.{None, Option, Some}
use mathlib.Core.Path.{◌≡◌, refl, sym, ap, ◌∙◌}
use mathlib.Core.List.{List, [], ◌∷◌, ◌++◌, reverse, append-nil}
use Prim.Native.Nat.{ℕ, zero, suc, ◌+◌, ◌≤◌}
use native.Mathlib.Omega.{arith}
use lib.IntN.{ℤ, pos, negsuc}
use lib.ListN.{length, set, length-append}
use Rattle.word.specs.Digits.{digits_of}
use Rattle.word.specs.Lay.{laid_at}
use Rattle.word.specs.Text.{decimal, put_answer, put_out}
use Rattle.word.specs.Wrap as Word
use Rattle.word.proofs.Lay.{laid_at-nil, laid_at-cons, laid_at-append, length-laid_at}
use Rattle.word.proofs.Laws.Text.{put-room, put-cons}
use Rattle.word.proofs.Laws.Decimal.{decimal-length}
use Rattle.program.specs.declared.Operand.{Operand}
use Rattle.program.specs.declared.Operand.TheVariants.{Signed, Page, Counts}
use Rattle.program.specs.Command.{Opcode, operand_of, width, arguments_of, results_of}
use Rattle.program.specs.Name.{letters, name_of}
use Rattle.program.specs.declared.Name.{Name}
use Rattle.program.proofs.Naming.{packed-letters}
use Rattle.program.proofs.Naming as Naming
use Rattle.assembly.specs.Assembly.{newline, space, operand_text}
use Rattle.assembly.specs.declared.listing.Numbers.{Numbers}
use Rattle.assembly.specs.Space.{numbers_by, numbers_in, number_text, numbers_text, letters_in, operand_in, Bare, code_text}

-- ════════════════════════════════════════════════════════════════════════════════════════════
-- The operand
-- ════════════════════════════════════════════════════════════════════════════════════════════

-- its numbers
pub numbers-text : (x : Option Opcode) (z : ℤ) → numbers_text (numbers_in x z) ≡ operand_in x z
numbers-text None z = refl
numbers-text (Some o) z = by (operand_of o)
  where
    by : (x : Operand) → numbers_text (numbers_by x z) ≡ operand_text x z
    by (Signed zero) = refl
    by (Signed (suc k)) = refl
    by Page = refl
    by Counts = refl

pub operand-none : (x : Option Opcode) (z : ℤ) → numbers_in x z ≡ Numbers.None → operand_in x z ≡ []
operand-none x z e = sym (numbers-text x z) ∙ ap numbers_text e

pub operand-two : (x : Option Opcode) (z a d : ℤ) → numbers_in x z ≡ Numbers.Two a d → operand_in x z ≡ number_text a ++ number_text d
operand-two x z a d e = sym (numbers-text x z) ∙ ap numbers_text e

pub number-few : (z : ℤ) → Word.Signed 64 z → length (number_text z) ≤ 21
number-few z h = omega (arith, decimal-length z h)

-- two counts of a word are words
pub counts-words : (z : ℤ) → Word.Signed 64 z → Word.Signed 64 (pos (arguments_of z)) × Word.Signed 64 (pos (results_of z))
counts-words (pos n) h = (omega arith, omega arith)
counts-words (negsuc n) h = (omega arith, omega arith)

pub operand-few : (x : Option Opcode) (z : ℤ) → Word.Signed 64 z → length (operand_in x z) ≤ 42
operand-few None z h = omega arith
operand-few (Some o) z h = by (operand_of o)
  where
    by : (x : Operand) → length (operand_text x z) ≤ 42
    by (Signed zero) = omega arith
    by (Signed (suc k)) = omega (arith, number-few z h)
    by Page = omega (arith, number-few z h)
    by Counts =
        let (a, d) = counts-words z h in
        omega (
          arith,
          length-append (number_text (pos (arguments_of z))) (number_text (pos (results_of z))),
          number-few (pos (arguments_of z)) a,
          number-few (pos (results_of z)) d,
        )

-- a number written where there is room
pub number-written : (z : ℤ) (at : ℕ) (old : List ℕ) → at + length (number_text z) ≤ length old
    → (put_answer (at + 1) (decimal z) (set old at space) ≡ Some (at + length (number_text z)))
    × (put_out (at + 1) (decimal z) (set old at space) ≡ laid_at at (number_text z) old)
number-written z at old h =
    let k = length (decimal z) in
    let part = put-cons at k space (decimal z) old refl (omega arith) in
    let all = put-room at (length (number_text z)) (number_text z) old refl h in
    (part.0 ∙ all.0, part.1 ∙ all.1)

-- two numbers, one after the other
pub numbers-laid : (a d : ℤ) (at end : ℕ) (old mid new : List ℕ) → at + length (number_text a ++ number_text d) ≤ length old
    → end ≡ at + length (number_text a) → mid ≡ laid_at at (number_text a) old → new ≡ laid_at end (number_text d) mid
    → new ≡ laid_at at (number_text a ++ number_text d) old
numbers-laid a d at end old mid new h e f g =
    g ∙ ap (λ (n : ℕ). laid_at n (number_text d) mid) e
    ∙ ap (laid_at (at + length (number_text a)) (number_text d)) f
    ∙ sym (laid_at-append at (number_text a) (number_text d) old (omega (arith, length-append (number_text a) (number_text d))))

-- ════════════════════════════════════════════════════════════════════════════════════════════
-- The line
-- ════════════════════════════════════════════════════════════════════════════════════════════

pub name-length : (x : Option Opcode) → (name_of x).length ≡ length (letters_in x)
name-length None = refl
name-length (Some o) = refl

pub name-few : (x : Option Opcode) → length (letters_in x) ≤ 8
name-few None = omega arith
name-few (Some o) = Naming.name-short o

pub name-letters : (x : Option Opcode) → reverse (digits_of 256 (name_of x).length (name_of x).word) ≡ letters_in x
unfolding digits_of
name-letters None = refl
name-letters (Some o) = packed-letters (letters o) (Naming.name-letters o)

pub line-size : (x : Option Opcode) (z : ℤ) → length (code_text x z) ≡ length (letters_in x) + length (operand_in x z) + 1
line-size x z = simp length-append

-- the three parts, one after the other
pub line-laid : (x : Option Opcode) (z : ℤ) (at : ℕ) (old : List ℕ) → at + length (code_text x z) ≤ length old
    → (let mid = at + length (letters_in x) in
    let end = mid + length (operand_in x z) in
    set (laid_at mid (operand_in x z) (laid_at at (letters_in x) old)) end newline ≡ laid_at at (code_text x z) old)
line-laid x z at old h =
    let a = letters_in x in
    let b = operand_in x z in
    let s = line-size x z in
    let mid = at + length a in
    let first = laid_at at a old in
    let same : length first ≡ length old = length-laid_at at a old (omega arith) in
    let second = laid_at mid b first in
    let same' : length second ≡ length first = length-laid_at mid b first (omega arith) in
    let e : at + length (a ++ b) ≡ mid + length b = simp length-append (omega arith) in
    sym (laid_at-append at (a ++ b) (newline ∷ []) old (omega (arith, e))
    ∙ ap (λ (l : List ℕ). laid_at (at + length (a ++ b)) (newline ∷ []) l) (laid_at-append at a b old (omega arith))
    ∙ ap (λ (n : ℕ). laid_at n (newline ∷ []) second) e
    ∙ laid_at-cons (mid + length b) newline [] second (omega arith)
    ∙ laid_at-nil (suc (mid + length b)) (set second (mid + length b) newline))

-- and so they are written
pub line-written : (x : Option Opcode) (z : ℤ) (at end : ℕ) (name : Name) (old mid new : List ℕ) → name ≡ name_of x
    → mid ≡ laid_at at (reverse (digits_of 256 name.length name.word)) old → end ≡ at + name.length + length (operand_in x z)
    → new ≡ laid_at (at + name.length) (operand_in x z) mid → at + length (code_text x z) ≤ length old
    → set new end newline ≡ laid_at at (code_text x z) old
line-written x z at end name old mid new e f g h r = rw (h, g, f, e, name-letters x, name-length x) (line-laid x z at old r)

-- ════════════════════════════════════════════════════════════════════════════════════════════
-- The line of a command that has no operand: its name and its newline
-- ════════════════════════════════════════════════════════════════════════════════════════════

module _ (x : Option Opcode) (b : Bare x) where
  bare-operand : (z : ℤ) → operand_in x z ≡ []
  bare-operand z = rw b.1 (by (operand_of b.0) b.2)
    where
      by : (y : Operand) → width y ≡ 0 → operand_text y z ≡ []
      by (Signed zero) e = refl
      by (Signed (suc k)) e = absurd (omega arith)
      by Page e = absurd (omega arith)
      by Counts e = absurd (omega arith)

  bare-text : (z : ℤ) → code_text x z ≡ letters_in x ++ newline ∷ []
  bare-text z =
      ap (λ (l : List ℕ). letters_in x ++ l ++ newline ∷ []) (bare-operand z)
      ∙ ap (λ (l : List ℕ). l ++ newline ∷ []) (append-nil (letters_in x))

  pub bare-line : (z : ℤ) → code_text x (pos 0) ≡ code_text x z
  bare-line z = bare-text (pos 0) ∙ sym (bare-text z)

  pub bare-size : length (code_text x (pos 0)) ≡ length (letters_in x) + 1
  bare-size = ap length (bare-text (pos 0)) ∙ length-append (letters_in x) (newline ∷ [])

  pub bare-laid : (at : ℕ) (old : List ℕ) → at + length (code_text x (pos 0)) ≤ length old
      → set (laid_at at (letters_in x) old) (at + length (letters_in x)) newline ≡ laid_at at (code_text x (pos 0)) old
  bare-laid at old h =
      let a = letters_in x in
      let first = laid_at at a old in
      let same : length first ≡ length old = length-laid_at at a old (omega (arith, bare-size)) in
      sym (ap (λ (l : List ℕ). laid_at at l old) (bare-text (pos 0))
      ∙ laid_at-append at a (newline ∷ []) old (omega (arith, bare-size))
      ∙ laid_at-cons (at + length a) newline [] first (omega (arith, bare-size))
      ∙ laid_at-nil (suc (at + length a)) (set first (at + length a) newline))

  pub bare-written : (at : ℕ) (name : Name) (old mid : List ℕ) → name ≡ name_of x
      → mid ≡ laid_at at (reverse (digits_of 256 name.length name.word)) old → at + length (code_text x (pos 0)) ≤ length old
      → set mid (at + name.length) newline ≡ laid_at at (code_text x (pos 0)) old
  bare-written at name old mid e f r = rw (f, e, name-letters x, name-length x) (bare-laid at old r)
