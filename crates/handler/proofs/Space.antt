-- The handler space: as long as two words an instruction, and its words give the instructions back.
-- Assumes nothing.
use Rattle.std.proofs.Common.{None, Some, slice_get}
use mathlib.Core.Path.{◌≡◌, refl, sym, ap, fun_ext}
use mathlib.Core.Bool.{Bool, true, false, ◌&&◌, ◌||◌}
use mathlib.Core.List.{List, [], ◌∷◌, ◌++◌}
use Prim.Native.Nat.{ℕ, zero, suc, ◌+◌, ◌*◌, ◌<◌, ◌≤◌}
use native.Mathlib.Omega.{arith}
use lib.IntN.{ℤ, pos}
use lib.ListN.{length, length-append}
use lib.Dec.{T, ltb, leb, leb→le}
use borrow.Author.Tests.{ltb-true, ltb-false, lt-ltb, ne_eqb}
use Rattle.word.specs.Lay.{laid}
use Rattle.word.proofs.Bool.{and_left, and_right}
use Rattle.handler.specs.Kernel.{Instruction, Add, Sub, Or, Load, Store, Dup, Swap, Jump, Ret, Push, Bnz}
use Rattle.handler.specs.Kernel.{Code, run, handle, start}
use Rattle.handler.specs.Space.{code_of, operand, kernel_words, instructions, with_code, known, instruction_at, held_if, held, handle_space}

pub kernel_words-length : (code : List Instruction) → length (kernel_words code) ≡ 2 * length code
unfolding kernel_words
kernel_words-length [] = refl
kernel_words-length (i ∷ code) = let h = kernel_words-length code in omega arith

pub kernel_words-append : (a b : List Instruction) → kernel_words (a ++ b) ≡ kernel_words a ++ kernel_words b
unfolding kernel_words
kernel_words-append [] b = refl
kernel_words-append (i ∷ a) b = ap (λ (ws : List ℤ). pos (code_of i) ∷ operand i ∷ ws) (kernel_words-append a b)

-- the two words of an instruction give it back
pub known-words : (i : Instruction) → known (pos (code_of i)) (operand i) ≡ Some i
unfolding known
known-words Add = refl
known-words Sub = refl
known-words (Push n) = refl
known-words Load = refl
known-words Store = refl
known-words Jump = refl
known-words (Bnz n) = refl
known-words Ret = refl
known-words Or = refl
known-words Dup = refl
known-words Swap = refl

-- no instruction of a list has a code from lo on below hi
abbrev outside : (lo hi code : ℕ) → Bool
outside lo hi code = ltb code lo || leb hi code

abbrev pub unused : (lo hi : ℕ) → List Instruction → Bool
unused lo hi [] = true
unused lo hi (i ∷ is) = outside lo hi (code_of i) && unused lo hi is

outside-other : (lo hi code other : ℕ) → T (outside lo hi other) → lo ≤ code → code < hi → code ≡ other → ⊥
outside-other lo hi code other t h g e = by (ltb other lo) refl t
  where
    by : (b : Bool) → ltb other lo ≡ b → T (b || leb hi other) → ⊥
    by true d t = omega (arith, ltb-true other lo d)
    by false d t = omega (arith, leb→le hi other t)

without-code : (lo hi code : ℕ) (is : List Instruction) → T (unused lo hi is) → lo ≤ code → code < hi → with_code code is ≡ None
without-code lo hi code [] t h g = refl
without-code lo hi code (i ∷ is) t h g =
    let a = and_left (outside lo hi (code_of i)) (unused lo hi is) t in
    let b = and_right (outside lo hi (code_of i)) (unused lo hi is) t in
    rw (ne_eqb code (code_of i) (outside-other lo hi code (code_of i) a h g)) (without-code lo hi code is b h g)

-- a code between two bounds, where no instruction has one, stands for none
pub unknown-code : (lo hi code : ℕ) (n : ℤ) → T (unused lo hi (instructions n)) → lo ≤ code → code < hi → known (pos code) n ≡ None
unfolding known
unknown-code lo hi code n t h g = without-code lo hi code (instructions n) t h g

words-at : (code : List Instruction) (rest : List ℤ) (i : ℕ) → i < length code
    → instruction_at (kernel_words code ++ rest) i ≡ slice_get code i
unfolding kernel_words
words-at [] rest i h = absurd (omega arith)
words-at (a ∷ code) rest zero h = known-words a
words-at (a ∷ code) rest (suc i) h =
    let x : 2 * suc i ≡ suc (suc (2 * i)) = omega arith in
    let y : 2 * suc i + 1 ≡ suc (suc (2 * i + 1)) = omega arith in
    rw (y, x) (words-at code rest i (omega arith))

-- a space that a handler was laid into holds its instructions
pub instruction_at-laid : (code : List Instruction) (old : List ℤ) (i : ℕ) → i < length code
    → instruction_at (laid (kernel_words code) old) i ≡ slice_get code i
unfolding laid
instruction_at-laid code old i h = words-at code _ i h

element-outside : (code : List Instruction) (i : ℕ) → length code ≤ i → slice_get code i ≡ None
element-outside [] i h = refl
element-outside (a ∷ code) zero h = absurd (omega arith)
element-outside (a ∷ code) (suc i) h = element-outside code i (omega arith)

-- both words of each of its instructions are there
laid-long : (code : List Instruction) (old : List ℤ) → 2 * length code ≤ length (laid (kernel_words code) old)
unfolding laid
laid-long code old = rw length-append (omega (arith, kernel_words-length code))

held-laid : (code : List Instruction) (old : List ℤ) (i : ℕ) → held (laid (kernel_words code) old) (length code) i ≡ slice_get code i
held-laid code old i = by (ltb i (length code)) refl
  where
    by : (b : Bool) → ltb i (length code) ≡ b
        → held_if (b && ltb (2 * i + 1) (length (laid (kernel_words code) old))) (instruction_at (laid (kernel_words code) old) i)
        ≡ slice_get code i
    by true e =
        let h = ltb-true i (length code) e in
        rw (lt-ltb (2 * i + 1) (length (laid (kernel_words code) old)) (omega (arith, laid-long code old))) (instruction_at-laid code old i h)
    by false e = sym (element-outside code i (ltb-false i (length code) e))

-- and runs as it does
pub handle_space-laid : (code : List Instruction) (old row : List ℤ)
    → handle_space (laid (kernel_words code) old) (length code) row ≡ handle code row
unfolding handle_space handle
handle_space-laid code old row = ap (λ (c : Code). run c (length code) (start row)) (fun_ext (held-laid code old))
