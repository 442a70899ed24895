-- Codes and commands: a code stands for one opcode, an opcode has one code, and a command is its opcode with its operand. What holds of
-- every row of the table of commands is a computed test of the list of opcodes (`opcode-all`).
-- Assumes nothing.
use Rattle.std.proofs.Common.{None, Option, Some, slice_get}
use mathlib.Core.Path.{◌≡◌, refl, sym, ap, ◌∙◌}
use mathlib.Core.Bool.{Bool, true, ◌&&◌, ◌||◌}
use mathlib.Core.List.{List, [], ◌∷◌}
use Prim.Native.Nat.{ℕ, zero, suc, ◌+◌, ◌-◌, ◌<◌, ◌≤◌}
use native.Mathlib.Nat.{mod-eq_of_lt}
use native.Mathlib.Omega.{arith}
use lib.IntN.{ℤ, pos}
use lib.Dec.{T, eqb, leb, leb→le, eqb→eq}
use lib.ListN.{length}
use borrow.Author.Tests.{ne_eqb}
use Rattle.word.specs.Wrap.{residue}
use Rattle.word.proofs.Bool.{and_left, and_right}
use Rattle.program.specs.declared.Command.{Command}
use Rattle.program.specs.declared.Command.TheVariants.{Add, Sub, Pop, Output, Push, Load, Store, Jump, Bnz, Call, Ret, OutputTo}
use Rattle.program.specs.declared.Command.TheVariants.{CallN, RetV}
use Rattle.program.specs.declared.Operand.{Operand}
use Rattle.program.specs.declared.Operand.TheVariants.{Signed, Page, Counts}
use Rattle.program.specs.Command.{Opcode, add, sub, pop, output, push, load, store, jump, bnz, call, ret, output_to, call_n, ret_v}
use Rattle.program.specs.Command.{opcodes, opcode_of, code_of, operand_of, operand_width, opcode, operand, command}

-- an opcode is found under its code
pub opcode_of-code_of : (o : Opcode) → opcode_of (code_of o) ≡ Some o
unfolding opcode_of
opcode_of-code_of add = refl
opcode_of-code_of sub = refl
opcode_of-code_of pop = refl
opcode_of-code_of output = refl
opcode_of-code_of push = refl
opcode_of-code_of load = refl
opcode_of-code_of store = refl
opcode_of-code_of jump = refl
opcode_of-code_of bnz = refl
opcode_of-code_of call = refl
opcode_of-code_of ret = refl
opcode_of-code_of output_to = refl
opcode_of-code_of call_n = refl
opcode_of-code_of ret_v = refl

-- its index among the opcodes
pub opcodes-code : (o : Opcode) → slice_get opcodes (code_of o - 1) ≡ Some o
unfolding opcode_of
opcodes-code o = by (code_of o) (opcode_of-code_of o)
  where
    by : (n : ℕ) → opcode_of n ≡ Some o → slice_get opcodes (n - 1) ≡ Some o
    by zero e = absurd (let z : ◌≡◌ {A = ℕ} 0 1 = cc in omega arith)
    by (suc i) e = let k : suc i - 1 ≡ i = omega arith in rw k e

-- ════════════════════════════════════════════════════════════════════════════════════════════
-- Facts of the table
-- ════════════════════════════════════════════════════════════════════════════════════════════

abbrev pub all : (Opcode → Bool) → List Opcode → Bool
all p [] = true
all p (o ∷ os) = p o && all p os

element-all : (p : Opcode → Bool) (os : List Opcode) (i : ℕ) (o : Opcode) → T (all p os) → slice_get os i ≡ Some o → T (p o)
element-all p [] i o t e = absurd (let z : ◌≡◌ {A = ℕ} 0 1 = cc in omega arith)
element-all p (x ∷ os) zero o t e = let d : x ≡ o = cc in rw d at (and_left (p x) (all p os) t)
element-all p (x ∷ os) (suc i) o t e = element-all p os i o (and_right (p x) (all p os) t) e

-- a test that every opcode of the list passes is passed by every opcode
pub opcode-all : (p : Opcode → Bool) → T (all p opcodes) → (o : Opcode) → T (p o)
opcode-all p t o = element-all p opcodes (code_of o - 1) o t (opcodes-code o)

pub code-least : (o : Opcode) → 1 ≤ code_of o
code-least o = leb→le 1 (code_of o) (opcode-all (λ o. leb 1 (code_of o)) tt o)

pub code-most : (o : Opcode) → code_of o ≤ length opcodes
code-most o = leb→le (code_of o) (length opcodes) (opcode-all (λ o. leb (code_of o) (length opcodes)) tt o)

-- a code is read back from its word
pub code-residue : (o : Opcode) → residue 64 (pos (code_of o)) ≡ code_of o
unfolding residue
code-residue o = mod-eq_of_lt (omega (arith, code-most o))

-- a signed operand has eight bytes, two or none
abbrev width-known : Operand → Bool
width-known (Signed w) = eqb w 8 || (eqb w 2 || eqb w 0)
width-known Page = true
width-known Counts = true

pub width-none : (o : Opcode) (w : ℕ) → operand_of o ≡ Signed w → (w ≡ 8 → ⊥) → (w ≡ 2 → ⊥) → w ≡ 0
width-none o w e f g = eqb→eq w 0 (rw (e, ne_eqb w 8 f, ne_eqb w 2 g) at (opcode-all (λ o. width-known (operand_of o)) tt o))

-- ════════════════════════════════════════════════════════════════════════════════════════════
-- What a code stands for
-- ════════════════════════════════════════════════════════════════════════════════════════════

-- the opcodes of a list have the codes from i on
abbrev coded : ℕ → List Opcode → Bool
coded i [] = true
coded i (o ∷ os) = eqb (code_of o) i && coded (suc i) os

element-coded : (i : ℕ) (os : List Opcode) → T (coded i os) → (k : ℕ) (o : Opcode) → slice_get os k ≡ Some o → code_of o ≡ i + k
element-coded i [] t k o e = absurd (let z : ◌≡◌ {A = ℕ} 0 1 = cc in omega arith)
element-coded i (x ∷ os) t zero o e =
    let d : x ≡ o = cc in
    let h = eqb→eq (code_of x) i (and_left (eqb (code_of x) i) (coded (suc i) os) t) in
    ap code_of (sym d) ∙ h ∙ omega arith
element-coded i (x ∷ os) t (suc k) o e =
    let d = element-coded (suc i) os (and_right (eqb (code_of x) i) (coded (suc i) os) t) k o e in omega arith

-- the opcode that is found under a code has that code
pub code_of-opcode_of : (n : ℕ) (o : Opcode) → opcode_of n ≡ Some o → code_of o ≡ n
unfolding opcode_of
code_of-opcode_of zero o e = absurd (let z : ◌≡◌ {A = ℕ} 0 1 = cc in omega arith)
code_of-opcode_of (suc k) o e = let d = element-coded 1 opcodes tt k o e in omega arith

-- a code that is no opcode's stands for none
pub opcode_of-none : (n : ℕ) → ((o : Opcode) → n ≡ code_of o → ⊥) → opcode_of n ≡ None
opcode_of-none n h = none_is (opcode_of n) refl
  where
    none_is : (x : Option Opcode) → opcode_of n ≡ x → opcode_of n ≡ None
    none_is None e = e
    none_is (Some o) e = absurd (h o (sym (code_of-opcode_of n o e)))

-- the codes are those from 1 to the number of opcodes
pub opcode_of-outside : (n : ℕ) → (1 ≤ n → length opcodes < n) → opcode_of n ≡ None
opcode_of-outside n h = opcode_of-none n (λ o e. let k = h (omega (arith, code-least o)) in omega (arith, code-most o))

-- ════════════════════════════════════════════════════════════════════════════════════════════
-- A command and its parts
-- ════════════════════════════════════════════════════════════════════════════════════════════

-- a command is its opcode with its operand
pub command-whole : (c : Command) → command (opcode c) (operand c) ≡ c
command-whole Add = refl
command-whole Sub = refl
command-whole Pop = refl
command-whole Output = refl
command-whole (Push z) = refl
command-whole Load = refl
command-whole Store = refl
command-whole Jump = refl
command-whole (Bnz z) = refl
command-whole Call = refl
command-whole Ret = refl
command-whole (OutputTo z) = refl
command-whole (CallN z) = refl
command-whole RetV = refl

-- an opcode and an operand make a command that has both, if the operand is 0 where there are no bytes for it
abbrev Made : Opcode → ℤ → Type 0
Made o z = (opcode (command o z) ≡ o) × ((operand_width o ≡ 0 → z ≡ pos 0) → operand (command o z) ≡ z)

made : (o : Opcode) (z : ℤ) → Made o z
made add z = (refl, λ h. sym (h refl))
made sub z = (refl, λ h. sym (h refl))
made pop z = (refl, λ h. sym (h refl))
made output z = (refl, λ h. sym (h refl))
made push z = (refl, λ h. refl)
made load z = (refl, λ h. sym (h refl))
made store z = (refl, λ h. sym (h refl))
made jump z = (refl, λ h. sym (h refl))
made bnz z = (refl, λ h. refl)
made call z = (refl, λ h. sym (h refl))
made ret z = (refl, λ h. sym (h refl))
made output_to z = (refl, λ h. refl)
made call_n z = (refl, λ h. refl)
made ret_v z = (refl, λ h. sym (h refl))

pub opcode-command : (o : Opcode) (z : ℤ) → opcode (command o z) ≡ o
opcode-command o z = (made o z).0

pub operand-command : (o : Opcode) (z : ℤ) → (operand_width o ≡ 0 → z ≡ pos 0) → operand (command o z) ≡ z
operand-command o z h = (made o z).1 h
