-- The rule that a command is under belongs to a command that supplies as many inputs; and the code of the command that a rule belongs to.
-- Assumes nothing.
use Rattle.std.proofs.Common.{None, Option, Some, slice_get}
use mathlib.Core.Path.{◌≡◌, refl, sym, ap, ◌∙◌}
use mathlib.Core.Bool.{Bool, true, false, ◌&&◌}
use mathlib.Core.List.{List, [], ◌∷◌}
use Prim.Native.Nat.{ℕ, zero, suc, ◌+◌, ◌<◌}
use native.Mathlib.Omega.{arith}
use native.Mathlib.Numerals.{add-one}
use lib.Dec.{T, eqb, leb, eqb→eq, leb→le}
use Rattle.program.specs.Command.{Opcode, opcodes, ruled, opcode_of, code_of, supplies, rule_number}
use Rattle.word.proofs.Bool.{and_left, and_right}
use Rattle.program.proofs.Codes.{opcode_of-code_of, opcode-all}
use Rattle.policy.specs.Read.{rule_count, owner_code}

-- the command whose rule it is
pub record Under (o : Opcode) : Type 0 where
  pub owner : Opcode
  pub at : slice_get ruled (rule_number o) ≡ Some owner
  pub inputs : supplies owner ≡ supplies o

abbrev alike : Option Opcode → Opcode → Bool
alike None o = false
alike (Some q) o = eqb (supplies q) (supplies o)

pub under : (o : Opcode) → Under o
under o = by (slice_get ruled (rule_number o)) refl (opcode-all (λ o. alike (slice_get ruled (rule_number o)) o) tt o)
  where
    by : (x : Option Opcode) → slice_get ruled (rule_number o) ≡ x → T (alike x o) → Under o
    by None e t = absurd t
    by (Some q) e t = record { owner = q; at = e; inputs = eqb→eq (supplies q) (supplies o) t }

pub owner-inputs : (o q : Opcode) → slice_get ruled (rule_number o) ≡ Some q → supplies q ≡ supplies o
owner-inputs o q e = let u = under o in let same : q ≡ u.owner = cc in ap supplies same ∙ u.inputs

-- a table has it
pub rule-few : (o : Opcode) → rule_number o < rule_count
rule-few o = leb→le (suc (rule_number o)) rule_count (opcode-all (λ o. leb (suc (rule_number o)) rule_count) tt o)

-- commands by their codes, which begin at 1
pub opcodes-next : (i : ℕ) (o : Opcode) → slice_get opcodes i ≡ Some o → opcode_of (i + 1) ≡ Some o
unfolding opcode_of
opcodes-next i o e = rw (add-one i) e

-- the commands of a list have the rules from i on
abbrev owning : ℕ → List Opcode → Bool
owning i [] = true
owning i (o ∷ os) = eqb (code_of o) (owner_code i) && owning (suc i) os

element-owning : (i : ℕ) (os : List Opcode) → T (owning i os) → (k : ℕ) (o : Opcode) → slice_get os k ≡ Some o → code_of o ≡ owner_code (i + k)
element-owning i [] t k o e = absurd (let z : ◌≡◌ {A = ℕ} 0 1 = cc in omega arith)
element-owning i (x ∷ os) t zero o e =
    let d : x ≡ o = cc in
    let h = eqb→eq (code_of x) (owner_code i) (and_left (eqb (code_of x) (owner_code i)) (owning (suc i) os) t) in
    let n : i + 0 ≡ i = omega arith in
    ap code_of (sym d) ∙ h ∙ ap owner_code (sym n)
element-owning i (x ∷ os) t (suc k) o e =
    let n : suc i + k ≡ i + suc k = omega arith in
    element-owning (suc i) os (and_right (eqb (code_of x) (owner_code i)) (owning (suc i) os) t) k o e ∙ ap owner_code n

-- the command that has a rule, by its number: its code, and what is found under that code
pub ruled-owner : (i : ℕ) (o : Opcode) → slice_get ruled i ≡ Some o → code_of o ≡ owner_code i
unfolding owner_code
ruled-owner i o e = let n : 0 + i ≡ i = omega arith in element-owning 0 ruled tt i o e ∙ ap owner_code n

pub ruled-code : (i : ℕ) (o : Opcode) → slice_get ruled i ≡ Some o → opcode_of (owner_code i) ≡ Some o
ruled-code i o e = ap opcode_of (sym (ruled-owner i o e)) ∙ opcode_of-code_of o
