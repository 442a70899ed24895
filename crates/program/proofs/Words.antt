-- The words of a loaded program: at each command's two positions stand its code and its operand; and a program that was read has operands
-- that fit, command by command.
-- Assumes nothing.
use Rattle.std.proofs.Common.{Some, slice_get}
use mathlib.Core.Path.{◌≡◌, refl, ap}
use mathlib.Core.List.{List, [], ◌∷◌, ◌++◌}
use Prim.Native.Nat.{ℕ, zero, suc, ◌+◌, ◌*◌, ◌<◌}
use native.Mathlib.Omega.{arith}
use lib.IntN.{ℤ, pos}
use lib.ListN.{length, get_or, drop}
use Rattle.word.specs.Lay.{laid}
use Rattle.program.specs.declared.Command.{Command}
use Rattle.program.specs.Command.{opcode, operand, code_of}
use Rattle.program.specs.Encode.{Writable, AllWritable}
use Rattle.program.specs.Space.{program_words}

nothing : {A : Type 0} (i : ℕ) (c : Command) → slice_get [] i ≡ Some c → A
nothing i c e = absurd (let z : ◌≡◌ {A = ℕ} 0 1 = cc in omega arith)

code_in : (cs : List Command) (rest : List ℤ) (i : ℕ) (c : Command) → slice_get cs i ≡ Some c
    → get_or (program_words cs ++ rest) (2 * i) (pos 0) ≡ pos (code_of (opcode c))
unfolding program_words
code_in [] rest i c e = nothing i c e
code_in (d ∷ cs) rest zero c e = let k : d ≡ c = cc in ap (λ x. pos (code_of (opcode x))) k
code_in (d ∷ cs) rest (suc i) c e =
    let k : 2 * suc i ≡ suc (suc (2 * i)) = omega arith in rw k (code_in cs rest i c e)

operand_in : (cs : List Command) (rest : List ℤ) (i : ℕ) (c : Command) → slice_get cs i ≡ Some c
    → get_or (program_words cs ++ rest) (2 * i + 1) (pos 0) ≡ operand c
unfolding program_words
operand_in [] rest i c e = nothing i c e
operand_in (d ∷ cs) rest zero c e = let k : d ≡ c = cc in ap operand k
operand_in (d ∷ cs) rest (suc i) c e =
    let k : 2 * suc i + 1 ≡ suc (suc (2 * i + 1)) = omega arith in rw k (operand_in cs rest i c e)

module _ (cs : List Command) (old : List ℤ) (i : ℕ) (c : Command) (e : slice_get cs i ≡ Some c) where
  pub code_at : get_or (laid (program_words cs) old) (2 * i) (pos 0) ≡ pos (code_of (opcode c))
  unfolding laid
  code_at = code_in cs (drop (length (program_words cs)) old) i c e

  pub operand_at : get_or (laid (program_words cs) old) (2 * i + 1) (pos 0) ≡ operand c
  unfolding laid
  operand_at = operand_in cs (drop (length (program_words cs)) old) i c e

pub writable-at : (cs : List Command) (i : ℕ) (c : Command) → AllWritable cs → slice_get cs i ≡ Some c → Writable c
writable-at [] i c w e = nothing i c e
writable-at (d ∷ cs) zero c w e = let k : d ≡ c = cc in rw k at w.0
writable-at (d ∷ cs) (suc i) c w e = writable-at cs i c w.1 e

pub element-below : (cs : List Command) (i : ℕ) → i < length cs → (c : Command) × (slice_get cs i ≡ Some c)
element-below [] i h = absurd (omega arith)
element-below (c ∷ cs) zero h = (c, refl)
element-below (c ∷ cs) (suc i) h = element-below cs i (omega arith)
