-- The handler space: two words an instruction, its code and its operand or 0.
use Rattle.std.specs.Prelude.{ℕ, ◌+◌, ◌*◌, Bool, true, false, ◌&&◌, List, [], ◌∷◌, ℤ, pos, negsuc, length, get_or, ltb, eqb, None, Option, Some}
use Rattle.program.specs.Command as Sheet
use Rattle.handler.specs.Kernel.{Instruction, Add, Sub, Or, Load, Store, Dup, Swap, Jump, Ret, Push, Bnz}
use Rattle.handler.specs.Kernel.{Code, Result, run, start}

-- the codes that sheets have; Or, Dup and Swap, which sheets do not have, are past all codes of sheets
abbrev pub code_of : Instruction → ℕ
code_of Add = Sheet.code_of Sheet.add
code_of Sub = Sheet.code_of Sheet.sub
code_of (Push n) = Sheet.code_of Sheet.push
code_of Load = Sheet.code_of Sheet.load
code_of Store = Sheet.code_of Sheet.store
code_of Jump = Sheet.code_of Sheet.jump
code_of (Bnz n) = Sheet.code_of Sheet.bnz
code_of Ret = Sheet.code_of Sheet.ret
code_of Or = 0x11
code_of Dup = 0x12
code_of Swap = 0x13

-- the operand, or 0
abbrev pub operand : Instruction → ℤ
operand Add = pos 0
operand Sub = pos 0
operand (Push n) = n
operand Load = pos 0
operand Store = pos 0
operand Jump = pos 0
operand (Bnz n) = n
operand Ret = pos 0
operand Or = pos 0
operand Dup = pos 0
operand Swap = pos 0

unfoldable pub kernel_words : List Instruction → List ℤ
kernel_words [] = []
kernel_words (i ∷ code) = pos (code_of i) ∷ operand i ∷ kernel_words code

-- every instruction, in the order of their codes; those that have an operand with this one
abbrev pub instructions : ℤ → List Instruction
instructions n = Add ∷ Sub ∷ Push n ∷ Load ∷ Store ∷ Jump ∷ Bnz n ∷ Ret ∷ Or ∷ Dup ∷ Swap ∷ []

-- the one that has a code
abbrev pub found_if : Bool → Instruction → Option Instruction → Option Instruction
found_if true i rest = Some i
found_if false i rest = rest

abbrev pub with_code : ℕ → List Instruction → Option Instruction
with_code code [] = None
with_code code (i ∷ is) = found_if (eqb code (code_of i)) i (with_code code is)

-- the instruction that two words stand for
unfoldable pub known : ℤ → ℤ → Option Instruction
known (pos code) n = with_code code (instructions n)
known (negsuc code) n = None

-- the instruction at a place
abbrev pub instruction_at : List ℤ → ℕ → Option Instruction
instruction_at space i = known (get_or space (2 * i) (pos 0)) (get_or space (2 * i + 1) (pos 0))

-- the instructions of a space that holds `count` of them: one is there if both of its words are
abbrev pub held_if : Bool → Option Instruction → Option Instruction
held_if true o = o
held_if false o = None

abbrev pub held : List ℤ → ℕ → Code
held space count i = held_if (ltb i count && ltb (2 * i + 1) (length space)) (instruction_at space i)

-- running the handler that a space holds
unfoldable pub handle_space : List ℤ → ℕ → List ℤ → Result
handle_space space count row = run (held space count) count (start row)
