-- Writing a program as bytes.
use Rattle.std.specs.Prelude.{ℕ, zero, suc, ◌*◌, ◌%◌, true, ◌≡◌, List, [], ◌∷◌, ◌++◌, ℤ, pos, None, Option, Some}
use Rattle.word.specs.Field.{bytes_of}
use Rattle.word.specs.Wrap as Wrap
use Rattle.program.specs.declared.Command.{Command}
use Rattle.program.specs.declared.Operand.{Operand}
use Rattle.program.specs.declared.Operand.TheVariants.{Signed, Page, Counts}
use Rattle.program.specs.Command.{Opcode, opcode, operand, code_of, operand_of, is_page, is_counts, arguments_of, results_of}

-- a number that so many bytes hold; no bytes hold 0 only
abbrev pub FitsBytes : ℕ → ℤ → Type 0
FitsBytes zero z = z ≡ pos 0
FitsBytes (suc k) z = Wrap.Signed (8 * suc k) z

-- a number that an operand may be
abbrev pub Fits : Operand → ℤ → Type 0
Fits (Signed k) z = FitsBytes k z
Fits Page z = is_page z ≡ true
Fits Counts z = is_counts z ≡ true

-- a command's operand may be what it is
abbrev pub Writable : Command → Type 0
Writable c = Fits (operand_of (opcode c)) (operand c)

abbrev pub AllWritable : List Command → Type 0
AllWritable [] = Unit {0}
AllWritable (c ∷ cs) = Writable c × AllWritable cs

-- the bytes of an operand: of two counts a byte each, the arguments first. What they do not hold is cut to its lowest bits
abbrev pub operand_bytes : Operand → ℤ → List ℕ
operand_bytes (Signed k) z = bytes_of k z
operand_bytes Page z = bytes_of 1 z
operand_bytes Counts z = arguments_of z % 256 ∷ results_of z ∷ []

-- an opcode's code and its operand's bytes
abbrev pub encode_opcode : Opcode → ℤ → List ℕ
encode_opcode o z = code_of o ∷ operand_bytes (operand_of o) z

abbrev pub encode_command : Command → List ℕ
encode_command c = encode_opcode (opcode c) (operand c)

unfoldable pub encode : List Command → List ℕ
encode [] = []
encode (c ∷ cs) = encode_command c ++ encode cs

-- what a code stands for with an operand; no bytes where it stands for nothing
abbrev pub encode_code : Option Opcode → ℤ → List ℕ
encode_code None z = []
encode_code (Some o) z = encode_opcode o z
