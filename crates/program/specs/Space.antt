-- The program space: two words a command, its code and its operand or 0.
use Rattle.std.specs.Prelude.{ℕ, zero, suc, ◌/◌, List, [], ◌∷◌, ℤ, pos, length, drop}
use Rattle.word.specs.Lay.{laid}
use Rattle.program.specs.declared.Command.{Command}
use Rattle.program.specs.Command.{opcode, operand, code_of, opcode_of}
use Rattle.program.specs.Decode.{First, unknown, cut, whole, first_opcode}

unfoldable pub program_words : List Command → List ℤ
program_words [] = []
program_words (c ∷ cs) = pos (code_of (opcode c)) ∷ operand c ∷ program_words cs

abbrev pub take_first : First → (ℕ → List Command) → List Command
take_first unknown rest = []
take_first cut rest = []
take_first (whole c width) rest = c ∷ rest width

-- the commands from the left, at most so many, up to the first that cannot be read
unfoldable pub readable : ℕ → List ℕ → List Command
readable zero bytes = []
readable (suc room) [] = []
readable (suc room) (b ∷ bytes) = take_first (first_opcode (opcode_of b) bytes) (λ width. readable room (drop width bytes))

-- writing a program into a space without a check: the commands that can be read and have room, the rest as it came
unfoldable pub write_space : List ℕ → List ℤ → List ℤ
write_space bytes old = laid (program_words (readable (length old / 2) bytes)) old
