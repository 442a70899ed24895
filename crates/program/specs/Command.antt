-- The commands of document 01, OutputTo of request U4, CallN and RetV of request U6: the table of them, and how a command is put together
-- from its opcode and its operand.
use Rattle.std.specs.Prelude.{ℕ, zero, suc, ◌+◌, ◌*◌, ◌/◌, ◌%◌, Bool, true, false, ◌&&◌, List, [], ◌∷◌, ℤ, pos, negsuc, ltb, None, Option, slice_get}
use Prim.Native.String.{String}
use Rattle.word.specs.Choose.{choose}
use Rattle.word.specs.Exact.{is_signed}
use Rattle.word.specs.Text.{ascii}
use Rattle.program.specs.declared.Command.{Command}
use Rattle.program.specs.declared.Command.TheVariants.{Add, Sub, Pop, Output, Push, Load, Store, Jump, Bnz, Call, Ret, OutputTo}
use Rattle.program.specs.declared.Command.TheVariants.{CallN, RetV}
use Rattle.program.specs.declared.Operand.{Operand}
use Rattle.program.specs.declared.Operand.TheVariants.{Signed, Page, Counts}

-- a command without its operand
pub data Opcode : Type 0 where
  add sub pop output push load store jump bnz call ret output_to call_n ret_v : Opcode

-- in the order of their codes, from 01 to 0e
abbrev pub opcodes : List Opcode
opcodes = add ∷ sub ∷ pop ∷ output ∷ push ∷ load ∷ store ∷ jump ∷ bnz ∷ call ∷ ret ∷ output_to ∷ call_n ∷ ret_v ∷ []

-- those that have a rule of their own, in the order of a rule table
abbrev pub ruled : List Opcode
ruled = add ∷ sub ∷ pop ∷ output ∷ push ∷ load ∷ store ∷ jump ∷ bnz ∷ call ∷ ret ∷ ret_v ∷ []

-- the opcode that has a code
unfoldable pub opcode_of : ℕ → Option Opcode
opcode_of zero = None
opcode_of (suc i) = slice_get opcodes i

-- ════════════════════════════════════════════════════════════════════════════════════════════
-- The table of commands
-- ════════════════════════════════════════════════════════════════════════════════════════════

-- a row of it: the code, the name, the operand, how many inputs are supplied, whether there is a result, and the number of its rule in a
-- rule table, from 0
pub record Description : Type 0 where
  pub code : ℕ
  pub name : List ℕ
  pub operand : Operand
  pub inputs : ℕ
  pub result : Bool
  pub rule : ℕ

abbrev row : ℕ → String → Operand → ℕ → Bool → ℕ → Description
row code name operand inputs result rule =
    record { code = code; name = ascii name; operand = operand; inputs = inputs; result = result; rule = rule }

-- no operand
abbrev bare : Operand
bare = Signed 0

-- Pop, Jump, Bnz and Ret have no result; Store's is the cell's, Call's and CallN's the frame's. OutputTo is under Output's rule, and
-- CallN under Call's
abbrev pub description : Opcode → Description
description add = row 0x01 "Add" bare 2 true 0
description sub = row 0x02 "Sub" bare 2 true 1
description pop = row 0x03 "Pop" bare 1 false 2
description output = row 0x04 "Output" bare 1 true 3
description push = row 0x05 "Push" (Signed 8) 0 true 4
description load = row 0x06 "Load" bare 2 true 5
description store = row 0x07 "Store" bare 3 true 6
description jump = row 0x08 "Jump" bare 1 false 7
description bnz = row 0x09 "Bnz" (Signed 2) 1 false 8
description call = row 0x0a "Call" bare 1 true 9
description ret = row 0x0b "Ret" bare 1 false 10
description output_to = row 0x0c "OutputTo" Page 1 true 3
description call_n = row 0x0d "CallN" Counts 1 true 9
description ret_v = row 0x0e "RetV" bare 2 true 11

abbrev pub code_of : Opcode → ℕ
code_of o = (description o).code

abbrev pub operand_of : Opcode → Operand
operand_of o = (description o).operand

-- how many bytes an operand has
abbrev pub width : Operand → ℕ
width (Signed k) = k
width Page = 1
width Counts = 2

abbrev pub operand_width : Opcode → ℕ
operand_width o = width (operand_of o)

-- pages are 0 to 15
abbrev pub is_page : ℤ → Bool
is_page (pos n) = ltb n 16
is_page (negsuc n) = false

-- CallN's operand word: 16 × how many arguments stay + how many results are due; −1, which is no CallN's, where one of them is out of
-- range, 0 to 15 and 0 or 1
abbrev pub counts : ℤ → ℤ → ℤ
counts (pos a) (pos d) = choose (ltb a 16) (choose (ltb d 2) (pos (16 * a + d)) (negsuc 0)) (negsuc 0)
counts (pos a) (negsuc d) = negsuc 0
counts (negsuc a) d = negsuc 0

-- and back: how many arguments
abbrev pub arguments_of : ℤ → ℕ
arguments_of (pos n) = n / 16
arguments_of (negsuc n) = 0

-- and how many results
abbrev pub results_of : ℤ → ℕ
results_of (pos n) = n % 16
results_of (negsuc n) = 0

-- the words of two counts in range
abbrev pub is_counts : ℤ → Bool
is_counts (pos n) = ltb n 256 && ltb (n % 16) 2
is_counts (negsuc n) = false

-- is a number in the range of an operand? All that its bytes hold is, but for a page and two counts; nothing is where there is no operand
abbrev pub holds : Operand → ℤ → Bool
holds (Signed zero) z = false
holds (Signed (suc k)) z = is_signed (8 * suc k) z
holds Page z = is_page z
holds Counts z = is_counts z

abbrev pub in_range : Opcode → ℤ → Bool
in_range o z = holds (operand_of o) z

-- how many inputs a command supplies: L1 up to that one may be named
abbrev pub supplies : Opcode → ℕ
supplies o = (description o).inputs

abbrev pub has_result : Opcode → Bool
has_result o = (description o).result

-- the number of the rule that it is under
abbrev pub rule_number : Opcode → ℕ
rule_number o = (description o).rule

-- ════════════════════════════════════════════════════════════════════════════════════════════
-- A command: its opcode, and its operand or 0
-- ════════════════════════════════════════════════════════════════════════════════════════════

pub record Parts : Type 0 where
  pub opcode : Opcode
  pub operand : ℤ

abbrev part : Opcode → ℤ → Parts
part o z = record { opcode = o; operand = z }

abbrev pub parts : Command → Parts
parts Add = part add (pos 0)
parts Sub = part sub (pos 0)
parts Pop = part pop (pos 0)
parts Output = part output (pos 0)
parts (Push z) = part push z
parts Load = part load (pos 0)
parts Store = part store (pos 0)
parts Jump = part jump (pos 0)
parts (Bnz z) = part bnz z
parts Call = part call (pos 0)
parts Ret = part ret (pos 0)
parts (OutputTo z) = part output_to z
parts (CallN z) = part call_n z
parts RetV = part ret_v (pos 0)

abbrev pub opcode : Command → Opcode
opcode c = (parts c).opcode

abbrev pub operand : Command → ℤ
operand c = (parts c).operand

-- the command with an opcode and an operand, which only Push, Bnz, OutputTo and CallN have
abbrev pub command : Opcode → ℤ → Command
command add z = Add
command sub z = Sub
command pop z = Pop
command output z = Output
command push z = Push z
command load z = Load
command store z = Store
command jump z = Jump
command bnz z = Bnz z
command call z = Call
command ret z = Ret
command output_to z = OutputTo z
command call_n z = CallN z
command ret_v z = RetV
