-- Reading a program (document 01: a sheet) from bytes: its commands, or the first refusal. Checks 1 to 3, 12 and 14.
use Rattle.std.specs.Prelude.{ℕ, zero, suc, ◌+◌, Bool, true, false, List, [], ◌∷◌, ◌++◌, codes, decimal, length, drop, ℤ, Err, None, Ok, Option, Result, Some}
use Rattle.word.specs.Field.{unsigned_at, signed_at}
use Rattle.program.specs.declared.Command.{Command}
use Rattle.program.specs.declared.Operand.{Operand}
use Rattle.program.specs.declared.Operand.TheVariants.{Signed, Page, Counts}
use Rattle.program.specs.declared.Refusal.{Refusal}
use Rattle.program.specs.Command.{Opcode, opcode_of, operand_of, operand_width, is_page, is_counts, counts, opcode, operand, command}

pub data Decoded : Type 0 where
  refused : Refusal → Decoded
  accepted : List Command → Decoded

-- the refusal with a number and a place
abbrev pub refusal : ℕ → ℕ → Refusal
refusal code position = record { code = code; position = position }

-- and what is printed of one
abbrev pub refusal_text : Refusal → List ℕ
refusal_text r = codes "refused " ++ (decimal r.code ++ (32 ∷ decimal r.position))

abbrev pub prepend : Command → Decoded → Decoded
prepend c (refused r) = refused r
prepend c (accepted cs) = accepted (c ∷ cs)

-- the word of the two counts that two fields are
abbrev pub counts_field : Option ℤ → Option ℤ → Option ℤ
counts_field None f = None
counts_field (Some a) None = None
counts_field (Some a) (Some d) = Some (counts a d)

-- the operand that stands at a position: a signed number; or a page, which is an unsigned byte; or two counts, an unsigned byte each
abbrev pub operand_at : Operand → List ℕ → ℕ → Option ℤ
operand_at (Signed k) bytes at = signed_at k bytes at
operand_at Page bytes at = unsigned_at 1 bytes at
operand_at Counts bytes at = counts_field (unsigned_at 1 bytes at) (unsigned_at 1 bytes (at + 1))

-- what a code begins with the bytes after it: an unknown command, one whose operand is cut, or a command and its operand's bytes
pub data First : Type 0 where
  unknown cut : First
  whole : Command → ℕ → First

abbrev pub first_operand : Opcode → Option ℤ → First
first_operand o None = cut
first_operand o (Some z) = whole (command o z) (operand_width o)

abbrev pub first_opcode : Option Opcode → List ℕ → First
first_opcode None bytes = unknown
first_opcode (Some o) bytes = first_operand o (operand_at (operand_of o) bytes 0)

-- may a command have its operand? A page is at most 15; arguments are too, and results at most 1
abbrev pub permitted : Operand → ℤ → Bool
permitted (Signed k) z = true
permitted Page z = is_page z
permitted Counts z = is_counts z

abbrev pub permits : Command → Bool
permits c = permitted (operand_of (opcode c)) (operand c)

-- the check that refuses an operand that is not permitted; a signed one always is
abbrev pub check_of : Operand → ℕ
check_of (Signed k) = 12
check_of Page = 12
check_of Counts = 14

abbrev pub decode_if : Bool → Command → ℕ → Decoded → Decoded
decode_if true c at rest = prepend c rest
decode_if false c at rest = refused (refusal (check_of (operand_of (opcode c))) at)

-- the command at an offset, then the rest of the program
abbrev pub decode_first : First → ℕ → (ℕ → Decoded) → Decoded
decode_first unknown at rest = refused (refusal 2 at)
decode_first cut at rest = refused (refusal 3 at)
decode_first (whole c width) at rest = decode_if (permits c) c at (rest width)

-- the commands from the offset `at` on, of which `left` may follow
unfoldable pub decode_from : ℕ → ℕ → List ℕ → Decoded
decode_from zero at [] = accepted []
decode_from zero at (b ∷ bytes) = refused (refusal 1 at)
decode_from (suc left) at [] = accepted []
decode_from (suc left) at (b ∷ bytes) =
    decode_first (first_opcode (opcode_of b) bytes) at (λ width. decode_from left (at + suc width) (drop width bytes))

-- the largest number of commands
abbrev pub command_limit : ℕ
command_limit = 4096

unfoldable pub decode : List ℕ → Decoded
decode bytes = decode_from command_limit 0 bytes

-- what the check answers: how many commands there are, or the refusal
abbrev pub check_answer : Decoded → Result ℕ Refusal
check_answer (refused r) = Err r
check_answer (accepted cs) = Ok (length cs)
