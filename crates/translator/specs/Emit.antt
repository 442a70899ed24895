-- What the translator in code reads and stores. It checks a table's bytes first and then reads them without a fault, so that these
-- definitions have no side condition; proofs/Translating.antt shows that of a table's bytes they give its translation.
use Rattle.std.specs.Prelude.{ℕ, None, Option, Some, zero, suc, ◌+◌, ◌-◌, ◌*◌, ◌^◌, ◌<◌, ◌≤◌, ◌≡◌, List, [], ◌∷◌, ◌++◌, ℤ, pos, negsuc, length, set, get_or}
use Rattle.program.specs.Command.{Opcode, opcodes, rule_number}
use Rattle.policy.specs.declared.Token.{Token}
use Rattle.tables.specs.declared.expression.Test.{Test}
use Rattle.policy.specs.Token.{token_at}
use Rattle.tables.specs.Value.{test_of}
use Rattle.policy.specs.Read.{depth_limit, rule_count}
use Rattle.translator.specs.declared.Part.{Part}
use Rattle.translator.specs.declared.Mark.{Mark}
use Rattle.handler.specs.Kernel.{Instruction, Sub, Or, Load, Store, Dup, Jump, Ret, Push, Bnz}
use Rattle.handler.specs.Translate.{dispatch, handler_with}
use Rattle.handler.specs.Space.{kernel_words}

-- ════════════════════════════════════════════════════════════════════════════════════════════
-- Pieces of a handler
-- ════════════════════════════════════════════════════════════════════════════════════════════

-- instructions, and the offset after the bytes that they translate
pub record Piece : Type 0 where
  pub code : List Instruction
  pub next : ℕ

abbrev pub piece : List Instruction → ℕ → Piece
piece code next = record { code = code; next = next }

-- what a byte stands for where a label expression is to stand: the row's words are code, P, L1, L2, L3
abbrev pub part_of : Token → Option Part
part_of Token.Empty = Some Part.Empty
part_of Token.Place = Some (Part.Word 1)
part_of Token.Input1 = Some (Part.Word 2)
part_of Token.Input2 = Some (Part.Word 3)
part_of Token.Input3 = Some (Part.Word 4)
part_of Token.Join = Some Part.Join
part_of _ = None

-- of two pieces, one after the other in the bytes
abbrev pub join_code : List Instruction → List Instruction → List Instruction
join_code a b = a ++ b ++ Or ∷ []

abbrev pub flows_code : List Instruction → List Instruction → List Instruction
flows_code a b = b ++ Dup ∷ a ++ Or ∷ Sub ∷ []

abbrev pub either_code : List Instruction → List Instruction → List Instruction
either_code a b = a ++ Bnz (pos 4) ∷ Push (pos 0) ∷ Push (pos 1) ∷ Bnz (pos (suc (length b))) ∷ b

abbrev pub two_pieces : (List Instruction → List Instruction → List Instruction) → (ℕ → Piece) → ℕ → Piece
two_pieces make inner at = let a = inner at in let b = inner a.next in piece (make a.code b.code) b.next

abbrev pub label_piece : Option Part → ℕ → (ℕ → Piece) → Piece
label_piece (Some Part.Empty) at inner = piece (Push (pos 0) ∷ []) (at + 1)
label_piece (Some (Part.Word address)) at inner = piece (Push (pos address) ∷ Load ∷ []) (at + 1)
label_piece (Some Part.Join) at inner = two_pieces join_code inner (at + 1)
label_piece None at inner = piece [] at

-- the label expression at an offset, at most so deep
unfoldable pub label_code : (depth : ℕ) → List ℕ → (at : ℕ) → Piece
label_code zero bytes at = piece [] at
label_code (suc depth) bytes at = label_piece (part_of (token_at bytes at)) at (label_code depth bytes)

abbrev pub condition_piece : Option Test → ℕ → (label inner : ℕ → Piece) → Piece
condition_piece (Some Test.True) at label inner = piece (Push (pos 0) ∷ []) (at + 1)
condition_piece (Some Test.Flows) at label inner = two_pieces flows_code label (at + 1)
condition_piece (Some Test.And) at label inner = two_pieces join_code inner (at + 1)
condition_piece (Some Test.Or) at label inner = two_pieces either_code inner (at + 1)
condition_piece None at label inner = piece [] at

-- the yes/no expression at an offset
unfoldable pub condition_code : (depth : ℕ) → List ℕ → (at : ℕ) → Piece
condition_code zero bytes at = piece [] at
condition_code (suc depth) bytes at = condition_piece (test_of (token_at bytes at)) at (label_code depth bytes) (condition_code depth bytes)

-- two label expressions, and the stores of a rule's answer
abbrev pub answer_of : List Instruction → List Instruction → List Instruction
answer_of p r = p ++ r ++ Push (pos 6) ∷ Store ∷ Push (pos 5) ∷ Store ∷ Ret ∷ []

unfoldable pub answer_code : List ℕ → (at : ℕ) → Piece
answer_code bytes at = two_pieces answer_of (label_code depth_limit bytes) at

abbrev pub guarded_of : List Instruction → List Instruction → List Instruction
guarded_of c code = c ++ Bnz (pos (suc (length code))) ∷ code ++ Push (negsuc 0) ∷ Jump ∷ []

unfoldable pub guarded_code : List ℕ → (at : ℕ) → Piece
guarded_code bytes at =
    let c = condition_code depth_limit bytes at in
    let a = answer_code bytes c.next in
    piece (guarded_of c.code a.code) a.next

-- a rule by its first byte
abbrev pub rule_piece : Option Test → List ℕ → (at : ℕ) → Piece
rule_piece (Some Test.True) bytes at = answer_code bytes (at + 1)
rule_piece (Some Test.Flows) bytes at = guarded_code bytes at
rule_piece (Some Test.And) bytes at = guarded_code bytes at
rule_piece (Some Test.Or) bytes at = guarded_code bytes at
rule_piece None bytes at = piece [] at

unfoldable pub rule_code : List ℕ → (at : ℕ) → Piece
rule_code bytes at = rule_piece (test_of (token_at bytes at)) bytes at

-- so many rules, one after the other
unfoldable pub bodies_at : (count : ℕ) → List ℕ → (at : ℕ) → List (List Instruction)
bodies_at zero bytes at = []
bodies_at (suc count) bytes at = let r = rule_code bytes at in r.code ∷ bodies_at count bytes r.next

unfoldable pub table_code : List ℕ → List Instruction
table_code bytes = handler_with (bodies_at rule_count bytes 0)

-- ════════════════════════════════════════════════════════════════════════════════════════════
-- Storing them
-- ════════════════════════════════════════════════════════════════════════════════════════════

-- words stored one after the other from a position on, as `word::memory::put` stores one: nothing outside
unfoldable pub put_all : (at : ℕ) → List ℤ → List ℤ → List ℤ
put_all at [] old = old
put_all at (w ∷ ws) old = put_all (suc at) ws (set old at w)

-- instructions stored from a place on
abbrev pub put_code : (position : ℕ) → List Instruction → List ℤ → List ℤ
put_code position code old = put_all (2 * position) (kernel_words code) old

-- a piece was stored from a place on: the mark after it, and the space
pub record Emits (p : Piece) (start : ℕ) (before : List ℤ) (r : Mark) (after : List ℤ) : Type 0 where
  pub next : r.next ≡ p.next
  pub position : r.position ≡ start + length p.code
  pub space : after ≡ put_code start p.code before

-- the piece at a mark's offset was stored from its place on
abbrev pub Emitted : (ℕ → Piece) → Mark → List ℤ → Mark → List ℤ → Type 0
Emitted code m before r after = Emits (code m.next) m.position before r after

-- behind the computed jump a slot for each command, and behind the slots the first body
abbrev pub first_slot : ℕ
first_slot = length dispatch

abbrev pub first_body : ℕ
first_body = first_slot + length opcodes

-- slots from a place on, each of which branches to where the body of its command's rule starts
unfoldable pub slots_to : (place : ℕ) → List ℕ → List Opcode → List Instruction
slots_to place begun [] = []
slots_to place begun (o ∷ os) = Bnz (pos (get_or begun (rule_number o) 0 - place)) ∷ slots_to (place + 1) begun os

-- every body starts behind the slots, and not too far for a branch
abbrev pub Ahead : List ℕ → Type 0
Ahead begun = (n : ℕ) → n < rule_count → (first_body ≤ get_or begun n 0) × (get_or begun n 0 ≤ 2 ^ 20)
