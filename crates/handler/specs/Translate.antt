-- The translation of a rule table into a handler. Zero means yes: a condition is translated to instructions that leave 0 exactly where
-- it holds. The code of the command chooses its slot by a computed jump, and the slot branches to the rule that the command is under: seven
-- steps for every command. A rule's instructions always end the handler.
use Rattle.std.specs.Prelude.{ℕ, suc, ◌+◌, List, [], ◌∷◌, ◌++◌, map, pos, negsuc, length, take}
use Rattle.program.specs.Command.{Opcode, opcodes, rule_number}
use Rattle.policy.specs.Expression.{LabelExpr, empty, place, input1, input2, input3, join, Condition, flows, always, both, either}
use Rattle.policy.specs.Expression.{Rule, Table}
use Rattle.policy.specs.Read.{ReadTable, refused, table}
use Rattle.handler.specs.Kernel.{Instruction, Add, Sub, Or, Load, Store, Dup, Jump, Ret, Push, Bnz}

-- a word of the row on the stack
abbrev pub read : ℕ → List Instruction
read address = Push (pos address) ∷ Load ∷ []

-- a label on the stack: the row's words are code, P, L1, L2, L3
abbrev pub compile_label : LabelExpr → List Instruction
compile_label empty = Push (pos 0) ∷ []
compile_label place = read 1
compile_label input1 = read 2
compile_label input2 = read 3
compile_label input3 = read 4
compile_label (join a b) = compile_label a ++ compile_label b ++ Or ∷ []

-- a number on the stack, 0 where the condition holds. a flows to b: a + b, as labels, less b. and: the two numbers' Or. or: 0 where the
-- first is 0, else the second
abbrev pub compile_condition : Condition → List Instruction
compile_condition (flows a b) = compile_label b ++ Dup ∷ compile_label a ++ Or ∷ Sub ∷ []
compile_condition always = Push (pos 0) ∷ []
compile_condition (both a b) = compile_condition a ++ compile_condition b ++ Or ∷ []
compile_condition (either a b) =
    compile_condition a
    ++ Bnz (pos 4) ∷ Push (pos 0) ∷ Push (pos 1) ∷ Bnz (pos (suc (length (compile_condition b))))
    ∷ compile_condition b

-- both labels, then the words 5 (new place label) and 6 (result label)
abbrev pub compile_answer : Rule → List Instruction
compile_answer r =
    compile_label r.pc ++ compile_label r.result ++ Push (pos 6) ∷ Store ∷ Push (pos 5) ∷ Store ∷ Ret ∷ []

-- where the condition holds the instructions that follow, else the jump to −1 behind them
abbrev pub guarded : Condition → List Instruction → List Instruction
guarded c code = compile_condition c ++ Bnz (pos (suc (length code))) ∷ code ++ Push (negsuc 0) ∷ Jump ∷ []

-- a rule that always allows tests nothing
abbrev pub compile_if : Condition → List Instruction → List Instruction
compile_if (flows a b) code = guarded (flows a b) code
compile_if always code = code
compile_if (both a b) code = guarded (both a b) code
compile_if (either a b) code = guarded (either a b) code

unfoldable pub compile_rule : Rule → List Instruction
compile_rule r = compile_if r.allowed (compile_answer r)

-- the rules' instructions, their bodies, one after the other
abbrev pub concat : List (List Instruction) → List Instruction
concat [] = []
concat (b ∷ bs) = b ++ concat bs

-- how many instructions stand before a rule's body
abbrev pub before : List (List Instruction) → ℕ → ℕ
before bodies n = length (concat (take n bodies))

-- a slot for each command: it branches, over the slots that are left, to the body of the rule that the command is under
abbrev pub slots : List (List Instruction) → List Opcode → List Instruction
slots bodies [] = []
slots bodies (o ∷ os) = Bnz (pos (suc (length os + before bodies (rule_number o)))) ∷ slots bodies os

-- the slot of the code c is instruction 5 + c; the code stays on the stack for the slot's branch, which is taken since no code is 0
abbrev pub dispatch : List Instruction
dispatch = Push (pos 0) ∷ Load ∷ Dup ∷ Push (pos 5) ∷ Add ∷ Jump ∷ []

-- the slots stand before the bodies; commands under one rule share its body
abbrev pub handler_with : List (List Instruction) → List Instruction
handler_with bodies = dispatch ++ slots bodies opcodes ++ concat bodies

unfoldable pub translate : Table → List Instruction
translate t = handler_with (map compile_rule t)

-- of bytes that were read: what is no table has no handler
abbrev pub handler_of : ReadTable → List Instruction
handler_of (refused r) = []
handler_of (table t) = translate t
