-- The rule memory: seven words (code, P, L1, L2, L3, new place label, result label), and the rows that check 7 accepts.
use Rattle.std.specs.Prelude.{ℕ, zero, suc, Bool, true, false, ◌&&◌, ◌||◌, List, [], ◌∷◌, ℤ, pos, negsuc, leb, eqb, get_or, None, Option, Some}
use Rattle.word.specs.Number.{is_zero, natural_of}
use Rattle.label.specs.Word.{stored}
use Rattle.program.specs.Command.{Opcode, opcode_of, code_of, supplies}
use Rattle.machine.specs.Rule.{Input, present, missing, input_word, Key, Verdict, denied, allowed}
use Rattle.policy.specs.Expression.{Table}
use Rattle.policy.specs.Evaluate.{evaluate}
use Rattle.policy.specs.Read.{ReadTable, refused, table}
use Rattle.label.specs.declared.Label.{Label}

-- seven zeros mean empty
abbrev pub empty_row : List ℤ → Bool
empty_row [] = true
empty_row (w ∷ ws) = is_zero w && empty_row ws

-- a missing input is −1
abbrev pub is_mark : ℤ → Bool
is_mark (pos n) = false
is_mark (negsuc zero) = true
is_mark (negsuc (suc n)) = false

abbrev pub present_of : Option Label → Option Input
present_of (Some l) = Some (present l.0)
present_of None = None

abbrev pub missing_if : Bool → Option Input
missing_if true = Some missing
missing_if false = None

-- an input's word: a label in range where the command supplies the input, else −1
abbrev pub input_of : (supplied : Bool) → ℤ → Option Input
input_of true w = present_of (stored w)
input_of false w = missing_if (is_mark w)

abbrev pub label_option : Option Label → Option ℕ
label_option (Some l) = Some l.0
label_option None = None

abbrev pub given : {A B : Type 0} → Option A → (A → Option B) → Option B
given None f = None
given (Some a) f = f a

abbrev pub holds : {A : Type 0} → Option A → (A → Bool) → Bool
holds None f = false
holds (Some a) f = f a

abbrev pub word : List ℤ → ℕ → ℤ
word ws i = get_or ws i (pos 0)

-- the key of a row: P in range, and the −1 marks exactly at the inputs that its command does not supply
abbrev pub row_key : Opcode → List ℤ → Option Key
row_key o ws =
    given (label_option (stored (word ws 1))) (λ p.
    given (input_of (leb 1 (supplies o)) (word ws 2)) (λ a.
    given (input_of (leb 2 (supplies o)) (word ws 3)) (λ b.
    given (input_of (leb 3 (supplies o)) (word ws 4)) (λ c.
    Some (record { opcode = o; pc = p; input1 = a; input2 = b; input3 = c })))))

abbrev pub opcode_natural : Option ℕ → Option Opcode
opcode_natural (Some n) = opcode_of n
opcode_natural None = None

-- a word stores this label
abbrev pub is_stored : Option Label → ℕ → Bool
is_stored (Some x) l = eqb x.0 l
is_stored None l = false

-- allowed, with these two labels
abbrev pub agrees : Verdict → (place result : ℤ) → Bool
agrees denied p r = false
agrees (allowed q t) p r = is_stored (stored p) q && is_stored (stored r) t

-- the table allows the row's command with the row's labels, and the row's last two words are the table's own two labels
abbrev pub row_of : Table → Option Opcode → List ℤ → Bool
row_of t x ws = holds x (λ o. holds (row_key o ws) (λ k. agrees (evaluate t k) (word ws 5) (word ws 6)))

-- an allowed row of this table, whose command is that with the code
abbrev pub allowed_row : Table → List ℤ → Bool
allowed_row t ws = row_of t (opcode_natural (natural_of (word ws 0))) ws

-- check 7: empty, or an allowed row of this table
unfoldable pub accepted_row : Table → List ℤ → Bool
accepted_row t ws = empty_row ws || allowed_row t ws

-- the same of a table in bytes; where they are no table, only the empty row
abbrev pub row_answer : ReadTable → List ℤ → Bool
row_answer (refused r) ws = empty_row ws
row_answer (table t) ws = accepted_row t ws

-- the words of a key, with two more
abbrev pub key_row : Key → (place result : ℤ) → List ℤ
key_row k p r = pos (code_of k.opcode) ∷ pos k.pc ∷ input_word k.input1 ∷ input_word k.input2 ∷ input_word k.input3 ∷ p ∷ r ∷ []

-- as a fault writes it: the −1 pair
abbrev pub fault_row : Key → List ℤ
fault_row k = key_row k (negsuc 0) (negsuc 0)
