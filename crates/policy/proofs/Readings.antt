-- Document 01's readings R11 and R12, computed: which rule memories are accepted under the standard table; and so for the rows of
-- OutputTo, CallN and RetV.
-- Assumes nothing.
use mathlib.Core.Path.{◌≡◌, sym, ap, ◌∙◌}
use mathlib.Core.Bool.{true, false}
use mathlib.Core.List.{List, [], ◌∷◌}
use Prim.Native.Nat.{ℕ}
use lib.IntN.{ℤ, pos, negsuc}
use Rattle.label.specs.Set.{union, subset}
use Rattle.label.specs.Label.{join, flows}
use Rattle.label.specs.Word.{stored}
use Rattle.program.specs.Command.{opcode_of, code_of}
use Rattle.program.proofs.Codes.{opcode_of-code_of}
use Rattle.machine.specs.Rule.{Key}
use Rattle.policy.specs.Evaluate.{evaluate}
use Rattle.policy.specs.Read.{read_table}
use Rattle.policy.specs.Standard.{standard_bytes, standard_table}
use Rattle.policy.specs.Row.{accepted_row, row_answer, key_row}
use Rattle.policy.proofs.Standard.{standard-read}

-- Add at place label 0 of two labels 1: the result's label is 1
abbrev add_row : ℤ → List ℤ
add_row result = pos 1 ∷ pos 0 ∷ pos 1 ∷ pos 1 ∷ negsuc 0 ∷ pos 0 ∷ result ∷ []

pub r11 : row_answer (read_table standard_bytes) (add_row (pos 1)) ≡ true
unfolding accepted_row evaluate standard_table stored opcode_of join flows union subset
r11 = rw standard-read

pub r12 : row_answer (read_table standard_bytes) (add_row (pos 0)) ≡ false
unfolding accepted_row evaluate standard_table stored opcode_of join flows union subset
r12 = rw standard-read

-- the pair that a refused Store leaves (R4) is no row
pub r4-pair : row_answer (read_table standard_bytes) (pos 7 ∷ pos 1 ∷ pos 0 ∷ pos 0 ∷ pos 0 ∷ negsuc 0 ∷ negsuc 0 ∷ []) ≡ false
unfolding accepted_row evaluate standard_table stored opcode_of join flows union subset
r4-pair = rw standard-read

-- OutputTo is under Output's rule: of a label 2 at the place label 1 the line's label is 3. Its own rows have the code 12; 15 is no code
abbrev output_row : ℕ → List ℤ
output_row code = pos code ∷ pos 1 ∷ pos 2 ∷ negsuc 0 ∷ negsuc 0 ∷ pos 1 ∷ pos 3 ∷ []

pub output-to-row : row_answer (read_table standard_bytes) (output_row 12) ≡ true
unfolding accepted_row evaluate standard_table stored opcode_of join flows union subset
output-to-row = rw standard-read

pub unknown-row : row_answer (read_table standard_bytes) (output_row 15) ≡ false
unfolding accepted_row evaluate standard_table stored opcode_of join flows union subset
unknown-row = rw standard-read

-- CallN is under Call's rule: of a target of label 2 at the place label 1 the place has then the label 3, the frame the label 1
pub call-n-row : row_answer (read_table standard_bytes) (pos 13 ∷ pos 1 ∷ pos 2 ∷ negsuc 0 ∷ negsuc 0 ∷ pos 3 ∷ pos 1 ∷ []) ≡ true
unfolding accepted_row evaluate standard_table stored opcode_of join flows union subset
call-n-row = rw standard-read

-- RetV has its own: of a value of label 2 over a frame of label 1, at the place label 3, the place has then the label 1, the value 3
pub ret-v-row : row_answer (read_table standard_bytes) (pos 14 ∷ pos 3 ∷ pos 2 ∷ pos 1 ∷ negsuc 0 ∷ pos 1 ∷ pos 3 ∷ []) ≡ true
unfolding accepted_row evaluate standard_table stored opcode_of join flows union subset
ret-v-row = rw standard-read

-- no row is of two commands, even if they are under one rule
pub row-command : (j k : Key) (p q r s : ℤ) → key_row j p r ≡ key_row k q s → j.opcode ≡ k.opcode
row-command j k p q r s e =
    let c : code_of j.opcode ≡ code_of k.opcode = cc in
    let d = sym (opcode_of-code_of j.opcode) ∙ ap opcode_of c ∙ opcode_of-code_of k.opcode in
    cc
