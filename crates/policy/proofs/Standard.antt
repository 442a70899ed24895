-- The standard table: its bytes are read as it, and it says what the standard policy says, for every key.
-- Assumes nothing.
use mathlib.Core.Path.{◌≡◌, refl}
use Rattle.program.specs.Command.{Opcode, add, sub, pop, output, push, load, store, jump, bnz, call, ret, output_to, call_n, ret_v}
use Rattle.machine.specs.Rule.{Input, Key, standard}
use Prim.Native.Nat.{ℕ}
use Rattle.policy.specs.Token.{token_of, token_at}
use Rattle.policy.specs.Read.{read_label, read_condition, read_rule_with, read_rules, table, read_table}
use Rattle.policy.specs.Write.{write_label, write_condition, write_table}
use Rattle.policy.specs.Standard.{standard_bytes, standard_table}
use Rattle.policy.specs.Evaluate.{evaluate}

pub standard-read : read_table standard_bytes ≡ table standard_table
unfolding read_table read_rules read_rule_with read_condition read_label token_at token_of standard_table
standard-read = refl

pub standard-written : write_table standard_table ≡ standard_bytes
unfolding write_table write_condition write_label standard_table
standard-written = refl

by-opcode : (o : Opcode) (p : ℕ) (i1 i2 i3 : Input)
    → evaluate standard_table (record { opcode = o; pc = p; input1 = i1; input2 = i2; input3 = i3 })
    ≡ standard (record { opcode = o; pc = p; input1 = i1; input2 = i2; input3 = i3 })
unfolding evaluate standard standard_table
by-opcode add p i1 i2 i3 = refl
by-opcode sub p i1 i2 i3 = refl
by-opcode pop p i1 i2 i3 = refl
by-opcode output p i1 i2 i3 = refl
by-opcode push p i1 i2 i3 = refl
by-opcode load p i1 i2 i3 = refl
by-opcode store p i1 i2 i3 = refl
by-opcode jump p i1 i2 i3 = refl
by-opcode bnz p i1 i2 i3 = refl
by-opcode call p i1 i2 i3 = refl
by-opcode ret p i1 i2 i3 = refl
by-opcode output_to p i1 i2 i3 = refl
by-opcode call_n p i1 i2 i3 = refl
by-opcode ret_v p i1 i2 i3 = refl

-- reading the standard table directly is the standard policy
pub evaluate-standard : (k : Key) → evaluate standard_table k ≡ standard k
evaluate-standard k = by-opcode k.opcode k.pc k.input1 k.input2 k.input3
