-- The handler of document 01's standard table at typical keys: how it ends, the row that it leaves, and how many kernel steps it takes.
-- proofs/Readings.antt computes them.
use Rattle.std.specs.Prelude.{ℕ, ◌≤◌, List, [], ◌∷◌, pos}
use Rattle.program.specs.Command.{Opcode, add, sub, pop, output, push, load, store, jump, bnz, call, ret, output_to, call_n, ret_v}
use Rattle.machine.specs.Rule.{Input, present, missing, Key}
use Rattle.policy.specs.Standard.{standard_table}
use Rattle.policy.specs.Row.{key_row, fault_row}
use Rattle.handler.specs.Kernel.{returned, denied, Result, handle}
use Rattle.handler.specs.Translate.{translate}

pub record Reading : Type 0 where
  pub key : Key
  pub expected : Result

unfoldable pub computed : Reading → Result
computed r = handle (translate standard_table) (fault_row r.key)

abbrev pub key : Opcode → ℕ → Input → Input → Input → Key
key o p l1 l2 l3 = record { opcode = o; pc = p; input1 = l1; input2 = l2; input3 = l3 }

-- allowed with two labels; not allowed
abbrev pub allows : Key → ℕ → ℕ → ℕ → Reading
allows k p r steps = record { key = k; expected = record { outcome = returned; row = key_row k (pos p) (pos r); steps = steps } }

abbrev pub denies : Key → ℕ → Reading
denies k steps = record { key = k; expected = record { outcome = denied; row = fault_row k; steps = steps } }

-- the key of R4's Store, which is not allowed: rule memory (7, 1, 0, 0, 0, −1, −1)
abbrev pub R4 : Reading
R4 = denies (key store 1 (present 0) (present 0) (present 0)) 20

abbrev pub readings : List Reading
readings =
    allows (key add 0 (present 1) (present 2) missing) 0 3 19
    ∷ allows (key sub 4 (present 1) (present 1) missing) 4 1 19
    ∷ allows (key pop 1 (present 2) missing missing) 1 0 15
    ∷ allows (key output 1 (present 2) missing missing) 1 3 19
    ∷ allows (key push 1 missing missing missing) 1 0 15
    ∷ allows (key load 0 (present 0) (present 4294967295) missing) 0 4294967295 19
    ∷ allows (key store 1 (present 0) (present 2) (present 1)) 1 3 33
    ∷ R4
    ∷ allows (key jump 1 (present 2) missing missing) 3 0 18
    ∷ allows (key bnz 1 (present 1) missing missing) 1 0 18
    ∷ allows (key call 1 (present 2) missing missing) 3 1 19
    ∷ allows (key ret 3 (present 1) missing missing) 1 0 15
    ∷ allows (key output_to 1 (present 2) missing missing) 1 3 19
    ∷ allows (key call_n 1 (present 2) missing missing) 3 1 19
    ∷ allows (key ret_v 3 (present 2) (present 1) missing) 1 3 19
    ∷ []

-- whatever the key, a fault takes 15 to 33 kernel steps under the standard table
abbrev pub Steps : Type 0
Steps = (k : Key) → let n = (handle (translate standard_table) (fault_row k)).steps in (15 ≤ n) × (n ≤ 33)
