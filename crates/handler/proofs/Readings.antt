-- The readings of specs/Reading.antt, computed.
-- Assumes nothing.
use Rattle.std.proofs.Common.{slice_get}
use mathlib.Core.Path.{◌≡◌, refl}
use mathlib.Core.List.{List, [], ◌∷◌, map}
use Prim.Native.Nat.{ℕ, zero, suc, ◌≤◌}
use native.Mathlib.Omega.{arith}
use lib.IntN.{ℤ, pos, negsuc}
use lib.ListN.{length}
use Rattle.word.specs.Wrap.{residue, signed, wrap, add_wrap, sub_wrap}
use Rattle.program.specs.Command.{Opcode, add, sub, pop, output, push, load, store, jump, bnz, call, ret, output_to, call_n, ret_v, code_of}
use Rattle.handler.specs.Kernel.{or_word, effect, step, run, handle}
use Rattle.handler.specs.Translate.{compile_rule, translate}
use Rattle.handler.specs.Reading.{Reading, computed, readings, Steps}
use Rattle.machine.specs.Rule.{input_word}
use Rattle.policy.specs.Standard.{standard_table}

pub readings-hold : map computed readings ≡ map (λ (r : Reading). r.expected) readings
unfolding computed handle run step effect or_word add_wrap sub_wrap wrap signed residue translate compile_rule standard_table
readings-hold = refl

-- the handler of the standard table has 166 instructions
pub standard-length : length (translate standard_table) ≡ 166
unfolding translate compile_rule standard_table
standard-length = refl

-- ════════════════════════════════════════════════════════════════════════════════════════════
-- Kernel steps, whatever the words of the key
-- ════════════════════════════════════════════════════════════════════════════════════════════

abbrev Few : ℕ → Type 0
Few n = (15 ≤ n) × (n ≤ 33)

few-are : (n : ℕ) {x : ℕ} → x ≡ n → Few n → Few x
few-are n e h = rw e h

module _ (p a b c : ℤ) where
  abbrev row : Opcode → List ℤ
  row o = pos (code_of o) ∷ p ∷ a ∷ b ∷ c ∷ negsuc 0 ∷ negsuc 0 ∷ []

  -- Store's branch, after 17 steps: what it tests is not known, but for one of three forms
  store-few : (z : ℤ)
      → Few (run (slice_get (translate standard_table)) 149 (record { place = 94; stack = z ∷ []; row = row store; steps = 17 })).steps
  unfolding effect step run compile_rule translate standard_table
  store-few (pos zero) = few-are 33 refl (omega arith, omega arith)
  store-few (pos (suc n)) = few-are 20 refl (omega arith, omega arith)
  store-few (negsuc n) = few-are 20 refl (omega arith, omega arith)

  few : (o : Opcode) → Few (handle (translate standard_table) (row o)).steps
  unfolding residue signed wrap add_wrap effect step run handle compile_rule translate standard_table
  few add = few-are 19 refl (omega arith, omega arith)
  few sub = few-are 19 refl (omega arith, omega arith)
  few pop = few-are 15 refl (omega arith, omega arith)
  few output = few-are 19 refl (omega arith, omega arith)
  few push = few-are 15 refl (omega arith, omega arith)
  few load = few-are 19 refl (omega arith, omega arith)
  few store = store-few (sub_wrap (or_word (or_word p a) c) c)
  few jump = few-are 18 refl (omega arith, omega arith)
  few bnz = few-are 18 refl (omega arith, omega arith)
  few call = few-are 19 refl (omega arith, omega arith)
  few ret = few-are 15 refl (omega arith, omega arith)
  few output_to = few-are 19 refl (omega arith, omega arith)
  few call_n = few-are 19 refl (omega arith, omega arith)
  few ret_v = few-are 19 refl (omega arith, omega arith)

pub standard-steps : Steps
standard-steps k = few (pos k.pc) (input_word k.input1) (input_word k.input2) (input_word k.input3) k.opcode
