-- What a command asks of its rule, in the machine and on words: both are stopped, or both have the same inputs and then, whatever two
-- labels the rule gives, what is done on words simulates what the machine does.
use Rattle.std.proofs.Common.{Err, Ok}
use Prim.Native.Nat.{ℕ, ◌+◌}
use mathlib.Core.Path.{◌≡◌}
use lib.IntN.{pos}
use Rattle.program.specs.declared.Command.{Command}
use Rattle.program.specs.Command.{opcode, code_of, operand}
use Rattle.machine.specs.Environment.{Environment}
use Rattle.machine.specs.Rule.{Input, present, missing, label_of, Key}
use Rattle.machine.specs.Step.{Request, halt, ask}
use Rattle.stack.specs.declared.Machine.{Machine}
use Rattle.step.specs.declared.find.Inputs.{Inputs}
use Rattle.step.specs.Lent.{Lent, After}
use Rattle.step.specs.Find.{inputs, Found, find_of}
use Rattle.step.specs.Effect.{effect_of}
use Rattle.engine.specs.Memory.{Output}
use Rattle.engine.specs.Act.{Asked}
use Rattle.engine.proofs.Link.Represents.{Simulates}

-- inputs of the machine as they are found on words
abbrev one : Input → ℕ
one (present l) = 1
one missing = 0

abbrev pub finding : Input → Input → Input → Inputs
finding l1 l2 l3 = inputs (one l1 + one l2 + one l3) (label_of l1) (label_of l2) (label_of l3)

-- what a ruler on words is asked for a key
abbrev pub asked_for : Key → Asked
asked_for k = record { code = pos (code_of k.opcode); pc = k.pc; inputs = finding k.input1 k.input2 k.input3 }

module _ (c : Command) (m : Machine) (l : Lent) where
  -- what the command finds on words
  abbrev pub found : Found
  found = find_of (code_of (opcode c)) (operand c) m l

  -- what it does there, with a new place label and a result label
  abbrev pub effect : (p r : ℕ) → After
  effect p r = effect_of p r m (code_of (opcode c)) (operand c) l

  abbrev pub Looks : (env : Environment) (o₀ o : Output) → Request → Found → Type 0
  Looks env o₀ o (halt x) i = i ≡ Err x
  Looks env o₀ o (ask l1 l2 l3 k) i = (i ≡ Ok (finding l1 l2 l3)) × ((p r : ℕ) → Simulates env o₀ m l o (k p r) (effect p r))
