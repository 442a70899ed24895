-- When lent words and the machine record represent a state of the machine, and when a command on words simulates a step.
use Rattle.std.proofs.Common.{Err, Ok}
use Prim.Native.Nat.{◌≤◌}
use mathlib.Core.Path.{◌≡◌}
use lib.ListN.{length}
use Rattle.word.specs.Lay.{laid}
use Rattle.machine.specs.State.{State}
use Rattle.machine.specs.Environment.{Environment}
use Rattle.machine.specs.Step.{Outcome, stopped, stepped, stack_limit}
use Rattle.machine.specs.Holds.{LabelsInRange}
use Rattle.stack.specs.declared.Machine.{Machine}
use Rattle.step.specs.Lent.{Lent, After}
use Rattle.engine.specs.Memory.{Output, room}
use Rattle.engine.specs.Layout.{stack_words, cell_words, lines_laid}
use Rattle.engine.specs.Act.{Emitted, emitted, emit_of}
use Rattle.engine.specs.Ended.{machine_of}

-- the record m and the runs l and o hold the state s, where the output space came as o₀
pub record Represents (o₀ : Output) (s : State) (m : Machine) (l : Lent) (o : Output) : Type 0 where
  pub machine : m ≡ machine_of s
  -- the stack's words stand at the start of the stack space
  pub stack : l.stack ≡ laid (stack_words s.stack) l.stack
  pub cells : l.cells ≡ cell_words s.memory
  pub output : o ≡ lines_laid s.lines o₀

-- what a run keeps: the spaces are long enough, the depth and the labels are in their bounds
pub record Sound (env : Environment) (o₀ : Output) (s : State) (l : Lent) : Type 0 where
  pub space : 768 ≤ length l.stack
  pub depth : length s.stack ≤ stack_limit
  pub labels : LabelsInRange s
  pub fits : env.room ≤ room o₀

-- a command on words, with its line written, does what the machine's outcome says: stopped, it changes nothing; carried out, the words
-- hold the next state, whose stack is laid over the stack space
module _ (env : Environment) (o₀ : Output) (m : Machine) (l : Lent) (o : Output) where
  abbrev pub Simulates : Outcome → After → Type 0
  Simulates (stopped x) a = (emit_of env m a.stepped o ≡ emitted (Err x) o) × (a.lent ≡ l)
  Simulates (stepped t) a =
      let e : Emitted = emit_of env m a.stepped o in
      (e.went ≡ Ok (machine_of t))
      × Represents o₀ t (machine_of t) a.lent e.output
      × (a.lent.stack ≡ laid (stack_words t.stack) l.stack)
