-- What an engine answers and what every lent run holds at exit.
use Rattle.std.specs.Prelude.{ℕ, ◌≡◌, List, length, Err, Ok, Result}
use Rattle.word.specs.Lay.{laid}
use Rattle.program.specs.declared.Command.{Command}
use Rattle.program.specs.Decode.{Decoded, refused, accepted}
use Rattle.program.specs.Space.{program_words}
use Rattle.machine.specs.Rule.{Policy, Ruler, fixed}
use Rattle.machine.specs.State.{State, start}
use Rattle.machine.specs.Run.{Result as RunResult, run}
use Rattle.stack.specs.declared.Machine.{Machine}
use Rattle.stack.specs.Words.{machine}
use Rattle.step.specs.Lent.{lent}
use Rattle.engine.specs.declared.Clearances.{Clearances}
use Rattle.engine.specs.declared.Ran.{Ran}
use Rattle.engine.specs.Memory.{Memory, memory, surroundings}
use Rattle.engine.specs.Start.{given, none_own, start_of}
use Rattle.engine.specs.Layout.{cell_words, cells_of, lines_laid, stack_after}
use Rattle.program.specs.declared.Refusal.{Refusal}

-- the answer, what the ruler keeps, and the lent runs
pub record Ended (R : Type 0) : Type 0 where
  pub answer : Result Ran Refusal
  pub ruler : R
  pub memory : Memory

abbrev pub ended : {R : Type 0} → Result Ran Refusal → R → Memory → Ended R
ended a u m = record { answer = a; ruler = u; memory = m }

-- the record of a state
abbrev pub machine_of : State → Machine
machine_of s = machine s.pc.number s.pc.label (length s.stack) (length s.lines)

-- the result gives the stop, the steps, the place atom, the stack depth and the lines written
abbrev pub summary : {R : Type 0} → RunResult R → Ran
summary r = record { machine = machine_of r.state; stop = r.stop; steps = r.state.steps }

-- document 01's run from the lent cells
abbrev pub begin : Memory → State
begin m = start (cells_of m.lent.cells)

module _ {R : Type 0} (ρ : Ruler R) (cs : List Command) (u : R) (c : Clearances) (m : Memory) (fuel : ℕ) where
  abbrev pub result_of : RunResult R
  result_of = run ρ (surroundings c m.output) cs fuel (begin m) u

  -- the lent runs after it
  abbrev pub left : State → Memory
  left s =
      memory
      (laid (program_words cs) m.program)
      (lent (stack_after ρ (surroundings c m.output) cs fuel (begin m) u m.lent.stack) (cell_words s.memory))
      (lines_laid s.lines m.output)

  -- the run to its stop
  abbrev pub stopped_at : Ended R
  stopped_at = ended (Ok (summary result_of)) result_of.ruler (left result_of.state)

-- by what the start came to: refused, with every lent run and what the ruler keeps as they came; otherwise the run to its stop
abbrev pub engine_of : {R : Type 0} → Ruler R → Decoded → R → Clearances → Memory → ℕ → Ended R
engine_of ρ (refused r) u c m fuel = ended (Err r) u m
engine_of ρ (accepted cs) u c m fuel = stopped_at ρ cs u c m fuel

-- rules that do not change, and no limits of its own: of the sheet, the clearances, the lent runs and the allowance
abbrev pub directly : Policy → List ℕ → Clearances → Memory → ℕ → Ended Unit
directly π sheet c m fuel = engine_of (fixed π) (start_of sheet m.lent.cells.labels c (given m fuel) none_own) tt c m fuel

-- two engines, each with a ruler of its own, gave the same answer and left the same in every lent run
pub record SameEnd {Q R : Type 0} (q : Ended Q) (r : Ended R) : Type 0 where
  pub answer : q.answer ≡ r.answer
  pub memory : q.memory ≡ r.memory
