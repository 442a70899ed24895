-- A run of a sheet that the start accepted: what the loop needs holds, and the loop's run is the engine's answer.
-- Assumes nothing.
use Rattle.std.proofs.Common.{Ok}
use mathlib.Core.Path.{◌≡◌, ◌∙◌, sym, ap}
use mathlib.Core.List.{List}
use Prim.Native.Nat.{ℕ, ◌*◌, ◌≤◌}
use native.Mathlib.Omega.{arith}
use lib.IntN.{ℤ}
use lib.ListN.{length}
use Rattle.word.specs.Field.{Bytes}
use Rattle.program.specs.declared.Command.{Command}
use Rattle.program.specs.Decode.{accepted, check_answer}
use Rattle.program.specs.Space.{write_space}
use Rattle.program.proofs.Loading.{written-accepted}
use Rattle.machine.specs.Rule.{standard, fixed}
use Rattle.machine.proofs.Holds.{standard-range}
use Rattle.stack.specs.Words.{started}
use Rattle.engine.specs.declared.Clearances.{Clearances}
use Rattle.engine.specs.Memory.{Memory, memory, surroundings}
use Rattle.engine.specs.Start.{none_own}
use Rattle.engine.specs.Loop.{Done, loop_of}
use Rattle.engine.specs.Ended.{ended, engine_of}
use Rattle.engine.proofs.Accepted.{Fine, answer, start_fine, taken, few, loop-whole}
use Rattle.plain.specs.Ruler.{standard_ruler}
use Rattle.plain.specs.Plain.{plain}
use Rattle.plain.proofs.Following.{standard-follows}

module _ (sheet : List ℕ) (c : Clearances) (m : Memory) (fuel count : ℕ) (bytes : Bytes sheet)
    (checked : Ok count ≡ check_answer (answer sheet c m fuel none_own)) where
  abbrev commands : List Command
  commands = (taken sheet c m fuel none_own count checked).0

  accepts : answer sheet c m fuel none_own ≡ accepted commands
  accepts = (taken sheet c m fuel none_own count checked).1

  counted : count ≡ length commands
  counted = (taken sheet c m fuel none_own count checked).2

  fine : Fine sheet c m fuel none_own commands
  fine = start_fine sheet c m fuel none_own commands accepts

  pub loop_needs : (program : List ℤ) → length program ≡ length m.program
      → (count ≤ 4096) × (2 * count ≤ length program) × (768 ≤ length m.lent.stack)
      × (length m.lent.cells.values ≤ 1024) × (length m.lent.cells.values ≡ length m.lent.cells.labels)
  loop_needs program e = (
    rw counted (few sheet c m fuel none_own bytes commands fine),
    rw counted (omega (arith, fine.program)),
    fine.stack,
    fine.many,
    fine.equal,
  )

  pub run_is : (program : List ℤ) → program ≡ write_space sheet m.program → (d : Done Unit)
      → d ≡ loop_of standard_ruler count (surroundings c m.output) program fuel 0 started tt m.lent m.output
      → ended (Ok d.ran) d.ruler (memory program d.lent d.output) ≡ plain sheet c m fuel
  unfolding plain
  run_is program w d g =
      loop-whole sheet c m fuel none_own bytes commands fine standard_ruler (fixed standard) standard-follows (λ u. standard-range) tt
      count counted program (w ∙ written-accepted sheet commands m.program fine.decoded fine.program) d g
      ∙ sym (ap (λ d. engine_of (fixed standard) d tt c m fuel) accepts)
