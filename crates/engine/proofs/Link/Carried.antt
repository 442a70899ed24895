-- A command that is stopped, and one that is carried out: the words hold the next state where the record, the stack and the runs that
-- changed do.
-- Assumes nothing.
use Rattle.std.proofs.Common.{Err, Ok}
use mathlib.Core.Path.{◌≡◌, refl, ap}
use mathlib.Core.List.{List, ◌∷◌}
use Prim.Native.Nat.{ℕ, suc, ◌-◌, ◌≤◌, ◌<◌}
use lib.IntN.{ℤ, pos, ◌+ℤ◌}
use lib.ListN.{length}
use Rattle.word.specs.Lay.{laid}
use Rattle.word.specs.Wrap.{Signed}
use Rattle.machine.specs.Atom.{Atom, Entry, value}
use Rattle.machine.specs.Environment.{Environment}
use Rattle.machine.specs.State.{State}
use Rattle.machine.specs.declared.Stop.{Stop}
use Rattle.machine.specs.Step.{stopped, stepped, stack_limit, atom, goto, next}
use Rattle.stack.specs.declared.Machine.{Machine}
use Rattle.stack.specs.declared.Kind.TheVariants.{Value}
use Rattle.stack.specs.Words as Words
use Rattle.stack.specs.Words.{machine, slot_at}
use Rattle.step.specs.Lent.{Cells, Lent, lent, after, with_stack}
use Rattle.step.specs.Effect.{refilling}
use Rattle.engine.specs.Memory.{Output}
use Rattle.engine.specs.Layout.{stack_words, cell_words}
use Rattle.engine.specs.Act.{emit_of}
use Rattle.engine.specs.Ended.{machine_of}
use Rattle.engine.proofs.Link.Laid.{laid-again}
use Rattle.engine.proofs.Link.Stack.{Held, stack-refilled}
use Rattle.engine.proofs.Link.Record.{pushed-entry, following-next}
use Rattle.engine.proofs.Link.Represents.{Represents, Simulates}

-- a stop, which is no line, is the run's
pub stop-simulates : (env : Environment) (o₀ : Output) (m : Machine) (l : Lent) (o : Output) (x : Stop)
    → Simulates env o₀ m l o (stopped x) (after (Err x) l)
unfolding emit_of
stop-simulates env o₀ m l o x = (refl, refl)

module _ (env : Environment) {o₀ : Output} {s : State} {l : Lent} {o : Output} (r : Represents o₀ s (machine_of s) l o) where
  -- the record that a command leaves is that of t, which has written no line; the stack is laid over the stack that was
  pub carried : (p : Atom) (es : List Entry) (memory : List Atom) {m : Machine} {st : List ℤ} {c : Cells}
      → m ≡ machine p.number p.label (length es) (length s.lines)
      → st ≡ laid (stack_words es) l.stack → c ≡ cell_words memory
      → Simulates env o₀ (machine_of s) l o
      (stepped (record { pc = p; stack = es; memory = memory; lines = s.lines; steps = suc s.steps }))
      (after (Words.carried m) (lent st c))
  unfolding emit_of
  carried p es memory e stack cells = (
    ap Ok e,
    record { machine = refl; stack = laid-again (stack_words es) l.stack stack; cells = cells; output = r.output },
    stack,
  )

  -- the place and the stack change, the cells stay
  pub goto-carried : (p : Atom) (es : List Entry) {m : Machine} {st : List ℤ}
      → m ≡ machine p.number p.label (length es) (length s.lines) → st ≡ laid (stack_words es) l.stack
      → Simulates env o₀ (machine_of s) l o (goto s p es) (after (Words.carried m) (lent st l.cells))
  goto-carried p es e g = carried p es s.memory e g r.cells

  -- a value stands in place of one that is dropped, and the place is the next
  pub refill-carried : (es : List Entry) {m : Machine} (n : ℤ) (label p below : ℕ) → Signed 64 (s.pc.number +ℤ pos 1)
      → 768 ≤ length l.stack → length es < stack_limit → Held es l.stack
      → length es ≡ length s.stack - below - 1 → (slot_at l.stack (length s.stack) below).kind ≡ Value
      → m ≡ machine s.pc.number s.pc.label (length es) (length s.lines)
      → Simulates env o₀ (machine_of s) l o (next s p (value (atom n label) ∷ es)) (with_stack l (refilling m l.stack n label p))
  refill-carried es n label p below on space fits held depth kind e =
      goto-carried _ _
      (rw (e, pushed-entry _ _ (length es) _ fits) (following-next _ _ _ _ p on))
      (rw e (stack-refilled _ _ _ n label (length s.stack) below es fits space held depth kind))
