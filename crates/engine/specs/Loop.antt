-- The run on lent words, as the code of an engine goes round.
use Rattle.std.specs.Prelude.{ℕ, zero, suc, ◌+◌, ◌*◌, List, ℤ, pos, get_or, Err, None, Ok, Option, Result, Some}
use Rattle.word.specs.Number.{index_of}
use Rattle.machine.specs.declared.Stop.{Stop}
use Rattle.machine.specs.declared.Stop.TheVariants.{FuelSpent, PcOutside}
use Rattle.machine.specs.Environment.{Environment}
use Rattle.stack.specs.declared.Machine.{Machine}
use Rattle.step.specs.Lent.{Lent}
use Rattle.engine.specs.declared.Ran.{Ran}
use Rattle.engine.specs.Memory.{Output}
use Rattle.engine.specs.Act.{WordRuler, Acted, act_of, emit_of, Closed, end_or}

-- where a run ended
abbrev pub ran : Machine → Stop → ℕ → Ran
ran m stop steps = record { machine = m; stop = stop; steps = steps }

pub record Done (R : Type 0) : Type 0 where
  pub ran : Ran
  pub ruler : R
  pub lent : Lent
  pub output : Output

abbrev pub done : {R : Type 0} → Ran → R → Lent → Output → Done R
done r u l o = record { ran = r; ruler = u; lent = l; output = o }

-- the words of the command at an index
abbrev pub word_at : List ℤ → ℕ → ℤ
word_at program i = get_or program (2 * i) (pos 0)

abbrev pub operand_at : List ℤ → ℕ → ℤ
operand_at program i = get_or program (2 * i + 1) (pos 0)

-- as the last line and the stop left it
abbrev pub halted : {R : Type 0} → Closed → R → Lent → ℕ → Done R
halted e u l steps = done (ran e.went.machine e.went.stop steps) u l e.output

-- on, after a command that was carried out; stopped, the run ends where it stood
abbrev pub go_on : {R : Type 0} → Result Machine Stop → Machine → R → Lent → Output → ℕ → (Machine → R → Lent → Output → Done R) → Done R
go_on (Ok on) m u l o steps go = go on u l o
go_on (Err stop) m u l o steps go = done (ran m stop steps) u l o

abbrev pub onward : {R : Type 0} → Environment → Acted R → Machine → Output → ℕ → (Machine → R → Lent → Output → Done R) → Done R
onward env a m o steps go = let e = emit_of env m a.after.stepped o in go_on e.went m a.ruler a.after.lent e.output steps go

module _ {R : Type 0} (ρ : WordRuler R) (count : ℕ) (env : Environment) (program : List ℤ) where
  abbrev pub at_place : Option ℕ → ℕ → Machine → R → Lent → Output → (Machine → R → Lent → Output → Done R) → Done R
  at_place None steps m u l o go = halted (end_or count env m PcOutside o) u l steps
  at_place (Some i) steps m u l o go = onward env (act_of ρ (word_at program i) (operand_at program i) m u l) m o steps go

  -- `fuel` more steps, after `steps`
  unfoldable pub loop_of : ℕ → ℕ → Machine → R → Lent → Output → Done R
  loop_of zero steps m u l o = halted (end_or count env m FuelSpent o) u l steps
  loop_of (suc fuel) steps m u l o =
      at_place (index_of m.pc.0 count) steps m u l o (λ m' u' l' o'. loop_of fuel (steps + 1) m' u' l' o')
