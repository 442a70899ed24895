-- One command on lent words: what it finds, what a ruler says of it, what it does; then its line, and the end line.
use Rattle.std.specs.Prelude.{ℕ, Bool, false, ℤ, pos, set, eqb, Err, None, Ok, Option, Result, Some}
use Rattle.word.specs.Choose.{choose}
use Rattle.word.specs.Wrap.{residue}
use Rattle.word.specs.Number.{natural_of}
use Rattle.machine.specs.Atom.{Line, number_line, end_line}
use Rattle.machine.specs.declared.Stop.{Stop}
use Rattle.machine.specs.declared.Stop.TheVariants.{End, Denial}
use Rattle.machine.specs.Environment.{Environment, barrier}
use Rattle.machine.specs.Rule.{Verdict, denied, allowed, Ruling}
use Rattle.stack.specs.declared.Machine.{Machine}
use Rattle.stack.specs.declared.Printed.{Printed}
use Rattle.stack.specs.Words.{Stepping, printed}
use Rattle.step.specs.declared.find.Inputs.{Inputs}
use Rattle.step.specs.Lent.{Lent, After, after}
use Rattle.step.specs.Find.{Found, find_of}
use Rattle.step.specs.Effect.{effect_of}
use Rattle.engine.specs.declared.Went.{Went}
use Rattle.engine.specs.Memory.{Output, output}
use Rattle.engine.specs.Layout.{kind_word}

-- what a ruler on words is asked with: the command's code word, the place label, and what the command found
pub record Asked : Type 0 where
  pub code : ℤ
  pub pc : ℕ
  pub inputs : Inputs

abbrev pub WordRuler : Type 0 → Type 0
WordRuler R = R → Asked → Ruling R

-- what a command leaves of the record and the lent runs, and what the ruler keeps
pub record Acted (R : Type 0) : Type 0 where
  pub after : After
  pub ruler : R

abbrev pub acted : {R : Type 0} → After → R → Acted R
acted a u = record { after = a; ruler = u }

module _ {R : Type 0} (ρ : WordRuler R) (word operand : ℤ) (m : Machine) (u : R) (l : Lent) where
  abbrev pub ruled : Verdict → After
  ruled denied = after (Err Denial) l
  ruled (allowed p r) = effect_of p r m (residue 64 word) operand l

  abbrev pub ruling : Inputs → Ruling R
  ruling i = ρ u (record { code = word; pc = m.label.0; inputs = i })

  abbrev pub act_found : Found → Acted R
  act_found (Ok i) = acted (ruled (ruling i).verdict) (ruling i).ruler
  act_found (Err stop) = acted (after (Err stop) l) u

  unfoldable pub act_of : Acted R
  act_of = act_found (find_of (residue 64 word) operand m l)

-- where a run stands after a command, or its stop, and the output space
pub record Emitted : Type 0 where
  pub went : Result Machine Stop
  pub output : Output

abbrev pub emitted : Result Machine Stop → Output → Emitted
emitted w o = record { went = w; output = o }

-- the words of a line at an index
abbrev pub line_at : ℕ → Line → Output → Output
line_at i x o =
    output
    (set o.numbers i x.number)
    (set o.labels i (pos x.label))
    (set o.kinds i (kind_word x.kind))
    (set o.pages i x.page)

-- a line that nothing holds back is written after those that are, and then the run stands at `on`; else it is stopped and nothing changes
abbrev pub written_unless : Option Stop → Environment → Machine → Line → Machine → Output → Emitted
written_unless None env m x on o = emitted (Ok (printed on env.room)) (line_at m.lines x o)
written_unless (Some stop) env m x on o = emitted (Err stop) o

unfoldable pub write_of : Environment → Machine → Line → Machine → Output → Emitted
write_of env m x on o = written_unless (barrier env m.lines x) env m x on o

-- the line that a command hands back, if it has one
abbrev pub emit_line : Environment → Machine → Machine → Option Printed → Output → Emitted
emit_line env m on None o = emitted (Ok on) o
emit_line env m on (Some x) o = write_of env m (number_line x.page x.number x.label.0) on o

unfoldable pub emit_of : Environment → Machine → Stepping → Output → Emitted
emit_of env m (Ok r) o = emit_line env m r.machine r.line o
emit_of env m (Err stop) o = emitted (Err stop) o

-- where a run ends, and the output space
abbrev pub went : Machine → Stop → Went
went m stop = record { machine = m; stop = stop }

pub record Closed : Type 0 where
  pub went : Went
  pub output : Output

abbrev pub closed : Went → Output → Closed
closed w o = record { went = w; output = o }

-- at the end of the program the end line and stop 0, else another stop
abbrev pub is_count : Option ℕ → ℕ → Bool
is_count (Some n) count = eqb n count
is_count None count = false

abbrev pub ends_at : Machine → Result Machine Stop → Went
ends_at m (Ok on) = went on End
ends_at m (Err stop) = went m stop

unfoldable pub end_or : (count : ℕ) → Environment → Machine → (other : Stop) → Output → Closed
end_or count env m other o =
    let e = write_of env m (end_line m.label.0) m o in
    choose (is_count (natural_of m.pc.0) count) (closed (ends_at m e.went) e.output) (closed (went m other) o)
