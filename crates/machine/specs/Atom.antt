-- Atoms, stack entries and output lines.
use Rattle.std.specs.Prelude.{ℕ, Bool, ℤ, pos}
use Rattle.machine.specs.declared.Kind.{Kind}
use Rattle.machine.specs.declared.Kind.TheVariants.{Number, End}

-- an atom: a number with a label
pub record Atom : Type 0 where
  pub number : ℤ
  pub label : ℕ

-- a stack entry: a value, or a return frame, which is an atom that was a place; request U6: a frame knows whether a result is due
pub data Entry : Type 0 where
  value : Atom → Entry
  frame : Bool → Atom → Entry

-- a line: its page, which is 0 to 15, its kind, its number and its label; two lines are equal exactly if all four are
pub record Line : Type 0 where
  pub page : ℤ
  pub kind : Kind
  pub number : ℤ
  pub label : ℕ

-- an Output's or OutputTo's: on a page the number that it drops, with its result label
abbrev pub number_line : ℤ → ℤ → ℕ → Line
number_line page n l = record { page = page; kind = Number; number = n; label = l }

-- the last line of a run that met stop 0: "end" on page 0, its number 0, with the place label
abbrev pub end_line : ℕ → Line
end_line p = record { page = pos 0; kind = End; number = pos 0; label = p }
