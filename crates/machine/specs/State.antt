-- The state of a run, and the numbers of its stops.
use Rattle.std.specs.Prelude.{ℕ, List, [], pos}
use Rattle.label.specs.Label.{bottom}
use Rattle.machine.specs.Atom.{Atom, Entry, Line}
use Rattle.machine.specs.declared.Stop.{Stop}
use Rattle.machine.specs.declared.Stop.TheVariants.{End, FuelSpent, PcOutside, ValueMissing, FrameMissing, WrongReturn, AddressOutside}
use Rattle.machine.specs.declared.Stop.TheVariants.{Denial, NotCleared, Overflow, StackFull, OutputFull}

pub record State : Type 0 where
  -- the place: the number of the next command, with the place label P
  pub pc : Atom
  -- the stack, top first
  pub stack : List Entry
  -- the cells, cell 0 first
  pub memory : List Atom
  -- the lines written, the first first
  pub lines : List Line
  -- the commands carried out
  pub steps : ℕ

-- a run starts at place 0, label 0, empty stack, no lines
abbrev pub start : List Atom → State
start cells = record { pc = record { number = pos 0; label = bottom }; stack = []; memory = cells; lines = []; steps = 0 }

-- the numbers of the stops: document 01's, 9 of request U2, 10 of U5 and 11 of U6
abbrev pub stop_number : Stop → ℕ
stop_number End = 0
stop_number FuelSpent = 1
stop_number PcOutside = 2
stop_number ValueMissing = 3
stop_number FrameMissing = 4
stop_number AddressOutside = 5
stop_number Denial = 6
stop_number StackFull = 7
stop_number OutputFull = 8
stop_number Overflow = 9
stop_number NotCleared = 10
stop_number WrongReturn = 11
