-- What a command finds on lent words: the labels of its inputs, or a stop.
use Rattle.std.specs.Prelude.{ℕ, zero, suc, Bool, true, false, List, ℤ, ltb, eqb, Err, None, Ok, Option, Result, Some}
use Rattle.word.specs.Choose.{choose}
use Rattle.label.specs.Label.{bottom}
use Rattle.program.specs.Command.{arguments_of}
use Rattle.machine.specs.declared.Stop.{Stop}
use Rattle.machine.specs.declared.Stop.TheVariants.{ValueMissing, FrameMissing, WrongReturn, AddressOutside}
use Rattle.stack.specs.declared.Machine.{Machine}
use Rattle.stack.specs.declared.Slot.{Slot}
use Rattle.stack.specs.Words.{by_kind, slot_at}
use Rattle.step.specs.declared.find.Inputs.{Inputs}
use Rattle.step.specs.Lent.{Lent}
use Rattle.step.specs.Cell.{cell_at, label_of}
use Rattle.label.specs.declared.Label.{Label}

-- so many inputs, and their labels; a missing one has the empty label
abbrev pub inputs : ℕ → ℕ → ℕ → ℕ → Inputs
inputs n a b c =
    record { count = n; input1 = record { 0 = a }; input2 = record { 0 = b }; input3 = record { 0 = c } }

abbrev pub Found : Type 0
Found = Result Inputs Stop

abbrev pub found : ℕ → ℕ → ℕ → ℕ → Found
found n a b c = Ok (inputs n a b c)

abbrev pub is_value : Slot → Bool
is_value s = by_kind s.kind true false false false

-- an entry that has to be a value, else stop 3
abbrev pub value_at : Slot → Result Slot Stop
value_at s = choose (is_value s) (Ok s) (Err ValueMissing)

-- the topmost so many entries of a stack are values
unfoldable pub top_values : List ℤ → (depth : ℕ) → ℕ → Bool
top_values stack depth zero = true
top_values stack depth (suc n) = choose (is_value (slot_at stack depth n)) (top_values stack depth n) false

-- a frame that owes no result, one that owes one; one of the other kind is stop 11, anything else stop 4
abbrev pub if_frame : Slot → Found → Found
if_frame s f = by_kind s.kind (Err FrameMissing) f (Err WrongReturn) (Err FrameMissing)

abbrev pub if_owing : Slot → Found → Found
if_owing s f = by_kind s.kind (Err FrameMissing) (Err WrongReturn) f (Err FrameMissing)

module _ (m : Machine) (stack : List ℤ) where
  -- the top, the next
  abbrev pub first : Slot
  first = slot_at stack m.depth 0

  abbrev pub second : Slot
  second = slot_at stack m.depth 1

  -- a value on top; two of them
  abbrev pub if_value : Found → Found
  if_value f = choose (is_value first) f (Err ValueMissing)

  abbrev pub if_values : Found → Found
  if_values f = choose (is_value second) (if_value f) (Err ValueMissing)

  -- Pop, Output, Jump, Bnz, OutputTo; Add, Sub; Call and CallN, with so many arguments; Ret; RetV
  unfoldable pub one_value : Found
  one_value = if_value (found 1 first.label.0 bottom bottom)

  unfoldable pub two_values : Found
  two_values = if_values (found 2 first.label.0 second.label.0 bottom)

  unfoldable pub call_values : ℕ → Found
  call_values n = choose (top_values stack m.depth (suc n)) (found 1 first.label.0 bottom bottom) (Err ValueMissing)

  unfoldable pub one_frame : Found
  one_frame = if_frame first (found 1 first.label.0 bottom bottom)

  unfoldable pub value_and_frame : Found
  value_and_frame = if_value (if_owing second (found 2 first.label.0 second.label.0 bottom))

module _ (m : Machine) (l : Lent) where
  -- the label of the cell at the address on top
  abbrev pub addressed : Option Label
  addressed = label_of l.cells (cell_at (first m l.stack).number l.cells.values)

  abbrev pub load_finding : Option Label → Found
  load_finding None = Err AddressOutside
  load_finding (Some label) = found 2 (first m l.stack).label.0 label.0 bottom

  abbrev pub store_finding : Option Label → Found
  store_finding None = Err AddressOutside
  store_finding (Some label) = found 3 (first m l.stack).label.0 (second m l.stack).label.0 label.0

  unfoldable pub load_cell : Found
  load_cell = if_value m l.stack (load_finding addressed)

  unfoldable pub store_cell : Found
  store_cell = if_values m l.stack (store_finding addressed)

-- by the code of the command, as the code of this crate chooses
unfoldable pub find_of : ℕ → ℤ → Machine → Lent → Found
find_of code operand m l =
    choose (ltb code 6)
    (choose (ltb code 3) (two_values m l.stack)
    (choose (ltb code 5) (one_value m l.stack) (found 0 bottom bottom bottom)))
    (choose (ltb code 8)
    (choose (eqb code 6) (load_cell m l) (store_cell m l))
    (choose (ltb code 10) (one_value m l.stack)
    (choose (ltb code 12)
    (choose (eqb code 10) (call_values m l.stack 1) (one_frame m l.stack))
    (choose (ltb code 14)
    (choose (eqb code 12) (one_value m l.stack) (call_values m l.stack (arguments_of operand)))
    (value_and_frame m l.stack)))))
