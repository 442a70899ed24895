-- What holds of every number and of every label of a state: that labels are in range, that numbers have 64 bits.
use Rattle.std.specs.Prelude.{ℕ, ◌≡◌, Bool, true, false, List, [], ◌∷◌, ℤ, pos, ◌+ℤ◌, leb}
use Rattle.word.specs.Wrap.{Signed}
use Rattle.label.specs.Label.{InRange}
use Rattle.program.specs.declared.Command.{Command}
use Rattle.program.specs.declared.Command.TheVariants.{Push, Bnz}
use Rattle.program.specs.Command.{supplies}
use Rattle.machine.specs.Atom.{Atom, Entry, value, frame, Line}
use Rattle.machine.specs.Rule.{Input, present, missing, Key, allowed, Policy}
use Rattle.machine.specs.State.{State}
use Rattle.machine.specs.Stopped.{CommandAt}

-- of every element of a list
abbrev pub Each : {A : Type 0} → (A → Type 0) → List A → Type 0
Each P [] = Unit
Each P (a ∷ l) = P a × Each P l

-- a state: N of its numbers, L of its labels
module _ (N : ℤ → Type 0) (L : ℕ → Type 0) where
  abbrev pub AtomHas : Atom → Type 0
  AtomHas a = N a.number × L a.label

  abbrev pub EntryHas : Entry → Type 0
  EntryHas (value a) = AtomHas a
  EntryHas (frame owes a) = AtomHas a

  abbrev pub LineHas : Line → Type 0
  LineHas l = N l.number × L l.label

  pub record Holds (s : State) : Type 0 where
    pub pc : AtomHas s.pc
    pub stack : Each EntryHas s.stack
    pub memory : Each AtomHas s.memory
    pub lines : Each LineHas s.lines

-- every label is in range
abbrev pub LabelsInRange : State → Type 0
LabelsInRange s = Holds (λ n. Unit) InRange s

-- every number is a signed one of 64 bits
abbrev pub NumbersSigned : State → Type 0
NumbersSigned s = Holds (Signed 64) (λ l. Unit) s

-- a policy: asked with labels that have L, it answers with such
abbrev pub InputHas : (ℕ → Type 0) → Input → Type 0
InputHas L (present l) = L l
InputHas L missing = Unit

pub record KeyHas (L : ℕ → Type 0) (k : Key) : Type 0 where
  pub pc : L k.pc
  pub input1 : InputHas L k.input1
  pub input2 : InputHas L k.input2
  pub input3 : InputHas L k.input3

-- an input as its command has it: a label in range, or missing
abbrev pub Marked : (supplied : Bool) → Input → Type 0
Marked true (present l) = InRange l
Marked true missing = ⊥
Marked false (present l) = ⊥
Marked false missing = Unit {0}

-- a key that has the marks of its command, and labels in range
pub record WellMarked (k : Key) : Type 0 where
  pub pc : InRange k.pc
  pub input1 : Marked (leb 1 (supplies k.opcode)) k.input1
  pub input2 : Marked (leb 2 (supplies k.opcode)) k.input2
  pub input3 : Marked (leb 3 (supplies k.opcode)) k.input3

abbrev pub Answers : (ℕ → Type 0) → Policy → Type 0
Answers L π = (k : Key) (p r : ℕ) → KeyHas L k → π k ≡ allowed p r → L p × L r

-- a program: N of its operands, and of the places that its commands go on to
pub record ProgramHas (N : ℤ → Type 0) (cs : List Command) : Type 0 where
  pub pushed : (z n : ℤ) → CommandAt cs z (Push n) → N n
  pub branched : (z n : ℤ) → CommandAt cs z (Bnz n) → N (z +ℤ n)
  pub following : (z : ℤ) (c : Command) → CommandAt cs z c → N (z +ℤ pos 1)
