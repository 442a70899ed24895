-- What a result says of a run: of its steps, and for each stop of the state that it stopped in. proofs/Run.antt shows
-- it of every run.
use Rattle.std.specs.Prelude.{ℕ, ◌+◌, ◌≤◌, ◌≡◌, ◌⊎◌, Bool, true, false, List, [], ◌∷◌, ◌++◌, ℤ, pos, ◌+ℤ◌, ◌-ℤ◌, length, eqb, None, Some}
use Rattle.word.specs.Wrap.{Signed}
use Rattle.program.specs.declared.Command.{Command}
use Rattle.program.specs.declared.Command.TheVariants.{Add, Sub, Output, OutputTo}
use Rattle.program.specs.Command.{opcode, push}
use Rattle.machine.specs.Atom.{Atom, Entry, value, Line, number_line, end_line}
use Rattle.machine.specs.Rule.{Policy, missing, denied, allowed}
use Rattle.machine.specs.State.{State, stop_number}
use Rattle.machine.specs.declared.Stop.{Stop}
use Rattle.machine.specs.declared.Stop.TheVariants.{End, FuelSpent, PcOutside, ValueMissing, FrameMissing, WrongReturn, AddressOutside, Denial, NotCleared, Overflow, StackFull, OutputFull}
use Rattle.machine.specs.Environment.{Environment, cleared}
use Rattle.machine.specs.Step.{Request, halt, ask, request, of, key_of, stack_limit}
use Rattle.machine.specs.Run.{command_at, Result}

-- the steps of a run from s with the given fuel: at most that many, and that many where it is spent
pub record Counted {R : Type 0} (fuel : ℕ) (s : State) (r : Result R) : Type 0 where
  pub least : s.steps ≤ r.state.steps
  pub most : r.state.steps ≤ s.steps + fuel
  pub all : r.stop ≡ FuelSpent → r.state.steps ≡ s.steps + fuel

-- the command at a place, and that there is none
abbrev pub CommandAt : List Command → ℤ → Command → Type 0
CommandAt cs z c = command_at cs z ≡ Some c

abbrev pub NoCommandAt : List Command → ℤ → Type 0
NoCommandAt cs z = command_at cs z ≡ None

-- the policy does not allow what is asked
abbrev pub Denied : Policy → Command → State → Request → Type 0
Denied π c s (halt x) = ⊥
Denied π c s (ask l1 l2 l3 k) = π (key_of c s l1 l2 l3) ≡ denied

-- the command at the place of a state has a property
abbrev pub Here : List Command → State → (Command → Type 0) → Type 0
Here cs s P = (c : Command) × CommandAt cs s.pc.number c × P c

-- the place equals the number of commands
abbrev pub AtTheEnd : List Command → State → Type 0
AtTheEnd cs s = s.pc.number ≡ pos (length cs)

-- the last line that is written
abbrev pub LastLine : State → Line → Type 0
LastLine s l = (before : List Line) × (s.lines ≡ before ++ (l ∷ []))

-- the commands that make a number of two, and the whole number that each makes of top and next
pub data Makes : Command → (ℤ → ℤ → ℤ) → Type 0 where
  sum : Makes Add ◌+ℤ◌
  difference : Makes Sub ◌-ℤ◌

-- two values on top, of which the command makes a number
pub record Made (c : Command) (s : State) : Type 0 where
  pub make : ℤ → ℤ → ℤ
  pub makes : Makes c make
  pub top : Atom
  pub next : Atom
  pub rest : List Entry
  pub found : s.stack ≡ value top ∷ value next ∷ rest

-- that number; and that it has no 64 bits
abbrev pub number : {c : Command} {s : State} → Made c s → ℤ
number m = m.make m.top.number m.next.number

abbrev pub Overflows : Command → State → Type 0
Overflows c s = (m : Made c s) × (Signed 64 (number m) → ⊥)

-- the commands that write a line, and its page
pub data Writes : Command → ℤ → Type 0 where
  plain : Writes Output (pos 0)
  to : {page : ℤ} → Writes (OutputTo page) page

-- the line that such a command offers: the number on top, with the result label that its rule gives
pub record Offers (π : Policy) (s : State) (l : Line) (c : Command) : Type 0 where
  pub page : ℤ
  pub writes : Writes c page
  pub top : Atom
  pub rest : List Entry
  pub found : s.stack ≡ value top ∷ rest
  pub pc : ℕ
  pub label : ℕ
  pub ruled : π (key_of c s (of top) missing missing) ≡ allowed pc label
  pub line : l ≡ number_line page top.number label

-- the line that is to go out next: what the command at the place offers, or the end line
abbrev pub Due : Policy → List Command → State → Line → Type 0
Due π cs s l = Here cs s (Offers π s l) ⊎ (AtTheEnd cs s × (l ≡ end_line s.pc.label))

-- the state s, in which the run stopped, for each stop
abbrev pub Stopped : Policy → Environment → List Command → State → Stop → Type 0
Stopped π env cs s End = AtTheEnd cs s × LastLine s (end_line s.pc.label)
Stopped π env cs s FuelSpent = AtTheEnd cs s → ⊥
Stopped π env cs s PcOutside = NoCommandAt cs s.pc.number × (AtTheEnd cs s → ⊥)
Stopped π env cs s ValueMissing = Here cs s (λ c. request env c s ≡ halt ValueMissing)
Stopped π env cs s FrameMissing = Here cs s (λ c. request env c s ≡ halt FrameMissing)
Stopped π env cs s WrongReturn = Here cs s (λ c. request env c s ≡ halt WrongReturn)
Stopped π env cs s AddressOutside = Here cs s (λ c. request env c s ≡ halt AddressOutside)
Stopped π env cs s Denial = Here cs s (λ c. Denied π c s (request env c s))
Stopped π env cs s NotCleared = (l : Line) × Due π cs s l × (cleared env l ≡ false)
Stopped π env cs s Overflow = Here cs s (λ c. Overflows c s)
Stopped π env cs s StackFull = Here cs s (λ c. (opcode c ≡ push) × (stack_limit ≤ length s.stack))
Stopped π env cs s OutputFull =
    (l : Line) × Due π cs s l × (cleared env l ≡ true) × (env.room ≤ length s.lines)

-- is it stop 6?
abbrev pub denies : Stop → Bool
denies x = eqb (stop_number x) 6
