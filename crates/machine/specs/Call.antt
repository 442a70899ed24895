-- What a writer of sheets may rely on (request U6): a call that returns leaves the stack below its arguments as it was, with the result on it
-- where one is due. proofs/Call.antt shows it.
use Rattle.std.specs.Prelude.{ℕ, ◌≡◌, ◌⊎◌, Bool, true, false, List, ◌∷◌, ◌++◌, ℤ, pos, ◌+ℤ◌, length, ltb}
use Rattle.program.specs.declared.Command.{Command}
use Rattle.program.specs.declared.Command.TheVariants.{Call, CallN}
use Rattle.program.specs.Command.{arguments_of, results_of}
use Rattle.machine.specs.Atom.{Atom, Entry, value, frame}
use Rattle.machine.specs.Rule.{Policy}
use Rattle.machine.specs.State.{State}
use Rattle.machine.specs.Environment.{Environment}
use Rattle.machine.specs.Step.{stepped, execute}
use Rattle.machine.specs.Run.{step}

-- the commands that call: how many arguments stay, how many results are due
pub data Calls : Command → (arguments results : ℕ) → Type 0 where
  plain : Calls Call 1 0
  counted : {z : ℤ} → Calls (CallN z) (arguments_of z) (results_of z)

-- from one state to another, step by step; each step is under some policy, whoever rules
pub data Path (env : Environment) (cs : List Command) : State → State → Type 0 where
  here : {s : State} → Path env cs s s
  next : {s t u : State} (π : Policy) → step π env cs s ≡ stepped t → Path env cs t u → Path env cs s u

-- the frame is still there, and under it everything as it was
abbrev pub Inside : Entry → List Entry → State → Type 0
Inside f rest s = (above : List Entry) × (s.stack ≡ above ++ (f ∷ rest))

-- a return: at the place after the call the stack is as it was, with a value on it where a result was due
abbrev pub Brought : Bool → List Entry → List Entry → Type 0
Brought true rest es = (v : Atom) × (es ≡ value v ∷ rest)
Brought false rest es = es ≡ rest

pub record Returned (s : State) (owes : Bool) (rest : List Entry) (t : State) : Type 0 where
  pub place : t.pc.number ≡ s.pc.number +ℤ pos 1
  pub stack : Brought owes rest t.stack

-- a call from the state s to the state t: under the target and the arguments, which stay, is the rest
pub record Called (s t : State) (n results : ℕ) : Type 0 where
  pub target : Atom
  pub arguments : List Entry
  pub rest : List Entry
  pub count : length arguments ≡ n
  pub found : s.stack ≡ value target ∷ arguments ++ rest
  pub label : ℕ
  pub frame_is : Entry
  pub framed : frame_is ≡ frame (ltb 0 results) (record { number = s.pc.number +ℤ pos 1; label = label })
  pub left : t.stack ≡ arguments ++ (frame_is ∷ rest)
  pub entered : t.pc.number ≡ target.number

-- whatever states follow, the frame is still there, or there was a moment when it had just returned
abbrev pub CallReturns : Type 0
CallReturns =
    (π : Policy) (env : Environment) (cs : List Command) (c : Command) (n results : ℕ) (s t : State) → Calls c n results
    → execute π env c s ≡ stepped t
    → (e : Called s t n results) × ((u : State) → Path env cs t u
    → Inside e.frame_is e.rest u
    ⊎ ((v : State) × Path env cs t v × Path env cs v u × Returned s (ltb 0 results) e.rest v))
