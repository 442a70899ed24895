-- One step: what a command needs, what the policy says of it, what it does.
use Rattle.std.specs.Prelude.{ℕ, zero, suc, Bool, true, false, List, [], ◌∷◌, ◌++◌, ℤ, pos, negsuc, ◌+ℤ◌, ◌-ℤ◌, length, set, ltb, None, Option, Some}
use Rattle.word.specs.Exact.{is_signed}
use Rattle.program.specs.declared.Command.{Command}
use Rattle.program.specs.declared.Command.TheVariants.{Add, Sub, Pop, Output, Push, Load, Store, Jump, Bnz, Call, Ret, OutputTo, CallN, RetV}
use Rattle.program.specs.Command.{opcode, arguments_of, results_of}
use Rattle.machine.specs.Atom.{Atom, Entry, value, frame, Line, number_line}
use Rattle.machine.specs.Rule.{Input, present, missing, Key, Verdict, denied, allowed, Policy}
use Rattle.machine.specs.State.{State}
use Rattle.machine.specs.declared.Stop.{Stop}
use Rattle.machine.specs.declared.Stop.TheVariants.{ValueMissing, FrameMissing, WrongReturn, AddressOutside, Denial, Overflow, StackFull}
use Rattle.machine.specs.Environment.{Environment, barrier}

-- the largest number of stack entries
abbrev pub stack_limit : ℕ
stack_limit = 256

-- a step is carried out and gives the next state, or the command is stopped
pub data Outcome : Type 0 where
  stopped : Stop → Outcome
  stepped : State → Outcome

-- what a command comes to before its rule: a stop, or its inputs' labels and what it does under the rule's two labels, first the new place
-- label
pub data Request : Type 0 where
  halt : Stop → Request
  ask : Input → Input → Input → (ℕ → ℕ → Outcome) → Request

-- ════════════════════════════════════════════════════════════════════════════════════════════
-- What a command needs
-- ════════════════════════════════════════════════════════════════════════════════════════════

-- a value on top
abbrev pub with_value : List Entry → (Atom → List Entry → Request) → Request
with_value [] k = halt ValueMissing
with_value (value a ∷ rest) k = k a rest
with_value (frame owes a ∷ rest) k = halt ValueMissing

-- two values on top
abbrev pub with_values : List Entry → (Atom → Atom → List Entry → Request) → Request
with_values s k = with_value s (λ top below. with_value below (λ next rest. k top next rest))

-- so many values on top, the arguments of a call
abbrev pub with_arguments : ℕ → List Entry → (List Entry → List Entry → Request) → Request
with_arguments zero s k = k [] s
with_arguments (suc n) s k = with_value s (λ a below. with_arguments n below (λ arguments rest. k (value a ∷ arguments) rest))

-- a frame that owes what is returned: a result, or none
abbrev pub matching : (returns owes : Bool) → Request → Request
matching true true q = q
matching true false q = halt WrongReturn
matching false true q = halt WrongReturn
matching false false q = q

-- a frame on top, for a return with a result or without
abbrev pub with_frame : (returns : Bool) → List Entry → (Atom → List Entry → Request) → Request
with_frame returns [] k = halt FrameMissing
with_frame returns (value a ∷ rest) k = halt FrameMissing
with_frame returns (frame owes a ∷ rest) k = matching returns owes (k a rest)

-- a cell at an address
abbrev pub with_element : List Atom → ℕ → (Atom → Request) → Request
with_element [] i k = halt AddressOutside
with_element (a ∷ cells) zero k = k a
with_element (a ∷ cells) (suc i) k = with_element cells i k

abbrev pub with_cell : List Atom → ℤ → (ℕ → Atom → Request) → Request
with_cell cells (pos i) k = with_element cells i (k i)
with_cell cells (negsuc i) k = halt AddressOutside

-- a number of 64 bits, room on the stack
abbrev pub provided : Bool → Stop → Outcome → Outcome
provided true s o = o
provided false s o = stopped s

-- a line that nothing holds back
abbrev pub unless_barred : Option Stop → Outcome → Outcome
unless_barred None o = o
unless_barred (Some x) o = stopped x

-- ════════════════════════════════════════════════════════════════════════════════════════════
-- What it does
-- ════════════════════════════════════════════════════════════════════════════════════════════

-- the atom n with label l
abbrev pub atom : ℤ → ℕ → Atom
atom n l = record { number = n; label = l }

-- carried out: a place and a stack, the rest as it was, one step more
abbrev pub goto : State → Atom → List Entry → Outcome
goto s p stack = stepped (record { pc = p; stack = stack; memory = s.memory; lines = s.lines; steps = suc s.steps })

-- the same at the next place, with the place label p
abbrev pub next : State → ℕ → List Entry → Outcome
next s p stack = goto s (atom (s.pc.number +ℤ pos 1) p) stack

-- Store's effect: the cell at an address
abbrev pub storing : State → ℕ → List Entry → ℕ → Atom → Outcome
storing s p stack i a =
    stepped (record {
      pc = atom (s.pc.number +ℤ pos 1) p;
      stack = stack;
      memory = set s.memory i a;
      lines = s.lines;
      steps = suc s.steps;
    })

-- Output's and OutputTo's effect: one line more
abbrev pub printing : State → ℕ → List Entry → Line → Outcome
printing s p stack l =
    stepped (record {
      pc = atom (s.pc.number +ℤ pos 1) p;
      stack = stack;
      memory = s.memory;
      lines = s.lines ++ (l ∷ []);
      steps = suc s.steps;
    })

-- Bnz's target: place + operand if top is not 0
abbrev pub branch : ℤ → ℤ → ℤ → ℤ
branch (pos zero) place operand = place +ℤ pos 1
branch (pos (suc n)) place operand = place +ℤ operand
branch (negsuc n) place operand = place +ℤ operand

-- ════════════════════════════════════════════════════════════════════════════════════════════
-- The commands
-- ════════════════════════════════════════════════════════════════════════════════════════════

-- the input that an atom is
abbrev pub of : Atom → Input
of a = present a.label

-- Add and Sub: the whole number that is made of top and next, where it is a signed number of 64 bits
abbrev pub making : State → (ℤ → ℤ → ℤ) → Request
making s make =
    with_values s.stack (λ a b rest.
    ask (of a) (of b) missing (λ p r.
    provided (is_signed 64 (make a.number b.number)) Overflow
    (next s p (value (atom (make a.number b.number) r) ∷ rest))))

-- Output and OutputTo: a line on a page, where nothing holds it back
abbrev pub outputting : Environment → State → ℤ → Request
outputting env s page =
    with_value s.stack (λ a rest.
    ask (of a) missing missing (λ p r.
    let line = number_line page a.number r in
    unless_barred (barrier env (length s.lines) line) (printing s p rest line)))

-- Call and CallN: so many arguments stay, in their order, above the frame, to which so many results are due
abbrev pub calling : State → (arguments results : ℕ) → Request
calling s n results =
    with_value s.stack (λ a below.
    with_arguments n below (λ arguments rest.
    ask (of a) missing missing (λ p r.
    goto s (atom a.number p) (arguments ++ (frame (ltb 0 results) (atom (s.pc.number +ℤ pos 1) r) ∷ rest)))))

-- what each command comes to
unfoldable pub request : Environment → Command → State → Request
request env Add s = making s ◌+ℤ◌
request env Sub s = making s ◌-ℤ◌
request env Pop s =
    with_value s.stack (λ a rest.
    ask (of a) missing missing (λ p r. next s p rest))
request env Output s = outputting env s (pos 0)
request env (Push n) s =
    ask missing missing missing (λ p r.
    provided (ltb (length s.stack) stack_limit) StackFull
    (next s p (value (atom n r) ∷ s.stack)))
request env Load s =
    with_value s.stack (λ a rest.
    with_cell s.memory a.number (λ i c.
    ask (of a) (of c) missing (λ p r. next s p (value (atom c.number r) ∷ rest))))
request env Store s =
    with_values s.stack (λ a b rest.
    with_cell s.memory a.number (λ i c.
    ask (of a) (of b) (of c) (λ p r. storing s p rest i (atom b.number r))))
request env Jump s =
    with_value s.stack (λ a rest.
    ask (of a) missing missing (λ p r. goto s (atom a.number p) rest))
request env (Bnz n) s =
    with_value s.stack (λ a rest.
    ask (of a) missing missing (λ p r. goto s (atom (branch a.number s.pc.number n) p) rest))
request env Call s = calling s 1 0
request env Ret s =
    with_frame false s.stack (λ a rest.
    ask (of a) missing missing (λ p r. goto s (atom a.number p) rest))
request env (OutputTo page) s = outputting env s page
request env (CallN z) s = calling s (arguments_of z) (results_of z)
request env RetV s =
    with_value s.stack (λ v below.
    with_frame true below (λ a rest.
    ask (of v) (of a) missing (λ p r. goto s (atom a.number p) (value (atom v.number r) ∷ rest))))

-- the rule's answer decides
abbrev pub decide : Verdict → (ℕ → ℕ → Outcome) → Outcome
decide denied k = stopped Denial
decide (allowed p r) k = k p r

-- what it is asked with
abbrev pub key_of : Command → State → (l1 l2 l3 : Input) → Key
key_of c s l1 l2 l3 = record { opcode = opcode c; pc = s.pc.label; input1 = l1; input2 = l2; input3 = l3 }

abbrev pub consult : Policy → Command → State → Request → Outcome
consult π c s (halt x) = stopped x
consult π c s (ask l1 l2 l3 k) = decide (π (key_of c s l1 l2 l3)) k

-- one command, at the place of the state
unfoldable pub execute : Policy → Environment → Command → State → Outcome
execute π env c s = consult π c s (request env c s)
