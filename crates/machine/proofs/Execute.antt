-- One command: what it changes, and why it is stopped.
-- Assumes nothing.
use Rattle.std.proofs.Common.{Some}
use mathlib.Core.Path.{◌≡◌, refl, ap, ◌∙◌}
use mathlib.Core.Bool.{true, false}
use mathlib.Core.List.{List, [], ◌∷◌, ◌++◌, append-nil}
use Prim.Native.Nat.{ℕ, suc, ◌+◌, ◌≤◌}
use native.Mathlib.Omega.{arith}
use lib.IntN.{ℤ}
use lib.ListN.{length, length-append, length-set}
use lib.Dec.{ltb}
use borrow.Author.Tests.{ltb-true, ltb-false}
use Rattle.word.specs.Exact.{is_signed}
use Rattle.word.proofs.Laws.Exact.{test-unsigned}
use Rattle.program.specs.declared.Command.{Command}
use Rattle.program.specs.declared.Command.TheVariants.{Add, Sub, Pop, Output, Push, Load, Store, Jump, Bnz, Call, Ret, OutputTo, CallN, RetV}
use Rattle.program.specs.Command.{opcode, push, arguments_of, results_of}
use Rattle.machine.specs.Atom.{Atom, Entry, Line, number_line}
use Rattle.machine.specs.Rule.{Verdict, denied, allowed, Policy}
use Rattle.machine.specs.Environment.{Environment, barrier}
use Rattle.machine.specs.State.{State}
use Rattle.machine.specs.declared.Stop.{Stop}
use Rattle.machine.specs.declared.Stop.TheVariants.{ValueMissing, FrameMissing, WrongReturn, AddressOutside, Denial, Overflow, StackFull}
use Rattle.machine.specs.Step.{Outcome, stopped, stepped, Request, halt, ask, stack_limit, unless_barred, printing, key_of, decide}
use Rattle.machine.specs.Step.{consult, making, outputting, calling, request, execute}
use Rattle.machine.specs.Stopped.{Denied, Makes, sum, difference, Overflows, Writes, plain, to, Offers}
use Rattle.machine.specs.End.{has_end}
use Rattle.machine.proofs.Barrier.{Barred, barred-all}
use Rattle.machine.proofs.Request.{value-all, values-all, arguments-all, frame-all, cell-all, provided-all}

pub record Change (env : Environment) (s t : State) : Type 0 where
  pub steps : t.steps ≡ suc s.steps
  pub lines : (more : List Line) × (t.lines ≡ s.lines ++ more)
  pub numbers : has_end lines.0 ≡ false
  pub fits : length s.lines ≤ env.room → length t.lines ≤ env.room
  pub memory : length t.memory ≡ length s.memory
  pub depth : length s.stack ≤ stack_limit → length t.stack ≤ stack_limit

-- why a command is stopped
pub data Cause (π : Policy) (env : Environment) (c : Command) (s : State) : Stop → Type 0 where
  no_value : request env c s ≡ halt ValueMissing → Cause π env c s ValueMissing
  no-frame : request env c s ≡ halt FrameMissing → Cause π env c s FrameMissing
  no_return : request env c s ≡ halt WrongReturn → Cause π env c s WrongReturn
  no_cell : request env c s ≡ halt AddressOutside → Cause π env c s AddressOutside
  no-leave : Denied π c s (request env c s) → Cause π env c s Denial
  no_number : Overflows c s → Cause π env c s Overflow
  no-env : opcode c ≡ push → stack_limit ≤ length s.stack → Cause π env c s StackFull
  no_line : {x : Stop} (l : Line) → Offers π s l c → Barred env (length s.lines) l (Some x) → Cause π env c s x

module _ (π : Policy) (env : Environment) (c : Command) (s : State) where
  -- a command is stopped for a cause, or it is carried out and changes what it may
  abbrev pub Sound : Outcome → Type 0
  Sound (stopped x) = Cause π env c s x
  Sound (stepped t) = Change env s t

  -- the same of what it comes to before its rule
  abbrev Fit : Request → Type 0
  Fit (halt x) = request env c s ≡ halt x → Cause π env c s x
  Fit (ask l1 l2 l3 k) = (p r : ℕ) → π (key_of c s l1 l2 l3) ≡ allowed p r → Sound (k p r)

  consult-sound : (q : Request) → request env c s ≡ q → Fit q → Sound (consult π c s q)
  consult-sound (halt x) e f = f e
  consult-sound (ask l1 l2 l3 k) e f = go _ refl
    where
      go : (v : Verdict) → π (key_of c s l1 l2 l3) ≡ v → Sound (decide v k)
      go denied g = no-leave (rw e g)
      go (allowed p r) g = f p r g

-- where the stack grows by at most as many as were there
abbrev Depth : List Entry → List Entry → Type 0
Depth es fs = length es ≤ stack_limit → length fs ≤ stack_limit

-- the place and the stack change
moved : (env : Environment) (s : State) (p : Atom) (es : List Entry) → Depth s.stack es
    → Change env s (record { pc = p; stack = es; memory = s.memory; lines = s.lines; steps = suc s.steps })
moved env s p es h =
    record { steps = refl; lines = ([], rw append-nil); numbers = refl; fits = λ f. f; memory = refl; depth = h }

-- a line more, which is no end line
line-fit : (π : Policy) (env : Environment) (c : Command) (s : State) (p : ℕ) (rest : List Entry) (line : Line) → Offers π s line c
    → has_end (line ∷ []) ≡ false → Depth s.stack rest
    → Sound π env c s (unless_barred (barrier env (length s.lines) line) (printing s p rest line))
line-fit π env c s p rest line offers number h =
    barred-all env (length s.lines) line (Sound π env c s) _
    (λ e few. let fits : length (s.lines ++ (line ∷ [])) ≤ env.room = rw length-append (omega arith) in
    record { steps = refl; lines = (line ∷ [], refl); numbers = number; fits = λ f. fits; memory = refl; depth = h })
    (λ x b. no_line line offers b)

output-fit : (π : Policy) (env : Environment) (c : Command) (s : State) (page : ℤ) → Writes c page → Fit π env c s (outputting env s page)
output-fit π env c s page writes =
    value-all (Fit π env c s) s.stack _ no_value (λ a rest e p r v.
    let offers : Offers π s (number_line page a.number r) c =
    record { page = page; writes = writes; top = a; rest = rest; found = e; pc = p; label = r; ruled = v; line = refl } in
    line-fit π env c s p rest _ offers refl (rw e (omega arith)))

-- the number that is made of two values has 64 bits, or it is stop 9
making-fit : (π : Policy) (env : Environment) (c : Command) (s : State) (make : ℤ → ℤ → ℤ) → Makes c make → Fit π env c s (making s make)
making-fit π env c s make makes =
    values-all (Fit π env c s) s.stack _ no_value (λ a b rest e p r v.
    let n : ℤ = make a.number b.number in
    provided-all (Sound π env c s) (is_signed 64 n) _ _
    (λ g. moved env s _ _ (rw e (omega arith)))
    (λ g. no_number (record { make = make; makes = makes; top = a; next = b; rest = rest; found = e }, test-unsigned 64 n g)))

-- a frame stands in place of the target
calling-fit : (π : Policy) (env : Environment) (c : Command) (s : State) (n results : ℕ) → Fit π env c s (calling s n results)
calling-fit π env c s n results =
    value-all (Fit π env c s) s.stack _ no_value (λ a below e.
    arguments-all (Fit π env c s) n below _ no_value (λ arguments rest v g p r w.
    let grown : length s.stack ≡ suc (length arguments + length rest) = ap length e ∙ rw (g, length-append) in
    moved env s _ _ (rw length-append (omega arith))))

request-fit : (π : Policy) (env : Environment) (c : Command) (s : State) → Fit π env c s (request env c s)
unfolding request
request-fit π env Add s = making-fit π env Add s _ sum
request-fit π env Sub s = making-fit π env Sub s _ difference
request-fit π env Pop s =
    value-all (Fit π env Pop s) s.stack _ no_value (λ a rest e p r v. moved env s _ _ (rw e (omega arith)))
request-fit π env Output s = output-fit π env Output s _ plain
request-fit π env (Push n) s = λ p r v.
    provided-all (Sound π env (Push n) s) (ltb (length s.stack) stack_limit) _ _
    (λ g. moved env s _ _ (omega (arith, ltb-true (length s.stack) stack_limit g)))
    (λ g. no-env refl (ltb-false _ _ g))
request-fit π env Load s =
    value-all (Fit π env Load s) s.stack _ no_value (λ a rest e.
    cell-all (Fit π env Load s) s.memory a.number _ no_cell (λ i c g at p r v. moved env s _ _ (rw e (omega arith))))
request-fit π env Store s =
    values-all (Fit π env Store s) s.stack _ no_value (λ a b rest e.
    cell-all (Fit π env Store s) s.memory a.number _ no_cell (λ i c g at p r v.
    record {
      steps = refl;
      lines = ([], rw append-nil);
      numbers = refl;
      fits = λ f. f;
      memory = simp length-set;
      depth = rw e (omega arith);
    }))
request-fit π env Jump s =
    value-all (Fit π env Jump s) s.stack _ no_value (λ a rest e p r v. moved env s _ _ (rw e (omega arith)))
request-fit π env (Bnz n) s =
    value-all (Fit π env (Bnz n) s) s.stack _ no_value (λ a rest e p r v. moved env s _ _ (rw e (omega arith)))
request-fit π env Call s = calling-fit π env Call s 1 0
request-fit π env Ret s =
    frame-all (Fit π env Ret s) false s.stack _ no-frame no_return (λ a rest e p r v. moved env s _ _ (rw e (omega arith)))
request-fit π env (OutputTo page) s = output-fit π env (OutputTo page) s page to
request-fit π env (CallN z) s = calling-fit π env (CallN z) s (arguments_of z) (results_of z)
request-fit π env RetV s =
    value-all (Fit π env RetV s) s.stack _ no_value (λ v below e.
    frame-all (Fit π env RetV s) true below _ no-frame no_return (λ a rest g p r w. moved env s _ _ (rw (e, g) (omega arith))))

pub execute-sound : (π : Policy) (env : Environment) (c : Command) (s : State) → Sound π env c s (execute π env c s)
unfolding execute
execute-sound π env c s = consult-sound π env c s (request env c s) refl (request-fit π env c s)
