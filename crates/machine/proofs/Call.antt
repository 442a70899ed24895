-- A call that returns leaves the stack below its arguments as it was (specs/Call.antt). A command takes what it needs from the top down to the
-- topmost frame, so what is under a frame stays until a return takes the frame; and a return that is carried out gives what the frame owes.
-- Assumes nothing.
use mathlib.Core.Path.{◌≡◌, refl, ap, sym, ◌∙◌}
use mathlib.Core.Logic.{◌⊎◌, inl, inr}
use mathlib.Core.Bool.{Bool, true, false}
use mathlib.Core.List.{List, [], ◌∷◌, ◌++◌}
use Prim.Native.Nat.{ℕ, suc}
use lib.IntN.{ℤ, pos, ◌+ℤ◌, ◌-ℤ◌}
use lib.ListN.{length}
use lib.Dec.{ltb}
use Rattle.word.specs.Exact.{is_signed}
use Rattle.word.proofs.Bool.{never}
use Rattle.program.specs.declared.Command.{Command}
use Rattle.program.specs.declared.Command.TheVariants.{Add, Sub, Pop, Output, Push, Load, Store, Jump, Bnz, Call, Ret, OutputTo, CallN, RetV}
use Rattle.program.specs.Command.{arguments_of, results_of}
use Rattle.machine.specs.Atom.{Atom, Entry, value, frame}
use Rattle.machine.specs.Rule.{Policy}
use Rattle.machine.specs.State.{State}
use Rattle.machine.specs.declared.Stop.TheVariants.{Overflow, StackFull}
use Rattle.machine.specs.Environment.{Environment}
use Rattle.machine.specs.Step.{Request, stack_limit, atom, making, outputting}
use Rattle.machine.specs.Step.{with_value, calling, request, execute}
use Rattle.machine.specs.Run.{step}
use Rattle.machine.specs.Call.{Calls, plain, counted, Path, here, next, Inside, Brought, Returned, Called, CallReturns}
use Rattle.machine.proofs.Barrier.{barred-all}
use Rattle.machine.proofs.Request.{Values, none, more, value-all, values-all, arguments-all, frame-all, cell-all, provided-all}
use Rattle.machine.proofs.Step.{Gives, gives-stepped, Leaves, consult-leaves, step-all}

-- ════════════════════════════════════════════════════════════════════════════════════════════
-- One step, with a frame on the stack
-- ════════════════════════════════════════════════════════════════════════════════════════════

pub values_length : {n : ℕ} {es : List Entry} → Values n es → length es ≡ n
values_length none = refl
values_length (more v) = ap suc (values_length v)

module _ (owes : Bool) (a : Atom) (rest : List Entry) where
  abbrev Under : List Entry → Type 0
  Under es = (above : List Entry) × (es ≡ above ++ (frame owes a ∷ rest))

  -- what is under a value that is taken from above the frame
  under-value : {es below : List Entry} {b : Atom} → Under es → es ≡ value b ∷ below → Under below
  under-value ([], e) g = never (cc)
  under-value (x ∷ above, e) g = (above, cc)

  under-values : {n : ℕ} (arguments : List Entry) {es below : List Entry} → Values n arguments → Under es → es ≡ arguments ++ below → Under below
  under-values [] none (above, e) g = (above, sym g ∙ e)
  under-values (value b ∷ arguments) (more v) u g = under-values arguments v (under-value u g) refl
  under-values {n = n} (frame _ _ ∷ arguments) {es = es} {below = below} x8 u g = elim x8 [ ]

  over : (e : Entry) {es : List Entry} → Under es → Under (e ∷ es)
  over e (above, g) = (e ∷ above, ap (λ (l : List Entry). e ∷ l) g)

  overs : (l : List Entry) {es : List Entry} → Under es → Under (l ++ es)
  overs [] u = u
  overs (e ∷ l) u = over e (overs l u)

  -- the frame is there, or it has just returned
  abbrev After : State → Type 0
  After t = Under t.stack ⊎ ((t.pc.number ≡ a.number) × Brought owes rest t.stack)

  -- a frame that is taken is a further one, or this one
  module _ (gives : Bool) {es below : List Entry} {b : Atom} (u : Under es) (g : es ≡ frame gives b ∷ below) where
    taken : Under below ⊎ ((gives ≡ owes) × (b ≡ a) × (below ≡ rest))
    taken = by u
      where
        by : Under es → Under below ⊎ ((gives ≡ owes) × (b ≡ a) × (below ≡ rest))
        by ([], e) = inr (cc, cc, cc)
        by (x ∷ above, e) = inl (above, cc)

  module _ (s : State) (u : Under s.stack) where
    abbrev Goes : Request → Type 0
    Goes = Leaves After

    value-goes : (k : Atom → List Entry → Request) → ((b : Atom) (below : List Entry) → Under below → Goes (k b below))
        → (es : List Entry) → Under es → Goes (with_value es k)
    value-goes k f es v = value-all Goes es k tt (λ b below e. f b below (under-value v e))

    making-goes : (make : ℤ → ℤ → ℤ) → Goes (making s make)
    making-goes make =
        values-all Goes s.stack _ tt (λ b c below e p r.
        provided-all (Gives After) (is_signed 64 (make b.number c.number)) Overflow _
        (λ t. inl (over _ (under-value (under-value u e) refl))) (λ t. tt))

    outputting-goes : (env : Environment) (page : ℤ) → Goes (outputting env s page)
    outputting-goes env page =
        value-goes _ (λ b below v p r. barred-all env (length s.lines) _ (Gives After) _ (λ t g. inl v) (λ x t. tt)) s.stack u

    calling-goes : (n results : ℕ) → Goes (calling s n results)
    calling-goes n results =
        value-goes _ (λ b below v. arguments-all Goes n below _ tt (λ arguments under w e p r.
        inl (overs arguments (over _ (under-values arguments w v e))))) s.stack u

    request-goes : (env : Environment) (c : Command) → Goes (request env c s)
    unfolding request
    request-goes env Add = making-goes ◌+ℤ◌
    request-goes env Sub = making-goes ◌-ℤ◌
    request-goes env Pop = value-goes _ (λ b below v p r. inl v) s.stack u
    request-goes env Output = outputting-goes env (pos 0)
    request-goes env (Push n) = λ p r.
        provided-all (Gives After) (ltb (length s.stack) stack_limit) StackFull _ (λ t. inl (over _ u)) (λ t. tt)
    request-goes env Load =
        value-goes _ (λ b below v. cell-all Goes s.memory b.number _ tt (λ i c e at p r. inl (over _ v))) s.stack u
    request-goes env Store =
        values-all Goes s.stack _ tt (λ b c below e. cell-all Goes s.memory b.number _ tt (λ i d g at p r.
        inl (under-value (under-value u e) refl)))
    request-goes env Jump = value-goes _ (λ b below v p r. inl v) s.stack u
    request-goes env (Bnz n) = value-goes _ (λ b below v p r. inl v) s.stack u
    request-goes env Call = calling-goes 1 0
    request-goes env Ret = frame-all Goes false s.stack _ tt tt (λ b below e p r. by b below (taken false u e))
      where
        by : (b : Atom) (below : List Entry) → Under below ⊎ ((false ≡ owes) × (b ≡ a) × (below ≡ rest))
            → Under below ⊎ ((b.number ≡ a.number) × Brought owes rest below)
        by b below (inl v) = inl v
        by b below (inr (o, d, g)) = inr (ap (λ (x : Atom). x.number) d, rw (← o) g)
    request-goes env (OutputTo page) = outputting-goes env page
    request-goes env (CallN z) = calling-goes (arguments_of z) (results_of z)
    request-goes env RetV =
        value-goes _ (λ w below v. frame-all Goes true below _ tt tt (λ b under e p r. by b under (atom w.number r) (taken true v e)))
        s.stack u
      where
        by : (b : Atom) (under : List Entry) (w : Atom) → Under under ⊎ ((true ≡ owes) × (b ≡ a) × (under ≡ rest))
            → Under (value w ∷ under) ⊎ ((b.number ≡ a.number) × Brought owes rest (value w ∷ under))
        by b under w (inl v) = inl (over _ v)
        by b under w (inr (o, d, g)) = inr (ap (λ (x : Atom). x.number) d, rw (← o) (w, rw g))

    step-goes : (π : Policy) (env : Environment) (cs : List Command) → Gives After (step π env cs s)
    unfolding execute
    step-goes π env cs =
        step-all π env s (Gives After) cs (λ c at. consult-leaves After π c s (request env c s) (request-goes env c)) (λ e. tt)

  -- ══════════════════════════════════════════════════════════════════════════════════════════
  -- Many steps
  -- ══════════════════════════════════════════════════════════════════════════════════════════

  module _ (env : Environment) (cs : List Command) where
    abbrev Back : State → Type 0
    Back t = (t.pc.number ≡ a.number) × Brought owes rest t.stack

    -- the frame is there, or there was a moment when it had just returned
    abbrev Since : State → State → Type 0
    Since s t = Under t.stack ⊎ ((v : State) × Path env cs s v × Path env cs v t × Back v)

    path-goes : {s t : State} → Under s.stack → Path env cs s t → Since s t
    path-goes u here = inl u
    path-goes {s} {t} u (next {t = m} π e path) = by (λ w. path-goes w path) (gives-stepped After e (step-goes s u π env cs))
      where
        on : Since m t → Since s t
        on (inl w) = inl w
        on (inr (v, p, q, b)) = inr (v, next π e p, q, b)

        by : (Under m.stack → Since m t) → After m → Since s t
        by f (inl w) = on (f w)
        by f (inr b) = inr (m, next π e here, path, b)

-- ════════════════════════════════════════════════════════════════════════════════════════════
-- The call
-- ════════════════════════════════════════════════════════════════════════════════════════════

module _ (s : State) (n results : ℕ) where
  abbrev Enters : Request → Type 0
  Enters = Leaves (λ t. Called s t n results)

  calling-enters : Enters (calling s n results)
  calling-enters =
      value-all Enters s.stack _ tt (λ a below e. arguments-all Enters n below _ tt (λ arguments rest v g p r.
      record {
        target = a;
        arguments = arguments;
        rest = rest;
        count = values_length v;
        found = e ∙ ap (λ (l : List Entry). value a ∷ l) g;
        label = r;
        frame_is = frame (ltb 0 results) (atom (s.pc.number +ℤ pos 1) r);
        framed = refl;
        left = refl;
        entered = refl;
      }))

call_enters : (π : Policy) (env : Environment) (c : Command) (n results : ℕ) (s : State) → Calls c n results
    → Gives (λ t. Called s t n results) (execute π env c s)
unfolding execute request
call_enters π env c n results s plain = consult-leaves _ π Call s (calling s 1 0) (calling-enters s 1 0)
call_enters π env c n results s (counted {z}) =
    consult-leaves _ π (CallN z) s (calling s (arguments_of z) (results_of z)) (calling-enters s (arguments_of z) (results_of z))

-- what follows it
module _ (env : Environment) (cs : List Command) (s t : State) (n results : ℕ) (called : Called s t n results) (u : State) where
  abbrev back : Atom
  back = atom (s.pc.number +ℤ pos 1) called.label

  abbrev Ends : Type 0
  Ends =
      Inside called.frame_is called.rest u
      ⊎ ((v : State) × Path env cs t v × Path env cs v u × Returned s (ltb 0 results) called.rest v)

  called-ends : Since (ltb 0 results) back called.rest env cs t u → Ends
  called-ends (inl (above, g)) = inl (above, rw called.framed g)
  called-ends (inr (v, p, q, b)) = inr (v, p, q, record { place = b.0; stack = b.1 })

  call-path : Path env cs t u → Ends
  call-path path =
      called-ends (path-goes (ltb 0 results) back called.rest env cs (called.arguments, rw (called.left, called.framed)) path)

pub call_returns : CallReturns
call_returns π env cs c n results s t calls e =
    let called : Called s t n results = gives-stepped (λ t. Called s t n results) e (call_enters π env c n results s calls) in
    (called, λ u path. call-path env cs s t n results called u path)
