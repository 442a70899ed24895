-- A step under the standard rules does to a reader's view what the machine on views does: erasing and stepping commute.
-- Assumes nothing.
use mathlib.Core.Path.{◌≡◌, refl}
use mathlib.Core.Bool.{Bool, true, false}
use mathlib.Core.List.{List, [], ◌∷◌, map, map-append}
use Prim.Native.Nat.{ℕ, zero, suc}
use lib.IntN.{ℤ, pos, ◌+ℤ◌, ◌-ℤ◌}
use lib.ListN.{length}
use lib.Dec.{ltb}
use Rattle.word.specs.Exact.{is_signed}
use Rattle.label.specs.Label.{join, flows}
use Rattle.program.specs.declared.Command.{Command}
use Rattle.program.specs.Command.{arguments_of, results_of}
use Rattle.program.specs.declared.Command.TheVariants.{Add, Sub, Pop, Output, Push, Load, Store, Jump, Bnz, Call, Ret, OutputTo, CallN, RetV}
use Rattle.machine.specs.Atom.{Atom, Entry, value, Line}
use Rattle.machine.specs.Rule.{missing, allowed, allowed_if, standard}
use Rattle.machine.specs.Environment.{Environment, barrier}
use Rattle.machine.specs.State.{State}
use Rattle.machine.specs.declared.Stop.{Stop}
use Rattle.machine.specs.declared.Stop.TheVariants.{Overflow, StackFull}
use Rattle.machine.specs.Step.{Outcome, stepped, stack_limit, provided, unless_barred, Request, with_value, with_values, with_arguments}
use Rattle.machine.specs.Step.{with_frame, calling}
use Rattle.machine.specs.Step.{with_cell, of, key_of, decide, consult, making, outputting, request, execute, atom, branch, storing}
use Rattle.machine.proofs.Barrier.{barred-all}
use Rattle.machine.proofs.Request.{At, value-all, values-all, frame-all, cell-all, provided-all}
use Rattle.machine.proofs.Step.{Gives}
use Rattle.machine.proofs.Privacy.Seen.{Seen, see, joined, see-one, see-both, see-bottom}
use Rattle.machine.proofs.Privacy.Erasure.{View, Slot, slot, erase, pull, pulls, grab, unwind, enter, first, second, increment, line_of, make, prints}
use Rattle.machine.proofs.Privacy.Erasure.{act}
use Rattle.machine.proofs.Privacy.Effect.{see-cell, see-stored, view-append, see-line}

-- ════════════════════════════════════════════════════════════════════════════════════════════
-- What a command needs, and what is seen of it
-- ════════════════════════════════════════════════════════════════════════════════════════════

module _ (S : ℕ) (c : Command) (s : State) where
  -- what a request comes to is seen so
  abbrev Shows : View → Request → Type 0
  Shows w q = Gives (λ t. erase S t ≡ w) (consult standard c s q)

  value-shows : (v : View) (es : List Entry) (k : Atom → List Entry → Request) (l : Seen → List Slot → View)
      → ((a : Atom) (rest : List Entry) → Shows (l (see S a) (map (slot S) rest)) (k a rest))
      → Shows (pull v (map (slot S) es) l) (with_value es k)
  value-shows v es k l h = value-all (Shows (pull v (map (slot S) es) l)) es k tt (λ a rest e. rw e (h a rest))

  arguments-shows : (v : View) (n : ℕ) (es : List Entry) (k : List Entry → List Entry → Request) (l : List Slot → List Slot → View)
      → ((arguments rest : List Entry) → Shows (l (map (slot S) arguments) (map (slot S) rest)) (k arguments rest))
      → Shows (grab v n (map (slot S) es) l) (with_arguments n es k)
  arguments-shows v zero es k l h = h [] es
  arguments-shows v (suc n) es k l h =
      value-shows v es _ _ (λ a below. arguments-shows v n below _ _ (λ arguments rest. h (value a ∷ arguments) rest))

  values-shows : (v : View) (es : List Entry) (k : Atom → Atom → List Entry → Request) (l : Seen → Seen → List Slot → View)
      → ((a b : Atom) (rest : List Entry) → Shows (l (see S a) (see S b) (map (slot S) rest)) (k a b rest))
      → Shows (pulls v (map (slot S) es) l) (with_values es k)
  values-shows v es k l h = values-all (Shows (pulls v (map (slot S) es) l)) es k tt (λ a b rest e. rw e (h a b rest))

  frame-shows : (v : View) (gives : Bool) (es : List Entry) (k : Atom → List Entry → Request) (l : Seen → List Slot → View)
      → ((a : Atom) (rest : List Entry) → Shows (l (see S a) (map (slot S) rest)) (k a rest))
      → Shows (unwind v gives (map (slot S) es) l) (with_frame gives es k)
  frame-shows v true es k l h = frame-all (Shows (unwind v true (map (slot S) es) l)) true es k tt tt (λ a rest e. rw e (h a rest))
  frame-shows v false es k l h = frame-all (Shows (unwind v false (map (slot S) es) l)) false es k tt tt (λ a rest e. rw e (h a rest))

  cell-shows : (cells : List Atom) (z : ℤ) (k : ℕ → Atom → Request) (w : View)
      → ((i : ℕ) (a : Atom) → z ≡ pos i → At cells i a → Shows w (k i a)) → Shows w (with_cell cells z k)
  cell-shows cells z k w h = cell-all (Shows w) cells z k tt h

provided-shows : (S : ℕ) (b : Bool) (x : Stop) (t : State) (w : View)
    → erase S t ≡ w → Gives (λ t. erase S t ≡ w) (provided b x (stepped t))
provided-shows S b x t w e = provided-all (Gives (λ t. erase S t ≡ w)) b x (stepped t) (λ f. e) (λ f. tt)

barred-shows : (S : ℕ) (env : Environment) (written : ℕ) (l : Line) (t : State) (w : View)
    → erase S t ≡ w → Gives (λ t. erase S t ≡ w) (unless_barred (barrier env written l) (stepped t))
barred-shows S env written l t w e =
    barred-all env written l (Gives (λ t. erase S t ≡ w)) (stepped t) (λ f g. e) (λ x b. tt)

allowed-shows : (S : ℕ) (b : Bool) (p r : ℕ) (k : ℕ → ℕ → Outcome) (w : View)
    → (b ≡ true → Gives (λ t. erase S t ≡ w) (k p r)) → Gives (λ t. erase S t ≡ w) (decide (allowed_if b p r) k)
allowed-shows S true p r k w h = h refl
allowed-shows S false p r k w h = tt

-- ════════════════════════════════════════════════════════════════════════════════════════════
-- The commands
-- ════════════════════════════════════════════════════════════════════════════════════════════

-- the whole number made of two values, labelled by their join; where it has no 64 bits the command is stopped
making-shows : (S : ℕ) (c : Command) (s : State) (f : ℤ → ℤ → ℤ)
    → ((a b : Atom) → standard (key_of c s (of a) (of b) missing) ≡ allowed s.pc.label (join a.label b.label))
    → Shows S c s (make (erase S s) f) (making s f)
making-shows S c s f e =
    values-shows S c s _ s.stack _ _ (λ a b rest.
    rw (e a b)
    (provided-shows S (is_signed 64 (f a.number b.number)) Overflow _ _
    (rw (see-one S increment s.pc, see-both S f a b))))

-- a line on a page, labelled by the join of the value's label and the place's
outputting-shows : (S : ℕ) (env : Environment) (c : Command) (s : State) (page : ℤ)
    → ((a : Atom) → standard (key_of c s (of a) missing missing) ≡ allowed s.pc.label (join a.label s.pc.label))
    → Shows S c s (prints (erase S s) page) (outputting env s page)
outputting-shows S env c s page e =
    value-shows S c s _ s.stack _ _ (λ a rest.
    rw (e a)
    (barred-shows S env (length s.lines) _ _ _
    (rw (
      see-one S increment s.pc,
      view-append,
      see-line S (line_of page) (joined first a s.pc) refl,
      see-both S first a s.pc,
    ))))

-- the place by the join of the target's label and the place's; the frame by the place's, under the arguments
calling-shows : (S : ℕ) (c : Command) (s : State) (n results : ℕ)
    → ((a : Atom) → standard (key_of c s (of a) missing missing) ≡ allowed (join a.label s.pc.label) s.pc.label)
    → Shows S c s (enter (erase S s) n results) (calling s n results)
calling-shows S c s n results e =
    value-shows S c s _ s.stack _ _ (λ a below.
    arguments-shows S c s _ n below _ _ (λ arguments rest.
    rw (e a) (rw (map-append, see-one S increment s.pc, see-both S first a s.pc))))

pub act-shows : (S : ℕ) (env : Environment) (c : Command) (s : State) → Gives (λ t. erase S t ≡ act c (erase S s)) (execute standard env c s)
unfolding execute request standard act
act-shows S env Add s = making-shows S Add s ◌+ℤ◌ (λ a b. refl)
act-shows S env Sub s = making-shows S Sub s ◌-ℤ◌ (λ a b. refl)
act-shows S env Pop s = value-shows S Pop s _ s.stack _ _ (λ a rest. rw (see-one S increment s.pc))
act-shows S env Output s = outputting-shows S env Output s (pos 0) (λ a. refl)
act-shows S env (Push n) s =
    provided-shows S (ltb (length s.stack) stack_limit) StackFull _ _ (rw (see-one S increment s.pc, see-bottom S n))
act-shows S env Load s =
    value-shows S Load s _ s.stack _ _ (λ a rest. cell-shows S Load s s.memory a.number _ _ (λ i c e at.
    rw (see-one S increment s.pc, see-both S second a c, see-cell S a e at)))
act-shows S env Store s =
    values-shows S Store s _ s.stack _ _ (λ a b rest. cell-shows S Store s s.memory a.number _ _ (λ i c e at.
    let effect : ℕ → ℕ → Outcome = λ p r. storing s p rest i (atom b.number r) in
    allowed-shows S (flows (join a.label s.pc.label) c.label) _ _ effect _ (λ f.
    rw (see-one S increment s.pc, see-stored S a b s.pc e at f))))
act-shows S env Jump s = value-shows S Jump s _ s.stack _ _ (λ a rest. rw (see-both S first a s.pc))
act-shows S env (Bnz n) s =
    value-shows S (Bnz n) s _ s.stack _ _ (λ a rest. rw (see-both S (λ m place. branch m place n) a s.pc))
act-shows S env Call s = calling-shows S Call s 1 0 (λ a. refl)
act-shows S env Ret s = frame-shows S Ret s _ false s.stack _ _ (λ a rest. refl)
act-shows S env (OutputTo page) s = outputting-shows S env (OutputTo page) s page (λ a. refl)
act-shows S env (CallN z) s = calling-shows S (CallN z) s (arguments_of z) (results_of z) (λ a. refl)
act-shows S env RetV s =
    value-shows S RetV s _ s.stack _ _ (λ v below. frame-shows S RetV s _ true below _ _ (λ a rest. rw (see-both S first v s.pc)))
