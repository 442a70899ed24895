-- What a command asks its rule with: the marks of the command, and labels in range; and no stop 6 comes before the rule or after it.
-- Assumes nothing.
use mathlib.Core.Path.{◌≡◌, refl}
use mathlib.Core.Bool.{Bool, true, false}
use mathlib.Core.List.{List, ◌∷◌}
use Prim.Native.Nat.{ℕ}
use native.Mathlib.Omega.{arith}
use lib.IntN.{ℤ, ◌+ℤ◌, ◌-ℤ◌}
use lib.ListN.{length}
use lib.Dec.{leb, ltb}
use Rattle.word.specs.Exact.{is_signed}
use Rattle.label.specs.Label.{InRange}
use Rattle.program.specs.declared.Command.{Command}
use Rattle.program.specs.declared.Command.TheVariants.{Add, Sub, Pop, Output, Push, Load, Store, Jump, Bnz, Call, Ret, OutputTo, CallN, RetV}
use Rattle.program.specs.Command.{supplies, arguments_of, results_of}
use Rattle.machine.specs.Atom.{Atom, Entry, value, frame}
use Rattle.machine.specs.Rule.{Input, present, missing, Key}
use Rattle.machine.specs.Environment.{Environment}
use Rattle.machine.specs.State.{State}
use Rattle.machine.specs.declared.Stop.TheVariants.{Overflow, StackFull}
use Rattle.machine.specs.Stopped.{denies}
use Rattle.machine.specs.Step.{Outcome, stopped, stepped, Request, halt, ask, of, making, outputting, calling, request}
use Rattle.machine.specs.Step.{key_of}
use Rattle.machine.specs.Step.{stack_limit, with_value, with_values, with_frame, with_cell}
use Rattle.machine.specs.Holds.{Each, AtomHas, EntryHas, LabelsInRange, InputHas, KeyHas, Marked, WellMarked}
use Rattle.machine.proofs.Barrier.{barred-all, barred-other}
use Rattle.machine.proofs.Request.{value-all, values-all, arguments-all, frame-all, cell-all, provided-all}
use Rattle.machine.proofs.Holds.{each_at}

-- the labels of a well-marked key are in range
marked-range : (b : Bool) (i : Input) → Marked b i → InputHas InRange i
marked-range true (present l) h = h
marked-range false (present l) h = absurd h
marked-range b missing h = tt

pub marked-has : {k : Key} → WellMarked k → KeyHas InRange k
marked-has {k} m =
    let n = supplies k.opcode in
    record {
      pc = m.pc;
      input1 = marked-range (leb 1 n) k.input1 m.input1;
      input2 = marked-range (leb 2 n) k.input2 m.input2;
      input3 = marked-range (leb 3 n) k.input3 m.input3;
    }

-- an effect is carried out, or is stopped for its line's page, for want of 64 bits or of room
abbrev pub Roomy : Outcome → Type 0
Roomy (stopped x) = denies x ≡ false
Roomy (stepped t) = Unit

-- a key with the marks of its command, and no stop 6 before the rule or after it
abbrev pub Asks : Command → State → Request → Type 0
Asks c s (halt x) = denies x ≡ false
Asks c s (ask l1 l2 l3 k) = WellMarked (key_of c s l1 l2 l3) × ((p r : ℕ) → Roomy (k p r))

module _ (s : State) (h : LabelsInRange s) (c : Command) where
  abbrev Labelled : List Entry → Type 0
  Labelled es = Each (EntryHas (λ n. Unit) InRange) es

  value-asks : (k : Atom → List Entry → Request)
      → ((a : Atom) (rest : List Entry) → InRange a.label → Labelled rest → Asks c s (k a rest)) → Asks c s (with_value s.stack k)
  value-asks k f =
      value-all (Asks c s) s.stack k refl (λ a rest e.
      let g : Labelled (value a ∷ rest) = rw e at h.stack in f a rest g.0.1 g.1)

  values-asks : (k : Atom → Atom → List Entry → Request)
      → ((a b : Atom) (rest : List Entry) → InRange a.label → InRange b.label → Asks c s (k a b rest))
      → Asks c s (with_values s.stack k)
  values-asks k f =
      values-all (Asks c s) s.stack k refl (λ a b rest e.
      let g : Labelled (value a ∷ value b ∷ rest) = rw e at h.stack in f a b rest g.0.1 g.1.0.1)

  frame-asks : (returns : Bool) (es : List Entry) (k : Atom → List Entry → Request) → Labelled es
      → ((a : Atom) (rest : List Entry) → InRange a.label → Asks c s (k a rest)) → Asks c s (with_frame returns es k)
  frame-asks returns es k hs f =
      frame-all (Asks c s) returns es k refl refl (λ a rest e.
      let g : Labelled (frame returns a ∷ rest) = rw e at hs in f a rest g.0.1)

  cell-asks : (z : ℤ) (k : ℕ → Atom → Request) → ((i : ℕ) (b : Atom) → InRange b.label → Asks c s (k i b))
      → Asks c s (with_cell s.memory z k)
  cell-asks z k f = cell-all (Asks c s) s.memory z k refl (λ i b e at. f i b (each_at (AtomHas (λ n. Unit) InRange) at h.memory).1)

module _ (env : Environment) (s : State) (h : LabelsInRange s) where
  abbrev p : InRange s.pc.label
  p = h.pc.1

  making-asks : (c : Command) (make : ℤ → ℤ → ℤ)
      → ((a b : Atom) → InRange a.label → InRange b.label → WellMarked (key_of c s (of a) (of b) missing))
      → Asks c s (making s make)
  making-asks c make marked =
      values-asks s h c _ (λ a b rest ha hb. (
        marked a b ha hb,
        λ q r. provided-all Roomy (is_signed 64 (make a.number b.number)) Overflow _ (λ e. tt) (λ e. refl),
      ))

  outputting-asks : (c : Command) (page : ℤ) → ((a : Atom) → InRange a.label → WellMarked (key_of c s (of a) missing missing))
      → Asks c s (outputting env s page)
  outputting-asks c page marked =
      value-asks s h c _ (λ a rest ha hs. (
        marked a ha,
        λ q r. barred-all env (length s.lines) _ Roomy _ (λ e g. tt) (λ x b. barred-other env (length s.lines) _ b 6 (omega arith)),
      ))

  calling-asks : (c : Command) (n results : ℕ) → ((a : Atom) → InRange a.label → WellMarked (key_of c s (of a) missing missing))
      → Asks c s (calling s n results)
  calling-asks c n results marked =
      value-asks s h c _ (λ a below ha hs. arguments-all (Asks c s) n below _ refl (λ arguments rest v e. (marked a ha, λ q r. tt)))

  pub request-asks : (c : Command) → Asks c s (request env c s)
  unfolding request
  request-asks Add = making-asks Add ◌+ℤ◌ (λ a b ha hb. record { pc = p; input1 = ha; input2 = hb; input3 = tt })
  request-asks Sub = making-asks Sub ◌-ℤ◌ (λ a b ha hb. record { pc = p; input1 = ha; input2 = hb; input3 = tt })
  request-asks Pop = value-asks s h Pop _ (λ a rest ha hs. (record { pc = p; input1 = ha; input2 = tt; input3 = tt }, λ q r. tt))
  request-asks Output = outputting-asks Output _ (λ a ha. record { pc = p; input1 = ha; input2 = tt; input3 = tt })
  request-asks (Push n) = (
    record { pc = p; input1 = tt; input2 = tt; input3 = tt },
    λ q r. provided-all Roomy (ltb (length s.stack) stack_limit) StackFull _ (λ e. tt) (λ e. refl),
  )
  request-asks Load =
      value-asks s h Load _ (λ a rest ha hs. cell-asks s h Load a.number _ (λ i b hb.
      (record { pc = p; input1 = ha; input2 = hb; input3 = tt }, λ q r. tt)))
  request-asks Store =
      values-asks s h Store _ (λ a b rest ha hb. cell-asks s h Store a.number _ (λ i d hd.
      (record { pc = p; input1 = ha; input2 = hb; input3 = hd }, λ q r. tt)))
  request-asks Jump = value-asks s h Jump _ (λ a rest ha hs. (record { pc = p; input1 = ha; input2 = tt; input3 = tt }, λ q r. tt))
  request-asks (Bnz n) = value-asks s h (Bnz n) _ (λ a rest ha hs. (record { pc = p; input1 = ha; input2 = tt; input3 = tt }, λ q r. tt))
  request-asks Call = calling-asks Call 1 0 (λ a ha. record { pc = p; input1 = ha; input2 = tt; input3 = tt })
  request-asks Ret =
      frame-asks s h Ret false s.stack _ h.stack (λ a rest ha.
      (record { pc = p; input1 = ha; input2 = tt; input3 = tt }, λ q r. tt))
  request-asks (OutputTo page) = outputting-asks (OutputTo page) page (λ a ha. record { pc = p; input1 = ha; input2 = tt; input3 = tt })
  request-asks (CallN z) =
      calling-asks (CallN z) (arguments_of z) (results_of z) (λ a ha. record { pc = p; input1 = ha; input2 = tt; input3 = tt })
  request-asks RetV =
      value-asks s h RetV _ (λ v below hv hs. frame-asks s h RetV true below _ hs (λ a rest ha.
      (record { pc = p; input1 = hv; input2 = ha; input3 = tt }, λ q r. tt)))

  -- whatever a command asks with has its marks, and labels in range
  pub request-marked : (c : Command) (l1 l2 l3 : Input) (k : ℕ → ℕ → Outcome) → request env c s ≡ ask l1 l2 l3 k
      → WellMarked (key_of c s l1 l2 l3)
  request-marked c l1 l2 l3 k e = let g : Asks c s (ask l1 l2 l3 k) = rw e at (request-asks c) in g.0
