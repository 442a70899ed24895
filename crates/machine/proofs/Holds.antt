-- What holds of every number and of every label of a state (specs/Holds.antt) is kept by a run. So labels
-- stay in range and numbers within 64 bits.
-- Assumes nothing.
use mathlib.Core.Path.{◌≡◌, refl}
use mathlib.Core.Bool.{Bool, true, false, cond}
use mathlib.Core.List.{List, [], ◌∷◌, ◌++◌}
use Prim.Native.Nat.{ℕ, zero, suc, ◌-◌, ◌^◌, ◌≤◌, ◌<◌}
use native.Mathlib.Omega.{arith}
use lib.IntN.{ℤ, pos, negsuc, ◌+ℤ◌}
use lib.ListN.{length, set}
use lib.Dec.{ltb}
use Rattle.word.specs.Wrap.{Signed}
use Rattle.word.specs.Exact.{is_signed}
use Rattle.word.proofs.Laws.Exact.{test-signed}
use Rattle.word.proofs.Bool.{never}
use Rattle.label.specs.Label.{InRange, bottom}
use Rattle.label.proofs.Laws.{join-range}
use Rattle.program.specs.declared.Command.{Command}
use Rattle.program.specs.declared.Command.TheVariants.{Add, Sub, Pop, Output, Push, Load, Store, Jump, Bnz, Call, Ret, OutputTo, CallN, RetV}
use Rattle.program.specs.Command.{arguments_of, results_of}
use Rattle.program.specs.Command.{Opcode, add, sub, pop, output, push, load, store, jump, bnz, call, ret, output_to, call_n, ret_v}
use Rattle.machine.specs.Atom.{Atom, Entry, value, frame, Line, number_line, end_line}
use Rattle.machine.specs.Rule.{Input, present, missing, Verdict, denied, allowed, Policy, Ruler, rules, standard}
use Rattle.machine.specs.Rule.{label_of, allowed_if, rule}
use Rattle.machine.specs.Environment.{Environment}
use Rattle.machine.specs.State.{State}
use Rattle.machine.specs.declared.Stop.TheVariants.{Overflow, StackFull}
use Rattle.machine.specs.Step.{Request, halt, ask, stack_limit, with_value, with_values, with_frame, with_cell, atom}
use Rattle.machine.specs.Step.{branch, key_of, decide, consult, making, outputting, calling, request, execute}
use Rattle.machine.specs.Run.{step, closed, run}
use Rattle.machine.specs.Stopped.{CommandAt, Makes, sum, difference, Made, number}
use Rattle.machine.specs.Holds.{Each, AtomHas, EntryHas, LineHas, Holds, LabelsInRange, NumbersSigned, InputHas, Answers, ProgramHas}
use Rattle.machine.specs.Exact.{Brings}
use Rattle.machine.proofs.Barrier.{barred-all}
use Rattle.machine.proofs.Request.{At, here, there, value-all, values-all, arguments-all, frame-all, cell-all}
use Rattle.machine.proofs.Request.{provided-all}
use Rattle.machine.proofs.Step.{Gives, gives-stepped, step-all, run-keeps}

-- ════════════════════════════════════════════════════════════════════════════════════════════
-- Lists
-- ════════════════════════════════════════════════════════════════════════════════════════════

pub each_at : (P : Atom → Type 0) {l : List Atom} {i : ℕ} {a : Atom} → At l i a → Each P l → P a
each_at P here h = h.0
each_at P (there at) h = each_at P at h.1

each_set : (P : Atom → Type 0) (l : List Atom) (i : ℕ) (a : Atom) → P a → Each P l → Each P (set l i a)
each_set P [] i a p h = tt
each_set P (b ∷ l) zero a p h = (p, h.1)
each_set P (b ∷ l) (suc i) a p h = (h.0, each_set P l i a p h.1)

each-insert : (P : Entry → Type 0) (l m : List Entry) (e : Entry) → P e → Each P (l ++ m) → Each P (l ++ (e ∷ m))
each-insert P [] m e p h = (p, h)
each-insert P (d ∷ l) m e p h = (h.0, each-insert P l m e p h.1)

pub each_snoc : (P : Line → Type 0) (l : List Line) (a : Line) → Each P l → P a → Each P (l ++ (a ∷ []))
each_snoc P [] a h p = (p, tt)
each_snoc P (b ∷ l) a h p = (h.0, each_snoc P l a h.1 p)

-- ════════════════════════════════════════════════════════════════════════════════════════════
-- A step
-- ════════════════════════════════════════════════════════════════════════════════════════════

module _ (N : ℤ → Type 0) (L : ℕ → Type 0) (s : State) (h : Holds N L s) where
  -- the inputs' labels have L, and with two such labels of the rule the effect keeps what holds
  abbrev Keeps : Request → Type 0
  Keeps (halt x) = Unit
  Keeps (ask l1 l2 l3 k) =
      InputHas L l1 × InputHas L l2 × InputHas L l3 × ((p r : ℕ) → L p → L r → Gives (Holds N L) (k p r))

  value_keeps : (k : Atom → List Entry → Request)
      → ((a : Atom) (rest : List Entry) → AtomHas N L a → Each (EntryHas N L) rest → Keeps (k a rest))
      → Keeps (with_value s.stack k)
  value_keeps k f =
      value-all Keeps s.stack k tt (λ a rest e.
      let g : Each (EntryHas N L) (value a ∷ rest) = rw e at h.stack in f a rest g.0 g.1)

  values-keeps : (k : Atom → Atom → List Entry → Request)
      → ((a b : Atom) (rest : List Entry) → AtomHas N L a → AtomHas N L b → Each (EntryHas N L) rest → Keeps (k a b rest))
      → Keeps (with_values s.stack k)
  values-keeps k f =
      values-all Keeps s.stack k tt (λ a b rest e.
      let g : Each (EntryHas N L) (value a ∷ value b ∷ rest) = rw e at h.stack in f a b rest g.0 g.1.0 g.1.1)

  frame-keeps : (returns : Bool) (es : List Entry) → Each (EntryHas N L) es → (k : Atom → List Entry → Request)
      → ((a : Atom) (rest : List Entry) → AtomHas N L a → Each (EntryHas N L) rest → Keeps (k a rest))
      → Keeps (with_frame returns es k)
  frame-keeps returns es hs k f =
      frame-all Keeps returns es k tt tt (λ a rest e.
      let g : Each (EntryHas N L) (frame returns a ∷ rest) = rw e at hs in f a rest g.0 g.1)

  cell-keeps : (z : ℤ) (k : ℕ → Atom → Request)
      → ((i : ℕ) (c : Atom) → AtomHas N L c → Keeps (k i c)) → Keeps (with_cell s.memory z k)
  cell-keeps z k f = cell-all Keeps s.memory z k tt (λ i c e at. f i c (each_at (AtomHas N L) at h.memory))

  -- another place and stack
  moved : {p : Atom} {es : List Entry} {n : ℕ} → AtomHas N L p → Each (EntryHas N L) es
      → Holds N L (record { pc = p; stack = es; memory = s.memory; lines = s.lines; steps = n })
  moved g f = record { pc = g; stack = f; memory = h.memory; lines = h.lines }

  branch-has : (m n : ℤ) → N (s.pc.number +ℤ pos 1) → N (s.pc.number +ℤ n) → N (branch m s.pc.number n)
  branch-has (pos zero) n f g = f
  branch-has (pos (suc m)) n f g = g
  branch-has (negsuc m) n f g = g

  making-keeps : (c : Command) (make : ℤ → ℤ → ℤ) → Makes c make → Brings N c s → Keeps (making s make)
  making-keeps c make makes new =
      values-all Keeps s.stack _ tt (λ x y rest e.
      let g : Each (EntryHas N L) (value x ∷ value y ∷ rest) = rw e at h.stack in
      let m : Made c s = record { make = make; makes = makes; top = x; next = y; rest = rest; found = e } in (
        g.0.1,
        g.1.0.1,
        tt,
        λ p r hp hr.
            provided-all (Gives (Holds N L)) (is_signed 64 (number m)) Overflow _
            (λ t. moved (new.following, hp) ((new.made m (test-signed 64 (number m) t), hr), g.1.1))
            (λ t. tt),
      ))

  outputting-keeps : (env : Environment) (c : Command) (page : ℤ) → Brings N c s → Keeps (outputting env s page)
  outputting-keeps env c page new =
      value_keeps _ (λ a rest ha hs. (
        ha.1,
        tt,
        tt,
        λ p r hp hr.
            let written : Each (LineHas N L) (s.lines ++ (number_line page a.number r ∷ [])) =
            each_snoc (LineHas N L) s.lines _ h.lines (ha.0, hr) in
            barred-all env (length s.lines) _ (Gives (Holds N L)) _
            (λ e g. record { pc = (new.following, hp); stack = hs; memory = h.memory; lines = written })
            (λ x b. tt),
      ))

  calling-keeps : (c : Command) (n results : ℕ) → Brings N c s → Keeps (calling s n results)
  calling-keeps c n results new =
      value_keeps _ (λ a below ha hs. arguments-all Keeps n below _ tt (λ arguments rest v e. (
        ha.1,
        tt,
        tt,
        λ p r hp hr. moved (ha.0, hp) (each-insert (EntryHas N L) arguments rest _ (new.following, hr) (rw e at hs)),
      )))

  request-keeps : (env : Environment) (c : Command) → Brings N c s → Keeps (request env c s)
  unfolding request
  request-keeps env Add new = making-keeps Add _ sum new
  request-keeps env Sub new = making-keeps Sub _ difference new
  request-keeps env Pop new = value_keeps _ (λ a rest ha hs. (ha.1, tt, tt, λ p r hp hr. moved (new.following, hp) hs))
  request-keeps env Output new = outputting-keeps env Output _ new
  request-keeps env (Push n) new = (
    tt,
    tt,
    tt,
    λ p r hp hr.
        provided-all (Gives (Holds N L)) (ltb (length s.stack) stack_limit) StackFull _
        (λ e. moved (new.following, hp) ((new.pushed n refl, hr), h.stack))
        (λ e. tt),
  )
  request-keeps env Load new =
      value_keeps _ (λ a rest ha hs. cell-keeps a.number _ (λ i c hc.
      (ha.1, hc.1, tt, λ p r hp hr. moved (new.following, hp) ((hc.0, hr), hs))))
  request-keeps env Store new =
      values-keeps _ (λ a b rest ha hb hs. cell-keeps a.number _ (λ i c hc. (
        ha.1,
        hb.1,
        hc.1,
        λ p r hp hr.
            let stored : Each (AtomHas N L) (set s.memory i (atom b.number r)) =
            each_set (AtomHas N L) s.memory i _ (hb.0, hr) h.memory in
            record { pc = (new.following, hp); stack = hs; memory = stored; lines = h.lines },
      )))
  request-keeps env Jump new = value_keeps _ (λ a rest ha hs. (ha.1, tt, tt, λ p r hp hr. moved (ha.0, hp) hs))
  request-keeps env (Bnz n) new =
      value_keeps _ (λ a rest ha hs. (
        ha.1,
        tt,
        tt,
        λ p r hp hr.
            moved (branch-has a.number n new.following (new.branched n refl), hp) hs,
      ))
  request-keeps env Call new = calling-keeps Call 1 0 new
  request-keeps env Ret new =
      frame-keeps false s.stack h.stack _ (λ a rest ha hs. (ha.1, tt, tt, λ p r hp hr. moved (ha.0, hp) hs))
  request-keeps env (OutputTo page) new = outputting-keeps env (OutputTo page) page new
  request-keeps env (CallN z) new = calling-keeps (CallN z) (arguments_of z) (results_of z) new
  request-keeps env RetV new =
      value_keeps _ (λ v below hv hs. frame-keeps true below hs _ (λ a rest ha hr.
      (hv.1, ha.1, tt, λ p r hp hl. moved (ha.0, hp) ((hv.0, hl), hr))))

-- the end line has the number 0 and the place label
closed-holds : (N : ℤ → Type 0) (L : ℕ → Type 0) → N (pos 0) → (s : State) → Holds N L s → Holds N L (closed s)
closed-holds N L nought s h =
    record {
      pc = h.pc;
      stack = h.stack;
      memory = h.memory;
      lines = each_snoc (LineHas N L) s.lines (end_line s.pc.label) h.lines (nought, h.pc.1);
    }

module _ (N : ℤ → Type 0) (L : ℕ → Type 0) (cs : List Command) where
  module _ (π : Policy) (answers : Answers L π) where
    consult-holds : (c : Command) (s : State) (h : Holds N L s) (q : Request)
        → Keeps N L s h q → Gives (Holds N L) (consult π c s q)
    consult-holds c s h (halt x) g = tt
    consult-holds c s h (ask l1 l2 l3 k) (h1, h2, h3, g) = go _ refl
      where
        go : (v : Verdict) → π (key_of c s l1 l2 l3) ≡ v → Gives (Holds N L) (decide v k)
        go denied e = tt
        go (allowed p r) e =
            let (hp, hr) = answers (key_of c s l1 l2 l3) p r (record { pc = h.pc.1; input1 = h1; input2 = h2; input3 = h3 }) e in
            g p r hp hr

    pub step-holds : (env : Environment) (s : State) → ((c : Command) → CommandAt cs s.pc.number c → Brings N c s) → Holds N L s
        → Gives (Holds N L) (step π env cs s)
    unfolding execute
    step-holds env s brings h =
        step-all π env s (Gives (Holds N L)) cs
        (λ c at. consult-holds c s h (request env c s) (request-keeps N L s h env c (brings c at)))
        (λ e. tt)

  -- where a program has such numbers, and what its commands make of two such numbers is such a one
  module _ (has : ProgramHas N cs) (made : (c : Command) (s : State) → Holds N L s → (m : Made c s) → Signed 64 (number m) → N (number m))
    where
      brings-at : (s : State) → Holds N L s → (c : Command) → CommandAt cs s.pc.number c → Brings N c s
      brings-at s h c at =
          record {
            pushed = λ n e. has.pushed s.pc.number n (rw e at at);
            branched = λ n e. has.branched s.pc.number n (rw e at at);
            following = has.following s.pc.number c at;
            made = made c s h;
          }

      -- of a ruler that answers with such labels in every state
      pub run_holds : {R : Type 0} (ρ : Ruler R) → N (pos 0) → ((u : R) → Answers L (rules ρ u)) → (env : Environment) (fuel : ℕ) (s : State) (u : R)
          → Holds N L s → Holds N L (run ρ env cs fuel s u).state
      run_holds ρ nought answers env fuel s u h =
          run-keeps ρ env cs (Holds N L)
          (λ s t u at e g. gives-stepped (Holds N L) e (step-holds (rules ρ u) (answers u) env s (brings-at s g) g))
          (λ s at f g. closed-holds N L nought s g) fuel s u h

-- ════════════════════════════════════════════════════════════════════════════════════════════
-- Labels in range
-- ════════════════════════════════════════════════════════════════════════════════════════════

-- of numbers nothing is asked
anything : (cs : List Command) → ProgramHas (λ n. Unit) cs
anything cs = record { pushed = λ z n e. tt; branched = λ z n e. tt; following = λ z c e. tt }

brings-anything : (c : Command) (s : State) → Brings (λ n. Unit) c s
brings-anything c s = record { pushed = λ n e. tt; branched = λ n e. tt; following = tt; made = λ m g. tt }

pub step_range : (π : Policy) → Answers InRange π → (env : Environment) (cs : List Command) (s : State) → LabelsInRange s
    → Gives LabelsInRange (step π env cs s)
step_range π answers env cs s h = step-holds (λ n. Unit) InRange cs π answers env s (λ c at. brings-anything c s) h

pub run-range : {R : Type 0} (ρ : Ruler R) → ((u : R) → Answers InRange (rules ρ u)) → (env : Environment) (cs : List Command) (fuel : ℕ)
    (s : State) (u : R) → LabelsInRange s → LabelsInRange (run ρ env cs fuel s u).state
run-range ρ answers env cs fuel s u h =
    run_holds (λ n. Unit) InRange cs (anything cs) (λ c s h m g. tt) ρ tt answers env fuel s u h

-- the standard policy's answers are in range
abbrev InRangeVerdict : Verdict → Type 0
InRangeVerdict denied = Unit
InRangeVerdict (allowed p r) = InRange p × InRange r

bottom-range : InRange bottom
bottom-range = omega arith

input-range : (i : Input) → InputHas InRange i → InRange (label_of i)
input-range (present l) h = h
input-range missing h = bottom-range

verdict-range : (b : Bool) (p r : ℕ) → InRange p → InRange r → InRangeVerdict (allowed_if b p r)
verdict-range true p r hp hr = (hp, hr)
verdict-range false p r hp hr = tt

-- whatever a table builds from labels in range by joins is in range
ruleset ranges = (join-range, bottom-range)

rule-range : (c : Opcode) (p l1 l2 l3 : ℕ) → InRange p → InRange l1 → InRange l2 → InRange l3
    → InRangeVerdict (rule c p l1 l2 l3)
rule-range add p l1 l2 l3 hp h1 h2 h3 = (search ranges, search ranges)
rule-range sub p l1 l2 l3 hp h1 h2 h3 = (search ranges, search ranges)
rule-range pop p l1 l2 l3 hp h1 h2 h3 = (search ranges, search ranges)
rule-range output p l1 l2 l3 hp h1 h2 h3 = (search ranges, search ranges)
rule-range push p l1 l2 l3 hp h1 h2 h3 = (search ranges, search ranges)
rule-range load p l1 l2 l3 hp h1 h2 h3 = (search ranges, search ranges)
rule-range store p l1 l2 l3 hp h1 h2 h3 = search (ranges, verdict-range)
rule-range jump p l1 l2 l3 hp h1 h2 h3 = (search ranges, search ranges)
rule-range bnz p l1 l2 l3 hp h1 h2 h3 = (search ranges, search ranges)
rule-range call p l1 l2 l3 hp h1 h2 h3 = (search ranges, search ranges)
rule-range ret p l1 l2 l3 hp h1 h2 h3 = (search ranges, search ranges)
rule-range output_to p l1 l2 l3 hp h1 h2 h3 = (search ranges, search ranges)
rule-range call_n p l1 l2 l3 hp h1 h2 h3 = (search ranges, search ranges)
rule-range ret_v p l1 l2 l3 hp h1 h2 h3 = (search ranges, search ranges)

pub standard-range : Answers InRange standard
unfolding standard
standard-range k p r h e =
    let g : InRangeVerdict (standard k) =
    rule-range k.opcode k.pc _ _ _ h.pc
    (input-range k.input1 h.input1) (input-range k.input2 h.input2) (input-range k.input3 h.input3) in
    rw e at g

-- ════════════════════════════════════════════════════════════════════════════════════════════
-- Numbers of 64 bits
-- ════════════════════════════════════════════════════════════════════════════════════════════

pub place-lt : (cs : List Command) (i : ℕ) (c : Command) → CommandAt cs (pos i) c → i < length cs
place-lt [] i c e = never (cc)
place-lt (d ∷ cs) zero c e = omega arith
place-lt (d ∷ cs) (suc i) c e = let h : i < length cs = place-lt cs i c e in omega arith

sum-signed : (i : ℕ) (n : ℤ) → i < 2 ^ 62 → Signed 63 n → Signed 64 (pos i +ℤ n)
sum-signed i (pos b) h g = omega arith
sum-signed i (negsuc b) h g = go (ltb i (suc b))
  where
    go : (t : Bool) → Signed 64 (cond t (negsuc (suc b - suc i)) (pos (i - suc b)))
    go true = omega arith
    go false = omega arith

-- a program's operands and places have 64 bits where those of Push have 64, those of Bnz 63, and it is not too long
pub program-signed : (cs : List Command) → length cs ≤ 2 ^ 62
    → ((z n : ℤ) → CommandAt cs z (Push n) → Signed 64 n) → ((z n : ℤ) → CommandAt cs z (Bnz n) → Signed 63 n)
    → ProgramHas (Signed 64) cs
program-signed cs h pushed branched =
    record {
      pushed = pushed;
      branched = λ z n at. goes z (Bnz n) n at (branched z n at);
      following = λ z c at. goes z c (pos 1) at (omega arith);
    }
  where
    goes : (z : ℤ) (c : Command) (n : ℤ) → CommandAt cs z c → Signed 63 n → Signed 64 (z +ℤ n)
    goes (pos i) c n at g = let l : i < length cs = place-lt cs i c at in sum-signed i n (omega arith) g
    goes (negsuc i) c n at g = never (cc)

-- Add and Sub leave such numbers only, by their test
pub run-numbers : {R : Type 0} (ρ : Ruler R) (env : Environment) (cs : List Command) → ProgramHas (Signed 64) cs
    → (fuel : ℕ) (s : State) (u : R) → NumbersSigned s → NumbersSigned (run ρ env cs fuel s u).state
run-numbers ρ env cs has fuel s u h =
    run_holds (Signed 64) (λ l. Unit) cs has (λ c s h m g. g) ρ (omega arith) (λ u k p r g e. (tt, tt)) env fuel s u h
