-- Each command on words finds what the machine's command asks with, and does what it does, under any rule.
-- Assumes nothing.
use Rattle.std.proofs.Common.{None, Some, Option}
use mathlib.Core.Path.{◌≡◌, refl, ap, ap₂, ◌∙◌}
use mathlib.Core.Bool.{Bool, true, false}
use mathlib.Core.List.{List, ◌∷◌, ◌++◌, map}
use Prim.Native.Nat.{ℕ, zero, suc, ◌≤◌, ◌<◌}
use native.Mathlib.Omega.{arith}
use native.Mathlib.Numerals.{add-one}
use lib.IntN.{ℤ, pos, negsuc, ◌+ℤ◌, ◌-ℤ◌}
use lib.ListN.{length, length-append, length-map}
use lib.Dec.{ltb}
use borrow.Author.Tests.{ltb-true}
use Rattle.word.specs.Choose.{choose}
use Rattle.word.specs.Wrap.{Signed}
use Rattle.word.specs.Exact.{is_signed, exactly}
use Rattle.program.specs.declared.Command.{Command}
use Rattle.program.specs.declared.Command.TheVariants.{Add, Sub, Pop, Output, Push, Load, Store, Jump, Bnz, Call, Ret, OutputTo, CallN, RetV}
use Rattle.program.specs.Command.{arguments_of, results_of}
use Rattle.machine.specs.Atom.{Atom, Entry, value, frame, number_line}
use Rattle.machine.specs.Environment.{Environment, barrier}
use Rattle.machine.specs.State.{State}
use Rattle.machine.specs.declared.Stop.{Stop}
use Rattle.machine.specs.declared.Stop.TheVariants.{Overflow, StackFull}
use Rattle.machine.specs.Step.{Outcome, Request, provided, unless_barred, stack_limit, making, calling, request, atom, next, printing}
use Rattle.machine.specs.Step.{branch}
use Rattle.machine.proofs.Barrier.{barrier-held, barred-none}
use Rattle.stack.specs.Words.{machine, pushed, dropped, gone, slot_at}
use Rattle.step.specs.Find as Find
use Rattle.step.specs.Lent.{Cells, cells, Lent, After, after, OnStack, with_stack}
use Rattle.step.specs.Cell.{label_of}
use Rattle.stack.specs.declared.Kind.TheVariants.{Value}
use Rattle.stack.specs.declared.Slot.{Slot}
use Rattle.label.specs.Label.{bottom}
use Rattle.step.specs.Find.{first, second, load_finding, store_finding, two_values, one_value, call_values, one_frame, value_and_frame, load_cell}
use Rattle.step.specs.Find.{store_cell}
use Rattle.step.specs.Find.{find_of}
use Rattle.step.specs.Effect.{sum_of, branch_of, refilling, arith_from, arith_effect, pop_effect, output_effect, push_effect}
use Rattle.step.specs.Effect.{load_effect, store_effect, jump_effect, bnz_effect, frame_kind, call_effect, return_effect, effect_of}
use Rattle.engine.specs.Memory as Memory
use Rattle.engine.specs.Act.{write_of, emit_of}
use Rattle.engine.specs.Ended.{machine_of}
use Rattle.engine.proofs.Link.Stack.{Held, held-tail, Labelled, top_slot, below, slot-top, slot-below, stack-pushed, stack-inserted}
use Rattle.engine.proofs.Link.Record.{add_wrap-id, dropped-entry, dropped-entries, pushed-entry, printed-line, following-next}
use Rattle.engine.proofs.Link.Represents.{Represents, Sound, Simulates}
use Rattle.engine.proofs.Link.Needs.{value-needed, values-needed, frame-needed, calling-needed, cell-needed, room-needed}
use Rattle.engine.proofs.Link.Runs.{cell-read, label-read, cell-stored, line-at}
use Rattle.engine.proofs.Link.Carried.{stop-simulates, carried, goto-carried, refill-carried}
use Rattle.engine.proofs.Link.Looks.{found, effect, Looks}

branch-is : (n pc operand : ℤ) → Signed 64 (pc +ℤ pos 1) → Signed 64 (pc +ℤ operand) → branch_of n pc operand ≡ branch n pc operand
unfolding branch_of
branch-is (pos zero) pc operand on to = add_wrap-id pc (pos 1) on
branch-is (pos (suc n)) pc operand on to = add_wrap-id pc operand to
branch-is (negsuc n) pc operand on to = add_wrap-id pc operand to

module _ {env : Environment} {o₀ : Memory.Output} {s : State} {l : Lent} {o : Memory.Output} (r : Represents o₀ s (machine_of s) l o)
    (h : Sound env o₀ s l) (on : Signed 64 (s.pc.number +ℤ pos 1)) where
  -- an outcome of the machine, and what is left on words
  abbrev Sim : Outcome → After → Type 0
  Sim = Simulates env o₀ (machine_of s) l o

  -- what the command c asks, and what it finds on words
  abbrev Asks : Command → Request → Find.Found → Type 0
  Asks c = Looks c (machine_of s) l env o₀ o

  abbrev Found : Command → Type 0
  Found c = Asks c (request env c s) (found c (machine_of s) l)

  first-is : first (machine_of s) l.stack ≡ top_slot s.stack
  first-is = slot-top s.stack r.stack h.labels.stack h.depth h.space

  second_is : second (machine_of s) l.stack ≡ top_slot (below s.stack)
  second_is = slot-below s.stack r.stack h.labels.stack h.depth h.space

  values : l.cells.values ≡ map (λ a. a.number) s.memory
  values = ap (λ (c : Cells). c.values) r.cells

  labels : l.cells.labels ≡ map (λ a. pos a.label) s.memory
  labels = ap (λ (c : Cells). c.labels) r.cells

  count : length l.cells.values ≡ length s.memory
  count = ap length values ∙ length-map s.memory (λ a. a.number)

  -- what is left of the stack after one entry is dropped, after two
  under_one : {e : Entry} {rest : List Entry} → s.stack ≡ e ∷ rest → Held rest l.stack
  under_one {e} {rest} g = held-tail e rest (rw g at r.stack)

  under-two : {d e : Entry} {rest : List Entry} → s.stack ≡ d ∷ e ∷ rest → Held rest l.stack
  under-two {d} {e} {rest} g = held-tail e rest (under_one g)

  depth : {es : List Entry} → s.stack ≡ es → length es ≤ stack_limit
  depth g = rw g at h.depth

  -- the record with one entry more
  grown : (n : ℕ) → n < stack_limit
      → pushed (machine s.pc.number s.pc.label n (length s.lines))
      ≡ machine s.pc.number s.pc.label (suc n) (length s.lines)
  grown n fits = pushed-entry s.pc.number s.pc.label n (length s.lines) fits

  -- a value in place of the top, and of the one below it
  refill-one : (rest : List Entry) (a : Atom) (n : ℤ) (label p : ℕ) → s.stack ≡ value a ∷ rest
      → Sim (next s p (value (atom n label) ∷ rest)) (with_stack l (refilling (dropped (machine_of s)) l.stack n label p))
  refill-one rest a n label p e =
      let d : suc (length rest) ≤ stack_limit = depth e in
      let size : length s.stack ≡ suc (length rest) = ap length e in
      let kind : (slot_at l.stack (length s.stack) 0).kind ≡ Value = rw (first-is, e) in
      refill-carried env r rest n label p 0 on h.space (omega arith) (under_one e) (omega arith) kind
      (rw e (dropped-entry _ _ _ _))

  refill-two : (rest : List Entry) (a b : Atom) (n : ℤ) (label p : ℕ) → s.stack ≡ value a ∷ value b ∷ rest
      → Sim (next s p (value (atom n label) ∷ rest)) (with_stack l (refilling (dropped (dropped (machine_of s))) l.stack n label p))
  refill-two rest a b n label p e =
      let d : suc (suc (length rest)) ≤ stack_limit = depth e in
      let size : length s.stack ≡ suc (suc (length rest)) = ap length e in
      let kind : (slot_at l.stack (length s.stack) 1).kind ≡ Value = rw (second_is, e) in
      refill-carried env r rest n label p 1 on h.space (omega arith) (under-two e) (omega arith) kind
      (rw e (dropped-entries _ _ _ _))

  -- ══════════════════════════════════════════════════════════════════════════════════════════
  -- Add and Sub
  -- ══════════════════════════════════════════════════════════════════════════════════════════

  -- the whole number that is made of two values is a word, or it is stop 9
  number-made : (a b : Atom) (rest : List Entry) (n : ℤ) (label p : ℕ) → s.stack ≡ value a ∷ value b ∷ rest
      → Sim (provided (is_signed 64 n) Overflow (next s p (value (atom n label) ∷ rest)))
      (with_stack l (arith_from p label (machine_of s) l.stack (exactly n)))
  unfolding exactly
  number-made a b rest n label p e = by (is_signed 64 n)
    where
      by : (t : Bool) → Sim (provided t Overflow (next s p (value (atom n label) ∷ rest)))
          (with_stack l (arith_from p label (machine_of s) l.stack (choose t (Some n) None)))
      by true = refill-two rest a b n label p e
      by false = stop-simulates env o₀ (machine_of s) l o Overflow

  -- what both ask and do
  making-looks : (c : Command) (make : ℤ → ℤ → ℤ)
      → (let m = machine_of s in let n = make (first m l.stack).number (second m l.stack).number in
      (p label : ℕ) → effect c m l p label ≡ with_stack l (arith_from p label m l.stack (exactly n)))
      → Asks c (making s make) (two_values (machine_of s) l.stack)
  unfolding two_values
  making-looks c make g =
      rw (first-is, second_is) (values-needed (Asks c) s.stack _ _ _ refl (λ a b rest e. (
        rw e,
        λ p label.
            rw (g p label, first-is, second_is, ap top_slot e, ap (λ es. top_slot (below es)) e)
            (number-made a b rest (make a.number b.number) label p e),
      )))

  pub add-looks : Found Add
  unfolding request find_of effect_of arith_effect sum_of
  add-looks = making-looks Add ◌+ℤ◌ (λ p label. refl)

  pub sub-looks : Found Sub
  unfolding request find_of effect_of arith_effect sum_of
  sub-looks = making-looks Sub ◌-ℤ◌ (λ p label. refl)

  -- ══════════════════════════════════════════════════════════════════════════════════════════
  -- Pop, Output, OutputTo and Push
  -- ══════════════════════════════════════════════════════════════════════════════════════════

  pub pop-looks : Found Pop
  unfolding request find_of one_value effect_of pop_effect
  pop-looks =
      rw first-is (value-needed (Asks Pop) s.stack _ _ _ refl (λ a rest e.
      (rw e, λ p _. goto-carried env r _ rest (rw (e, dropped-entry) (following-next _ _ _ _ p on)) (under_one e))))

  -- the line is written where nothing holds it back
  line-written : (page : ℤ) (a : Atom) (rest : List Entry) (p label : ℕ) (b : Option Stop) → s.stack ≡ value a ∷ rest
      → barrier env (length s.lines) (number_line page a.number label) ≡ b
      → Sim (unless_barred b (printing s p rest (number_line page a.number label)))
      (after (output_effect p label (machine_of s) page l.stack) l)
  unfolding output_effect emit_of write_of
  line-written page a rest p label (Some x) e t = (rw (first-is, e, t), refl)
  line-written page a rest p label None e t =
      let fits : length s.lines < env.room = (barred-none env _ _ (barrier-held env _ _ t)).1 in
      rw (first-is, e, t) (
        rw (dropped-entry, following-next _ _ _ _ p on, printed-line _ _ _ _ env.room fits, length-append, add-one),
        record {
          machine = refl;
          stack = under_one e;
          cells = r.cells;
          output = line-at s.lines (number_line page a.number label) o o₀ r.output (omega (arith, h.fits));
        },
        under_one e,
      )

  pub output-looks : Found Output
  unfolding request find_of one_value effect_of
  output-looks =
      rw first-is (value-needed (Asks Output) s.stack _ _ _ refl (λ a rest e.
      (rw e, λ p label. line-written (pos 0) a rest p label _ e refl)))

  pub output-to-looks : (page : ℤ) → Found (OutputTo page)
  unfolding request find_of one_value effect_of
  output-to-looks page =
      rw first-is (value-needed (Asks (OutputTo page)) s.stack _ _ _ refl (λ a rest e.
      (rw e, λ p label. line-written page a rest p label _ e refl)))

  pub push-looks : (n : ℤ) → Found (Push n)
  unfolding request find_of effect_of push_effect
  push-looks n = (
    refl,
    λ p label.
        room-needed (λ o (x : OnStack). Sim o (with_stack l x)) (ltb (length s.stack) stack_limit) StackFull _ _ _
        (λ t.
        let fits : length s.stack < stack_limit = ltb-true _ _ t in
        goto-carried env r _ _
        (rw (pushed-entry _ _ (length s.stack) _ fits) (following-next _ _ _ _ p on))
        (stack-pushed _ _ _ (value (atom n label)) s.stack l.stack fits h.space r.stack))
        (stop-simulates env o₀ (machine_of s) l o StackFull),
  )

  -- ══════════════════════════════════════════════════════════════════════════════════════════
  -- Load and Store
  -- ══════════════════════════════════════════════════════════════════════════════════════════

  pub load-looks : Found Load
  unfolding request find_of load_cell effect_of load_effect
  load-looks =
      rw first-is (value-needed (Asks Load) s.stack _ _ _ refl (λ a rest e.
      rw (ap top_slot e, count) (cell-needed (Asks Load) s.memory a.number _
      (λ j. load_finding (machine_of s) l (label_of l.cells j)) refl
      (λ i c at g. (
        rw (first-is, e, label-read labels h.labels.memory at),
        λ p label.
            rw (first-is, ap top_slot e, count, g, cell-read (λ c. c.number) values at) (refill-one rest a _ label p e),
      )))))

  pub store-looks : Found Store
  unfolding request find_of store_cell effect_of store_effect
  store-looks =
      rw (first-is, second_is) (values-needed (Asks Store) s.stack _ _ _ refl (λ a b rest e.
      rw (ap top_slot e, count) (cell-needed (Asks Store) s.memory a.number _
      (λ j. store_finding (machine_of s) l (label_of l.cells j)) refl
      (λ i c at g. (
        rw (first-is, second_is, e, label-read labels h.labels.memory at),
        λ p label.
            let stored : Atom = atom b.number label in
            rw (first-is, ap top_slot e, count, g, second_is, ap (λ es. top_slot (below es)) e)
            (carried env r _ rest _
            (rw (e, dropped-entries) (following-next _ _ _ _ p on))
            (under-two e)
            (ap₂ cells
            (cell-stored (λ c. c.number) s.memory i stored values)
            (cell-stored (λ c. pos c.label) s.memory i stored labels))),
      )))))

  -- ══════════════════════════════════════════════════════════════════════════════════════════
  -- Jump, Bnz, Call and Ret
  -- ══════════════════════════════════════════════════════════════════════════════════════════

  pub jump-looks : Found Jump
  unfolding request find_of one_value effect_of jump_effect gone
  jump-looks =
      rw first-is (value-needed (Asks Jump) s.stack _ _ _ refl (λ a rest e.
      (rw e, λ p _. goto-carried env r (atom a.number p) rest (rw (first-is, e, dropped-entry)) (under_one e))))

  pub bnz-looks : (n : ℤ) → Signed 64 (s.pc.number +ℤ n) → Found (Bnz n)
  unfolding request find_of one_value effect_of bnz_effect gone
  bnz-looks n to =
      rw first-is (value-needed (Asks (Bnz n)) s.stack _ _ _ refl (λ a rest e. (
        rw e,
        λ p _.
            goto-carried env r (atom (branch a.number s.pc.number n) p) rest
            (rw (first-is, e, dropped-entry, branch-is a.number s.pc.number n on to)) (under_one e),
      )))

  pub ret-looks : Found Ret
  unfolding request find_of one_frame effect_of jump_effect gone
  ret-looks =
      rw first-is (frame-needed (Asks Ret) false s.stack _ _ _ _ refl refl (λ a rest e.
      (rw e, λ p _. goto-carried env r (atom a.number p) rest (rw (first-is, e, dropped-entry)) (under_one e))))

  -- the value stands where the frame stood
  pub ret-v-looks : Found RetV
  unfolding request find_of value_and_frame effect_of return_effect gone
  ret-v-looks =
      rw first-is (value-needed (Asks RetV) s.stack _ _ _ refl (λ v under e.
      rw (second_is, ap top_slot e, ap (λ es. top_slot (below es)) e) (frame-needed (Asks RetV) true under _ _ _ _ refl refl (λ a rest g. (
        ap (λ (x : Slot). Find.found 2 v.label x.label.0 bottom) (ap top_slot g),
        λ p label.
            let f : s.stack ≡ value v ∷ frame true a ∷ rest = e ∙ ap (λ (es : List Entry). value v ∷ es) g in
            let d : suc (suc (length rest)) ≤ stack_limit = depth f in
            let fits : length rest < stack_limit = omega arith in
            goto-carried env r (atom a.number p) (value (atom v.number label) ∷ rest)
            (rw (second_is, f, dropped-entries, grown (length rest) fits))
            (rw (first-is, f, dropped-entries)
            (stack-pushed _ _ _ (value (atom v.number label)) rest l.stack fits h.space (under-two f))),
      )))))

  -- what Call and CallN ask and do: the frame stands under the arguments
  calling-looks : (c : Command) (n results : ℕ)
      → ((p label : ℕ) → effect c (machine_of s) l p label ≡ with_stack l (call_effect p label (machine_of s) n (frame_kind results) l.stack))
      → Asks c (calling s n results) (call_values (machine_of s) l.stack n)
  unfolding call_values call_effect gone
  calling-looks c n results is =
      calling-needed (Asks c) l.stack h.space n s.stack _ _ _ r.stack h.labels.stack h.depth refl
      (λ a arguments rest v e. (
        rw (first-is, e),
        λ p label.
            let back : Entry = frame (ltb 0 results) (atom (s.pc.number +ℤ pos 1) label) in
            let size : length (arguments ++ (back ∷ rest)) ≡ length s.stack = rw (e, length-append, length-append) (omega arith) in
            let labelled : Labelled (value a ∷ arguments ++ rest) = rw e at h.labels.stack in
            rw (is p label)
            (goto-carried env r (atom a.number p) (arguments ++ (back ∷ rest))
            (rw (first-is, size, e))
            (rw (e, add_wrap-id s.pc.number (pos 1) on)
            (stack-inserted _ _ _ (value a) back arguments rest v (depth e) h.space (rw e at r.stack) labelled.1))),
      ))

  pub call-looks : Found Call
  unfolding request find_of effect_of
  call-looks = calling-looks Call 1 0 (λ p label. refl)

  pub call-n-looks : (z : ℤ) → Found (CallN z)
  unfolding request find_of effect_of
  call-n-looks z = calling-looks (CallN z) (arguments_of z) (results_of z) (λ p label. refl)
