-- The counts of a run of the tag engine, whatever the handler and the rule memory are.
-- Assumes nothing.
use mathlib.Core.Path.{◌≡◌, refl}
use mathlib.Core.Bool.{Bool, true, false}
use mathlib.Core.List.{List}
use Prim.Native.Nat.{ℕ, suc, ◌+◌, ◌*◌, ◌≤◌}
use native.Mathlib.Nat.{add-mul}
use native.Mathlib.Omega.{arith}
use lib.ListN.{length}
use Rattle.program.specs.declared.Command.{Command}
use Rattle.machine.specs.Rule.{rules}
use Rattle.machine.specs.State.{State}
use Rattle.machine.specs.Environment.{Environment}
use Rattle.machine.specs.Step.{Outcome, stopped, stepped, Request, halt, ask, request, key_of, execute}
use Rattle.machine.specs.Run.{step, asked_by, asked, run}
use Rattle.machine.proofs.Execute.{Sound, execute-sound}
use Rattle.machine.proofs.Step.{Gives, gives-stepped, step_both, run-induction}
use Rattle.handler.specs.Kernel.{Instruction, handle}
use Rattle.handler.proofs.Effect.{handle-steps}
use Rattle.tagging.specs.Consult.{Tag, Five, five_of, matches, missed, consult_if, consult, counted, tag_ruler}
use Rattle.tagging.specs.Claim.{Adds}

-- what one command adds: at most one fault, with its kernel steps
record Grows (limit : ℕ) (u w : Tag) : Type 0 where
  more : ℕ
  one : more ≤ 1
  faults : w.faults ≡ u.faults + more
  kernel_steps : w.kernel_steps ≤ u.kernel_steps + more * limit

module _ (handler : List Instruction) where
  grows_none : (u : Tag) → Grows (length handler) u u
  grows_none u = record { more = 0; one = omega arith; faults = omega arith; kernel_steps = omega arith }

  consult-grows : (u : Tag) (f : Five) → Grows (length handler) u (counted u (consult (handle handler) f u.row))
  unfolding consult
  consult-grows u f = go (matches f u.row)
    where
      go : (b : Bool) → Grows (length handler) u (counted u (consult_if b (handle handler) f u.row))
      go true = record { more = 0; one = omega arith; faults = refl; kernel_steps = omega arith }
      go false =
          let h = handle-steps handler (missed f) in record { more = 1; one = omega arith; faults = refl; kernel_steps = omega arith }

  request-grows : (c : Command) (s : State) (u : Tag) (q : Request) → Grows (length handler) u (asked_by (tag_ruler handler) c s u q)
  request-grows c s u (halt x) = grows_none u
  request-grows c s u (ask l1 l2 l3 k) = consult-grows u (five_of (key_of c s l1 l2 l3))

  module _ (env : Environment) (cs : List Command) where
    -- with one step more where the command is carried out
    abbrev Counting : State → Tag → Outcome → Tag → Type 0
    Counting s u o w = Grows (length handler) u w × Gives (λ v. v.steps ≡ suc s.steps) o

    step-grows : (s : State) (u : Tag) → Counting s u (step (rules (tag_ruler handler) u) env cs s) (asked (tag_ruler handler) env cs s u)
    step-grows s u =
        step_both (tag_ruler handler) (rules (tag_ruler handler) u) env s u (Counting s u) cs
        (λ c at. (
          request-grows c s u (request env c s),
          steps c (execute (rules (tag_ruler handler) u) env c s) (execute-sound (rules (tag_ruler handler) u) env c s),
        ))
        (λ out. (grows_none u, tt))
      where
        steps : (c : Command) (o : Outcome) → Sound (rules (tag_ruler handler) u) env c s o → Gives (λ v. v.steps ≡ suc s.steps) o
        steps c (stopped x) h = tt
        steps c (stepped v) h = h.steps

    -- the counts of a run: its faults are among its commands, each of them within the handler's length
    pub tag-counts : (fuel : ℕ) (s : State) (u : Tag) → Adds (length handler) s u (run (tag_ruler handler) env cs fuel s u)
    tag-counts =
        run-induction (tag_ruler handler) env cs (λ fuel s u r. Adds (length handler) s u r)
        (λ fuel s u e f. record { more = 0; faults = omega arith; most = omega arith; kernel_steps = omega arith })
        (λ fuel s u x e f. record { more = 0; faults = omega arith; most = omega arith; kernel_steps = omega arith })
        (λ s u e. record { more = 0; faults = omega arith; most = omega arith; kernel_steps = omega arith })
        (λ fuel s u x e g.
        let (h, k) = step-grows s u in
        let one = h.one in
        record { more = h.more; faults = h.faults; most = omega arith; kernel_steps = h.kernel_steps })
        (λ fuel s v u r e g on.
        let (h, k) = step-grows s u in
        let steps = gives-stepped (λ v. v.steps ≡ suc s.steps) g k in
        record {
          more = h.more + on.more;
          faults = let a = h.faults in let b = on.faults in omega arith;
          most = let a = h.one in let b = on.most in omega arith;
          kernel_steps =
              let a = h.kernel_steps in
              let b = on.kernel_steps in
              let c = add-mul h.more on.more (length handler) in
              omega arith;
        })
