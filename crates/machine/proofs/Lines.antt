-- What holds of every line that a run writes.
-- Assumes nothing.
use mathlib.Core.Path.{◌≡◌}
use mathlib.Core.Bool.{true, false}
use mathlib.Core.List.{List}
use Prim.Native.Nat.{ℕ}
use lib.IntN.{ℤ, ◌+ℤ◌, ◌-ℤ◌}
use lib.Dec.{ltb}
use lib.ListN.{length}
use Rattle.program.specs.declared.Command.{Command}
use Rattle.program.specs.Command.{arguments_of, results_of}
use Rattle.program.specs.declared.Command.TheVariants.{Add, Sub, Pop, Output, Push, Load, Store, Jump, Bnz, Call, Ret, OutputTo, CallN, RetV}
use Rattle.word.specs.Exact.{is_signed}
use Rattle.machine.specs.Atom.{Line, number_line, end_line}
use Rattle.machine.specs.Rule.{Ruler, rules}
use Rattle.machine.specs.State.{State}
use Rattle.machine.specs.declared.Stop.TheVariants.{Overflow, StackFull}
use Rattle.machine.specs.Environment.{Environment, cleared}
use Rattle.machine.specs.Step.{Request, stack_limit, making, outputting, calling, request}
use Rattle.machine.specs.Step.{execute}
use Rattle.machine.specs.Run.{run}
use Rattle.machine.specs.Stopped.{CommandAt, Writes, plain, to}
use Rattle.machine.specs.Holds.{Each}
use Rattle.machine.proofs.Barrier.{barrier-held, barred-none, barred-all}
use Rattle.machine.proofs.Request.{value-all, values-all, arguments-all, frame-all, cell-all, provided-all}
use Rattle.machine.proofs.Step.{Gives, gives-stepped, Leaves, consult-leaves, step-all, run-keeps}
use Rattle.machine.proofs.Holds.{each_snoc}

module _ (P : Line → Type 0) where
  abbrev Lines : State → Type 0
  Lines s = Each P s.lines

  module _ (s : State) (h : Lines s) where
    abbrev Keeps : Request → Type 0
    Keeps = Leaves Lines

    making-lines : (make : ℤ → ℤ → ℤ) → Keeps (making s make)
    making-lines make =
        values-all Keeps s.stack _ tt (λ a b rest e p r.
        provided-all (Gives Lines) (is_signed 64 (make a.number b.number)) Overflow _ (λ t. h) (λ t. tt))

    -- of a line that goes out
    outputting-lines : (env : Environment) (page : ℤ)
        → ((n : ℤ) (l : ℕ) → cleared env (number_line page n l) ≡ true → P (number_line page n l)) → Keeps (outputting env s page)
    outputting-lines env page f =
        value-all Keeps s.stack _ tt (λ a rest e p r.
        barred-all env (length s.lines) _ (Gives Lines) _
        (λ t g. each_snoc P s.lines _ h (f a.number r t)) (λ x t. tt))

    calling-lines : (n results : ℕ) → Keeps (calling s n results)
    calling-lines n results =
        value-all Keeps s.stack _ tt (λ a below e. arguments-all Keeps n below _ tt (λ arguments rest v g p r. h))

    request-lines : (env : Environment) (c : Command)
        → ((page : ℤ) → Writes c page → (n : ℤ) (l : ℕ) → cleared env (number_line page n l) ≡ true → P (number_line page n l))
        → Keeps (request env c s)
    unfolding request
    request-lines env Add f = making-lines ◌+ℤ◌
    request-lines env Sub f = making-lines ◌-ℤ◌
    request-lines env Pop f = value-all Keeps s.stack _ tt (λ a rest e p r. h)
    request-lines env Output f = outputting-lines env _ (f _ plain)
    request-lines env (Push n) f = λ p r. provided-all (Gives Lines) (ltb (length s.stack) stack_limit) StackFull _ (λ t. h) (λ t. tt)
    request-lines env Load f =
        value-all Keeps s.stack _ tt (λ a rest e. cell-all Keeps s.memory a.number _ tt (λ i c g at p r. h))
    request-lines env Store f =
        values-all Keeps s.stack _ tt (λ a b rest e. cell-all Keeps s.memory a.number _ tt (λ i c g at p r. h))
    request-lines env Jump f = value-all Keeps s.stack _ tt (λ a rest e p r. h)
    request-lines env (Bnz n) f = value-all Keeps s.stack _ tt (λ a rest e p r. h)
    request-lines env Call f = calling-lines 1 0
    request-lines env Ret f = frame-all Keeps false s.stack _ tt tt (λ a rest e p r. h)
    request-lines env (OutputTo page) f = outputting-lines env page (f page to)
    request-lines env (CallN z) f = calling-lines (arguments_of z) (results_of z)
    request-lines env RetV f =
        value-all Keeps s.stack _ tt (λ v below e. frame-all Keeps true below _ tt tt (λ a rest g p r. h))

  -- and of the end line, holds of every line of a run
  pub run-each : {R : Type 0} (ρ : Ruler R) (env : Environment) (cs : List Command)
      → ((z : ℤ) (c : Command) → CommandAt cs z c → (page : ℤ) → Writes c page → (n : ℤ) (l : ℕ)
      → cleared env (number_line page n l) ≡ true → P (number_line page n l))
      → ((l : ℕ) → cleared env (end_line l) ≡ true → P (end_line l))
      → (fuel : ℕ) (s : State) (u : R) → Lines s → Lines (run ρ env cs fuel s u).state
  unfolding execute
  run-each ρ env cs f ends fuel s u h =
      run-keeps ρ env cs Lines
      (λ s t u at e g. gives-stepped Lines e
      (step-all (rules ρ u) env s (Gives Lines) cs
      (λ c at. consult-leaves Lines (rules ρ u) c s (request env c s) (request-lines s g env c (f s.pc.number c at)))
      (λ e. tt)))
      (λ s at e g. each_snoc P s.lines _ g (ends s.pc.label (barred-none env _ _ (barrier-held env _ _ e)).0)) fuel s u h
