-- One command on words under a ruler that answers on words as another does in the machine: it simulates the machine's command, and
-- leaves of the ruler what the machine's command does.
-- Assumes nothing.
use mathlib.Core.Path.{◌≡◌, refl}
use mathlib.Core.List.{List}
use Prim.Native.Nat.{ℕ}
use lib.IntN.{ℤ, pos, ◌+ℤ◌}
use Rattle.word.specs.Wrap.{Signed, residue}
use Rattle.program.specs.declared.Command.{Command}
use Rattle.program.specs.declared.Command.TheVariants.{Add, Sub, Pop, Output, Push, Load, Store, Jump, Bnz, Call, Ret, OutputTo, CallN, RetV}
use Rattle.program.specs.Command.{opcode, code_of, operand}
use Rattle.program.proofs.Codes.{code-residue}
use Rattle.machine.specs.Environment.{Environment}
use Rattle.machine.specs.Rule.{Key, Verdict, denied, allowed, Ruler, rules}
use Rattle.machine.specs.State.{State}
use Rattle.machine.specs.declared.Stop.TheVariants.{Denial}
use Rattle.machine.specs.Step.{Outcome, Request, halt, ask, request, key_of, decide, consult, execute}
use Rattle.machine.specs.Run.{asked_by}
use Rattle.machine.specs.Stopped.{CommandAt}
use Rattle.machine.specs.Holds.{ProgramHas, WellMarked}
use Rattle.machine.proofs.Asked.{Asks, request-asks}
use Rattle.stack.specs.declared.Machine.{Machine}
use Rattle.step.specs.Lent.{Lent, After}
use Rattle.step.specs.Find.{Found, find_of}
use Rattle.engine.specs.Memory as Memory
use Rattle.engine.specs.Act.{WordRuler, Acted, ruled, ruling, act_found, act_of}
use Rattle.engine.specs.Ended.{machine_of}
use Rattle.engine.proofs.Link.Represents.{Represents, Sound, Simulates}
use Rattle.engine.proofs.Link.Carried.{stop-simulates}
use Rattle.engine.proofs.Link.Looks.{finding, asked_for, found, Looks}
use Rattle.engine.proofs.Link.Command.{add-looks, sub-looks, pop-looks, output-looks, push-looks, load-looks}
use Rattle.engine.proofs.Link.Command.{store-looks, jump-looks, bnz-looks, call-looks, ret-looks, output-to-looks}
use Rattle.engine.proofs.Link.Command.{call-n-looks, ret-v-looks}

-- ════════════════════════════════════════════════════════════════════════════════════════════
-- What a command finds and does
-- ════════════════════════════════════════════════════════════════════════════════════════════

-- where a Bnz leads has 64 bits
abbrev Leads : Command → State → Type 0
Leads c s = (n : ℤ) → c ≡ Bnz n → Signed 64 (s.pc.number +ℤ n)

module _ {env : Environment} {o₀ : Memory.Output} {s : State} {l : Lent} {o : Memory.Output} (r : Represents o₀ s (machine_of s) l o)
    (h : Sound env o₀ s l)
    (on : Signed 64 (s.pc.number +ℤ pos 1)) where
  command-looks : (c : Command) → Leads c s → Looks c (machine_of s) l env o₀ o (request env c s) (found c (machine_of s) l)
  command-looks Add to = add-looks r h on
  command-looks Sub to = sub-looks r h on
  command-looks Pop to = pop-looks r h on
  command-looks Output to = output-looks r h on
  command-looks (Push n) to = push-looks r h on n
  command-looks Load to = load-looks r h on
  command-looks Store to = store-looks r h on
  command-looks Jump to = jump-looks r h on
  command-looks (Bnz n) to = bnz-looks r h on n (to n refl)
  command-looks Call to = call-looks r h on
  command-looks Ret to = ret-looks r h on
  command-looks (OutputTo page) to = output-to-looks r h on page
  command-looks (CallN z) to = call-n-looks r h on z
  command-looks RetV to = ret-v-looks r h on

-- ════════════════════════════════════════════════════════════════════════════════════════════
-- The rule between them
-- ════════════════════════════════════════════════════════════════════════════════════════════

-- a ruler on words answers as one in the machine does, whatever a command may ask
abbrev pub Follows : {R : Type 0} → WordRuler R → Ruler R → Type 0
Follows {R} ω ρ = (u : R) (k : Key) → WellMarked k → ω u (asked_for k) ≡ ρ u k

module _ {R : Type 0} (ω : WordRuler R) (ρ : Ruler R) (follows : Follows ω ρ) (env : Environment) (o₀ : Memory.Output) (c : Command) (s : State)
    (u : R)
    (l : Lent) (o : Memory.Output) where
  abbrev m : Machine
  m = machine_of s

  -- what comes of the words of a command
  abbrev acts : Found → Acted R
  acts i = act_found ω (pos (code_of (opcode c))) (operand c) m u l i

  -- a command on words simulates the machine's, and leaves of the ruler what that leaves
  abbrev Both : Request → Acted R → Type 0
  Both q a = Simulates env o₀ m l o (consult (rules ρ u) c s q) a.after × (a.ruler ≡ asked_by ρ c s u q)

  abbrev ruled_by : Verdict → After
  ruled_by v = ruled ω (pos (code_of (opcode c))) (operand c) m u l v

  verdict-simulates : (k : ℕ → ℕ → Outcome) → ((p r : ℕ) → Simulates env o₀ m l o (k p r) (ruled_by (allowed p r)))
      → (v : Verdict) → Simulates env o₀ m l o (decide v k) (ruled_by v)
  verdict-simulates k f denied = stop-simulates env o₀ m l o Denial
  verdict-simulates k f (allowed p r) = f p r

  request-acts : (q : Request) → Asks c s q → (i : Found) → Looks c m l env o₀ o q i → Both q (acts i)
  request-acts (halt x) a i e = rw e (stop-simulates env o₀ m l o x, refl)
  request-acts (ask l1 l2 l3 k) (marked, roomy) i (e, f) =
      let same : ruling ω (pos (code_of (opcode c))) (operand c) m u l (finding l1 l2 l3) ≡ ρ u (key_of c s l1 l2 l3) =
      follows u (key_of c s l1 l2 l3) marked in
      rw (e, same) (
        verdict-simulates k (λ p r. rw (code-residue (opcode c)) (f p r)) (rules ρ u (key_of c s l1 l2 l3)),
        refl,
      )

  pub act-both : Represents o₀ s m l o → Sound env o₀ s l → (cs : List Command) → ProgramHas (Signed 64) cs
      → CommandAt cs s.pc.number c
      → let a : Acted R = act_of ω (pos (code_of (opcode c))) (operand c) m u l in
      Simulates env o₀ m l o (execute (rules ρ u) env c s) a.after × (a.ruler ≡ asked_by ρ c s u (request env c s))
  unfolding act_of execute
  act-both r h cs has at =
      let looks = command-looks r h (has.following s.pc.number c at) c (λ n e. has.branched s.pc.number n (rw e at at)) in
      request-acts (request env c s) (request-asks env s h.labels c) (find_of (residue 64 (pos (code_of (opcode c)))) (operand c) m l)
      (rw (code-residue (opcode c)) looks)
