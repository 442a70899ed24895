-- The run on lent words is the machine's run: the loop over a loaded program, under a ruler that answers on words as another does in the
-- machine, ends as the run under that one does, and leaves its words.
-- Assumes nothing.
use Rattle.std.proofs.Common.{None, Some, Option, slice_get}
use mathlib.Core.Path.{◌≡◌, refl, sym, ap, ap₂, ◌∙◌}
use mathlib.Core.Bool.{Bool, true, false}
use mathlib.Core.List.{List, [], ◌∷◌}
use Prim.Native.Nat.{ℕ, zero, suc, ◌+◌, ◌≤◌, ◌<◌}
use native.Mathlib.Numerals.{add-one}
use native.Mathlib.Omega.{arith}
use lib.IntN.{ℤ, pos, negsuc}
use lib.ListN.{length, length-append}
use lib.Dec.{ltb, eqb}
use borrow.Author.Tests.{ne_eqb, ltb-true, ltb-false}
use Rattle.word.specs.Number.{natural_of, index_of}
use Rattle.word.specs.Lay.{laid}
use Rattle.word.specs.Wrap.{Signed}
use Rattle.word.proofs.Lay.{length-laid}
use Rattle.label.specs.Label.{InRange}
use Rattle.program.specs.declared.Command.{Command}
use Rattle.program.specs.Command.{opcode, code_of, operand}
use Rattle.program.specs.Space.{program_words}
use Rattle.program.proofs.Words.{code_at, operand_at, element-below}
use Rattle.machine.specs.Environment.{Environment}
use Rattle.machine.specs.Rule.{Ruler, rules}
use Rattle.machine.specs.Atom.{end_line}
use Rattle.machine.specs.State.{State}
use Rattle.machine.specs.declared.Stop.{Stop}
use Rattle.machine.specs.declared.Stop.TheVariants.{FuelSpent, PcOutside}
use Rattle.machine.specs.Step.{Outcome, stopped, stepped, execute}
use Rattle.machine.specs.Run.{at_end, asked, Result, result, finish, end_barrier, run, along}
use Rattle.machine.specs.Stopped.{CommandAt, NoCommandAt}
use Rattle.machine.specs.Holds.{ProgramHas, Answers}
use Rattle.machine.proofs.Barrier.{barrier-held, barred-none}
use Rattle.machine.proofs.Execute as Execute
use Rattle.machine.proofs.Step.{gives-stepped, step-at, asked-at, step-none, asked-none}
use Rattle.machine.proofs.Run.{run_end, run-spent, run-stopped, run-stepped, along-end, along-stopped, along-stepped}
use Rattle.machine.proofs.Holds.{place-lt, step_range}
use Rattle.stack.specs.declared.Machine.{Machine}
use Rattle.step.specs.Lent.{Lent, lent}
use Rattle.engine.specs.Memory.{Output}
use Rattle.engine.specs.Layout.{stack_words, cell_words, lines_laid, stack_laid, stack_after}
use Rattle.engine.specs.Act.{WordRuler, Acted, act_of, went, Closed, closed, ends_at, is_count, write_of, end_or}
use Rattle.engine.specs.Loop.{Done, done, halted, onward, loop_of}
use Rattle.engine.specs.Ended.{machine_of, summary}
use Rattle.engine.proofs.Link.Stack.{stack_words-length}
use Rattle.engine.proofs.Link.Record.{printed-line}
use Rattle.engine.proofs.Link.Runs.{line-at}
use Rattle.engine.proofs.Link.Represents.{Represents, Sound, Simulates}
use Rattle.engine.proofs.Act.{Follows, act-both}

-- ════════════════════════════════════════════════════════════════════════════════════════════
-- Where the place stands
-- ════════════════════════════════════════════════════════════════════════════════════════════

-- a command stands at the place, the place is the end, or neither
data Place (cs : List Command) (z : ℤ) : Type 0 where
  inside : (i : ℕ) (c : Command) → index_of z (length cs) ≡ Some i → slice_get cs i ≡ Some c → CommandAt cs z c → Place cs z
  at_the_end : index_of z (length cs) ≡ None → at_end (length cs) z ≡ true → Place cs z
  beyond : index_of z (length cs) ≡ None → at_end (length cs) z ≡ false → NoCommandAt cs z → Place cs z

element-none : (cs : List Command) (i : ℕ) → length cs ≤ i → slice_get cs i ≡ None
element-none [] i h = refl
element-none (c ∷ cs) zero h = absurd (omega arith)
element-none (c ∷ cs) (suc i) h = element-none cs i (omega arith)

placed : (cs : List Command) (z : ℤ) → Place cs z
unfolding index_of
placed cs (negsuc i) = beyond refl refl refl
placed cs (pos i) = go (ltb i (length cs)) (eqb i (length cs)) refl refl
  where
    go : (b d : Bool) → ltb i (length cs) ≡ b → eqb i (length cs) ≡ d → Place cs (pos i)
    go true d t e = let x = element-below cs i (ltb-true i (length cs) t) in inside i x.0 (rw t) x.1 x.1
    go false true t e = at_the_end (rw t) e
    go false false t e = beyond (rw t) e (element-none cs i (ltb-false i (length cs) t))

-- a program does not end where a command stands
going-at : (cs : List Command) (z : ℤ) (c : Command) → CommandAt cs z c → at_end (length cs) z ≡ false
going-at cs (pos i) c e = ne_eqb i (length cs) (λ h. let g = place-lt cs i c e in omega arith)
going-at cs (negsuc i) c e = refl

-- the test for the end, on words and in the machine
end_is : (z : ℤ) (n : ℕ) → is_count (natural_of z) n ≡ at_end n z
end_is (pos i) n = refl
end_is (negsuc i) n = refl

-- ════════════════════════════════════════════════════════════════════════════════════════════
-- The loop
-- ════════════════════════════════════════════════════════════════════════════════════════════

-- the words of a result, with the stack space
abbrev pub ending : {R : Type 0} → Output → Result R → List ℤ → Done R
ending o₀ r space = done (summary r) r.ruler (lent space (cell_words r.state.memory)) (lines_laid r.state.lines o₀)

module _ {R : Type 0} (ω : WordRuler R) (ρ : Ruler R) (follows : Follows ω ρ) (answers : (u : R) → Answers InRange (rules ρ u))
    (cs : List Command) (program₀ : List ℤ) (env : Environment) (o₀ : Output) (has : ProgramHas (Signed 64) cs) where
  abbrev looped : ℕ → ℕ → Machine → R → Lent → Output → Done R
  looped fuel n m u l o = loop_of ω (length cs) env (laid (program_words cs) program₀) fuel n m u l o

  abbrev whole : ℕ → State → R → List ℤ → Done R
  whole fuel s u space = ending o₀ (run ρ env cs fuel s u) (stack_after ρ env cs fuel s u space)

  -- from every state that words hold, the loop ends as the run does
  abbrev Ends : ℕ → Type 0
  Ends fuel =
      (s : State) (m : Machine) (u : R) (l : Lent) (o : Output) (n : ℕ) → Represents o₀ s m l o → Sound env o₀ s l → s.steps ≡ n
      → looped fuel n m u l o ≡ whole fuel s u l.stack

  module _ (s : State) (u : R) (l : Lent) (o : Output) (n : ℕ) (r : Represents o₀ s (machine_of s) l o) (e : s.steps ≡ n) where
    abbrev m : Machine
    m = machine_of s

    not_end : (other : Stop) → at_end (length cs) s.pc.number ≡ false → end_or (length cs) env m other o ≡ closed (went m other) o
    unfolding end_or
    not_end other t = rw (end_is s.pc.number (length cs), t)

    -- where both stop, with v kept by the ruler
    stops : (fuel : ℕ) (x : Stop) (v : R) {k : Closed} → k ≡ closed (went m x) o → run ρ env cs fuel s u ≡ result x s v
        → stack_after ρ env cs fuel s u l.stack ≡ l.stack → halted k v l n ≡ whole fuel s u l.stack
    stops fuel x v a b c = rw (a, b, c, ← e, ← r.cells, ← r.output)

    -- at the end, whose line goes out or is held back
    ends : (fuel : ℕ) (other : Stop) → Sound env o₀ s l → at_end (length cs) s.pc.number ≡ true
        → halted (end_or (length cs) env m other o) u l n ≡ whole fuel s u l.stack
    unfolding end_or write_of
    ends fuel other h g = rw (end_is s.pc.number (length cs), g) (go (end_barrier env s) refl)
      where
        same : stack_after ρ env cs fuel s u l.stack ≡ l.stack
        same = along-end ρ env cs stack_laid s u l.stack fuel g

        go : (b : Option Stop) → end_barrier env s ≡ b
            → (let e = write_of env m (end_line s.pc.label) m o in halted (closed (ends_at m e.went) e.output) u l n) ≡ whole fuel s u l.stack
        go None f =
            let fits : length s.lines < env.room = (barred-none env _ _ (barrier-held env _ _ f)).1 in
            let line = line-at s.lines (end_line s.pc.label) o o₀ r.output (omega (arith, h.fits)) in
            rw (
              run_end ρ env cs fuel s u g,
              f,
              same,
              line,
              printed-line _ _ _ _ env.room fits,
              length-append,
              add-one,
              ← e,
              ← r.cells,
            )
        go (Some x) f = rw f (stops fuel x u refl (run_end ρ env cs fuel s u g ∙ ap (λ b. finish b s u) f) same)

    ends-none : Sound env o₀ s l → looped 0 n m u l o ≡ whole 0 s u l.stack
    unfolding loop_of along
    ends-none h = go (at_end (length cs) s.pc.number) refl
      where
        go : (b : Bool) → at_end (length cs) s.pc.number ≡ b
            → halted (end_or (length cs) env m FuelSpent o) u l n ≡ whole 0 s u l.stack
        go true g = ends 0 FuelSpent h g
        go false g = stops 0 FuelSpent u (not_end FuelSpent g) (run-spent ρ env cs s u g) refl

    module _ (fuel : ℕ) (h : Sound env o₀ s l) (on : Ends fuel) where
      -- what is kept over a step
      kept : (c : Command) → CommandAt cs s.pc.number c → (t : State) → execute (rules ρ u) env c s ≡ stepped t
          → (k : Lent) → k.stack ≡ laid (stack_words t.stack) l.stack → Sound env o₀ t k
      kept c at t d k e =
          let change : Execute.Change env s t = rw d at (Execute.execute-sound (rules ρ u) env c s) in
          let deep = change.depth h.depth in
          let few : length (stack_words t.stack) ≤ length l.stack = rw (stack_words-length t.stack) (omega (arith, h.space)) in
          let long : length k.stack ≡ length l.stack = ap length e ∙ length-laid (stack_words t.stack) l.stack few in
          record {
            space = omega (arith, h.space);
            depth = deep;
            labels = gives-stepped _ (step-at env s cs c at (rules ρ u) ∙ d) (step_range (rules ρ u) (answers u) env cs s h.labels);
            fits = h.fits;
          }

      -- one command, which leaves a
      ends-outcome : (c : Command) → CommandAt cs s.pc.number c → (out : Outcome) → execute (rules ρ u) env c s ≡ out
          → (a : Acted R) → asked ρ env cs s u ≡ a.ruler → Simulates env o₀ m l o out a.after
          → onward env a m o n (λ m' u' l' o'. looped fuel (n + 1) m' u' l' o') ≡ whole (suc fuel) s u l.stack
      ends-outcome c at (stopped x) d a left (w, same) =
          let g = going-at cs s.pc.number c at in
          let v = step-at env s cs c at (rules ρ u) ∙ d in
          rw (w, same)
          (stops (suc fuel) x a.ruler refl
          (run-stopped ρ env cs s u g fuel x v ∙ ap (result x s) left)
          (along-stopped ρ env cs stack_laid s u l.stack g fuel x v))
      ends-outcome c at (stepped t) d a left (w, held, laying) =
          let g = going-at cs s.pc.number c at in
          let v = step-at env s cs c at (rules ρ u) ∙ d in
          let change : Execute.Change env s t = rw d at (Execute.execute-sound (rules ρ u) env c s) in
          let steps : t.steps ≡ n + 1 = let k = change.steps in omega arith in
          rw w
          (on t _ a.ruler a.after.lent _ (n + 1) held (kept c at t d a.after.lent laying) steps
          ∙ ap₂ (ending o₀)
          (sym (run-stepped ρ env cs s u g fuel t v ∙ ap (run ρ env cs fuel t) left))
          (ap (stack_after ρ env cs fuel t a.ruler) laying
          ∙ sym (along-stepped ρ env cs stack_laid s u l.stack g fuel t v
          ∙ ap (λ x. stack_after ρ env cs fuel t x (stack_laid t l.stack)) left)))

      ends_more : Place cs s.pc.number → looped (suc fuel) n m u l o ≡ whole (suc fuel) s u l.stack
      unfolding loop_of
      ends_more (at_the_end i g) = rw i (ends (suc fuel) PcOutside h g)
      ends_more (beyond i g out) =
          let v = step-none env s cs out (rules ρ u) in
          rw i
          (stops (suc fuel) PcOutside u (not_end PcOutside g)
          (run-stopped ρ env cs s u g fuel PcOutside v ∙ ap (result PcOutside s) (asked-none env s cs out ρ u))
          (along-stopped ρ env cs stack_laid s u l.stack g fuel PcOutside v))
      ends_more (inside i c x found at) =
          let both = act-both ω ρ follows env o₀ c s u l o r h cs has at in
          rw (x, code_at cs program₀ i c found, operand_at cs program₀ i c found)
          (ends-outcome c at (execute (rules ρ u) env c s) refl (act_of ω (pos (code_of (opcode c))) (operand c) m u l)
          (asked-at env s cs c at ρ u ∙ sym both.1) both.0)

  pub loop-run : (fuel : ℕ) → Ends fuel
  loop-run zero s m u l o n r h e = rw r.machine (ends-none s u l o n (rw r.machine at r) e h)
  loop-run (suc fuel) s m u l o n r h e =
      rw r.machine (ends_more s u l o n (rw r.machine at r) e fuel h (loop-run fuel) (placed cs s.pc.number))
