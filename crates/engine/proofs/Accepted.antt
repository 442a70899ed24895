-- From an accepted start to the whole run: the lent words hold document 01's start, and what the loop leaves is the definition's.
-- Assumes nothing.
use Rattle.std.proofs.Common.{Err, None, Ok, Option, Result, Some}
use mathlib.Core.Path.{◌≡◌, refl, ap, ap₂, ◌∙◌}
use mathlib.Core.Bool.{Bool, true, false}
use mathlib.Core.List.{List, [], ◌∷◌}
use Prim.Native.Nat.{ℕ, suc, ◌*◌, ◌^◌, ◌≤◌}
use native.Mathlib.Omega.{arith}
use lib.IntN.{ℤ, pos, negsuc}
use lib.ListN.{length}
use lib.Dec.{ltb}
use borrow.Author.Tests.{ltb-true, leb-true, eqb-true}
use Rattle.word.specs.Field.{Bytes}
use Rattle.word.specs.Lay.{laid}
use Rattle.word.specs.Wrap.{Signed}
use Rattle.word.proofs.Bool.{never}
use Rattle.label.specs.declared.Label.{Label}
use Rattle.label.specs.Label.{InRange}
use Rattle.label.specs.Word.{stored, stored_if}
use Rattle.program.specs.declared.Command.{Command}
use Rattle.program.specs.declared.Command.TheVariants.{Push, Bnz}
use Rattle.program.specs.declared.Refusal.{Refusal}
use Rattle.program.specs.Decode.{Decoded, refused, accepted, decode, command_limit, check_answer}
use Rattle.program.specs.Space.{program_words}
use Rattle.program.specs.Encode.{AllWritable}
use Rattle.program.proofs.Decode.{decode-length}
use Rattle.program.proofs.Encoding.{decode-writable}
use Rattle.program.proofs.Words.{writable-at}
use Rattle.machine.specs.Rule.{Ruler, rules}
use Rattle.machine.specs.State.{State}
use Rattle.machine.specs.declared.Stop.{Stop}
use Rattle.machine.specs.Environment.{Environment}
use Rattle.machine.specs.Run.{Same}
use Rattle.machine.specs.Stopped.{CommandAt}
use Rattle.machine.specs.Holds.{ProgramHas, Each, AtomHas, LabelsInRange, Answers}
use Rattle.machine.proofs.Holds.{program-signed}
use Rattle.stack.specs.Words.{started}
use Rattle.step.specs.Lent.{Cells, cells, lent}
use Rattle.engine.specs.declared.Clearances.{Clearances}
use Rattle.engine.specs.declared.start.Own.{Own}
use Rattle.engine.specs.Memory.{Memory, memory, surroundings}
use Rattle.engine.specs.Layout.{stack_words, cell_words, paired, cells_of, lines_laid, stack_after}
use Rattle.engine.specs.Start.{kept_if, or_else, first_of, or_label, labels_limit, given, none_own, limits, within, start_decoded}
use Rattle.engine.specs.Start.{start_of}
use Rattle.engine.specs.Act.{WordRuler}
use Rattle.engine.specs.Loop.{Done, loop_of}
use Rattle.engine.specs.Ended.{ended, machine_of, begin, result_of, stopped_at, engine_of, SameEnd}
use Rattle.engine.proofs.Link.Stack.{low_label-id}
use Rattle.engine.proofs.Link.Represents.{Represents, Sound}
use Rattle.engine.proofs.Act.{Follows}
use Rattle.engine.proofs.Whole.{loop-run}

-- ════════════════════════════════════════════════════════════════════════════════════════════
-- Limits that are kept
-- ════════════════════════════════════════════════════════════════════════════════════════════

both-kept : (a b : Result (Unit {0}) Refusal) → or_else a b ≡ Ok tt → (a ≡ Ok tt) × (b ≡ Ok tt)
both-kept (Err r) b e = never (cc)
both-kept (Ok tt) b e = (refl, e)

-- each of a list
abbrev AllKept : List (Result (Unit {0}) Refusal) → Type 0
AllKept [] = Unit
AllKept (l ∷ ls) = (l ≡ Ok tt) × AllKept ls

all-kept : (ls : List (Result (Unit {0}) Refusal)) → first_of ls ≡ Ok tt → AllKept ls
all-kept [] e = tt
all-kept (l ∷ ls) e = let (a, b) = both-kept l (first_of ls) e in (a, all-kept ls b)

all_first : (ls : List (Result (Unit {0}) Refusal)) → AllKept ls → first_of ls ≡ Ok tt
all_first [] k = refl
all_first (l ∷ ls) (e, k) = rw e (all_first ls k)

pub test-kept : (b : Bool) (r : Refusal) → kept_if b r ≡ Ok tt → b ≡ true
test-kept true r e = refl
test-kept false r e = never (cc)

-- a stored label is a natural number in range
stored-range : (z : ℤ) (x : Label) → stored z ≡ Some x → (n : ℕ) × (z ≡ pos n) × InRange n
unfolding stored
stored-range (negsuc n) x e = never (cc)
stored-range (pos n) x e = go (ltb n (2 ^ 32)) refl e
  where
    go : (b : Bool) → ltb n (2 ^ 32) ≡ b → stored_if b n ≡ Some x → (k : ℕ) × (pos n ≡ pos k) × InRange k
    go true t e = (n, refl, ltb-true n (2 ^ 32) t)
    go false t e = never (cc)

label_kept : (check : ℕ) (x : Option Label) (i : ℕ) (rest : Result (Unit {0}) Refusal) → or_label check x i rest ≡ Ok tt → (l : Label) × (x ≡ Some l) × (rest ≡ Ok tt)
label_kept check (Some l) i rest e = (l, refl, e)
label_kept check None i rest e = never (cc)

-- ════════════════════════════════════════════════════════════════════════════════════════════
-- The cells in the lent words
-- ════════════════════════════════════════════════════════════════════════════════════════════

-- what is held of accepted cells
pub record Held (c : Cells) : Type 0 where
  pub words : c ≡ cell_words (cells_of c)
  pub range : Each (AtomHas (λ n. Unit) InRange) (cells_of c)

held_more : (v : ℤ) (n : ℕ) {values labels : List ℤ} → InRange n → Held (cells values labels)
    → Held (cells (v ∷ values) (pos n ∷ labels))
unfolding paired
held_more v n fits rest =
    record {
      words = rw (low_label-id n fits) (ap (λ (c : Cells). cells (v ∷ c.values) (pos n ∷ c.labels)) rest.words);
      range = rw (low_label-id n fits) ((tt, fits), rest.range);
    }

cells-held : (values labels : List ℤ) (i : ℕ) → length values ≡ length labels → labels_limit 5 i labels ≡ Ok tt → Held (cells values labels)
unfolding paired labels_limit
cells-held [] [] i h e = record { words = refl; range = tt }
cells-held [] (l ∷ labels) i h e = absurd (omega arith)
cells-held (v ∷ values) [] i h e = absurd (omega arith)
cells-held (v ∷ values) (l ∷ labels) i h e =
    let (x, is, on) = label_kept 5 (stored l) i (labels_limit 5 (suc i) labels) e in
    let (n, word, fits) = stored-range l x is in
    rw word (held_more v n fits (cells-held values labels (suc i) (omega arith) on))

-- ════════════════════════════════════════════════════════════════════════════════════════════
-- An accepted start
-- ════════════════════════════════════════════════════════════════════════════════════════════

-- what is known of it
pub record Fine (sheet : List ℕ) (c : Clearances) (m : Memory) (fuel : ℕ) (own : Own) (cs : List Command) : Type 0 where
  pub decoded : decode sheet ≡ accepted cs
  pub equal : length m.lent.cells.values ≡ length m.lent.cells.labels
  pub many : length m.lent.cells.values ≤ 1024
  pub cells : Held m.lent.cells
  pub rules : own.rules ≡ Ok tt
  pub row : own.row ≡ Ok tt
  pub program : 2 * length cs ≤ length m.program
  pub stack : 768 ≤ length m.lent.stack
  pub handler : own.handler ≡ Ok tt
  pub allowance : fuel ≤ 1000000

module _ (sheet : List ℕ) (c : Clearances) (m : Memory) (fuel : ℕ) (own : Own) where
  abbrev limits_of : List Command → Own → List (Result (Unit {0}) Refusal)
  limits_of cs x = limits (length cs) m.lent.cells.labels c (given m fuel) x

  limits-fine : (cs : List Command) → decode sheet ≡ accepted cs → first_of (limits_of cs own) ≡ Ok tt → Fine sheet c m fuel own cs
  limits-fine cs d e =
      let (equal, a) = all-kept (limits_of cs own) e in
      let (few, b) = a in
      let (labels, clear) = b in
      let (sixteen, sets) = clear in
      let (words, own) = sets in
      let (rules, d') = own in
      let (row, f) = d' in
      let (program, g) = f in
      let (stack, h) = g in
      let (handler, i) = h in
      record {
        decoded = d;
        equal = eqb-true _ _ (test-kept _ _ equal);
        many = leb-true _ _ (test-kept _ _ few);
        cells = cells-held m.lent.cells.values m.lent.cells.labels 0 (eqb-true _ _ (test-kept _ _ equal)) labels;
        rules = rules;
        row = row;
        program = leb-true _ _ (test-kept _ _ program);
        stack = leb-true _ _ (test-kept _ _ stack);
        handler = handler;
        allowance = leb-true _ _ (test-kept _ _ i.0);
      }

  abbrev pub answer : Decoded
  answer = start_of sheet m.lent.cells.labels c (given m fuel) own

  decoded-fine : (d : Decoded) → decode sheet ≡ d → (cs : List Command)
      → start_decoded d m.lent.cells.labels c (given m fuel) own ≡ accepted cs → Fine sheet c m fuel own cs
  decoded-fine (refused r) g cs e = never (cc)
  decoded-fine (accepted ds) g cs e = go (first_of (limits_of ds own)) refl e
    where
      go : (x : Result (Unit {0}) Refusal) → first_of (limits_of ds own) ≡ x → within x ds ≡ accepted cs → Fine sheet c m fuel own cs
      go (Err r) f e = never (cc)
      go (Ok tt) f e = let k : ds ≡ cs = cc in rw k at (limits-fine ds g f)

  pub start_fine : (cs : List Command) → answer ≡ accepted cs → Fine sheet c m fuel own cs
  unfolding start_of
  start_fine cs e = decoded-fine (decode sheet) refl cs e

  -- an engine without limits of its own accepts it too
  pub start-direct : (cs : List Command) → answer ≡ accepted cs
      → start_of sheet m.lent.cells.labels c (given m fuel) none_own ≡ accepted cs
  unfolding start_of
  start-direct cs e = by-sheet (decode sheet) e
    where
      by-sheet : (d : Decoded) → start_decoded d m.lent.cells.labels c (given m fuel) own ≡ accepted cs
          → start_decoded d m.lent.cells.labels c (given m fuel) none_own ≡ accepted cs
      by-sheet (refused r) e = e
      by-sheet (accepted ds) e = by-limits (first_of (limits_of ds own)) refl e
        where
          by-limits : (x : Result (Unit {0}) Refusal) → first_of (limits_of ds own) ≡ x → within x ds ≡ accepted cs
              → within (first_of (limits_of ds none_own)) ds ≡ accepted cs
          by-limits (Err r) f e = never (cc)
          by-limits (Ok tt) f e =
              let k = all-kept (limits_of ds own) f in
              let clear = k.1.1.1 in
              let spaces = clear.1.1.1.1 in
              rw (all_first (limits_of ds none_own) (
                k.0,
                (
                  k.1.0,
                  (
                    k.1.1.0,
                    (
                      clear.0,
                      (
                        clear.1.0,
                        (refl, (refl, (spaces.0, (spaces.1.0, (refl, spaces.1.1.1))))),
                      ),
                    ),
                  ),
                ),
              )) e

  -- what is checked is refused, or has so many commands
  pub refused-is : {R : Type 0} (ρ : Ruler R) (u : R) (r : Refusal) → Err r ≡ check_answer answer
      → ended (Err r) u m ≡ engine_of ρ answer u c m fuel
  refused-is {R} ρ u r e = go answer e
    where
      go : (d : Decoded) → Err r ≡ check_answer d → ended (Err r) u m ≡ engine_of ρ d u c m fuel
      go (refused q) e = let k : r ≡ q = cc in ap (λ x. ended (Err x) u m) k
      go (accepted cs) e = never (cc)

  pub taken : (count : ℕ) → Ok count ≡ check_answer answer → (cs : List Command) × (answer ≡ accepted cs) × (count ≡ length cs)
  taken count e = go answer e
    where
      go : (d : Decoded) → Ok count ≡ check_answer d → (cs : List Command) × (d ≡ accepted cs) × (count ≡ length cs)
      go (refused q) e = never (cc)
      go (accepted cs) e = (cs, refl, cc)

  -- its labels are in range
  pub start-range : (cs : List Command) → Fine sheet c m fuel own cs → LabelsInRange (begin m)
  start-range cs fine = record { pc = (tt, omega arith); stack = tt; memory = fine.cells.range; lines = tt }

  -- an accepted program has few commands, all of which can be written
  module _ (bytes : Bytes sheet) (cs : List Command) (fine : Fine sheet c m fuel own cs) where
    pub few : length cs ≤ command_limit
    unfolding decode
    few = rw fine.decoded at (decode-length command_limit 0 sheet)

    signed : ProgramHas (Signed 64) cs
    unfolding decode
    signed =
        let w : AllWritable cs = rw fine.decoded at (decode-writable command_limit 0 sheet bytes) in
        let n = few in
        program-signed cs (omega arith) (pushed w) (branched w)
      where
        pushed : AllWritable cs → (z n : ℤ) → CommandAt cs z (Push n) → Signed 64 n
        pushed w (pos i) n at = writable-at cs i (Push n) w at
        pushed w (negsuc i) n at = never (cc)

        branched : AllWritable cs → (z n : ℤ) → CommandAt cs z (Bnz n) → Signed 63 n
        branched w (pos i) n at = let h = writable-at cs i (Bnz n) w at in omega arith
        branched w (negsuc i) n at = never (cc)

    abbrev env : Environment
    env = surroundings c m.output

    -- the lent words hold the start
    holds : Represents m.output (begin m) started m.lent m.output
    unfolding laid stack_words
    holds = record { machine = refl; stack = refl; cells = fine.cells.words; output = refl }

    sound : Sound env m.output (begin m) m.lent
    sound =
        record {
          space = fine.stack;
          depth = omega arith;
          labels = start-range cs fine;
          fits = omega arith;
        }

    -- the loop over the loaded program is the run
    pub loop-whole : {R : Type 0} (ω : WordRuler R) (ρ : Ruler R) → Follows ω ρ → ((u : R) → Answers InRange (rules ρ u)) → (u : R)
        → (count : ℕ) → count ≡ length cs → (program : List ℤ) → program ≡ laid (program_words cs) m.program
        → (d : Done R) → d ≡ loop_of ω count env program fuel 0 started u m.lent m.output
        → ended (Ok d.ran) d.ruler (memory program d.lent d.output) ≡ stopped_at ρ cs u c m fuel
    loop-whole ω ρ follows answers u count n program p d g =
        let q =
        g ∙ ap₂ (λ n x. loop_of ω n env x fuel 0 started u m.lent m.output) n p
        ∙ loop-run ω ρ follows answers cs m.program env m.output signed fuel (begin m) started u m.lent
        m.output 0
        holds sound refl in
        ap₂ (λ d x. ended (Ok d.ran) d.ruler (memory x d.lent d.output)) q p

-- ════════════════════════════════════════════════════════════════════════════════════════════
-- Two engines
-- ════════════════════════════════════════════════════════════════════════════════════════════

-- runs that are the same, with the same stack space, end the same
pub same_end : {Q R : Type 0} (σ : Ruler Q) (ρ : Ruler R) (cs : List Command) (v : Q) (u : R) (c : Clearances) (m : Memory) (fuel : ℕ)
    → Same (result_of σ cs v c m fuel) (result_of ρ cs u c m fuel)
    → stack_after σ (surroundings c m.output) cs fuel (begin m) v m.lent.stack
    ≡ stack_after ρ (surroundings c m.output) cs fuel (begin m) u m.lent.stack
    → SameEnd (stopped_at σ cs v c m fuel) (stopped_at ρ cs u c m fuel)
same_end σ ρ cs v u c m fuel h stack =
    record {
      answer =
          ap₂ (λ (s : State) (x : Stop). Ok (record { machine = machine_of s; stop = x; steps = s.steps }))
          h.state h.stop;
      memory =
          ap₂
          (λ (s : State) (words : List ℤ).
          memory (laid (program_words cs) m.program) (lent words (cell_words s.memory)) (lines_laid s.lines m.output))
          h.state stack;
    }
