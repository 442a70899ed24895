-- Reading a job command by command: what is left to read, from where it stands, gives the whole job's reading.
-- Assumes nothing.
use Rattle.std.proofs.Common.{None, Ok, Option, Result, Some}
use mathlib.Core.Path.{◌≡◌, refl, sym, ap, ◌∙◌}
use mathlib.Core.List.{List, [], ◌∷◌, ◌++◌}
use Prim.Native.Nat.{ℕ, zero, suc, ◌+◌, ◌-◌, ◌<◌, ◌≤◌}
use native.Mathlib.Omega.{arith}
use lib.IntN.{ℤ, pos}
use lib.ListN.{length, take, set, length-append}
use borrow.Author.Tests.{lt-ltb, le-ltb, le-leb, lt-leb}
use Rattle.label.specs.declared.Label.{Label}
use Rattle.report.specs.declared.job.Item.{Item}
use Rattle.report.specs.declared.job.Item.TheVariants.{Cell, Allowance, Reader, Sheet}
use Rattle.report.specs.Job.{Heard, silence, Ending, bad, sheet, Reading, reading}
use Rattle.report.specs.Job.{item_at, follow, read_from, read_job, answer_of, job_answer, fitted}
use Rattle.report.specs.declared.job.Said.{Said}

-- ════════════════════════════════════════════════════════════════════════════════════════════
-- The cells in a lent run
-- ════════════════════════════════════════════════════════════════════════════════════════════

pub fitted_none : (old : List ℤ) → old ≡ fitted [] old
unfolding fitted
fitted_none old = refl

-- one word more, stored at the next position where there is room
pub fitted-snoc : (new : List ℤ) (x : ℤ) (old : List ℤ) → set (fitted new old) (length new) x ≡ fitted (new ++ (x ∷ [])) old
unfolding fitted
fitted-snoc [] x [] = refl
fitted-snoc [] x (y ∷ old) = refl
fitted-snoc (n ∷ new) x [] = refl
fitted-snoc (n ∷ new) x (y ∷ old) = ap (λ (l : List ℤ). n ∷ l) (fitted-snoc new x old)

pub fitted-length : (new old : List ℤ) → length (fitted new old) ≡ length old
unfolding fitted
fitted-length [] old = refl
fitted-length (n ∷ new) [] = refl
fitted-length (n ∷ new) (y ∷ old) = ap suc (fitted-length new old)

-- where there is room, the first words of the run are these
pub fitted-take : (new old : List ℤ) → length new ≤ length old → take (length new) (fitted new old) ≡ new
unfolding fitted
fitted-take [] old h = refl
fitted-take (n ∷ new) [] h = absurd (omega arith)
fitted-take (n ∷ new) (y ∷ old) h = ap (λ (l : List ℤ). n ∷ l) (fitted-take new old (omega arith))

-- ════════════════════════════════════════════════════════════════════════════════════════════
-- The loop
-- ════════════════════════════════════════════════════════════════════════════════════════════

-- what the reader answers and leaves in the two runs
abbrev pub Answered : List ℕ → (values₀ labels₀ : List ℤ) → Result Said ℕ → (values labels : List ℤ) → Type 0
Answered s values₀ labels₀ r values labels =
    record {
      answer : r ≡ job_answer (read_job s);
      values : values ≡ fitted (read_job s).heard.values values₀;
      labels : labels ≡ fitted (read_job s).heard.labels labels₀;
    }

-- the length is tested first
pub answered-long : (s : List ℕ) (values₀ labels₀ : List ℤ) → 65536 < length s
    → Answered s values₀ labels₀ (answer_of silence (bad 65536)) values₀ labels₀
unfolding read_job
answered-long s values₀ labels₀ h = rw (lt-leb (length s) 65536 h) (record { answer = refl; values = fitted_none values₀; labels = fitted_none labels₀ })

-- read up to an offset: the cells so far, and what is left to read
pub record Going (s : List ℕ) (values₀ labels₀ values labels : List ℤ) (at cells allowance reader : ℕ) : Type 0 where
  pub values-heard : List ℤ
  pub labels-heard : List ℤ
  pub commands : ℕ
  pub short : length s ≤ 65536
  pub enough : length s ≤ at + commands
  pub few : cells ≤ 1024
  pub count : length values-heard ≡ cells
  pub pairs : length labels-heard ≡ cells
  pub stored : values ≡ fitted values-heard values₀
  pub marked : labels ≡ fitted labels-heard labels₀
  pub left : read_from commands s at (record { values = values-heard; labels = labels-heard; allowance = allowance; reader = reader })
      ≡ read_job s

pub going_start : (s : List ℕ) (values₀ labels₀ : List ℤ) → length s ≤ 65536 → Going s values₀ labels₀ values₀ labels₀ 0 0 1000000 0
unfolding read_job
going_start s values₀ labels₀ h =
    record {
      values-heard = [];
      labels-heard = [];
      commands = length s;
      short = h;
      enough = omega arith;
      few = omega arith;
      count = refl;
      pairs = refl;
      stored = fitted_none values₀;
      marked = fitted_none labels₀;
      left = rw (le-leb (length s) 65536 h);
    }

module _ (s : List ℕ) (values₀ labels₀ values labels : List ℤ) (at cells allowance reader : ℕ)
    (g : Going s values₀ labels₀ values labels at cells allowance reader) where
  abbrev heard : Heard
  heard = record { values = g.values-heard; labels = g.labels-heard; allowance = allowance; reader = reader }

  pub going-same : (length values ≡ length values₀) × (length labels ≡ length labels₀)
  going-same =
      (ap length g.stored ∙ fitted-length g.values-heard values₀, ap length g.marked ∙ fitted-length g.labels-heard labels₀)

  -- nothing is left to read
  ends : (e : Ending) → reading heard e ≡ read_job s → Answered s values₀ labels₀ (answer_of heard e) values labels
  ends e d =
      record {
        answer = ap job_answer d;
        values = g.stored ∙ ap (λ (r : Reading). fitted r.heard.values values₀) d;
        labels = g.marked ∙ ap (λ (r : Reading). fitted r.heard.labels labels₀) d;
      }

  over : (n : ℕ) → length s ≤ at → read_from n s at heard ≡ reading heard (bad (length s))
  unfolding read_from
  over zero h = refl
  over (suc n) h = rw (le-ltb at (length s) h)

  pub going_end : length s ≤ at → Answered s values₀ labels₀ (answer_of heard (bad (length s))) values labels
  going_end h = ends (bad (length s)) (sym (over g.commands h) ∙ g.left)

  module _ (h : at < length s) where
    more : suc (g.commands - 1) ≡ g.commands
    more = let k = g.enough in omega arith

    next : follow (item_at s at) at heard (λ at' h'. read_from (g.commands - 1) s at' h') ≡ read_job s
    unfolding read_from
    next =
        let e : read_from (suc (g.commands - 1)) s at heard
        ≡ follow (item_at s at) at heard (λ at' h'. read_from (g.commands - 1) s at' h') = rw (lt-ltb at (length s) h) in
        sym e ∙ ap (λ n. read_from n s at heard) more ∙ g.left

    -- by the command there
    turn : (i : Option Item) → item_at s at ≡ i → follow i at heard (λ at' h'. read_from (g.commands - 1) s at' h') ≡ read_job s
    turn i e = ap (λ i. follow i at heard (λ at' h'. read_from (g.commands - 1) s at' h')) (sym e) ∙ next

    pub going-bad : item_at s at ≡ None → Answered s values₀ labels₀ (answer_of heard (bad at)) values labels
    going-bad e = ends (bad at) (turn None e)

    pub going-sheet : item_at s at ≡ Some Sheet
        → Answered s values₀ labels₀
        (Ok (record { cells = cells; allowance = allowance; reader = record { 0 = reader }; sheet = at + 1 })) values labels
    going-sheet e = rw g.count at (ends (sheet (at + 1)) (turn (Some Sheet) e))

    pub going-limit : (z : ℤ) (l : Label) → item_at s at ≡ Some (Cell z l) → cells ≡ 1024
        → Answered s values₀ labels₀ (answer_of heard (bad at)) values labels
    going-limit z l e f = ends (bad at) (rw (g.count, f) at (turn (Some (Cell z l)) e))

    pub going-cell : (z : ℤ) (l : Label) → item_at s at ≡ Some (Cell z l) → (cells ≡ 1024 → ⊥)
        → Going s values₀ labels₀ (set values cells z) (set labels cells (pos l.0)) (at + 13) (cells + 1) allowance reader
    going-cell z l e f =
        let k = g.few in
        let c = g.count in
        let p = g.pairs in
        let room : length g.values-heard < 1024 = omega arith in
        record {
          values-heard = g.values-heard ++ (z ∷ []);
          labels-heard = g.labels-heard ++ (pos l.0 ∷ []);
          commands = g.commands - 1;
          short = g.short;
          enough = let k = g.enough in omega arith;
          few = omega arith;
          count = simp length-append (omega arith);
          pairs = simp length-append (omega arith);
          stored = rw (← g.count, g.stored) (fitted-snoc g.values-heard z values₀);
          marked = rw (← g.pairs, g.marked) (fitted-snoc g.labels-heard (pos l.0) labels₀);
          left = rw (lt-ltb (length g.values-heard) 1024 room) at (turn (Some (Cell z l)) e);
        }

    -- the last 41 and the last 42 hold
    pub going-allowance : (n : ℕ) → item_at s at ≡ Some (Allowance n) → Going s values₀ labels₀ values labels (at + 5) cells n reader
    going-allowance n e =
        record {
          values-heard = g.values-heard;
          labels-heard = g.labels-heard;
          commands = g.commands - 1;
          short = g.short;
          enough = let k = g.enough in omega arith;
          few = g.few;
          count = g.count;
          pairs = g.pairs;
          stored = g.stored;
          marked = g.marked;
          left = turn (Some (Allowance n)) e;
        }

    pub going-reader : (l : Label) → item_at s at ≡ Some (Reader l) → Going s values₀ labels₀ values labels (at + 5) cells allowance l.0
    going-reader l e =
        record {
          values-heard = g.values-heard;
          labels-heard = g.labels-heard;
          commands = g.commands - 1;
          short = g.short;
          enough = let k = g.enough in omega arith;
          few = g.few;
          count = g.count;
          pairs = g.pairs;
          stored = g.stored;
          marked = g.marked;
          left = turn (Some (Reader l)) e;
        }
