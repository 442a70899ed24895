-- What the end line is for (specs/End.antt). The lines of a run are numbers, and at stop 0 after them the end line, with the label of the
-- place. So a view has at most one end line, which is its last; and of two such views of which one starts the other, one with an end line
-- is the longer.
-- Assumes nothing.
use mathlib.Core.Path.{◌≡◌, refl, sym, ap, subst, ◌∙◌}
use mathlib.Core.Logic.{inl, inr}
use mathlib.Core.Bool.{Bool, true, false, ◌||◌}
use mathlib.Core.List.{List, [], ◌∷◌, ◌++◌, append-nil}
use Prim.Native.Nat.{ℕ}
use native.Mathlib.Omega.{arith}
use lib.ListN.{length, drop, take-append-drop}
use lib.Dec.{eqb}
use borrow.Author.Tests.{eqb-true, eqb-false}
use lib.Seq.{take-length}
use Rattle.word.specs.Choose.{choose}
use Rattle.word.proofs.Bool.{never}
use Rattle.label.specs.Label.{flows}
use Rattle.program.specs.declared.Command.{Command}
use Rattle.machine.specs.Atom.{Line, end_line}
use Rattle.machine.specs.Rule.{Ruler, rules, fixed, standard}
use Rattle.machine.specs.Environment.{Environment}
use Rattle.machine.specs.State.{State, start, stop_number}
use Rattle.machine.specs.declared.Stop.{Stop}
use Rattle.machine.specs.Run.{Result, run}
use Rattle.machine.specs.Claim.{view, keep, Start, OneStartsOther, Views}
use Rattle.machine.specs.End.{is_end, has_end, closing, Closes, Whole, Tells, Complete, Means, Meant}
use Rattle.machine.proofs.Step.{run-induction}
use Rattle.machine.proofs.Execute.{Change}
use Rattle.machine.proofs.Run.{stopped-other, stepped-explained}
use Rattle.machine.proofs.Privacy.Effect.{view-append}
use Rattle.machine.proofs.Barrier.{barrier-held, barred-other}
use Rattle.machine.proofs.Privacy.{privacy}

-- ════════════════════════════════════════════════════════════════════════════════════════════
-- The lines of a run
-- ════════════════════════════════════════════════════════════════════════════════════════════

has_end-append : (ls ms : List Line) → has_end (ls ++ ms) ≡ (has_end ls || has_end ms)
has_end-append [] ms = refl
has_end-append (l ∷ ls) ms = rw (has_end-append ls ms) (go (is_end l.kind))
  where
    go : (b : Bool) → (b || (has_end ls || has_end ms)) ≡ ((b || has_end ls) || has_end ms)
    go true = refl
    go false = refl

neither : (ls ms : List Line) → has_end ls ≡ false → has_end ms ≡ false → has_end (ls ++ ms) ≡ false
neither ls ms e f = rw (has_end-append ls ms, e, f)

pub run-closes : {R : Type 0} (ρ : Ruler R) (env : Environment) (cs : List Command) (fuel : ℕ) (s : State) (u : R) → has_end s.lines ≡ false
    → let r : Result R = run ρ env cs fuel s u in Closes r.stop r.state
run-closes {R} ρ env cs =
    run-induction ρ env cs (λ fuel s u r. has_end s.lines ≡ false → Closes r.stop r.state)
    (λ fuel s u e f h. record { numbers = s.lines; unended = h; lines = refl })
    (λ fuel s u x e f h.
    let other = barred-other env (length s.lines) _ (barrier-held env (length s.lines) _ f) 0 (omega arith) in
    record { numbers = s.lines; unended = h; lines = rw (other, append-nil) })
    (λ s u e h. record { numbers = s.lines; unended = h; lines = rw append-nil })
    (λ fuel s u x e g h.
    record { numbers = s.lines; unended = h; lines = rw (stopped-other (rules ρ u) env cs s 0 (omega arith) g, append-nil) })
    (λ fuel s t u r e g f h.
    let c : Change env s t = stepped-explained (rules ρ u) env cs g in
    f (rw c.lines.1 (neither s.lines c.lines.0 h c.numbers)))

-- ════════════════════════════════════════════════════════════════════════════════════════════
-- Its view
-- ════════════════════════════════════════════════════════════════════════════════════════════

view-unended : (S : ℕ) (ls : List Line) → has_end ls ≡ false → has_end (view S ls) ≡ false
view-unended S [] e = refl
view-unended S (l ∷ ls) e = go (is_end l.kind) (flows l.label S) refl e (view-unended S ls)
  where
    go : (b k : Bool) → is_end l.kind ≡ b → (b || has_end ls) ≡ false → (has_end ls ≡ false → has_end (view S ls) ≡ false)
        → has_end (keep k l (view S ls)) ≡ false
    go true k f g on = never (cc)
    go false true f g on = rw f (on g)
    go false false f g on = on g

-- lines have no end line, or one, the last
pub data Shape (ls : List Line) : Type 0 where
  without : has_end ls ≡ false → Shape ls
  whole : Whole ls → Shape ls

shape-whole : {ls : List Line} → Shape ls → has_end ls ≡ true → Whole ls
shape-whole (without f) e = never (cc)
shape-whole (whole w) e = w

module _ (S : ℕ) (x : Stop) (s : State) (c : Closes x s) where
  abbrev numbers : List Line
  numbers = view S c.numbers

  none : has_end numbers ≡ false
  none = view-unended S c.numbers c.unended

  -- it is what is seen of the numbers, and then of what stands after them
  split : view S s.lines ≡ numbers ++ view S (closing x s.pc.label)
  split = ap (view S) c.lines ∙ view-append S c.numbers (closing x s.pc.label)

  pub closes-shape : Shape (view S s.lines)
  closes-shape = subst Shape (sym split) (go (eqb (stop_number x) 0) (flows s.pc.label S) refl)
    where
      go : (b k : Bool) → flows s.pc.label S ≡ k → Shape (numbers ++ view S (choose b (end_line s.pc.label ∷ []) []))
      go true true f = rw f (whole (record { before = numbers; label = s.pc.label; last = refl; only = none }))
      go true false f = rw (f, append-nil) (without none)
      go false k f = rw append-nil (without none)

  -- whether it has an end line is whether one stands after the numbers
  ended : (tail : List Line) → view S (closing x s.pc.label) ≡ tail → has_end (view S s.lines) ≡ has_end tail
  ended tail e =
      ap has_end split ∙ ap (λ ls. has_end (numbers ++ ls)) e ∙ has_end-append numbers tail ∙ ap (λ b. b || has_end tail) none

  pub closes-means : Means S (view S s.lines) (stop_number x) s.pc.label
  closes-means = go (eqb (stop_number x) 0) (flows s.pc.label S) refl refl
    where
      go : (b k : Bool) → eqb (stop_number x) 0 ≡ b → flows s.pc.label S ≡ k
          → Means S (view S s.lines) (stop_number x) s.pc.label
      go true true f g =
          let is = ended (end_line s.pc.label ∷ []) (rw (f, g)) in
          record { present = λ e. (eqb-true (stop_number x) 0 f, g); missing = λ e. never (cc) }
      go true false f g = let is = ended [] (rw (f, g)) in record { present = λ e. never (cc); missing = λ e. inr g }
      go false k f g =
          let is = ended [] (rw f) in record { present = λ e. never (cc); missing = λ e. inl (eqb-false (stop_number x) 0 f) }

-- ════════════════════════════════════════════════════════════════════════════════════════════
-- Two views
-- ════════════════════════════════════════════════════════════════════════════════════════════

append-none : (ls ms : List Line) → ls ++ ms ≡ [] → ms ≡ []
append-none [] ms e = e
append-none (l ∷ ls) ms e = never (cc)

-- after an end line nothing stands
last-only : (ls more before : List Line) (label : ℕ) → has_end ls ≡ true → has_end before ≡ false
    → ls ++ more ≡ before ++ (end_line label ∷ []) → more ≡ []
last-only [] more before label e f g = never (cc)
last-only (l ∷ ls) more [] label e f g = let tail : ls ++ more ≡ [] = cc in append-none ls more tail
last-only (l ∷ ls) more (k ∷ before) label e f g =
    let head : l ≡ k = cc in
    let tail : ls ++ more ≡ before ++ (end_line label ∷ []) = cc in
    go (is_end k.kind) refl head f (λ h i. last-only ls more before label h i tail)
  where
    go : (b : Bool) → is_end k.kind ≡ b → l ≡ k → (b || has_end before) ≡ false
        → (has_end ls ≡ true → has_end before ≡ false → more ≡ []) → more ≡ []
    go true d h i on = never (cc)
    go false d h i on = on (rw (h, d) at e) i

-- one that has an end line starts no other
end_same : (v w : List Line) → Start v w → has_end v ≡ true → Shape w → v ≡ w
end_same v w s e shape = sym (sym joined ∙ ap (λ ls. v ++ ls) (go shape) ∙ append-nil v)
  where
    rest : List Line
    rest = drop (length v) w

    joined : v ++ rest ≡ w
    joined = ap (λ ls. ls ++ rest) s ∙ take-append-drop (length v) w

    go : Shape w → rest ≡ []
    go (without f) =
        let ended : has_end w ≡ true = ap has_end (sym joined) ∙ has_end-append v rest ∙ ap (λ b. b || has_end rest) e in
        never (cc)
    go (whole x) = last-only v rest x.before x.label e x.only (joined ∙ x.last)

start-same : {v w : List Line} → v ≡ w → Start w v
start-same {v} {w} e = sym (rw e (take-length w))

pub starts-tell : (v w : List Line) → OneStartsOther v w → Shape v → Shape w → Tells v w
starts-tell v w (inl s) a b =
    record {
      whole = shape-whole a;
      start = λ e. start-same (end_same v w s e b);
      equal = λ e f. end_same v w s e b;
    }
starts-tell v w (inr s) a b =
    record { whole = shape-whole a; start = λ e. s; equal = λ e f. sym (end_same w v s f a) }

-- ════════════════════════════════════════════════════════════════════════════════════════════
-- Runs
-- ════════════════════════════════════════════════════════════════════════════════════════════

pub complete : Complete
complete Q R σ ρ refines₁ refines₂ cs S cells₁ cells₂ alike env₁ env₂ fuel₁ fuel₂ u v =
    starts-tell _ _ (privacy Q R σ ρ refines₁ refines₂ cs S cells₁ cells₂ alike env₁ env₂ fuel₁ fuel₂ u v)
    (closes-shape S _ _ (run-closes σ env₁ cs fuel₁ (start cells₁) u refl))
    (closes-shape S _ _ (run-closes ρ env₂ cs fuel₂ (start cells₂) v refl))

pub standard-complete : Views Tells (fixed standard) (fixed standard)
standard-complete = complete Unit Unit (fixed standard) (fixed standard) (λ u k p r e. e) (λ u k p r e. e)

pub meant : Meant
meant R ρ cs S cells env fuel u = closes-means S _ _ (run-closes ρ env cs fuel (start cells) u refl)
