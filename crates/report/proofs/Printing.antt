-- Printing the lines of an output space one by one: what is left to print, laid from where it stands, gives the whole.
-- Assumes nothing.
use mathlib.Core.Path.{◌≡◌, refl, sym, ap, ap₂, ◌∙◌}
use mathlib.Core.Bool.{true, false}
use mathlib.Core.List.{List, [], ◌∷◌, ◌++◌}
use Prim.Native.Nat.{ℕ, ◌+◌, ◌*◌, ◌<◌, ◌≤◌}
use native.Mathlib.Numerals.{add-one}
use native.Mathlib.Nat.{zero-add, add-zero}
use native.Mathlib.Omega.{arith}
use lib.ListN.{length, drop, length-append, drop_of_length-le}
use lib.Seq.{drop-cons}
use Rattle.label.specs.Label.{flows}
use Rattle.word.specs.Lay.{laid_at}
use Rattle.word.proofs.Lay.{laid_at-nil, laid_at-append, length-laid_at}
use Rattle.machine.specs.Atom.{Line}
use Rattle.engine.specs.Memory.{Output}
use Rattle.engine.specs.Layout.{line_in, lines_of}
use Rattle.engine.proofs.Pairs.{lines_at}
use Rattle.report.specs.Lines.{line_text, shown_text, lines_text}
use Rattle.report.specs.Written.{Written}

-- ════════════════════════════════════════════════════════════════════════════════════════════
-- The lines of an output space
-- ════════════════════════════════════════════════════════════════════════════════════════════

-- from an index on
pub lines_from : (o : Output) (written i : ℕ) → i < length (lines_of written o)
    → drop i (lines_of written o) ≡ line_in i o ∷ drop (i + 1) (lines_of written o)
lines_from o written i h =
    drop-cons (lines_of written o) i (line_in i o) h
    ∙ ap₂ (λ (x : Line) (n : ℕ). x ∷ drop n (lines_of written o)) (lines_at o written i h) (sym (add-one i))

-- ════════════════════════════════════════════════════════════════════════════════════════════
-- A line that the reader may see
-- ════════════════════════════════════════════════════════════════════════════════════════════

pub written_shown : (reader : ℕ) (x : Line) (old : List ℕ) (at next : ℕ) (new : List ℕ) → flows x.label reader ≡ true
    → Written (line_text x) old at next new → Written (shown_text reader x) old at next new
written_shown reader x old at next new f w = rw f w

pub written_hidden : (reader : ℕ) (x : Line) (old : List ℕ) (at : ℕ) → flows x.label reader ≡ false
    → Written (shown_text reader x) old at at old
written_hidden reader x old at f = rw f (record { end = sym (add-zero at); space = sym (laid_at-nil at old) })

-- ════════════════════════════════════════════════════════════════════════════════════════════
-- The loop
-- ════════════════════════════════════════════════════════════════════════════════════════════

pub record Printing (reader : ℕ) (xs : List Line) (out₀ out : List ℕ) (at i : ℕ) : Type 0 where
  pub few : i ≤ length xs
  pub short : at ≤ 33 * i
  pub same : length out ≡ length out₀
  pub left : laid_at at (lines_text reader (drop i xs)) out ≡ laid_at 0 (lines_text reader xs) out₀
  pub rest : at + length (lines_text reader (drop i xs)) ≡ length (lines_text reader xs)

module _ (reader : ℕ) (xs : List Line) (out₀ : List ℕ) where
  pub printing-start : Printing reader xs out₀ out₀ 0 0
  printing-start = record {
    few = omega arith;
    short = omega arith;
    same = refl;
    left = refl;
    rest =
        zero-add (length (lines_text reader xs));
  }

  module _ (out : List ℕ) (at i : ℕ) (p : Printing reader xs out₀ out at i) where
    pub printing-end : length xs ≤ i → Written (lines_text reader xs) out₀ 0 at out
    unfolding lines_text
    printing-end h =
        let e : lines_text reader (drop i xs) ≡ [] = ap (lines_text reader) (drop_of_length-le xs h) in
        let n = ap length e in
        let r = p.rest in
        record {
          end = omega arith;
          space = sym (ap (λ (t : List ℕ). laid_at at t out) e ∙ laid_at-nil at out) ∙ p.left;
        }

    pub printing-next : (x : Line) → drop i xs ≡ x ∷ drop (i + 1) xs → i < length xs → 33 * length xs ≤ length out₀
        → (next : ℕ) (new : List ℕ) → Written (shown_text reader x) out at next new → next ≤ at + 33
        → Printing reader xs out₀ new next (i + 1)
    unfolding lines_text
    printing-next x d h room next new w l =
        let e : lines_text reader (drop i xs) ≡ shown_text reader x ++ lines_text reader (drop (i + 1) xs) = ap (lines_text reader) d in
        let s = p.short in
        let m = p.same in
        let n = w.end in
        let fits : at + length (shown_text reader x) ≤ length out = omega arith in
        record {
          few = omega arith;
          short = omega arith;
          same = ap length w.space ∙ length-laid_at at (shown_text reader x) out fits ∙ p.same;
          left =
              ap₂ (λ (n : ℕ) (l : List ℕ). laid_at n (lines_text reader (drop (i + 1) xs)) l) n w.space
              ∙ sym (laid_at-append at (shown_text reader x) (lines_text reader (drop (i + 1) xs)) out fits)
              ∙ ap (λ (t : List ℕ). laid_at at t out) (sym e)
              ∙ p.left;
          rest = omega (arith, p.rest, ap length e, length-append (shown_text reader x) (lines_text reader (drop (i + 1) xs)));
        }
