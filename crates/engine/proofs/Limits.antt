-- The limits as the code tests them.
-- Assumes nothing.
use Rattle.std.proofs.Common.{Err, Ok, Result, true, false, is_err}
use Rattle.std.specs.Result.{result_ok}
use mathlib.Core.Path.{◌≡◌, refl, sym, ap, ◌∙◌}
use mathlib.Core.List.{List}
use Prim.Native.Nat.{ℕ, suc, ◌+◌, ◌*◌, ◌/◌, ◌<◌, ◌≤◌}
use native.Mathlib.Numerals.{add-one}
use native.Mathlib.Omega.{arith}
use lib.IntN.{ℤ, pos}
use lib.ListN.{length, get_or, drop, drop_of_length-le}
use lib.Seq.{drop-cons}
use lib.Dec.{leb, leb→le, le→leb}
use Rattle.word.proofs.Bool.{never, bool-ext}
use Rattle.label.specs.declared.Label.{Label}
use Rattle.label.specs.declared.NoLabel.{NoLabel}
use Rattle.label.specs.Word.{stored}
use Rattle.program.specs.declared.Command.{Command}
use Rattle.program.specs.declared.Refusal.{Refusal}
use Rattle.program.specs.Decode.{Decoded, refused, accepted, refusal, check_answer}
use Rattle.engine.specs.declared.Clearances.{Clearances}
use Rattle.engine.specs.declared.start.Given.{Given}
use Rattle.engine.specs.declared.start.Own.{Own}
use Rattle.engine.specs.Start.{or_else, first_of, or_label, labels_limit, limits, within, start_decoded}

-- so many commands fit half as many words
pub leb-half : (count words : ℕ) → leb count (words / 2) ≡ leb (2 * count) words
leb-half count words =
    bool-ext (leb count (words / 2)) (leb (2 * count) words)
    (λ t. let h = leb→le count (words / 2) t in le→leb (2 * count) words (omega arith))
    (λ t. let h = leb→le (2 * count) words t in le→leb count (words / 2) (omega arith))

pub or_kept : (x : Result (Unit {0}) Refusal) → or_else x (Ok tt) ≡ x
or_kept (Err r) = refl
or_kept (Ok tt) = refl

-- what is answered for a sheet of n commands
abbrev pub limit_answer : Result (Unit {0}) Refusal → ℕ → Result ℕ Refusal
limit_answer (Err r) n = Err r
limit_answer (Ok tt) n = Ok n

-- the labels from i on, of which those before are labels
pub record Labelled (check : ℕ) (labels : List ℤ) (i : ℕ) : Type 0 where
  pub within : i ≤ length labels
  pub left : labels_limit check i (drop i labels) ≡ labels_limit check 0 labels

pub labelled-start : (check : ℕ) (labels : List ℤ) → Labelled check labels 0
labelled-start check labels = record { within = omega arith; left = refl }

module _ (check : ℕ) (labels : List ℤ) (i : ℕ) (l : Labelled check labels i) where
  pub labelled-end : length labels ≤ i → (Ok tt) ≡ labels_limit check 0 labels
  unfolding labels_limit
  labelled-end h = sym (ap (labels_limit check i) (drop_of_length-le labels h)) ∙ l.left

  module _ (h : i < length labels) where
    here : or_label check (stored (get_or labels i (pos 0))) i (labels_limit check (suc i) (drop (suc i) labels)) ≡ labels_limit check 0 labels
    unfolding labels_limit
    here = sym (ap (labels_limit check i) (drop-cons labels i (pos 0) h)) ∙ l.left

    pub labelled-broken : (r : Result Label NoLabel) → result_ok r ≡ stored (get_or labels i (pos 0)) → is_err r ≡ true
        → Err (refusal check i) ≡ labels_limit check 0 labels
    labelled-broken (Ok x) e t = never (cc)
    labelled-broken (Err x) e t = rw (← e) at here

    pub labelled-next : (r : Result Label NoLabel) → result_ok r ≡ stored (get_or labels i (pos 0)) → is_err r ≡ false
        → Labelled check labels (i + 1)
    labelled-next (Ok x) e t = record { within = omega arith; left = rw (add-one i) (rw (← e) at here) }
    labelled-next (Err x) e t = never (cc)

-- ════════════════════════════════════════════════════════════════════════════════════════════
-- The answer, from the sheet's and from the first broken limit
-- ════════════════════════════════════════════════════════════════════════════════════════════

module _ (d : Decoded) (labels : List ℤ) (clear : Clearances) (g : Given) (own : Own) where
  abbrev answered : Result ℕ Refusal
  answered = check_answer (start_decoded d labels clear g own)

  pub start-refused : (r : Refusal) → Err r ≡ check_answer d → Err r ≡ answered
  start-refused r e = go d e
    where
      go : (d : Decoded) → Err r ≡ check_answer d → Err r ≡ check_answer (start_decoded d labels clear g own)
      go (refused q) e = e
      go (accepted cs) e = never (cc)

  -- of a sheet of n commands
  pub start-limited : (n : ℕ) → Ok n ≡ check_answer d → (x : Result (Unit {0}) Refusal) → x ≡ first_of (limits n labels clear g own)
      → limit_answer x n ≡ answered
  start-limited n e x l = go d e
    where
      by : (x : Result (Unit {0}) Refusal) (cs : List Command) → n ≡ length cs → limit_answer x n ≡ check_answer (within x cs)
      by (Err r) cs k = refl
      by (Ok tt) cs k = ap Ok k

      go : (d : Decoded) → Ok n ≡ check_answer d → limit_answer x n ≡ check_answer (start_decoded d labels clear g own)
      go (refused q) e = never (cc)
      go (accepted cs) e =
          let k : n ≡ length cs = cc in
          by x cs k ∙ ap (λ x. check_answer (within x cs)) (l ∙ ap (λ n. first_of (limits n labels clear g own)) k)
