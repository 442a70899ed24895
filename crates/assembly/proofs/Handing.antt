-- Handing over the bytes that were made in a space.
-- Assumes nothing.
use Rattle.std.proofs.Common.{Ok, Result}
use mathlib.Core.Path.{◌≡◌, sym, ap, ◌∙◌}
use mathlib.Core.List.{List, ◌++◌}
use Prim.Native.Nat.{ℕ, suc, ◌+◌, ◌-◌, ◌<◌, ◌≤◌}
use native.Mathlib.Omega.{arith}
use lib.ListN.{length, take, drop, get_or, set}
use lib.Dec.{leb}
use lib.Seq.{drop-cons, take-append_seam}
use borrow.Author.Tests.{le-leb}
use Rattle.word.specs.Choose.{choose}
use Rattle.word.specs.Lay.{laid, laid_at}
use Rattle.word.proofs.Bool.{never}
use Rattle.word.proofs.Lay.{laid_at-cons}
use Rattle.program.specs.declared.Refusal.{Refusal}
use Rattle.assembly.specs.Assembly.{Outcome, denied, given, answer, left}
use Rattle.assembly.specs.Space.{measured, Holding, handed_answer, handed_out}

-- one byte more that is handed over is one store more
module _ (sheet out : List ℕ) (size : ℕ) where
  pub copied_more : (i : ℕ) → i < size → i < length sheet → i < length out
      → laid_at (i + 1) (take (size - (i + 1)) (drop (i + 1) sheet)) (set out i (get_or sheet i 0)) ≡ laid_at i (take (size - i) (drop i sheet)) out
  copied_more i h k l =
      let e : i + 1 ≡ suc i = omega arith in
      let f : size - i ≡ suc (size - (i + 1)) = omega arith in
      rw (f, drop-cons sheet i 0 k, e) (sym (laid_at-cons i (get_or sheet i 0) (take (size - suc i) (drop (suc i) sheet)) out l))

-- what is in a space is handed over as it is to be written
pub handed-answer : (x : Outcome) (r : Result ℕ Refusal) (out : List ℕ) → r ≡ measured x → handed_answer r out ≡ answer x out
handed-answer (denied q) r out e = rw e
handed-answer (given bytes) r out e = rw e

pub handed-left : (old new : List ℕ) (x : Outcome) (r : Result ℕ Refusal) (out : List ℕ) → r ≡ measured x → Holding x old new
    → handed_out r new out ≡ left x out
unfolding laid
handed-left old new (denied q) r out e h = rw e
handed-left old new (given bytes) r out e h =
    let n = length bytes in
    rw e
    (ap (λ (t : List ℕ). choose (leb n (length out)) (laid t out) out)
    (ap (take n) h.0 ∙ take-append_seam bytes (drop n old)))

-- where there is room, what is in a space is handed over as it is to be written
pub handed : (x : Outcome) (size : ℕ) (old new out part : List ℕ) → Ok size ≡ measured x → Holding x old new → size ≤ length out
    → part ≡ take size new → part ++ drop size out ≡ left x out
unfolding laid
handed (denied r) size old new out part e h k f = never (cc)
handed (given bytes) size old new out part e h k f =
    let same : size ≡ length bytes = cc in
    rw (f, h.0, same, take-append_seam bytes (drop (length bytes) old), le-leb _ _ (rw same at k))
