-- Words as their bits compare them, and seven words written one at a time.
-- Assumes nothing.
use mathlib.Core.Path.{◌≡◌, refl, sym, ap, ◌∙◌}
use mathlib.Core.Bool.{Bool, true, false}
use mathlib.Core.List.{List, [], ◌∷◌}
use lib.IntN.{ℤ}
use lib.ListN.{length, set}
use lib.Dec.{eqb}
use borrow.Author.Tests.{eqb-true, eq-eqb}
use mir.Syntax.{w64}
use mir.Val.{SFits, to_z, of_z}
use Rattle.word.specs.Number.{same_word}
use Rattle.word.proofs.Signed.{back}
use Rattle.word.proofs.Laws.Test.{same_word_lem, word_same}
use Rattle.tagging.proofs.Rules.{words-all}

-- words are compared by their bits
pub same_test : (a b : ℤ) → SFits w64 a → SFits w64 b → eqb (of_z w64 a) (of_z w64 b) ≡ same_word a b
same_test a b f g = go (eqb (of_z w64 a) (of_z w64 b)) (same_word a b) refl refl
  where
    go : (x y : Bool) → eqb (of_z w64 a) (of_z w64 b) ≡ x → same_word a b ≡ y → x ≡ y
    go true true d e = refl
    go false false d e = refl
    go true false d e =
        let k : a ≡ b = sym (back f) ∙ ap (to_z w64) (eqb-true (of_z w64 a) (of_z w64 b) d) ∙ back g in
        sym (word_same b) ∙ ap (λ (z : ℤ). same_word z b) (sym k) ∙ e
    go false true d e =
        let k : b ≡ a = same_word_lem a b e in
        sym d ∙ ap (λ (z : ℤ). eqb (of_z w64 a) (of_z w64 z)) k ∙ eq-eqb (of_z w64 a) (of_z w64 a) refl

-- seven words are written, one at a time
pub seven_written : (ws : List ℤ) → length ws ≡ 7 → (a b c d e f g : ℤ)
    → set (set (set (set (set (set (set ws 0 a) 1 b) 2 c) 3 d) 4 e) 5 f) 6 g ≡ a ∷ b ∷ c ∷ d ∷ e ∷ f ∷ g ∷ []
seven_written ws size a b c d e f g =
    ap (λ (x : List ℤ). set (set (set (set (set (set (set x 0 a) 1 b) 2 c) 3 d) 4 e) 5 f) 6 g) (words-all 7 ws size)
