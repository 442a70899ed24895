-- Cutting a text at a separator: pieces that have none of it are cut as they were put together, and putting the pieces together gives back
-- the text.
-- Assumes nothing.
use mathlib.Core.Path.{◌≡◌, refl, ap, ◌∙◌}
use mathlib.Core.Bool.{Bool, true, false, not, ◌&&◌}
use mathlib.Core.List.{List, [], ◌∷◌, ◌++◌}
use Prim.Native.Nat.{ℕ, ◌≤◌}
use native.Mathlib.Omega.{arith}
use lib.Dec.{T, eqb}
use borrow.Author.Tests.{eq-eqb, ne_eqb, eqb-true, not-true}
use Rattle.word.proofs.Bool.{never, and_first, and_second}
use Rattle.program.proofs.Naming.{all_letters, letters-first, letters-rest}
use Rattle.assembly.specs.Assembly.{newline, before, cut}
use Rattle.assembly.specs.Claim.{ended}

-- ════════════════════════════════════════════════════════════════════════════════════════════
-- Pieces
-- ════════════════════════════════════════════════════════════════════════════════════════════

-- no separator in a text
abbrev pub without : ℕ → List ℕ → Bool
without separator [] = true
without separator (c ∷ s) = not (eqb c separator) && without separator s

module _ (separator c : ℕ) (s : List ℕ) (e : without separator (c ∷ s) ≡ true) where
  without-head : eqb c separator ≡ false
  without-head = not-true (eqb c separator) (and_first (not (eqb c separator)) (without separator s) e)

  without-tail : without separator s ≡ true
  without-tail = and_second (not (eqb c separator)) (without separator s) e

pub without-append : (separator : ℕ) (s t : List ℕ) → without separator s ≡ true → without separator t ≡ true
    → without separator (s ++ t) ≡ true
without-append separator [] t e f = f
without-append separator (c ∷ s) t e f =
    rw (without-head separator c s e) (without-append separator s t (without-tail separator c s e) f)

pub without-letters : (separator : ℕ) (s : List ℕ) → separator ≤ 32 → T (all_letters s) → without separator s ≡ true
without-letters separator [] h t = refl
without-letters separator (c ∷ s) h t =
    rw (ne_eqb c separator (λ k. omega (arith, letters-first c s t)))
    (without-letters separator s h (letters-rest c s t))

-- ════════════════════════════════════════════════════════════════════════════════════════════
-- From pieces to a text and back
-- ════════════════════════════════════════════════════════════════════════════════════════════

module _ (separator : ℕ) (last : List (List ℕ)) where
  -- what comes first up to a separator
  pub cut-first : (s rest : List ℕ) → without separator s ≡ true
      → cut separator last (s ++ separator ∷ rest) ≡ s ∷ cut separator last rest
  unfolding cut
  cut-first [] rest e = rw (eq-eqb separator separator refl)
  cut-first (c ∷ s) rest e =
      rw (without-head separator c s e, cut-first s rest (without-tail separator c s e))

-- a text that has none is one word
pub cut_word : (separator : ℕ) (s : List ℕ) → without separator s ≡ true → cut separator ([] ∷ []) s ≡ s ∷ []
unfolding cut
cut_word separator [] e = refl
cut_word separator (c ∷ s) e = rw (without-head separator c s e, cut_word separator s (without-tail separator c s e))

-- ════════════════════════════════════════════════════════════════════════════════════════════
-- From a text to its pieces and back
-- ════════════════════════════════════════════════════════════════════════════════════════════

before-some : (t : Bool) (c : ℕ) (ps : List (List ℕ)) → before t c ps ≡ [] → ⊥
before-some true c ps e = never (cc)
before-some false c [] e = never (cc)
before-some false c (p ∷ ps) e = never (cc)

-- words with a separator between them
abbrev pub spaced : ℕ → List (List ℕ) → List ℕ
spaced separator [] = []
spaced separator (p ∷ []) = p
spaced separator (p ∷ q ∷ ps) = p ++ separator ∷ spaced separator (q ∷ ps)

spaced-before : (separator c : ℕ) (t : Bool) (ps : List (List ℕ)) → eqb c separator ≡ t → (ps ≡ [] → ⊥)
    → spaced separator (before t c ps) ≡ c ∷ spaced separator ps
spaced-before separator c true [] e h = absurd (h refl)
spaced-before separator c true (p ∷ ps) e h = rw (eqb-true c separator e)
spaced-before separator c false [] e h = absurd (h refl)
spaced-before separator c false (p ∷ []) e h = refl
spaced-before separator c false (p ∷ q ∷ ps) e h = refl

words-some : (separator : ℕ) (s : List ℕ) → cut separator ([] ∷ []) s ≡ [] → ⊥
unfolding cut
words-some separator [] e = never (cc)
words-some separator (c ∷ s) e = before-some (eqb c separator) c (cut separator ([] ∷ []) s) e

pub words_back : (separator : ℕ) (s : List ℕ) → spaced separator (cut separator ([] ∷ []) s) ≡ s
unfolding cut
words_back separator [] = refl
words_back separator (c ∷ s) =
    spaced-before separator c (eqb c separator) (cut separator ([] ∷ []) s) refl (words-some separator s)
    ∙ ap (λ (t : List ℕ). c ∷ t) (words_back separator s)

-- lines with a newline after each of them
abbrev pub lined : List (List ℕ) → List ℕ
lined [] = []
lined (p ∷ ps) = p ++ newline ∷ lined ps

lined-before : (c : ℕ) (t : Bool) (ps : List (List ℕ)) → eqb c newline ≡ t → (t ≡ false → ps ≡ [] → ⊥)
    → lined (before t c ps) ≡ c ∷ lined ps
lined-before c true ps e h = rw (eqb-true c newline e)
lined-before c false [] e h = absurd (h refl refl)
lined-before c false (p ∷ ps) e h = refl

-- of a text that ends with a newline
pub lines-back : (s : List ℕ) → ended s ≡ true → lined (cut newline [] s) ≡ s
unfolding cut
lines-back [] e = refl
lines-back (c ∷ []) e = lined-before c (eqb c newline) [] refl (λ f k. never (cc))
lines-back (c ∷ d ∷ s) e =
    lined-before c (eqb c newline) (cut newline [] (d ∷ s)) refl
    (λ f k. before-some (eqb d newline) d (cut newline [] s) k)
    ∙ ap (λ (t : List ℕ). c ∷ t) (lines-back (d ∷ s) e)
