-- The words of a line: bytes above the space belong together; and where a line ends.
-- Assumes nothing.
use mathlib.Core.Path.{◌≡◌, refl, sym, ap, ◌∙◌}
use mathlib.Core.Bool.{Bool, true, false}
use mathlib.Core.List.{List, [], ◌∷◌, ◌++◌}
use Prim.Native.Nat.{ℕ, ◌+◌}
use native.Mathlib.Omega.{arith}
use lib.Dec.{T, eqb}
use lib.ListN.{length, drop, get_or}
use lib.Seq.{drop-drop, drop-append_seam, get_or-drop}
use borrow.Author.Tests.{eqb-true, eqb-false, ne_eqb}
use Rattle.program.proofs.Naming.{all_letters, letters-first, letters-rest}
use Rattle.assembly.specs.Assembly.{space, before, cut, words_of}
use Rattle.assembly.specs.Scan.{first_line}
use Rattle.assembly.proofs.Cutting.{without-letters, cut-first, cut_word}

-- ════════════════════════════════════════════════════════════════════════════════════════════
-- The words of a line
-- ════════════════════════════════════════════════════════════════════════════════════════════

-- there is a first word
abbrev pub SomeWords : List (List ℕ) → Type 0
SomeWords ps = (w : List ℕ) × ((ws : List (List ℕ)) × (ps ≡ w ∷ ws))

pub words-some : (l : List ℕ) → SomeWords (words_of l)
unfolding cut
words-some [] = ([], ([], refl))
words-some (c ∷ l) = by (eqb c 32) (words-some l)
  where
    by : (t : Bool) → SomeWords (words_of l) → SomeWords (before t c (words_of l))
    by true h = ([], (words_of l, refl))
    by false h = (c ∷ h.0, (h.1.0, ap (before false c) h.1.1))

-- letters before words: they belong to the first
abbrev joined : List ℕ → List (List ℕ) → List (List ℕ)
joined p [] = p ∷ []
joined p (w ∷ ws) = (p ++ w) ∷ ws

words-joined : (p l : List ℕ) → T (all_letters p) → words_of (p ++ l) ≡ joined p (words_of l)
unfolding cut
words-joined [] l t = let e = (words-some l).1.1 in rw e
words-joined (c ∷ p) l t =
    let e = (words-some l).1.1 in
    rw (ne_eqb c 32 (λ d. omega (arith, letters-first c p t)), words-joined p l (letters-rest c p t), e)

module _ (p : List ℕ) (t : T (all_letters p)) where
  pub words-alone : words_of p ≡ p ∷ []
  words-alone = cut_word space p (without-letters space p (omega arith) t)

  pub words-space : (l : List ℕ) → words_of (p ++ 32 ∷ l) ≡ p ∷ words_of l
  words-space l = cut-first space ([] ∷ []) p l (without-letters space p (omega arith) t)

  -- another byte belongs to the same word
  pub words-other : (c : ℕ) (l : List ℕ) → (c ≡ 32 → ⊥)
      → (w : List ℕ) × ((ws : List (List ℕ)) × (words_of (p ++ c ∷ l) ≡ (p ++ c ∷ w) ∷ ws))
  unfolding cut
  words-other c l h =
      let (w, (ws, e)) = words-some l in
      (w, (ws, words-joined p (c ∷ l) t ∙ rw (ne_eqb c 32 h, e)))

-- ════════════════════════════════════════════════════════════════════════════════════════════
-- The first line of a text
-- ════════════════════════════════════════════════════════════════════════════════════════════

pub line-letters : (p r : List ℕ) → T (all_letters p) → first_line (p ++ r) ≡ p ++ first_line r
unfolding first_line
line-letters [] r t = refl
line-letters (c ∷ p) r t =
    rw (ne_eqb c 10 (λ d. omega (arith, letters-first c p t)), line-letters p r (letters-rest c p t))

pub line-goes : (c : ℕ) (r : List ℕ) → (c ≡ 10 → ⊥) → first_line (c ∷ r) ≡ c ∷ first_line r
unfolding first_line
line-goes c r h = rw (ne_eqb c 10 h)

-- a text whose first line ends at once, or goes on
pub data After (r : List ℕ) : Type 0 where
  ends : first_line r ≡ [] → get_or r 0 10 ≡ 10 → After r
  goes : (c : ℕ) (rest : List ℕ) → r ≡ c ∷ rest → (c ≡ 10 → ⊥) → After r

pub line_after : (r : List ℕ) → After r
unfolding first_line
line_after [] = ends refl refl
line_after (c ∷ r) = by (eqb c 10) refl
  where
    by : (t : Bool) → eqb c 10 ≡ t → After (c ∷ r)
    by true e = ends (rw e) (eqb-true c 10 e)
    by false e = goes c r refl (eqb-false c 10 e)

-- ════════════════════════════════════════════════════════════════════════════════════════════
-- Positions
-- ════════════════════════════════════════════════════════════════════════════════════════════

-- what follows some bytes
pub drop-after : (s : List ℕ) (n : ℕ) (p r : List ℕ) → drop n s ≡ p ++ r → drop (n + length p) s ≡ r
drop-after s n p r e = sym (drop-drop (length p) n s) ∙ ap (drop (length p)) e ∙ drop-append_seam p r

pub byte-first : (s : List ℕ) (n : ℕ) (r : List ℕ) (d : ℕ) → drop n s ≡ r → get_or s n d ≡ get_or r 0 d
byte-first s n r d e =
    let z : n ≡ n + 0 = omega arith in
    ap (λ (i : ℕ). get_or s i d) z ∙ sym (get_or-drop n s 0 d) ∙ ap (λ (l : List ℕ). get_or l 0 d) e
