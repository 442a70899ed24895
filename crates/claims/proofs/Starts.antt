-- Starts of lists and of their texts: a list that is the start of another has a text that is the start of the other's, whatever the text of
-- an element is.
-- Assumes nothing.
use mathlib.Core.Path.{◌≡◌, refl, sym, ap, ◌∙◌}
use mathlib.Core.Logic.{inl, inr}
use mathlib.Core.List.{List, [], ◌∷◌, ◌++◌, append_assoc}
use Prim.Native.Nat.{ℕ}
use lib.ListN.{length, take, drop, take-append-drop}
use lib.Seq.{take-append_seam}
use Rattle.machine.specs.Claim.{Start, OneStartsOther}

module _ {A : Type 0} (text : A → List ℕ) where
  -- the texts one after another
  abbrev pub texts : List A → List ℕ
  texts [] = []
  texts (x ∷ xs) = text x ++ texts xs

  pub texts-append : (xs ys : List A) → texts (xs ++ ys) ≡ texts xs ++ texts ys
  texts-append [] ys = refl
  texts-append (x ∷ xs) ys =
      ap (λ (t : List ℕ). text x ++ t) (texts-append xs ys) ∙ sym (append_assoc (text x) (texts xs) (texts ys))

  pub texts-start : (xs ys : List A) → Start xs ys → Start (texts xs) (texts ys)
  texts-start xs ys e =
      let rest : List A = drop (length xs) ys in
      let whole : xs ++ rest ≡ ys = ap (λ (l : List A). l ++ rest) e ∙ take-append-drop (length xs) ys in
      let parts : texts xs ++ texts rest ≡ texts ys = sym (texts-append xs rest) ∙ ap texts whole in
      sym (take-append_seam (texts xs) (texts rest)) ∙ ap (take (length (texts xs))) parts

  pub texts-starts : (xs ys : List A) → OneStartsOther xs ys → OneStartsOther (texts xs) (texts ys)
  texts-starts xs ys (inl e) = inl (texts-start xs ys e)
  texts-starts xs ys (inr e) = inr (texts-start ys xs e)
