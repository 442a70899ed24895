-- What is laid over lent words: it stays when it is laid again, its start is laid too, and an element stored after it
-- makes it longer.
-- Assumes nothing.
use mathlib.Core.Path.{◌≡◌, ◌∙◌}
use mathlib.Core.List.{List, [], ◌∷◌, ◌++◌, append_assoc}
use Prim.Native.Nat.{ℕ, suc, ◌<◌}
use native.Mathlib.Omega.{arith}
use lib.ListN.{length, get_or, drop, set, length-append}
use lib.Seq.{drop-append_seam, drop-cons, set_at}
use Rattle.word.specs.Lay.{laid}

module _ {A : Type 0} where
  -- what starts with xs has xs laid over it
  pub laid-start : (xs rest : List A) {new : List A} → new ≡ xs ++ rest → new ≡ laid xs new
  unfolding laid
  laid-start xs rest e = rw (e, drop-append_seam)

  pub laid-again : (xs old : List A) {new : List A} → new ≡ laid xs old → new ≡ laid xs new
  unfolding laid
  laid-again xs old e = laid-start xs _ e

  pub laid-prefix : (xs ys : List A) {old : List A} → old ≡ laid (xs ++ ys) old → old ≡ laid xs old
  unfolding laid
  laid-prefix xs ys e = laid-start xs _ (e ∙ append_assoc xs ys _)

  -- laid over what is as long and has more behind it
  pub laid-over : (xs ys zs old : List A) → length xs ≡ length ys → laid xs (laid (ys ++ zs) old) ≡ laid (xs ++ zs) old
  unfolding laid
  laid-over xs ys zs old e =
      let m : length (xs ++ zs) ≡ length (ys ++ zs) = rw (length-append, length-append) (omega arith) in
      rw (e, append_assoc, drop-append_seam, m, append_assoc)

  pub laid-set : (xs : List A) (x : A) (old : List A) (n : ℕ) → length xs ≡ n → n < length old
      → set (laid xs old) n x ≡ laid (xs ++ (x ∷ [])) old
  unfolding laid
  laid-set xs x old n e h =
      let m : length (xs ++ (x ∷ [])) ≡ suc n = rw length-append (omega arith) in
      rw (e, drop-cons old n x h, set_at xs (get_or old n x) (drop (suc n) old) x n e, m, append_assoc)
