-- A page's clearance as the code finds it: by an index into the words, or outside them.
-- Assumes nothing.
use Rattle.std.proofs.Common.{None, Some}
use mathlib.Core.Path.{◌≡◌, refl, sym}
use mathlib.Core.Bool.{Bool, true, false}
use mathlib.Core.List.{List}
use Prim.Native.Nat.{ℕ}
use native.Mathlib.Omega.{arith}
use lib.IntN.{ℤ, pos, negsuc}
use lib.ListN.{length, get_or, get_or-eq_default}
use lib.Dec.{ltb}
use borrow.Author.Tests.{ltb-false}
use Rattle.word.specs.Number.{index_if, index_of}
use Rattle.word.proofs.Bits.{index-found}
use Rattle.word.proofs.Bool.{never}
use Rattle.label.specs.Label.{bottom}
use Rattle.label.specs.Word.{low_label}
use Rattle.engine.specs.Memory.{clearance_of}
use Rattle.engine.proofs.Link.Stack.{low_label-id}

module _ (words : List ℤ) where
  pub clearance-at : (page : ℤ) (i : ℕ) → index_of page (length words) ≡ Some i → low_label (get_or words i (pos 0)) ≡ clearance_of words page
  clearance-at page i e = rw (index-found page (length words) i e).0

  pub clearance-outside : (page : ℤ) → index_of page (length words) ≡ None → bottom ≡ clearance_of words page
  unfolding index_of
  clearance-outside (negsuc n) e = refl
  clearance-outside (pos n) e = go (ltb n (length words)) refl e
    where
      go : (b : Bool) → ltb n (length words) ≡ b → index_if b n ≡ None → bottom ≡ low_label (get_or words n (pos 0))
      go true f g = never (cc)
      go false f g = rw (get_or-eq_default words (pos 0) (ltb-false n (length words) f)) (sym (low_label-id 0 (omega arith)))
