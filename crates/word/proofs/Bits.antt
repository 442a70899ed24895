-- A word as an index. Below a bound of at most 2^63 its bits are the word itself, as those of a negative word lie above.
-- Assumes nothing.
use Rattle.std.proofs.Common.{◌≡◌, ℕ, ◌%◌, ◌^◌, ◌<◌, ◌≤◌, min, Bool, true, false, ltb, ℤ, pos, negsuc, w64, SFits, to_z, of_z, ◌∙◌, sym, refl, ap, mod-eq_of_lt, arith, ltb-true, ltb-false, le-ltb, lt-ltb, None, Some}
use Rattle.word.proofs.Signed.{back}
use Rattle.word.specs.Number.{index_if, index_of}
use Rattle.word.specs.Wrap.{residue, Signed}

pub bits_below : (z : ℤ) (n : ℕ) → Signed 64 z → n ≤ 2 ^ 63 → residue 64 z < n → Some (residue 64 z) ≡ index_of z n
unfolding index_of residue
bits_below (pos k) n s few h = let e : k % 2 ^ 64 ≡ k = mod-eq_of_lt (omega arith) in rw (e, lt-ltb k n (rw e at h))
bits_below (negsuc k) n s few h = let e : k % 2 ^ 64 ≡ k = mod-eq_of_lt (omega arith) in absurd (omega (arith, rw e at h))

pub bits_above : (z : ℤ) (n : ℕ) → Signed 64 z → n ≤ residue 64 z → None ≡ index_of z n
unfolding index_of residue
bits_above (pos k) n s h = let e : k % 2 ^ 64 ≡ k = mod-eq_of_lt (omega arith) in rw (le-ltb k n (rw e at h))
bits_above (negsuc k) n s h = refl

-- a bound beyond the words bounds nothing
pub index-capped : (z : ℤ) (n : ℕ) → Signed 64 z → index_of z (min n (2 ^ 63)) ≡ index_of z n
unfolding index_of
index-capped (pos k) n s = ap (λ (t : Bool). index_if t k) (by (ltb k n) refl)
  where
    by : (t : Bool) → ltb k n ≡ t → ltb k (min n (2 ^ 63)) ≡ t
    by true e = lt-ltb k (min n (2 ^ 63)) (omega (arith, ltb-true k n e))
    by false e = le-ltb k (min n (2 ^ 63)) (omega (arith, ltb-false k n e))
index-capped (negsuc k) n s = refl

-- the word's bits are its index, if they lie below the bound
module _ (z : ℤ) (n r : ℕ) (f : SFits w64 z) (e : r ≡ residue 64 (to_z w64 (of_z w64 z))) where
  bits : r ≡ residue 64 z
  bits = rw (back f) at e

  pub bits_index : r < min n (2 ^ 63) → Some r ≡ index_of z n
  bits_index h =
      let g = f.sfits in
      rw bits (bits_below z (min n (2 ^ 63)) g (omega arith) (omega (arith, bits))) ∙ index-capped z n g

  pub bits_outside : min n (2 ^ 63) ≤ r → None ≡ index_of z n
  bits_outside h = let g = f.sfits in bits_above z (min n (2 ^ 63)) g (omega (arith, bits)) ∙ index-capped z n g

-- an index that is found is the number, and lies below the bound
pub index-found : (z : ℤ) (n i : ℕ) → index_of z n ≡ Some i → (z ≡ pos i) × (i < n)
unfolding index_of
index-found (pos k) n i e = test (ltb k n) refl e
  where
    test : (b : Bool) → ltb k n ≡ b → index_if b k ≡ Some i → (pos k ≡ pos i) × (i < n)
    test true t e = let d : i ≡ k = cc in (ap pos (sym d), rw d (ltb-true k n t))
    test false t e = absurd (let x : ◌≡◌ {A = ℕ} 0 1 = cc in omega arith)
index-found (negsuc k) n i e = absurd (let x : ◌≡◌ {A = ℕ} 0 1 = cc in omega arith)
