-- Signed words: a number read back from its bits, the sign, and the test for 0.
-- Assumes nothing.
use Rattle.std.proofs.Common.{◌≡◌, ℕ, zero, suc, ◌^◌, ◌<◌, true, false, T, eqb, ℤ, pos, negsuc, nat_abs, sym, refl, ◌∙◌, arith, to_z-of_z, w64, Fits, SFits, to_z, of_z, eq-eqb, ne_eqb}
use lib.Signed.{lt_z, non_neg, mag}
use Rattle.word.specs.Number.{is_zero}

-- a number that fits is read back from its bits
pub back : {z : ℤ} → SFits w64 z → to_z w64 (of_z w64 z) ≡ z
back f = to_z-of_z f

-- the same from the bound alone, which is what a call's `.ok` and an enum's field have
pub back-ok : (z : ℤ) → mag z < 2 ^ 63 → to_z w64 (of_z w64 z) ≡ z
back-ok z h = back (record { sfits = h })

pub cast-natural : (z : ℤ) → SFits w64 z → lt_z z (pos 0) ≡ false → T (non_neg z) × Fits w64 (nat_abs z)
cast-natural (pos n) f e = (tt, record { fits = let h = f.sfits in omega arith })
cast-natural (negsuc n) f e = let z : ◌≡◌ {A = ℕ} 0 1 = cc in absurd (omega arith)

-- the test of a word for 0, by its bits
pub zero_test : (z : ℤ) → SFits w64 z → eqb (of_z w64 z) 0 ≡ is_zero z
zero_test (pos zero) f = refl
zero_test (pos (suc n)) f = ne_eqb (suc n) 0 (λ e. omega arith)
zero_test (negsuc n) f = ne_eqb (of_z w64 (negsuc n)) 0 (λ e. let h = f.sfits in omega arith)

pub zero_is : (z : ℤ) → SFits w64 z → of_z w64 z ≡ 0 → is_zero z ≡ true
zero_is z f e = sym (zero_test z f) ∙ eq-eqb (of_z w64 z) 0 e

pub zero-not : (z : ℤ) → SFits w64 z → (of_z w64 z ≡ 0 → ⊥) → is_zero z ≡ false
zero-not z f e = sym (zero_test z f) ∙ ne_eqb (of_z w64 z) 0 e
