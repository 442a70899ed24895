-- Bytes and what they stand for: a byte stands for one token, and the byte at an offset is the first of those that are left.
-- Assumes nothing.
use Rattle.std.proofs.Common.{None, Some, slice_get}
use mathlib.Core.Path.{◌≡◌, refl, sym, ap, ◌∙◌}
use mathlib.Core.List.{List, [], ◌∷◌, ◌++◌}
use mathlib.Core.Bool.{Bool, true, false}
use Prim.Native.Nat.{ℕ, zero, suc, ◌+◌, ◌-◌, ◌<◌, ◌≤◌}
use native.Mathlib.Omega.{arith}
use lib.ListN.{length, drop, get_or}
use lib.Seq.{drop-drop, drop-append_seam}
use lib.Dec.{leb}
use borrow.Author.Tests.{leb-true}
use Rattle.policy.specs.declared.Token.{Token}
use Rattle.policy.specs.declared.Token.TheVariants.{Nothing}
use Rattle.policy.specs.Token.{tokens, or_nothing, token_if, token_of, token_at}

-- a byte that is none of the ten stands for nothing
nothing-past : (i : ℕ) → 10 ≤ i → Nothing ≡ or_nothing (slice_get tokens i)
nothing-past i h = none-there tokens i h
  where
    none-there : (ts : List Token) (i : ℕ) → length ts ≤ i → Nothing ≡ or_nothing (slice_get ts i)
    none-there [] i h = refl
    none-there (t ∷ ts) zero h = absurd (omega arith)
    none-there (t ∷ ts) (suc i) h = none-there ts i (omega arith)

past : (n b : ℕ) → n ≤ b → (b ≡ n → ⊥) → suc n ≤ b
past n b h f = omega arith

ten-on : (b : ℕ) → 0x1a ≤ b → 10 ≤ b - 0x10
ten-on b h = omega arith

pub token_of-other : (b : ℕ)
    → (b ≡ 0x10 → ⊥) → (b ≡ 0x11 → ⊥) → (b ≡ 0x12 → ⊥) → (b ≡ 0x13 → ⊥) → (b ≡ 0x14 → ⊥)
    → (b ≡ 0x15 → ⊥) → (b ≡ 0x16 → ⊥) → (b ≡ 0x17 → ⊥) → (b ≡ 0x18 → ⊥) → (b ≡ 0x19 → ⊥)
    → Nothing ≡ token_of b
unfolding token_of
token_of-other b h0 h1 h2 h3 h4 h5 h6 h7 h8 h9 = by-test (leb 0x10 b) refl
  where
    by-test : (t : Bool) → leb 0x10 b ≡ t → Nothing ≡ token_if t (b - 0x10)
    by-test false e = refl
    by-test true e = nothing-past (b - 0x10) (ten-on b (past 0x19 b
        (past 0x18 b (past 0x17 b (past 0x16 b (past 0x15 b
        (past 0x14 b (past 0x13 b (past 0x12 b (past 0x11 b (past 0x10 b (leb-true 0x10 b e) h0) h1) h2) h3) h4) h5) h6) h7) h8) h9))

-- the byte at an offset is the first byte from there on
pub get_elem-drop : {A : Type 0} (s : List A) (at : ℕ) (b : A) (rest : List A) → drop at s ≡ b ∷ rest → slice_get s at ≡ Some b
get_elem-drop [] zero b rest e = absurd (let z : ◌≡◌ {A = ℕ} 0 1 = cc in omega arith)
get_elem-drop [] (suc at) b rest e = absurd (let z : ◌≡◌ {A = ℕ} 0 1 = cc in omega arith)
get_elem-drop (x ∷ s) zero b rest e = let d : x ≡ b = cc in ap Some d
get_elem-drop (x ∷ s) (suc at) b rest e = get_elem-drop s at b rest e

pub token_at-drop : (s : List ℕ) (at b : ℕ) (rest : List ℕ) → drop at s ≡ b ∷ rest → token_at s at ≡ token_of b
unfolding token_at
token_at-drop s at b rest e = rw (get_elem-drop s at b rest e)

-- what is left after a byte, and after several
pub drop-next : (s : List ℕ) (at b : ℕ) (rest : List ℕ) → drop at s ≡ b ∷ rest → drop (at + 1) s ≡ rest
drop-next s at b rest e = sym (drop-drop 1 at s) ∙ ap (drop 1) e

pub drop_past : (s : List ℕ) (at : ℕ) (xs rest : List ℕ) → drop at s ≡ xs ++ rest → drop (at + length xs) s ≡ rest
drop_past s at xs rest e = sym (drop-drop (length xs) at s) ∙ ap (drop (length xs)) e ∙ drop-append_seam xs rest

-- the byte at an offset within, and beyond
pub get_elem-get_d : (s : List ℕ) (at : ℕ) → at < length s → slice_get s at ≡ Some (get_or s at 0)
get_elem-get_d [] at h = absurd (omega arith)
get_elem-get_d (x ∷ s) zero h = refl
get_elem-get_d (x ∷ s) (suc at) h = get_elem-get_d s at (omega arith)

pub get_elem-beyond : (s : List ℕ) (at : ℕ) → length s ≤ at → slice_get s at ≡ None
get_elem-beyond [] at h = refl
get_elem-beyond (x ∷ s) zero h = absurd (omega arith)
get_elem-beyond (x ∷ s) (suc at) h = get_elem-beyond s at (omega arith)

pub token_at-byte : (s : List ℕ) (at : ℕ) → at < length s → token_at s at ≡ token_of (get_or s at 0)
unfolding token_at
token_at-byte s at h = rw (get_elem-get_d s at h)

pub token_at-missing : (s : List ℕ) (at : ℕ) → length s ≤ at → token_at s at ≡ Nothing
unfolding token_at
token_at-missing s at h = rw (get_elem-beyond s at h)
