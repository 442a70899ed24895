-- The laws of sets of principals, proved once over the number n of principals: union and subset go principal by principal; union is
-- commutative, associative, idempotent and least; subset is a partial order; a union is a subset of whatever both sides are.
-- Assumes nothing.
use mathlib.Core.Path.{◌≡◌, refl, sym, ap₂, subst, ◌∙◌}
use mathlib.Core.Bool.{true, ◌&&◌, ◌||◌}
use Prim.Native.Nat.{ℕ, zero, suc, ◌+◌, ◌*◌, ◌/◌, ◌%◌, ◌^◌, ◌<◌, ◌≤◌, max}
use native.Mathlib.Nat.{max_comm, div-div-eq-div-mul, div-one, pow-succ'}
use native.Mathlib.Omega.{arith}
use lib.Arith.{lt-one}
use lib.Bits.{bit_or, or_step, or_zero_l}
use lib.Dec.{T, leb, eqb, leb→le, le→leb, leb-zero}
use mir.Facts.{yes_eqb, eqb_yes}
use Rattle.label.specs.Set.{member, union, subset}
use Rattle.word.proofs.Bool.{bool-ext, and_left, and_right, and_intro, and-exchange, leb-max}

-- ════════════════════════════════════════════════════════════════════════════════════════════
-- The lowest principal, and the others
-- ════════════════════════════════════════════════════════════════════════════════════════════

max_assoc : (x y z : ℕ) → max (max x y) z ≡ max x (max y z)
max_assoc x y z = omega arith

max_self : (x : ℕ) → max x x ≡ x
max_self x = omega arith

max-zero-left : (x : ℕ) → max 0 x ≡ x
max-zero-left x = omega arith

union-half : (n a b : ℕ) → union (suc n) a b / 2 ≡ union n (a / 2) (b / 2)
unfolding union
union-half n a b = omega arith

union-bit : (n a b : ℕ) → union (suc n) a b % 2 ≡ max (a % 2) (b % 2)
unfolding union
union-bit n a b = omega arith

-- ════════════════════════════════════════════════════════════════════════════════════════════
-- Union
-- ════════════════════════════════════════════════════════════════════════════════════════════

pub union-lt : (n a b : ℕ) → union n a b < 2 ^ n
unfolding union
union-lt zero a b = omega arith
union-lt (suc n) a b = let h = union-lt n (a / 2) (b / 2) in omega (arith, pow-succ' 2 n)

pub union_comm : (n a b : ℕ) → union n a b ≡ union n b a
unfolding union
union_comm zero a b = refl
union_comm (suc n) a b = ap₂ (λ u m. u * 2 + m) (union_comm n (a / 2) (b / 2)) (max_comm (a % 2) (b % 2))

union-suc : (n a b : ℕ) → union (suc n) a b ≡ union n (a / 2) (b / 2) * 2 + max (a % 2) (b % 2)
unfolding union
union-suc n a b = refl

pub union_assoc : (n a b c : ℕ) → union n (union n a b) c ≡ union n a (union n b c)
union_assoc zero a b c = unfold union in refl
union_assoc (suc n) a b c =
    union-suc n (union (suc n) a b) c
    ∙ ap₂ (λ u m. u * 2 + m)
    (rw (union-half n a b, union-half n b c) (union_assoc n (a / 2) (b / 2) (c / 2)))
    (rw (union-bit n a b, union-bit n b c) (max_assoc (a % 2) (b % 2) (c % 2)))
    ∙ sym (union-suc n a (union (suc n) b c))

-- a number below 2^n is put together again from its half and its lowest bit
half_lt : (n a : ℕ) → a < 2 ^ suc n → a / 2 < 2 ^ n
half_lt n a h = omega (arith, pow-succ' 2 n)

pub union-idem : (n a : ℕ) → a < 2 ^ n → union n a a ≡ a
union-idem zero a h = unfold union in omega arith
union-idem (suc n) a h =
    union-suc n a a ∙ rw (union-idem n (a / 2) (half_lt n a h), max_self) (omega arith)

-- the empty set is least
pub union-empty : (n a : ℕ) → a < 2 ^ n → union n 0 a ≡ a
union-empty zero a h = unfold union in omega arith
union-empty (suc n) a h =
    union-suc n 0 a ∙ rw (union-empty n (a / 2) (half_lt n a h), max-zero-left (a % 2)) (omega arith)

-- on numbers below 2^n union is the bitwise or
pub union-bit_or : (n a b : ℕ) → a < 2 ^ n → b < 2 ^ n → bit_or a b ≡ union n a b
union-bit_or zero a b h k = unfold union in rw (lt-one h, lt-one k) (or_zero_l 0)
union-bit_or (suc n) a b h k =
    or_step a b ∙ rw (union-bit_or n (a / 2) (b / 2) (half_lt n a h) (half_lt n b k)) (sym (union-suc n a b))

-- ════════════════════════════════════════════════════════════════════════════════════════════
-- Subset
-- ════════════════════════════════════════════════════════════════════════════════════════════

subset-suc : (n a b : ℕ) → subset (suc n) a b ≡ (leb (a % 2) (b % 2) && subset n (a / 2) (b / 2))
unfolding subset
subset-suc n a b = refl

pub subset-empty : (n a : ℕ) → subset n 0 a ≡ true
subset-empty zero a = unfold subset in refl
subset-empty (suc n) a = subset-suc n 0 a ∙ rw (leb-zero (a % 2)) (subset-empty n (a / 2))

subset-bit : (n a b : ℕ) → T (subset (suc n) a b) → a % 2 ≤ b % 2
subset-bit n a b s = leb→le (a % 2) (b % 2) (and_left (leb (a % 2) (b % 2)) (subset n (a / 2) (b / 2)) (rw (subset-suc n a b) at s))

subset-half : (n a b : ℕ) → T (subset (suc n) a b) → T (subset n (a / 2) (b / 2))
subset-half n a b s = and_right (leb (a % 2) (b % 2)) (subset n (a / 2) (b / 2)) (rw (subset-suc n a b) at s)

subset-step : (n a b : ℕ) → a % 2 ≤ b % 2 → T (subset n (a / 2) (b / 2)) → T (subset (suc n) a b)
subset-step n a b h s = rw (subset-suc n a b) (and_intro (leb (a % 2) (b % 2)) (subset n (a / 2) (b / 2)) (le→leb (a % 2) (b % 2) h) s)

pub subset-refl : (n a : ℕ) → T (subset n a a)
subset-refl zero a = unfold subset in tt
subset-refl (suc n) a = subset-step n a a (omega arith) (subset-refl n (a / 2))

pub subset-trans : (n a b c : ℕ) → T (subset n a b) → T (subset n b c) → T (subset n a c)
subset-trans zero a b c s t = unfold subset in tt
subset-trans (suc n) a b c s t =
    subset-step n a c
    (omega (arith, subset-bit n a b s, subset-bit n b c t))
    (subset-trans n (a / 2) (b / 2) (c / 2) (subset-half n a b s) (subset-half n b c t))

pub subset-antisym : (n a b : ℕ) → a < 2 ^ n → b < 2 ^ n → T (subset n a b) → T (subset n b a) → a ≡ b
subset-antisym zero a b h k s t = omega arith
subset-antisym (suc n) a b h k s t =
    let e = subset-antisym n (a / 2) (b / 2) (half_lt n a h) (half_lt n b k) (subset-half n a b s) (subset-half n b a t) in
    omega (arith, subset-bit n a b s, subset-bit n b a t)

-- a union is a subset of c exactly where both sides are
pub union-subset : (n a b c : ℕ) → subset n (union n a b) c ≡ (subset n a c && subset n b c)
union-subset zero a b c = unfold subset in refl
union-subset (suc n) a b c =
    subset-suc n (union (suc n) a b) c
    ∙ rw (union-bit n a b, union-half n a b, leb-max, union-subset n (a / 2) (b / 2) (c / 2), and-exchange)
    (sym (ap₂ ◌&&◌ (subset-suc n a c) (subset-suc n b c)))

-- both sides are subsets of their union
pub subset_left : (n a b : ℕ) → T (subset n a (union n a b))
subset_left n a b =
    and_left (subset n a (union n a b)) (subset n b (union n a b)) (rw (union-subset n a b (union n a b)) at (subset-refl n (union n a b)))

pub subset_right : (n a b : ℕ) → T (subset n b (union n a b))
subset_right n a b = rw (union_comm n a b) (subset_left n b a)

-- a is a subset of b exactly where b is their union
pub subset-union : (n a b : ℕ) → b < 2 ^ n → subset n a b ≡ eqb (union n a b) b
subset-union n a b h =
    bool-ext (subset n a b) (eqb (union n a b) b)
    (λ s. yes_eqb (subset-antisym n (union n a b) b (union-lt n a b) h
    (rw (union-subset n a b b) (and_intro (subset n a b) (subset n b b) s (subset-refl n b))) (subset_right n a b)))
    (λ s. subst (λ u. T (subset n a u)) (eqb_yes s) (subset_left n a b))

-- ════════════════════════════════════════════════════════════════════════════════════════════
-- Principal by principal
-- ════════════════════════════════════════════════════════════════════════════════════════════

member-zero : (a : ℕ) → member 0 a ≡ eqb (a % 2) 1
unfolding member
member-zero a = rw div-one

member-suc : (i a : ℕ) → member (suc i) a ≡ member i (a / 2)
unfolding member
member-suc i a = rw (pow-succ' 2 i, ← div-div-eq-div-mul)

bit-or : (x y : ℕ) → x < 2 → y < 2 → eqb (max x y) 1 ≡ (eqb x 1 || eqb y 1)
bit-or zero zero h k = refl
bit-or zero (suc zero) h k = refl
bit-or (suc zero) zero h k = refl
bit-or (suc zero) (suc zero) h k = refl
bit-or zero (suc (suc y)) h k = absurd (omega arith)
bit-or (suc zero) (suc (suc y)) h k = absurd (omega arith)
bit-or (suc (suc x)) y h k = absurd (omega arith)

pub union-member : (n a b i : ℕ) → i < n → member i (union n a b) ≡ (member i a || member i b)
union-member zero a b i h = absurd (omega arith)
union-member (suc n) a b zero h =
    rw (member-zero (union (suc n) a b), member-zero a, member-zero b, union-bit n a b) (bit-or (a % 2) (b % 2) (omega arith) (omega arith))
union-member (suc n) a b (suc i) h =
    rw (member-suc i (union (suc n) a b), member-suc i a, member-suc i b, union-half n a b) (union-member n (a / 2) (b / 2) i (omega arith))

-- each principal of a, below n, is one of b
abbrev pub Within : ℕ → ℕ → ℕ → Type 0
Within n a b = (i : ℕ) → i < n → T (member i a) → T (member i b)

pub subset-within : (n a b : ℕ) → T (subset n a b) → Within n a b
subset-within zero a b s i h m = absurd (omega arith)
subset-within (suc n) a b s zero h m =
    rw (member-zero b) (yes_eqb {a = b % 2} {b = 1}
    (omega (arith, subset-bit n a b s, eqb_yes {a = a % 2} {b = 1} (rw (member-zero a) at m))))
subset-within (suc n) a b s (suc i) h m =
    rw (member-suc i b) (subset-within n (a / 2) (b / 2) (subset-half n a b s) i (omega arith) (rw (member-suc i a) at m))

pub within-subset : (n a b : ℕ) → Within n a b → T (subset n a b)
within-subset zero a b w = unfold subset in tt
within-subset (suc n) a b w =
    subset-step n a b
    (lowest (a % 2) (b % 2) (omega arith) (λ m. eqb_yes (rw (member-zero b) at (w 0 (omega arith) (rw (member-zero a) (yes_eqb m))))))
    (within-subset n (a / 2) (b / 2) (λ i h m. rw (member-suc i b) at (w (suc i) (omega arith) (rw (member-suc i a) m))))
  where
    lowest : (x y : ℕ) → x < 2 → (x ≡ 1 → y ≡ 1) → x ≤ y
    lowest zero y h f = omega arith
    lowest (suc zero) y h f = let e = f refl in omega arith
    lowest (suc (suc x)) y h f = absurd (omega arith)
