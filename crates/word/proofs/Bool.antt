-- Laws of Booleans, and of what cannot be, that other laws rest on.
use Rattle.std.proofs.Common.{◌≡◌, ℕ, max, Bool, true, false, ◌&&◌, T, leb, refl, arith, le→leb, leb→le}

-- 0 is not 1: whatever would make them equal cannot be
pub never : {A : Type 0} → ◌≡◌ {A = ℕ} 0 1 → A
never z = absurd (omega arith)

-- two Booleans are equal where each implies the other
pub bool-ext : (a b : Bool) → (T a → T b) → (T b → T a) → a ≡ b
bool-ext true true f g = refl
bool-ext true false f g = absurd (f tt)
bool-ext false true f g = absurd (g tt)
bool-ext false false f g = refl

pub and_left : (a b : Bool) → T (a && b) → T a
and_left true b t = tt
and_left false b t = t

pub and_right : (a b : Bool) → T (a && b) → T b
and_right true b t = t
and_right false b t = absurd t

pub and_intro : (a b : Bool) → T a → T b → T (a && b)
and_intro true b s t = t
and_intro false b s t = s

-- both hold where they hold together
pub and_first : (a b : Bool) → (a && b) ≡ true → a ≡ true
and_first true b e = refl
and_first false b e = e

pub and_second : (a b : Bool) → (a && b) ≡ true → b ≡ true
and_second true b e = e
and_second false b e = never (cc)

pub and-exchange : (a b c d : Bool) → ((a && b) && (c && d)) ≡ ((a && c) && (b && d))
and-exchange true true c d = refl
and-exchange true false true d = refl
and-exchange true false false d = refl
and-exchange false b c d = refl

pub leb-max : (x y z : ℕ) → leb (max x y) z ≡ (leb x z && leb y z)
leb-max x y z =
    bool-ext (leb (max x y) z) (leb x z && leb y z)
    (λ t. let h = leb→le (max x y) z t in and_intro (leb x z) (leb y z) (le→leb x z (omega arith)) (le→leb y z (omega arith)))
    (λ t.
    let p = leb→le x z (and_left (leb x z) (leb y z) t) in
    let q = leb→le y z (and_right (leb x z) (leb y z) t) in
    le→leb (max x y) z (omega arith))
