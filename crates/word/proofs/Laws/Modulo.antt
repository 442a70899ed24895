-- Remainders: equal ones are added and cancelled.
-- Assumes nothing.
use Rattle.std.proofs.Common.{◌≡◌, ℕ, suc, ◌+◌, ◌-◌, ◌*◌, ◌/◌, ◌%◌, ◌<◌, sym, ap, ◌∙◌, ap₂, mod-lt, suc-mul, div-add-mod', arith}
use native.Mathlib.Nat.{add-mod, mod-add-mod, add-mul-mod_self_right}

pub mod-add : (m a b c d : ℕ) → a % m ≡ b % m → c % m ≡ d % m → (a + c) % m ≡ (b + d) % m
mod-add m a b c d e f = add-mod a c m ∙ ap₂ (λ x y. (x + y) % m) e f ∙ sym (add-mod b d m)

-- c and what it lacks of a multiple of m
mod-lack : (m x c : ℕ) → 0 < m → x % m ≡ ((x + c) % m + (m - c % m)) % m
mod-lack m x c p =
    let e : x + c + (m - c % m) ≡ x + suc (c / m) * m =
    omega (arith, suc-mul (c / m) m, div-add-mod' c m, mod-lt c p) in
    sym (mod-add-mod (x + c) m (m - c % m) ∙ rw e (add-mul-mod_self_right x (suc (c / m)) m))

pub mod-cancel : (m x y c : ℕ) → 0 < m → (x + c) % m ≡ (y + c) % m → x % m ≡ y % m
mod-cancel m x y c p e =
    mod-lack m x c p ∙ ap (λ (n : ℕ). (n + (m - c % m)) % m) e ∙ sym (mod-lack m y c p)
