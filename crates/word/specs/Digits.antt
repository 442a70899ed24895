-- Digits of a number in a base, the lowest first.
use Rattle.std.specs.Prelude.{ℕ, zero, suc, ◌+◌, ◌*◌, ◌/◌, ◌%◌, List, [], ◌∷◌}

-- the lowest k digits of n in base b
unfoldable pub digits_of : ℕ → ℕ → ℕ → List ℕ
digits_of b zero n = []
digits_of b (suc k) n = n % b ∷ digits_of b k (n / b)

-- the number that has these digits in base b
unfoldable pub value_of : ℕ → List ℕ → ℕ
value_of b [] = 0
value_of b (d ∷ ds) = d + value_of b ds * b
