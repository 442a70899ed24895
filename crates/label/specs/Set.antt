-- A set of principals (document 01: owners) over the number n of principals: a number whose bit i is principal i.
-- Only the lowest n bits count.
use Rattle.std.specs.Prelude.{ℕ, zero, suc, ◌+◌, ◌*◌, ◌/◌, ◌%◌, ◌^◌, max, Bool, true, ◌&&◌, leb, eqb}

-- principal i is in the set a
unfoldable pub member : ℕ → ℕ → Bool
member i a = eqb (a / 2 ^ i % 2) 1

-- union
unfoldable pub union : ℕ → ℕ → ℕ → ℕ
union zero a b = 0
union (suc n) a b = union n (a / 2) (b / 2) * 2 + max (a % 2) (b % 2)

-- a is a subset of b
unfoldable pub subset : ℕ → ℕ → ℕ → Bool
subset zero a b = true
subset (suc n) a b = leb (a % 2) (b % 2) && subset n (a / 2) (b / 2)
