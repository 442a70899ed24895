-- The labels of document 01: sets of 32 owners, as numbers below 2^32.
use Rattle.std.specs.Prelude.{ℕ, ◌^◌, ◌<◌, Bool}
use Rattle.label.specs.Set.{union, subset}

-- how many principals (document 01: owners) there are
abbrev pub principals : ℕ
principals = 32

-- a number that is a label
abbrev pub InRange : ℕ → Type 0
InRange a = a < 2 ^ principals

-- the empty label
abbrev pub bottom : ℕ
bottom = 0

-- join is union
unfoldable pub join : ℕ → ℕ → ℕ
join a b = union principals a b

-- a flows to b when a is a subset of b
unfoldable pub flows : ℕ → ℕ → Bool
flows a b = subset principals a b
