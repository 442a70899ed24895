-- A word as a natural number, as an index below a bound; whether it is 0, and whether two are the same.
use Rattle.std.specs.Prelude.{ℕ, zero, suc, Bool, true, false, ℤ, pos, negsuc, ◌==◌, nat_lt, None, Option, Some}

abbrev pub is_zero : ℤ → Bool
is_zero (pos zero) = true
is_zero (pos (suc n)) = false
is_zero (negsuc n) = false

abbrev pub same_word : ℤ → ℤ → Bool
same_word (pos a) (pos b) = a == b
same_word (pos a) (negsuc b) = false
same_word (negsuc a) (pos b) = false
same_word (negsuc a) (negsuc b) = a == b

abbrev pub natural_of : ℤ → Option ℕ
natural_of (pos n) = Some n
natural_of (negsuc n) = None

abbrev pub index_if : Bool → ℕ → Option ℕ
index_if true n = Some n
index_if false n = None

abbrev pub index_natural : Option ℕ → ℕ → Option ℕ
index_natural (Some n) bound = index_if (nat_lt n bound) n
index_natural None bound = None

-- an index is a number from 0 to bound − 1
unfoldable pub index_of : ℤ → ℕ → Option ℕ
index_of z bound = index_natural (natural_of z) bound
