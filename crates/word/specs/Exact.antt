-- Whole numbers as words: the number where it is a signed one of 64 bits, and outside where it is not. So are the sums of a sheet (request
-- U2); the kernel's wrap (Wrap.antt).
use Rattle.std.specs.Prelude.{ℕ, ◌-◌, ◌^◌, Bool, ℤ, nat_lt, None, Option, Some}
use Rattle.std.specs.Int.Signed.{mag}
use Rattle.word.specs.Choose.{choose}

-- is it a signed number of k bits? (`Signed`, Wrap.antt)
abbrev pub is_signed : ℕ → ℤ → Bool
is_signed k z = nat_lt (mag z) (2 ^ (k - 1))

-- the word that a whole number is
unfoldable pub exactly : ℤ → Option ℤ
exactly z = choose (is_signed 64 z) (Some z) None
