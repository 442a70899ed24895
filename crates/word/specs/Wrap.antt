-- Numbers of k bits and whole numbers modulo 2^k: two's complement, and sums that wrap. These are the kernel's; the sums of a sheet are
-- exact (Exact.antt).
use Rattle.std.specs.Prelude.{ℕ, suc, ◌-◌, ◌%◌, ◌^◌, ◌<◌, Bool, true, false, ℤ, pos, negsuc, ◌+ℤ◌, ◌-ℤ◌, nat_lt}
use Rattle.std.specs.Int.Signed.{mag}

-- a signed number of k bits, from −2^(k−1) to 2^(k−1) − 1 (`mag` is n for the whole numbers n and −(n + 1))
abbrev pub Signed : ℕ → ℤ → Type 0
Signed k z = mag z < 2 ^ (k - 1)

-- the remainder of a whole number modulo 2^k, from 0 to 2^k − 1 (`negsuc n` is −(n + 1))
unfoldable pub residue : ℕ → ℤ → ℕ
residue k (pos n) = n % 2 ^ k
residue k (negsuc n) = 2 ^ k - suc (n % 2 ^ k)

abbrev pub half : Bool → ℕ → ℕ → ℤ
half true k r = pos r
half false k r = negsuc (2 ^ k - suc r)

-- the signed number of k bits with the remainder r: r in the lower half, r − 2^k in the upper
unfoldable pub signed : ℕ → ℕ → ℤ
signed k r = half (nat_lt r (2 ^ (k - 1))) k r

-- the signed number of 64 bits that equals z modulo 2^64
unfoldable pub wrap : ℤ → ℤ
wrap z = signed 64 (residue 64 z)

-- Add and Sub of the kernel wrap modulo 2^64
unfoldable pub add_wrap : ℤ → ℤ → ℤ
add_wrap a b = wrap (a +ℤ b)

unfoldable pub sub_wrap : ℤ → ℤ → ℤ
sub_wrap a b = wrap (a -ℤ b)
