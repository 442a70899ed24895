-- Fields of fixed width in a run of bytes: little-endian, signed ones in two's complement.
use Rattle.std.specs.Prelude.{ℕ, ◌+◌, ◌*◌, ◌<◌, Bool, true, false, List, length, take, drop, ℤ, pos, nat_le, slice_index, None, Option, Some}
use Rattle.word.specs.Wrap.{residue, signed}
use Rattle.word.specs.Digits.{digits_of, value_of}

-- a run of bytes, as a slice's rule says it
abbrev pub Bytes : List ℕ → Type 0
Bytes s = (i : ℕ) → slice_index s i < 256

-- the little-endian number in the k bytes from a position on
unfoldable pub bits_at : ℕ → List ℕ → ℕ → ℕ
bits_at k s at = value_of 256 (take k (drop at s))

abbrev pub whole : Bool → ℤ → Option ℤ
whole true z = Some z
whole false z = None

-- the field of k bytes at a position, or `Cut` where fewer than k bytes are left
unfoldable pub unsigned_at : ℕ → List ℕ → ℕ → Option ℤ
unsigned_at k s at = whole (nat_le (at + k) (length s)) (pos (bits_at k s at))

unfoldable pub signed_at : ℕ → List ℕ → ℕ → Option ℤ
signed_at k s at = whole (nat_le (at + k) (length s)) (signed (8 * k) (bits_at k s at))

-- the k bytes that hold a number
unfoldable pub bytes_of : ℕ → ℤ → List ℕ
bytes_of k z = digits_of 256 k (residue (8 * k) z)
