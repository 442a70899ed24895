-- Text as ASCII bytes; numbers as text: digits, the highest first.
use Rattle.std.specs.Prelude.{ℕ, zero, suc, ◌+◌, ◌-◌, ◌/◌, Bool, true, false, List, [], ◌∷◌, map, reverse, length, ℤ, pos, negsuc, nat_le, nat_lt, None, Option, Some}
use Prim.Native.Char.{code}
use Prim.Native.String.{String}
use Rattle.word.specs.Digits.{digits_of, value_of}
use Rattle.word.specs.Lay.{laid_at}

-- the bytes of a text
abbrev pub ascii : String → List ℕ
ascii String.[] = []
ascii (String.◌∷◌ c s) = code c ∷ ascii s

abbrev pub digit_if : Bool → ℕ → ℕ
digit_if true d = 48 + d
digit_if false d = 87 + d

abbrev pub value_if : Bool → ℕ → ℕ
value_if true c = c - 48
value_if false c = c - 87

-- 0 to 9, then a to f
unfoldable pub digit_char : ℕ → ℕ
digit_char d = digit_if (nat_lt d 10) d

-- the digit that a character is
unfoldable pub digit_value : ℕ → ℕ
digit_value c = value_if (nat_lt c 97) c

-- n in base b with k digits
unfoldable pub numeral : ℕ → ℕ → ℕ → List ℕ
numeral b k n = reverse (map digit_char (digits_of b k n))

-- the number that a numeral in base b gives
unfoldable pub numeral_value : ℕ → List ℕ → ℕ
numeral_value b text = value_of b (map digit_value (reverse text))

abbrev pub count_if : Bool → ℕ → ℕ
count_if true rest = 1
count_if false rest = suc rest

-- how many digits n has in base b, at least one and at most 1 + fuel
unfoldable pub digit_count : ℕ → ℕ → ℕ → ℕ
digit_count b zero n = 1
digit_count b (suc fuel) n = count_if (nat_lt n b) (digit_count b fuel (n / b))

-- a natural number below 10^20 in decimal, with no leading zero
unfoldable pub natural : ℕ → List ℕ
natural n = numeral 10 (digit_count 10 19 n) n

-- a number in decimal, a minus sign before a negative one
unfoldable pub decimal : ℤ → List ℕ
decimal (pos n) = natural n
decimal (negsuc n) = 45 ∷ natural (suc n)

-- eight hexadecimal digits
unfoldable pub hexadecimal : ℕ → List ℕ
hexadecimal n = numeral 16 8 n

abbrev pub room_for : Bool → ℕ → Option ℕ
room_for true next = Some next
room_for false next = None

abbrev pub laid_if : Bool → ℕ → List ℕ → List ℕ → List ℕ
laid_if true at text old = laid_at at text old
laid_if false at text old = old

-- a text is written at a position if there is room, and else nothing is; the answer is the position after it
unfoldable pub put_answer : ℕ → List ℕ → List ℕ → Option ℕ
put_answer at text old = room_for (nat_le (at + length text) (length old)) (at + length text)

unfoldable pub put_out : ℕ → List ℕ → List ℕ → List ℕ
put_out at text old = laid_if (nat_le (at + length text) (length old)) at text old
