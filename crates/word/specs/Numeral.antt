-- Numbers read from text: digits, perhaps after a minus. How numbers are written: Text.antt.
use Rattle.std.specs.Prelude.{ℕ, zero, suc, ◌+◌, ◌*◌, ◌^◌, Bool, true, false, ◌&&◌, List, [], ◌∷◌, length, drop, ℤ, pos, negsuc, ◌==◌, nat_le, nat_lt, slice_index, None, Option, Some}
use Rattle.word.specs.Choose.{choose}
use Rattle.word.specs.Exact.{exactly}
use Rattle.word.specs.Text.{numeral_value}
use Rattle.word.specs.declared.numeral.Decimal.{Decimal}
use Rattle.word.specs.declared.numeral.Decimal.TheVariants.{Is, Beyond, Missing}
use Rattle.word.specs.declared.numeral.Digits.{Digits}

-- a decimal digit: 0 is 48, 9 is 57
abbrev pub is_digit : ℕ → Bool
is_digit c = nat_le 48 c && nat_le c 57

abbrev pub all_digits : List ℕ → Bool
all_digits [] = true
all_digits (c ∷ s) = is_digit c && all_digits s

-- a number with its sign; −0 is 0
abbrev pub signed_by : Bool → ℕ → ℤ
signed_by false n = pos n
signed_by true zero = pos 0
signed_by true (suc n) = negsuc n

-- at least one digit, and nothing else
abbrev pub digits_number : Bool → List ℕ → Option ℤ
digits_number minus [] = None
digits_number minus (c ∷ s) = choose (all_digits (c ∷ s)) (Some (signed_by minus (numeral_value 10 (c ∷ s)))) None

-- the number that a text is in decimal: digits, perhaps after a minus (45); of any length, leading zeros too
unfoldable pub number_of : List ℕ → Option ℤ
number_of [] = None
number_of (c ∷ s) = choose (c == 45) (digits_number true s) (digits_number false (c ∷ s))

-- ════════════════════════════════════════════════════════════════════════════════════════════
-- The number at a position of a text
-- ════════════════════════════════════════════════════════════════════════════════════════════

-- the digits that a text begins with
unfoldable pub leading_digits : List ℕ → List ℕ
leading_digits [] = []
leading_digits (c ∷ s) = choose (is_digit c) (c ∷ leading_digits s) []

-- the number and the position after it
abbrev pub decimal_to : ℕ → Option ℤ → Decimal
decimal_to next (Some z) = Is z next
decimal_to next None = Beyond next

abbrev pub decimal_from : Bool → ℕ → List ℕ → Decimal
decimal_from minus at [] = Missing
decimal_from minus at (d ∷ ds) = decimal_to (at + length (d ∷ ds)) (exactly (signed_by minus (numeral_value 10 (d ∷ ds))))

-- all digits from a position on, or from the one after a minus
unfoldable pub decimal_at : List ℕ → ℕ → Decimal
decimal_at s at =
    choose (slice_index s at == 45)
    (decimal_from true (at + 1) (leading_digits (drop (at + 1) s)))
    (decimal_from false at (leading_digits (drop at s)))

-- ════════════════════════════════════════════════════════════════════════════════════════════
-- What the code keeps of a number of any length: beyond 10^19, which is beyond the words, no more than that it is
-- ════════════════════════════════════════════════════════════════════════════════════════════

unfoldable pub capped : ℕ → ℕ
capped n = choose (nat_lt n (10 ^ 19)) n (10 ^ 19)

-- one digit more
unfoldable pub capped_more : ℕ → ℕ → ℕ
capped_more value digit = choose (nat_lt value (10 ^ 18)) (value * 10 + digit) (10 ^ 19)

-- some digits from a position on, and the position after them
abbrev pub capped_digits : ℕ → List ℕ → Digits
capped_digits at ds = record { value = capped (numeral_value 10 ds); next = at + length ds }

-- the number that they are, with its sign
abbrev pub capped_decimal : Bool → ℕ → ℕ → ℕ → Decimal
capped_decimal minus at value next = choose (next == at) Missing (decimal_to next (exactly (signed_by minus value)))
