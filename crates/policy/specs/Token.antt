-- The bytes of a rule table: what each stands for.
use Rattle.std.specs.Prelude.{ℕ, ◌-◌, Bool, true, false, List, [], ◌∷◌, leb, None, Option, Some, slice_get}
use Rattle.policy.specs.declared.Token.{Token}
use Rattle.policy.specs.declared.Token.TheVariants.{Empty, Place, Input1, Input2, Input3, Join, Flows, True, And, Or, Nothing}

-- in the order of their bytes, from 10 to 19: empty, P, L1, L2, L3, join, flows, true, and, or
abbrev pub tokens : List Token
tokens = Empty ∷ Place ∷ Input1 ∷ Input2 ∷ Input3 ∷ Join ∷ Flows ∷ True ∷ And ∷ Or ∷ []

abbrev pub or_nothing : Option Token → Token
or_nothing None = Nothing
or_nothing (Some t) = t

abbrev pub token_if : Bool → ℕ → Token
token_if true i = or_nothing (slice_get tokens i)
token_if false i = Nothing

-- a byte outside 10 to 19 stands for nothing
unfoldable pub token_of : ℕ → Token
token_of b = token_if (leb 0x10 b) (b - 0x10)

abbrev pub token_option : Option ℕ → Token
token_option None = Nothing
token_option (Some b) = token_of b

-- the byte at an offset; where it is missing, nothing
unfoldable pub token_at : List ℕ → ℕ → Token
token_at bytes at = token_option (slice_get bytes at)

abbrev pub byte_of : Token → ℕ
byte_of Empty = 0x10
byte_of Place = 0x11
byte_of Input1 = 0x12
byte_of Input2 = 0x13
byte_of Input3 = 0x14
byte_of Join = 0x15
byte_of Flows = 0x16
byte_of True = 0x17
byte_of And = 0x18
byte_of Or = 0x19
byte_of Nothing = 0
