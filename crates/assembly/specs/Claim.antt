-- What is claimed of texts and sheets (request U3). Proved in proofs/Claims.antt.
use Rattle.std.specs.Prelude.{ℕ, ◌*◌, ◌≤◌, ◌≡◌, Bool, true, not, ◌&&◌, List, [], ◌∷◌, length, eqb}
use Rattle.word.specs.Choose.{choose}
use Rattle.word.specs.Field.{Bytes}
use Rattle.program.specs.Decode.{command_limit}
use Rattle.assembly.specs.Assembly.{newline, lines_of, words_of, given, assembled, listed}

-- ════════════════════════════════════════════════════════════════════════════════════════════
-- The normal text: no leading zeros, no minus before 0, a newline ending each line
-- ════════════════════════════════════════════════════════════════════════════════════════════

-- no digits after a leading 0 (48)
abbrev pub plain_digits : List ℕ → Bool
plain_digits [] = true
plain_digits (c ∷ []) = true
plain_digits (c ∷ d ∷ s) = not (eqb c 48)

-- after a minus no 0, leading or alone
abbrev pub plain_after_minus : List ℕ → Bool
plain_after_minus [] = true
plain_after_minus (c ∷ s) = not (eqb c 48)

abbrev pub plain_operand : List ℕ → Bool
plain_operand [] = true
plain_operand (c ∷ s) = choose (eqb c 45) (plain_after_minus s) (plain_digits (c ∷ s))

abbrev pub plain_operands : List (List ℕ) → Bool
plain_operands [] = true
plain_operands (w ∷ ws) = plain_operand w && plain_operands ws

-- what follows the name
abbrev pub plain_words : List (List ℕ) → Bool
plain_words [] = true
plain_words (name ∷ ws) = plain_operands ws

abbrev pub plain_lines : List (List ℕ) → Bool
plain_lines [] = true
plain_lines (l ∷ ls) = plain_words (words_of l) && plain_lines ls

-- the last byte, if there is one, is a newline
abbrev pub ended : List ℕ → Bool
ended [] = true
ended (c ∷ []) = eqb c newline
ended (c ∷ d ∷ s) = ended (d ∷ s)

abbrev pub Normal : List ℕ → Type 0
Normal text = (ended text && plain_lines (lines_of text)) ≡ true

-- ════════════════════════════════════════════════════════════════════════════════════════════
-- The claims
-- ════════════════════════════════════════════════════════════════════════════════════════════

-- listing then reading returns the bytes of every acceptable sheet
abbrev pub ListedReads : Type 0
ListedReads = (sheet text : List ℕ) → Bytes sheet → listed sheet ≡ given text → assembled text ≡ given sheet

-- what listing gives is normal
abbrev pub ListedNormal : Type 0
ListedNormal = (sheet text : List ℕ) → Bytes sheet → listed sheet ≡ given text → Normal text

-- a sheet that was read is acceptable: bytes that listing gives a text
abbrev pub AssembledLists : Type 0
AssembledLists = (text sheet : List ℕ) → assembled text ≡ given sheet → Bytes sheet × ((normal : List ℕ) × (listed sheet ≡ given normal))

-- and a normal text is what listing gives of its sheet
abbrev pub NormalListed : Type 0
NormalListed = (text sheet : List ℕ) → assembled text ≡ given sheet → Normal text → listed sheet ≡ given text

-- no other normal text gives this sheet
abbrev pub NormalOne : Type 0
NormalOne =
    (text text' sheet : List ℕ) → assembled text ≡ given sheet → assembled text' ≡ given sheet → Normal text → Normal text' → text ≡ text'

-- reading the normal text of a text again gives the same bytes
abbrev pub NormalReads : Type 0
NormalReads =
    (text sheet normal : List ℕ) → assembled text ≡ given sheet → listed sheet ≡ given normal → assembled normal ≡ given sheet

-- two texts with one normal text have the same bytes
abbrev pub NormalDecides : Type 0
NormalDecides =
    (text text' sheet sheet' normal : List ℕ) → assembled text ≡ given sheet → assembled text' ≡ given sheet'
    → listed sheet ≡ given normal → listed sheet' ≡ given normal → sheet ≡ sheet'

-- the longest sheet: 4,096 commands of nine bytes; the longest listing: 4,096 lines of 26
abbrev pub sheet_limit : ℕ
sheet_limit = 9 * command_limit

abbrev pub listing_limit : ℕ
listing_limit = 26 * command_limit

abbrev pub SheetBound : Type 0
SheetBound = (text sheet : List ℕ) → assembled text ≡ given sheet → length sheet ≤ sheet_limit

abbrev pub ListingBound : Type 0
ListingBound = (sheet text : List ℕ) → Bytes sheet → listed sheet ≡ given text → length text ≤ listing_limit

-- and there is one that long
abbrev pub ListingReached : Type 0
ListingReached =
    (sheet : List ℕ) × ((text : List ℕ) × ((listed sheet ≡ given text) × (length sheet ≡ sheet_limit) × (length text ≡ listing_limit)))
