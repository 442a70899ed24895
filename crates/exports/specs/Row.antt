-- The rule memory as lent words, of which there may be any number.
use Rattle.std.specs.Prelude.{List, ◌∷◌, ℤ, pos, negsuc, length, replicate, eqb}
use Rattle.word.specs.Choose.{choose}

-- a row that check 7 refuses with any table: its code is no command's, and it is not empty
abbrev pub no_row : List ℤ
no_row = negsuc 0 ∷ replicate 6 (pos 0)

-- seven words are a row; any other number of them is none
unfoldable pub given_row : List ℤ → List ℤ
given_row lent = choose (eqb (length lent) 7) lent no_row

-- the lent words after a run that leaves a row: words that are no row stay
unfoldable pub left_row : List ℤ → List ℤ → List ℤ
left_row row lent = choose (eqb (length lent) 7) row lent
