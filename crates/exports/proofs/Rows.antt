-- Lent words stored over as many; and those that are not seven: they stay as they were, and what check 7 says of what stands for them.
-- Assumes nothing.
use Rattle.std.proofs.Common.{◌≡◌, ◌≤◌, Bool, false, List, ◌++◌, ℤ, length, eqb, refl, ap, ◌∙◌, append-nil, drop_of_length-le, arith}
use Rattle.word.specs.Choose.{choose}
use Rattle.word.specs.Lay.{laid}
use Rattle.word.proofs.Lay.{laid_at-zero}
use Rattle.policy.specs.Read.{ReadTable, refused, table}
use Rattle.policy.specs.Row.{accepted_row, row_answer}
use Rattle.translator.specs.Emit.{put_all}
use Rattle.translator.proofs.Putting.{put_all-laid_at}
use Rattle.exports.specs.Row.{no_row, left_row}

-- as many words, stored over what was there, are all that is there
put_whole : (words before : List ℤ) → length before ≡ length words → put_all 0 words before ≡ words
unfolding laid
put_whole words before e =
    let few : length before ≤ length words = omega arith in
    put_all-laid_at 0 words before (omega arith)
    ∙ laid_at-zero words before
    ∙ ap (λ (x : List ℤ). words ++ x) (drop_of_length-le before few)
    ∙ append-nil words

-- words that are no row stay
pub left_other : (lent row : List ℤ) → eqb (length lent) 7 ≡ false → left_row row lent ≡ lent
unfolding left_row
left_other lent row e = ap (λ (b : Bool). choose b row lent) e

-- check 7 refuses what stands for words that are not seven, whatever the table
pub no-row : (rules : ReadTable) → row_answer rules no_row ≡ false
unfolding accepted_row
no-row (refused r) = refl
no-row (table t) = refl
