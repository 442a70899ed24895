-- The clearances as lent words, of which there may be any number.
use Rattle.std.specs.Prelude.{List, ℤ, pos, length, replicate, eqb}
use Rattle.word.specs.Choose.{choose}
use Rattle.engine.specs.declared.Clearances.{Clearances}

-- sixteen words are the clearances; of another number of them only that number is kept, which check 13 refuses
unfoldable pub given_clearances : List ℤ → Clearances
given_clearances lent = record { words = choose (eqb (length lent) 16) lent (replicate 16 (pos 0)); count = length lent }
