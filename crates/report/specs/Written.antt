-- A text written into a lent space from a position on.
use Rattle.std.specs.Prelude.{ℕ, ◌+◌, ◌≡◌, List, length}
use Rattle.word.specs.Lay.{laid_at}

-- the position after it, and the space with it
pub record Written (text old : List ℕ) (at next : ℕ) (new : List ℕ) : Type 0 where
  pub end : next ≡ at + length text
  pub space : new ≡ laid_at at text old
