-- Lent memory: what a list holds after another was written into it.
use Rattle.std.specs.Prelude.{ℕ, ◌+◌, List, ◌++◌, length, take, drop}

module _ {A : Type 0} where
  -- `new` from the start on, the rest as it came
  unfoldable pub laid : List A → List A → List A
  laid new old = new ++ drop (length new) old

  -- `new` from a position on, the rest as it came
  unfoldable pub laid_at : ℕ → List A → List A → List A
  laid_at at new old = take at old ++ new ++ drop (at + length new) old
