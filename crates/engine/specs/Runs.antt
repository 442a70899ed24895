-- What the lent output space holds, and that it is the same four runs; the environment that a run is given.
use Rattle.std.specs.Prelude.{◌≡◌}
use Rattle.machine.specs.Environment.{Environment}
use Rattle.engine.specs.declared.Space.{Space}
use Rattle.engine.specs.declared.Lines.{Lines}
use Rattle.engine.specs.declared.Surroundings.{Surroundings}
use Rattle.engine.specs.Memory.{Output, output, environment}

-- the words in the runs
abbrev pub words_of : Space → Output
words_of s = output s.numbers.now s.labels.now s.kinds.now s.pages.now

-- and the words in runs that are only read
abbrev pub read_in : Lines → Output
read_in s = output s.numbers.now s.labels.now s.kinds.now s.pages.now

-- both lend the same four runs
pub record SameRuns (new old : Space) : Type 0 where
  pub numbers : new.numbers.ghost_name ≡ old.numbers.ghost_name
  pub labels : new.labels.ghost_name ≡ old.labels.ghost_name
  pub kinds : new.kinds.ghost_name ≡ old.kinds.ghost_name
  pub pages : new.pages.ghost_name ≡ old.pages.ghost_name

-- the environment that surroundings are
abbrev pub environment_of : Surroundings → Environment
environment_of s = environment s.room s.clearances.now
