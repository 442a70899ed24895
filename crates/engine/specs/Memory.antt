-- The memory that an engine is lent, and the environment of its runs.
use Rattle.std.specs.Prelude.{ℕ, min, List, ℤ, pos, negsuc, length, get_or, replicate}
use Rattle.label.specs.Label.{bottom}
use Rattle.label.specs.Word.{low_label}
use Rattle.machine.specs.Environment.{Environment}
use Rattle.step.specs.Lent.{Lent}
use Rattle.engine.specs.declared.Clearances.{Clearances}

-- the output space: numbers, labels, kinds and pages of lines
pub record Output : Type 0 where
  pub numbers : List ℤ
  pub labels : List ℤ
  pub kinds : List ℤ
  pub pages : List ℤ

abbrev pub output : (numbers labels kinds pages : List ℤ) → Output
output numbers labels kinds pages = record { numbers = numbers; labels = labels; kinds = kinds; pages = pages }

-- the shortest run sets how many lines fit
abbrev pub room : Output → ℕ
room o = min (min (min (length o.numbers) (length o.labels)) (length o.kinds)) (length o.pages)

-- a page's clearance is the set in its word, page 0's first; what is no page has the empty one
abbrev pub clearance_of : List ℤ → ℤ → ℕ
clearance_of words (pos page) = low_label (get_or words page (pos 0))
clearance_of words (negsuc n) = bottom

abbrev pub environment : ℕ → List ℤ → Environment
environment lines words = record { room = lines; clearance = clearance_of words }

-- of a run with these clearances in this output space
abbrev pub surroundings : Clearances → Output → Environment
surroundings c o = environment (room o) c.words

-- every page is cleared for all owners
abbrev pub all_cleared : Clearances
all_cleared = record { words = replicate 16 (pos 4294967295); count = 16 }

-- working space for commands, the stack and the cells, output space
pub record Memory : Type 0 where
  pub program : List ℤ
  pub lent : Lent
  pub output : Output

abbrev pub memory : List ℤ → Lent → Output → Memory
memory program lent output = record { program = program; lent = lent; output = output }
