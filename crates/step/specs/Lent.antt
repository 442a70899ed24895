-- The lent runs that a command may change, and what a command leaves of the record and of them.
use Rattle.std.specs.Prelude.{◌≡◌, List, ℤ}
use Rattle.stack.specs.Words.{Stepping}
use Rattle.step.specs.declared.cell.CellRuns.{CellRuns}
use Rattle.step.specs.declared.cell.CellWords.{CellWords}

-- the cells: values and labels, cell 0 first
pub record Cells : Type 0 where
  pub values : List ℤ
  pub labels : List ℤ

abbrev pub cells : List ℤ → List ℤ → Cells
cells values labels = record { values = values; labels = labels }

-- the words in the lent runs
abbrev pub cells_of : CellRuns → Cells
cells_of c = cells c.values.now c.labels.now

-- and the words in runs that are only read
abbrev pub cells_in : CellWords → Cells
cells_in c = cells c.values.now c.labels.now

-- both lend the same two runs
pub record SameCells (new old : CellRuns) : Type 0 where
  pub values : new.values.ghost_name ≡ old.values.ghost_name
  pub labels : new.labels.ghost_name ≡ old.labels.ghost_name

pub record Lent : Type 0 where
  pub stack : List ℤ
  pub cells : Cells

abbrev pub lent : List ℤ → Cells → Lent
lent stack cells = record { stack = stack; cells = cells }

pub record After : Type 0 where
  pub stepped : Stepping
  pub lent : Lent

abbrev pub after : Stepping → Lent → After
after r l = record { stepped = r; lent = l }

-- a command that writes some of the runs: the others stay
pub record OnStack : Type 0 where
  pub stepped : Stepping
  pub stack : List ℤ

abbrev pub on_stack : Stepping → List ℤ → OnStack
on_stack r stack = record { stepped = r; stack = stack }

abbrev pub with_stack : Lent → OnStack → After
with_stack l o = after o.stepped (lent o.stack l.cells)

pub record OnCells : Type 0 where
  pub stepped : Stepping
  pub cells : Cells

abbrev pub on_cells : Stepping → Cells → OnCells
on_cells r cells = record { stepped = r; cells = cells }

abbrev pub with_cells : Lent → OnCells → After
with_cells l o = after o.stepped (lent l.stack o.cells)
