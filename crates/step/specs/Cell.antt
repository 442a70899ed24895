-- Cells, each reached by its address.
use Rattle.std.specs.Prelude.{ℕ, Bool, true, false, List, ℤ, pos, length, get_or, set, None, Option, Some}
use Rattle.word.specs.Number.{index_of}
use Rattle.label.specs.Word.{low_label}
use Rattle.step.specs.Lent.{Cells, cells}
use Rattle.label.specs.declared.Label.{Label}

-- the cell that an address names, or none
abbrev pub cell_at : ℤ → List ℤ → Option ℕ
cell_at address values = index_of address (length values)

abbrev pub is_cell : Option ℕ → Bool
is_cell (Some i) = true
is_cell None = false

-- its label, its number, and the cells after both are written
abbrev pub label_of : Cells → Option ℕ → Option Label
label_of c (Some i) = Some (record { 0 = low_label (get_or c.labels i (pos 0)) })
label_of c None = None

abbrev pub number_of : List ℤ → Option ℕ → Option ℤ
number_of values (Some i) = Some (get_or values i (pos 0))
number_of values None = None

abbrev pub written : ℤ → ℕ → Cells → Option ℕ → Cells
written number label c (Some i) = cells (set c.values i number) (set c.labels i (pos label))
written number label c None = c
