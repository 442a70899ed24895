-- How a state of the machine lies in lent words, as document 01 says it.
use Rattle.std.specs.Prelude.{ℕ, Bool, List, [], ◌∷◌, ◌++◌, map, ℤ, pos, take, get_or}
use Rattle.word.specs.Choose.{choose}
use Rattle.word.specs.Lay.{laid}
use Rattle.word.specs.Number.{is_zero}
use Rattle.label.specs.Word.{low_label}
use Rattle.program.specs.declared.Command.{Command}
use Rattle.machine.specs.declared.Kind.{Kind}
use Rattle.machine.specs.declared.Kind.TheVariants.{Number, End}
use Rattle.machine.specs.Atom.{Atom, Entry, value, frame, Line}
use Rattle.machine.specs.Rule.{Ruler}
use Rattle.machine.specs.State.{State}
use Rattle.machine.specs.Environment.{Environment}
use Rattle.machine.specs.Run.{along}
use Rattle.step.specs.Lent.{Cells, cells}
use Rattle.engine.specs.declared.Line as Code
use Rattle.engine.specs.Memory.{Output, output}

-- the kind word of a frame: 2 where a result is due, else 1
abbrev pub frame_word : Bool → ℤ
frame_word owes = choose owes (pos 2) (pos 1)

-- three words a stack entry: 0 for a value or a frame's kind word, number, label
abbrev pub entry_words : Entry → List ℤ
entry_words (value a) = pos 0 ∷ a.number ∷ pos a.label ∷ []
entry_words (frame owes a) = frame_word owes ∷ a.number ∷ pos a.label ∷ []

-- bottom first
unfoldable pub stack_words : List Entry → List ℤ
stack_words [] = []
stack_words (e ∷ es) = stack_words es ++ entry_words e

-- a cell is a number word and a label word
abbrev pub cell_words : List Atom → Cells
cell_words atoms = cells (map (λ a. a.number) atoms) (map (λ a. pos a.label) atoms)

-- a line is a number word, a label word, a kind word, 0 for a number and 1 for the end, and a page word
abbrev pub kind_word : Kind → ℤ
kind_word Number = pos 0
kind_word End = pos 1

abbrev pub line_numbers : List Line → List ℤ
line_numbers lines = map (λ l. l.number) lines

abbrev pub line_labels : List Line → List ℤ
line_labels lines = map (λ l. pos l.label) lines

abbrev pub line_kinds : List Line → List ℤ
line_kinds lines = map (λ l. kind_word l.kind) lines

abbrev pub line_pages : List Line → List ℤ
line_pages lines = map (λ l. l.page) lines

-- from the start of the output space on, the rest as it came
abbrev pub lines_laid : List Line → Output → Output
lines_laid lines o =
    output
    (laid (line_numbers lines) o.numbers)
    (laid (line_labels lines) o.labels)
    (laid (line_kinds lines) o.kinds)
    (laid (line_pages lines) o.pages)

-- what two runs hold, pair by pair, as far as the shorter goes
unfoldable pub paired : {A B C : Type 0} → (A → B → C) → List A → List B → List C
paired make [] ys = []
paired make (x ∷ xs) [] = []
paired make (x ∷ xs) (y ∷ ys) = make x y ∷ paired make xs ys

-- a number word and a label word
abbrev pub atom_of : ℤ → ℤ → Atom
atom_of n l = record { number = n; label = low_label l }

abbrev pub cells_of : Cells → List Atom
cells_of c = paired atom_of c.values c.labels

-- with a kind word: 0 is a number's, any other the end's
abbrev pub kind_of : ℤ → Kind
kind_of w = choose (is_zero w) Number End

-- and with a page word
abbrev pub line_of : Atom × ℤ → ℤ → Line
line_of (a, w) page = record { page = page; kind = kind_of w; number = a.number; label = a.label }

-- the line at an index; beyond a run's end its word is 0
abbrev pub line_in : ℕ → Output → Line
line_in i o =
    line_of (atom_of (get_or o.numbers i (pos 0)) (get_or o.labels i (pos 0)), get_or o.kinds i (pos 0)) (get_or o.pages i (pos 0))

-- the line that a record of the code is
abbrev pub line_from : Code.Line → Line
line_from x = record { page = x.page; kind = x.kind; number = x.number; label = x.label.0 }

-- so many lines from the start on
abbrev pub lines_of : ℕ → Output → List Line
lines_of n o = take n (paired line_of (paired (λ a w. (a, w)) (paired atom_of o.numbers o.labels) o.kinds) o.pages)

-- the stack space over a run: after each step the stack's words are laid over it, so that a dropped entry keeps its content
abbrev pub stack_laid : State → List ℤ → List ℤ
stack_laid t space = laid (stack_words t.stack) space

abbrev pub stack_after : {R : Type 0} → Ruler R → Environment → List Command → ℕ → State → R → List ℤ → List ℤ
stack_after ρ env cs fuel s u space = along ρ env cs stack_laid fuel s u space
