-- The text of a page, in ASCII: each printed line ends in a newline (0a), and its parts are divided by one space (20).
use Rattle.std.specs.Prelude.{ℕ, List, [], ◌∷◌, ◌++◌, ◌≡◌, true, ℤ, pos, get_or}
use Rattle.word.specs.Text.{natural, decimal, hexadecimal}
use Rattle.label.specs.Label.{flows}
use Rattle.machine.specs.declared.Kind.{Kind}
use Rattle.machine.specs.declared.Kind.TheVariants.{Number, End}
use Rattle.program.specs.Command.{is_page}
use Rattle.machine.specs.Atom.{Line}
use Rattle.word.specs.Choose.{choose}

abbrev pub space : List ℕ
space = 0x20 ∷ []

abbrev pub newline : List ℕ
newline = 0x0a ∷ []

-- `job`, and the offset
abbrev pub job_word : List ℕ
job_word = 0x6a ∷ 0x6f ∷ 0x62 ∷ []

unfoldable pub job_text : ℕ → List ℕ
job_text offset = job_word ++ space ++ natural offset ++ newline

-- `refused`, number, place
abbrev pub refused_word : List ℕ
refused_word = 0x72 ∷ 0x65 ∷ 0x66 ∷ 0x75 ∷ 0x73 ∷ 0x65 ∷ 0x64 ∷ []

unfoldable pub refused_text : ℕ → ℕ → List ℕ
refused_text number place = refused_word ++ space ++ natural number ++ space ++ natural place ++ newline

-- the page number and a space
unfoldable pub page_text : ℤ → List ℕ
page_text page = decimal page ++ space

-- number in decimal, or `end`
abbrev pub end_word : List ℕ
end_word = 0x65 ∷ 0x6e ∷ 0x64 ∷ []

abbrev pub head_text : Kind → ℤ → List ℕ
head_text Number n = decimal n
head_text End n = end_word

-- space, label in eight lowercase hexadecimal digits
unfoldable pub line_text : Line → List ℕ
line_text x = page_text x.page ++ head_text x.kind x.number ++ space ++ hexadecimal x.label ++ newline

-- a line whose label flows to the reader's set
abbrev pub shown_text : (reader : ℕ) → Line → List ℕ
shown_text reader x = choose (flows x.label reader) (line_text x) []

unfoldable pub lines_text : (reader : ℕ) → List Line → List ℕ
lines_text reader [] = []
lines_text reader (x ∷ xs) = shown_text reader x ++ lines_text reader xs

-- every word of a run is a page; beyond its end 0 is
abbrev pub PageWords : List ℤ → Type 0
PageWords ws = (i : ℕ) → is_page (get_or ws i (pos 0)) ≡ true
