-- The words of the cells and of the lines: one cell read, one cell stored, one line more.
-- Assumes nothing.
use mathlib.Core.Path.{◌≡◌, refl, ap, ◌∙◌}
use mathlib.Core.List.{List, [], ◌∷◌, ◌++◌, map, map-append}
use Prim.Native.Nat.{ℕ, zero, suc, ◌<◌}
use native.Mathlib.Omega.{arith}
use lib.IntN.{ℤ, pos}
use lib.ListN.{length, get_or, set, length-map}
use Rattle.word.specs.Lay.{laid}
use Rattle.label.specs.Label.{InRange}
use Rattle.label.specs.Word.{low_label}
use Rattle.machine.specs.Atom.{Atom, Line}
use Rattle.machine.specs.Holds.{Each, AtomHas}
use Rattle.machine.proofs.Request.{At, here, there}
use Rattle.machine.proofs.Holds.{each_at}
use Rattle.engine.specs.Memory.{Output, room}
use Rattle.engine.specs.Layout.{kind_word, lines_laid}
use Rattle.engine.specs.Act.{line_at}
use Rattle.engine.proofs.Link.Laid.{laid-set}
use Rattle.engine.proofs.Link.Stack.{low_label-id}

-- a word of the cell at an index, where `word` gives the word of a cell
pub cell-read : (word : Atom → ℤ) {words : List ℤ} {cells : List Atom} {i : ℕ} {c : Atom} → words ≡ map word cells → At cells i c
    → get_or words i (pos 0) ≡ word c
cell-read word {i = i} e at = ap (λ (w : List ℤ). get_or w i (pos 0)) e ∙ read at
  where
    read : {cells : List Atom} {i : ℕ} {c : Atom} → At cells i c → get_or (map word cells) i (pos 0) ≡ word c
    read here = refl
    read (there at) = read at

pub label-read : {words : List ℤ} {cells : List Atom} {i : ℕ} {c : Atom} → words ≡ map (λ c. pos c.label) cells
    → Each (AtomHas (λ n. Unit) InRange) cells → At cells i c → low_label (get_or words i (pos 0)) ≡ c.label
label-read e h at = rw (cell-read (λ c. pos c.label) e at) (low_label-id _ (each_at (AtomHas (λ n. Unit) InRange) at h).1)

pub cell-stored : (word : Atom → ℤ) {words : List ℤ} (cells : List Atom) (i : ℕ) (c : Atom) → words ≡ map word cells
    → set words i (word c) ≡ map word (set cells i c)
cell-stored word cells i c e = ap (λ (w : List ℤ). set w i (word c)) e ∙ stored cells i
  where
    stored : (cells : List Atom) (i : ℕ) → set (map word cells) i (word c) ≡ map word (set cells i c)
    stored [] i = refl
    stored (b ∷ cells) zero = refl
    stored (b ∷ cells) (suc i) = ap (λ (w : List ℤ). word b ∷ w) (stored cells i)

line-laid : (word : Line → ℤ) {words : List ℤ} (lines : List Line) (l : Line) (old : List ℤ) → words ≡ laid (map word lines) old
    → length lines < length old → set words (length lines) (word l) ≡ laid (map word (lines ++ (l ∷ []))) old
line-laid word lines l old e h =
    rw (e, map-append) (laid-set (map word lines) (word l) old (length lines) (length-map lines word) h)

-- one line more in an output space that came as o₀ and has room for it
pub line-at : (lines : List Line) (l : Line) (o o₀ : Output) → o ≡ lines_laid lines o₀ → length lines < room o₀
    → line_at (length lines) l o ≡ lines_laid (lines ++ (l ∷ [])) o₀
line-at lines l o o₀ e h =
    rw (
      line-laid (λ x. x.number) lines l o₀.numbers (ap (λ (x : Output). x.numbers) e) (omega arith),
      line-laid (λ x. pos x.label) lines l o₀.labels (ap (λ (x : Output). x.labels) e) (omega arith),
      line-laid (λ x. kind_word x.kind) lines l o₀.kinds (ap (λ (x : Output). x.kinds) e) (omega arith),
      line-laid (λ x. x.page) lines l o₀.pages (ap (λ (x : Output). x.pages) e) (omega arith),
    )
