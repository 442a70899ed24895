-- What runs of words hold: so many pairs, and so many lines, each read by its index; and lines that were laid are read back.
-- Assumes nothing.
use mathlib.Core.Path.{◌≡◌, refl, ap, ◌∙◌}
use mathlib.Core.List.{List, [], ◌∷◌, ◌++◌}
use Prim.Native.Nat.{ℕ, zero, suc, ◌<◌, min}
use native.Mathlib.Omega.{arith}
use lib.IntN.{ℤ, pos}
use lib.ListN.{length, drop, get_or, length-take}
use lib.Seq.{get_or-take}
use Rattle.word.specs.Lay.{laid}
use Rattle.label.specs.Label.{InRange}
use Rattle.machine.specs.declared.Kind.{Kind}
use Rattle.machine.specs.declared.Kind.TheVariants.{Number, End}
use Rattle.machine.specs.Atom.{Atom, Line}
use Rattle.machine.specs.Holds.{Each, LineHas}
use Rattle.engine.specs.Memory.{Output, output, room}
use Rattle.engine.specs.Layout.{kind_word, line_numbers, line_labels, line_kinds, line_pages, lines_laid, paired, atom_of, kind_of}
use Rattle.engine.specs.Layout.{line_of, line_in, lines_of}
use Rattle.engine.proofs.Link.Stack.{low_label-id}

module _ {A B C : Type 0} (make : A → B → C) where
  pub paired-length : (xs : List A) (ys : List B) → length (paired make xs ys) ≡ min (length xs) (length ys)
  unfolding paired
  paired-length [] ys = omega arith
  paired-length (x ∷ xs) [] = omega arith
  paired-length (x ∷ xs) (y ∷ ys) = omega (arith, paired-length xs ys)

  pub paired_at : (a : A) (b : B) (c : C) (xs : List A) (ys : List B) (i : ℕ) → i < length (paired make xs ys)
      → get_or (paired make xs ys) i c ≡ make (get_or xs i a) (get_or ys i b)
  unfolding paired
  paired_at a b c [] ys i h = absurd (omega arith)
  paired_at a b c (x ∷ xs) [] i h = absurd (omega arith)
  paired_at a b c (x ∷ xs) (y ∷ ys) zero h = refl
  paired_at a b c (x ∷ xs) (y ∷ ys) (suc i) h = paired_at a b c xs ys i (omega arith)

-- the lines of an output space
module _ (o : Output) (written : ℕ) where
  abbrev atoms : List Atom
  atoms = paired atom_of o.numbers o.labels

  abbrev with : Atom → ℤ → Atom × ℤ
  with a w = (a, w)

  abbrev kinded : List (Atom × ℤ)
  kinded = paired with atoms o.kinds

  abbrev all : List Line
  all = paired line_of kinded o.pages

  kinded-length : length kinded ≡ min (min (length o.numbers) (length o.labels)) (length o.kinds)
  kinded-length = paired-length with atoms o.kinds ∙ ap (λ n. min n (length o.kinds)) (paired-length atom_of o.numbers o.labels)

  all-length : length all ≡ room o
  all-length = paired-length line_of kinded o.pages ∙ ap (λ n. min n (length o.pages)) kinded-length

  pub lines-length : length (lines_of written o) ≡ min written (room o)
  lines-length = length-take written all ∙ ap (λ n. min written n) all-length

  pub lines_at : (i : ℕ) → i < length (lines_of written o) → get_or (lines_of written o) i (line_in i o) ≡ line_in i o
  lines_at i h =
      let fits : i < min written (room o) = omega (arith, lines-length) in
      let atom : Atom = atom_of (get_or o.numbers i (pos 0)) (get_or o.labels i (pos 0)) in
      let kind : ℤ = get_or o.kinds i (pos 0) in
      get_or-take written all i (line_in i o) (omega arith)
      ∙ paired_at line_of (atom, kind) (pos 0) (line_in i o) kinded o.pages i (omega (arith, all-length))
      ∙ ap (λ (x : Atom × ℤ). line_of x (get_or o.pages i (pos 0)))
      (paired_at with atom (pos 0) (atom, kind) atoms o.kinds i (omega (arith, kinded-length))
      ∙ ap (λ (a : Atom). (a, kind))
      (paired_at atom_of (pos 0) (pos 0) atom o.numbers o.labels i (omega (arith, paired-length atom_of o.numbers o.labels))))

kind-back : (k : Kind) → kind_of (kind_word k) ≡ k
kind-back Number = refl
kind-back End = refl

-- lines whose labels are in range, laid into an output space, stand in it
pub lines-read : (ls : List Line) (o : Output) → Each (LineHas (λ n. Unit) InRange) ls → lines_of (length ls) (lines_laid ls o) ≡ ls
unfolding laid paired
lines-read ls o h =
    go ls (drop (length (line_numbers ls)) o.numbers) (drop (length (line_labels ls)) o.labels)
    (drop (length (line_kinds ls)) o.kinds) (drop (length (line_pages ls)) o.pages) h
  where
    go : (ls : List Line) (ns ms ks ps : List ℤ) → Each (LineHas (λ n. Unit) InRange) ls
        → lines_of (length ls) (output (line_numbers ls ++ ns) (line_labels ls ++ ms) (line_kinds ls ++ ks) (line_pages ls ++ ps)) ≡ ls
    go [] ns ms ks ps h = refl
    go (l ∷ ls) ns ms ks ps h =
        let more : Output = output (line_numbers ls ++ ns) (line_labels ls ++ ms) (line_kinds ls ++ ks) (line_pages ls ++ ps) in
        let rest : lines_of (length ls) more ≡ ls = go ls ns ms ks ps h.1 in
        rw (low_label-id l.label h.0.1, kind-back l.kind, rest)
