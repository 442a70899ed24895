-- The label words of a job's cells are in range: they are fields of four bytes.
-- Assumes nothing.
use Rattle.std.proofs.Common.{None, Ok, Some}
use mathlib.Core.Path.{◌≡◌, refl}
use mathlib.Core.Bool.{Bool, true, false}
use mathlib.Core.List.{List, [], ◌∷◌, ◌++◌}
use Prim.Native.Nat.{ℕ, zero, suc, ◌+◌, ◌*◌, ◌^◌, ◌<◌}
use lib.IntN.{ℤ, pos}
use lib.ListN.{length, get_or}
use lib.Dec.{ltb, leb, eqb}
use borrow.Author.Tests.{lt-ltb, leb-true}
use Rattle.word.specs.Choose.{choose}
use Rattle.word.specs.Field.{Bytes, bits_at, whole, unsigned_at, signed_at}
use Rattle.word.specs.Wrap.{signed}
use Rattle.word.proofs.Laws.Field.{bits_at-lt}
use Rattle.label.specs.declared.Label.{Label}
use Rattle.label.specs.Word.{stored}
use Rattle.machine.specs.Holds.{Each}
use Rattle.engine.specs.Start.{labels_limit}
use Rattle.report.specs.Job.{Heard, silence, with_cell, with_allowance, with_reader, bad, Reading, reading}
use Rattle.report.specs.Job.{unsigned, four_at, cell, allowance, reader_set, item_at, follow, read_from, read_job}

-- a word that stores a label
abbrev Stores : ℤ → Type 0
Stores z = (x : Label) × (stored z ≡ Some x)

pos-stores : (l : ℕ) → l < 2 ^ 32 → Stores (pos l)
unfolding stored
pos-stores l h = (record { 0 = l }, rw (lt-ltb l (2 ^ 32) h))

stores-append : (zs : List ℤ) (z : ℤ) → Each Stores zs → Stores z → Each Stores (zs ++ (z ∷ []))
stores-append [] z h g = (g, tt)
stores-append (y ∷ zs) z h g = (h.0, stores-append zs z h.1 g)

stores-kept : (i : ℕ) (zs : List ℤ) → Each Stores zs → labels_limit 5 i zs ≡ Ok tt
unfolding labels_limit
stores-kept i [] h = refl
stores-kept i (z ∷ zs) h = rw h.0.1 (stores-kept (suc i) zs h.1)

choose-has : {A : Type 0} (P : A → Type 0) (b : Bool) (x y : A) → P x → P y → P (choose b x y)
choose-has P true x y p q = p
choose-has P false x y p q = q

-- so it is with each command of a job
abbrev Ranged : Reading → Type 0
Ranged r = Each Stores r.heard.labels

module _ (s : List ℕ) (bytes : Bytes s) (on : ℕ → Heard → Reading)
    (keeps : (at : ℕ) (h : Heard) → Each Stores h.labels → Ranged (on at h)) (at : ℕ) (h : Heard) (g : Each Stores h.labels) where
  cell-ranged : Ranged (follow (cell (signed_at 8 s (at + 1)) (four_at s (at + 9))) at h on)
  unfolding four_at unsigned_at signed_at
  cell-ranged = by (signed (8 * 8) (bits_at 8 s (at + 1))) (leb (at + 1 + 8) (length s)) (leb (at + 9 + 4) (length s)) refl
    where
      by : (z : ℤ) (a b : Bool) → leb (at + 9 + 4) (length s) ≡ b
          → Ranged (follow (cell (whole a z) (unsigned (whole b (pos (bits_at 4 s (at + 9)))))) at h on)
      by z true true e =
          let l = bits_at 4 s (at + 9) in
          let below : l < 2 ^ 32 = bits_at-lt 4 s (at + 9) (leb-true (at + 9 + 4) (length s) e) bytes in
          choose-has Ranged (ltb (length h.values) 1024) (on (at + 13) (with_cell h z l)) (reading h (bad at))
          (keeps (at + 13) (with_cell h z l) (stores-append h.labels (pos l) g (pos-stores l below))) g
      by z true false e = g
      by z false b e = g

  allowance-ranged : Ranged (follow (allowance (four_at s (at + 1))) at h on)
  unfolding four_at unsigned_at
  allowance-ranged = by (leb (at + 1 + 4) (length s)) (bits_at 4 s (at + 1))
    where
      by : (b : Bool) (n : ℕ) → Ranged (follow (allowance (unsigned (whole b (pos n)))) at h on)
      by true n = keeps (at + 5) (with_allowance h n) g
      by false n = g

  reader-ranged : Ranged (follow (reader_set (four_at s (at + 1))) at h on)
  unfolding four_at unsigned_at
  reader-ranged = by (leb (at + 1 + 4) (length s)) (bits_at 4 s (at + 1))
    where
      by : (b : Bool) (n : ℕ) → Ranged (follow (reader_set (unsigned (whole b (pos n)))) at h on)
      by true n = keeps (at + 5) (with_reader h n) g
      by false n = g

  item-ranged : Ranged (follow (item_at s at) at h on)
  unfolding item_at
  item-ranged =
      let code = get_or s at 0 in
      let amount = allowance (four_at s (at + 1)) in
      let set = reader_set (four_at s (at + 1)) in
      let sheet = item_at (0x43 ∷ []) 0 in
      let unknown = allowance (unsigned None) in
      let last = choose (eqb code 0x43) sheet unknown in
      let rest = choose (eqb code 0x42) set last in
      choose-has (λ i. Ranged (follow i at h on)) (eqb code 0x40) (cell (signed_at 8 s (at + 1)) (four_at s (at + 9)))
      (choose (eqb code 0x41) amount rest) cell-ranged
      (choose-has (λ i. Ranged (follow i at h on)) (eqb code 0x41) amount rest allowance-ranged
      (choose-has (λ i. Ranged (follow i at h on)) (eqb code 0x42) set last reader-ranged
      (choose-has (λ i. Ranged (follow i at h on)) (eqb code 0x43) sheet unknown g g)))

from-ranged : (s : List ℕ) → Bytes s → (n : ℕ) (at : ℕ) (h : Heard) → Each Stores h.labels → Ranged (read_from n s at h)
unfolding read_from
from-ranged s bytes zero at h g = g
from-ranged s bytes (suc n) at h g =
    let on : ℕ → Heard → Reading = λ at' h'. read_from n s at' h' in
    choose-has Ranged (ltb at (length s)) (follow (item_at s at) at h on) (reading h (bad (length s)))
    (item-ranged s bytes on (λ at' h' g'. from-ranged s bytes n at' h' g') at h g) g

pub labels-kept : (job : List ℕ) → Bytes job → labels_limit 5 0 (read_job job).heard.labels ≡ Ok tt
unfolding read_job
labels-kept job bytes =
    stores-kept 0 _
    (choose-has Ranged (leb (length job) 65536) (read_from (length job) job 0 silence) (reading silence (bad 65536))
    (from-ranged job bytes (length job) 0 silence tt) tt)
