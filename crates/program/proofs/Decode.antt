-- Laws of decoding: at most so many commands, one command at a time as code reads it, and the way back from the bytes that encode a
-- program.
-- Assumes nothing.
use Rattle.std.proofs.Common.{None, Option, Some}
use mathlib.Core.Path.{◌≡◌, refl, ap, ◌∙◌}
use mathlib.Core.Bool.{Bool, true, false}
use mathlib.Core.List.{List, [], ◌∷◌}
use Prim.Native.Nat.{ℕ, zero, suc, ◌+◌, ◌<◌, ◌≤◌, ◌*◌}
use native.Mathlib.Nat.{zero-add, add-zero, add_comm}
use native.Mathlib.Omega.{arith}
use lib.IntN.{ℤ, pos}
use lib.Dec.{leb}
use lib.ListN.{length, drop, get_or, length-drop}
use lib.Seq.{drop-drop}
use borrow.Author.Tests.{leb-true, le-leb}
use Rattle.word.specs.Field.{unsigned_at, signed_at, bits_at}
use Rattle.word.specs.Field as Field
use Rattle.word.specs.Wrap.{signed}
use Rattle.word.specs.Digits.{value_of}
use Rattle.word.proofs.Bool.{never}
use Rattle.word.proofs.Laws.Test.{leb-shift}
use Rattle.word.proofs.Laws.Field.{bits_at-none, bits_at-cons, unsigned_at-whole, unsigned_at-cut}
use Rattle.program.specs.declared.Command.{Command}
use Rattle.program.specs.declared.Operand.{Operand}
use Rattle.program.specs.Command.{opcode_of, width, counts}
use Rattle.program.specs.Decode.{First, unknown, cut, whole, counts_field, operand_at, first_opcode, Decoded, refused, accepted, prepend}
use Rattle.program.specs.Decode.{permits, decode_if, decode_first, decode_from}

-- the commands of an accepted program, none of a refused one
abbrev pub commands_of : Decoded → List Command
commands_of (refused r) = []
commands_of (accepted cs) = cs

prepend-length : (c : Command) (d : Decoded) (n : ℕ) → length (commands_of d) ≤ n → length (commands_of (prepend c d)) ≤ suc n
prepend-length c (refused r) n h = omega arith
prepend-length c (accepted cs) n h = omega arith

first-length : (x : First) (at n : ℕ) (rest : ℕ → Decoded) → ((w : ℕ) → length (commands_of (rest w)) ≤ n)
    → length (commands_of (decode_first x at rest)) ≤ suc n
first-length unknown at n rest h = omega arith
first-length cut at n rest h = omega arith
first-length (whole c w) at n rest h = go (permits c)
  where
    go : (b : Bool) → length (commands_of (decode_if b c at (rest w))) ≤ suc n
    go true = prepend-length c (rest w) n (h w)
    go false = omega arith

-- at most as many commands as may follow
pub decode-length : (left at : ℕ) (s : List ℕ) → length (commands_of (decode_from left at s)) ≤ left
unfolding decode_from
decode-length zero at [] = omega arith
decode-length zero at (b ∷ s) = omega arith
decode-length (suc left) at [] = omega arith
decode-length (suc left) at (b ∷ s) =
    first-length (first_opcode (opcode_of b) s) at left (λ w. decode_from left (at + suc w) (drop w s))
    (λ w. decode-length left (at + suc w) (drop w s))

-- an unsigned field in what is left from a position on
unsigned_at-drop : (k : ℕ) (s : List ℕ) (p i : ℕ) → p ≤ length s → unsigned_at k (drop p s) i ≡ unsigned_at k s (p + i)
unfolding unsigned_at bits_at
unsigned_at-drop k s p i h =
    let e : i + k + p ≡ p + i + k = omega arith in
    rw (length-drop p s, leb-shift (i + k) p (length s) h, e, drop-drop i p s)

-- one of one byte is that byte
module _ (s : List ℕ) (at : ℕ) where
  pub byte-whole : at < length s → unsigned_at 1 s at ≡ Some (pos (get_or s at 0))
  byte-whole h =
      let e : bits_at 1 s at ≡ get_or s at 0 = omega (arith, bits_at-cons 0 s at h, bits_at-none s (suc at)) in
      rw (unsigned_at-whole 1 s at (omega arith), e)

  pub byte_cut : length s ≤ at → unsigned_at 1 s at ≡ None
  byte_cut h = unsigned_at-cut 1 s at (omega arith)

-- two counts were read from two fields
pub counts-fields : (f g : Option ℤ) (z : ℤ) → counts_field f g ≡ Some z
    → (a : ℤ) × (d : ℤ) × (f ≡ Some a) × (g ≡ Some d) × (counts a d ≡ z)
counts-fields None g z e = never (cc)
counts-fields (Some a) None z e = never (cc)
counts-fields (Some a) (Some d) z e = (a, d, refl, refl, cc)

-- an operand in what is left from a position on is the operand at that position
pub operand_at-drop : (x : Operand) (s : List ℕ) (p : ℕ) → p ≤ length s → operand_at x (drop p s) 0 ≡ operand_at x s p
unfolding signed_at unsigned_at bits_at
operand_at-drop (Operand.Signed k) s p h = rw (length-drop p s, leb-shift (0 + k) p (length s) h, zero-add k, add_comm k p)
operand_at-drop Operand.Page s p h = unsigned_at-drop 1 s p 0 h ∙ ap (unsigned_at 1 s) (add-zero p)
operand_at-drop Operand.Counts s p h =
    rw (unsigned_at-drop 1 s p 0 h, unsigned_at-drop 1 s p (0 + 1) h, add-zero p, zero-add 1)

-- that of no bytes is 0
pub operand_at-none : (x : Operand) (s : List ℕ) (p : ℕ) (z : ℤ) → operand_at x s p ≡ Some z → width x ≡ 0 → z ≡ pos 0
unfolding signed_at bits_at signed value_of
operand_at-none (Operand.Signed k) s p z e w = none-whole (leb (p + 0) (length s)) (rw w at e)
  where
    none-whole : (b : Bool) → Field.whole b (pos 0) ≡ Some z → z ≡ pos 0
    none-whole true e = cc
    none-whole false e = absurd (let z : ◌≡◌ {A = ℕ} 0 1 = cc in omega arith)
operand_at-none Operand.Page s p z e w = absurd (omega arith)
operand_at-none Operand.Counts s p z e w = absurd (omega arith)

pub signed_at-empty : (s : List ℕ) (p : ℕ) → p ≤ length s → signed_at 0 s p ≡ Some (pos 0)
unfolding signed_at bits_at signed value_of
signed_at-empty s p h = rw (le-leb (p + 0) (length s) (omega arith))

-- a whole one ends within the bytes
pub operand_at-whole : (x : Operand) (s : List ℕ) (p : ℕ) (z : ℤ) → operand_at x s p ≡ Some z → p + width x ≤ length s
unfolding signed_at unsigned_at
operand_at-whole x s p z e = by x e
  where
    go : (p k : ℕ) (n z : ℤ) (b : Bool) → leb (p + k) (length s) ≡ b → Field.whole b n ≡ Some z → p + k ≤ length s
    go p k n z true t e = leb-true (p + k) (length s) t
    go p k n z false t e = never (cc)

    by : (x : Operand) → operand_at x s p ≡ Some z → p + width x ≤ length s
    by (Operand.Signed k) e = go p k (signed (8 * k) (bits_at k s p)) z (leb (p + k) (length s)) refl e
    by Operand.Page e = go p 1 (pos (bits_at 1 s p)) z (leb (p + 1) (length s)) refl e
    by Operand.Counts e =
        let (a, d, f, g, k) = counts-fields (unsigned_at 1 s p) (unsigned_at 1 s (p + 1)) z e in
        let h = go (p + 1) 1 (pos (bits_at 1 s (p + 1))) d (leb (p + 1 + 1) (length s)) refl g in
        omega arith
