-- Writing a program as bytes and reading it gives it back; a program that was read can be written: each operand fits its width; and writing
-- it gives the bytes that it was read from. What is written are bytes.
-- Assumes nothing.
use Rattle.std.proofs.Common.{None, Option, Some}
use mathlib.Core.Path.{◌≡◌, refl, sym, ap, ap₂, ◌∙◌}
use mathlib.Core.List.{List, [], ◌∷◌, ◌++◌}
use Prim.Native.Nat.{ℕ, zero, suc, ◌+◌, ◌*◌, ◌%◌, ◌^◌, ◌<◌, ◌≤◌}
use native.Mathlib.Nat.{mod-eq_of_lt}
use native.Mathlib.Omega.{arith}
use mathlib.Core.Bool.{Bool, true, false}
use lib.IntN.{ℤ, pos, negsuc}
use borrow.Author.Tests.{ltb-true}
use lib.ListN.{length, take, drop, set, take-append-drop}
use lib.Seq.{drop_at, get_or-drop, get_or-take, length-take-le}
use Rattle.word.specs.Wrap.{Signed, signed, residue}
use Rattle.word.specs.Digits.{digits_of}
use Rattle.word.specs.Field.{Bytes, signed_at, unsigned_at, bits_at, bytes_of}
use Rattle.word.specs.Text.{put_answer, put_out}
use Rattle.word.proofs.Lay.{laid_at-nil, laid_at-cons}
use Rattle.word.proofs.Laws.Text.{put-room}
use Rattle.word.proofs.Laws.Digits.{Below, value-digits}
use Rattle.word.proofs.Laws.Wrap.{signed_range, residue-signed}
use Rattle.word.proofs.Laws.Field as Field
use Rattle.program.specs.declared.Command.{Command}
use Rattle.program.specs.declared.Operand.{Operand}
use Rattle.program.specs.Command.{Opcode, opcode_of, code_of, operand_of, width, operand_width, is_page}
use Rattle.program.specs.Command.{is_counts, counts, arguments_of, results_of, opcode, operand, command}
use Rattle.program.specs.Decode.{First, unknown, cut, whole, operand_at, first_operand, first_opcode, Decoded, refused, accepted}
use Rattle.program.specs.Decode.{prepend, permitted, permits, decode_if, decode_first, decode_from, decode, command_limit}
use Rattle.program.specs.Encode.{FitsBytes, Fits, Writable, AllWritable, operand_bytes, encode_command, encode}
use Rattle.program.specs.Fetch.{field_of}
use Rattle.program.proofs.Counting.{counts-range, counts-arguments, counts-results, word-range, word_counts}
use Rattle.program.proofs.Codes.{opcode_of-code_of, code_of-opcode_of, code-most, command-whole, opcode-command, operand-command}
use Rattle.program.proofs.Decode.{commands_of, decode-length, byte-whole, operand_at-none, signed_at-empty, operand_at-whole}
use Rattle.program.proofs.Fetching.{bytes-field}
use Rattle.word.proofs.Bool.{never}

-- ════════════════════════════════════════════════════════════════════════════════════════════
-- From commands to bytes and back
-- ════════════════════════════════════════════════════════════════════════════════════════════

-- the bytes of a number that fits them hold it
signed-bytes : (k : ℕ) (z : ℤ) → FitsBytes k z → (rest : List ℕ) → signed_at k (bytes_of k z ++ rest) 0 ≡ Some z
signed-bytes zero z w rest = signed_at-empty _ 0 (omega arith) ∙ ap Some (sym w)
signed-bytes (suc k) z w rest = Field.signed_at-bytes (suc k) [] rest z (omega arith) w

page-bytes : (z : ℤ) → is_page z ≡ true → (rest : List ℕ) → unsigned_at 1 (bytes_of 1 z ++ rest) 0 ≡ Some z
page-bytes (pos n) w rest = Field.unsigned_at-bytes 1 [] rest n (omega (arith, ltb-true n 16 w))
page-bytes (negsuc n) w rest = never (cc)

counts-bytes : (z : ℤ) → is_counts z ≡ true → (rest : List ℕ) → operand_at Operand.Counts (operand_bytes Operand.Counts z ++ rest) 0 ≡ Some z
counts-bytes z w rest =
    let (h, k) = word-range z w in
    let s = operand_bytes Operand.Counts z ++ rest in
    let e : arguments_of z % 256 ≡ arguments_of z = omega arith in
    rw (byte-whole s 0 (omega arith), byte-whole s (0 + 1) (omega arith), e) (ap Some (word_counts z w))

fits-bytes : (x : Operand) (z : ℤ) → Fits x z → (rest : List ℕ) → operand_at x (operand_bytes x z ++ rest) 0 ≡ Some z
fits-bytes (Operand.Signed k) z w rest = signed-bytes k z w rest
fits-bytes Operand.Page z w rest = page-bytes z w rest
fits-bytes Operand.Counts z w rest = counts-bytes z w rest

-- and it is permitted
pub fits-permitted : (x : Operand) (z : ℤ) → Fits x z → permitted x z ≡ true
fits-permitted (Operand.Signed k) z w = refl
fits-permitted Operand.Page z w = w
fits-permitted Operand.Counts z w = w

pub operand-length : (x : Operand) (z : ℤ) → length (operand_bytes x z) ≡ width x
operand-length x z = ap length (bytes-field x z) ∙ Field.bytes-length (width x) (field_of x z)

decode-from : (cs : List Command) (left at : ℕ) → length cs ≤ left → AllWritable cs → decode_from left at (encode cs) ≡ accepted cs
unfolding decode_from encode
decode-from [] zero at h w = refl
decode-from [] (suc left) at h w = refl
decode-from (c ∷ cs) zero at h w = absurd (omega arith)
decode-from (c ∷ cs) (suc left) at h w =
    let o = opcode c in
    let z = operand c in
    rw (
      opcode_of-code_of o,
      fits-bytes (operand_of o) z w.0 (encode cs),
      drop_at (operand_bytes (operand_of o) z) (encode cs) (operand_width o) (operand-length (operand_of o) z),
      decode-from cs left (at + suc (operand_width o)) (omega arith) w.1,
      command-whole c,
      fits-permitted (operand_of o) z w.0,
    )

-- writing at most 4,096 commands as bytes and reading the bytes gives the commands
pub decode-encode : (cs : List Command) → length cs ≤ command_limit → AllWritable cs → decode (encode cs) ≡ accepted cs
unfolding decode
decode-encode cs h w = decode-from cs command_limit 0 h w

-- ════════════════════════════════════════════════════════════════════════════════════════════
-- Commands without an operand's bytes in lent memory
-- ════════════════════════════════════════════════════════════════════════════════════════════

pub put-nothing : (at : ℕ) (old : List ℕ) → at ≤ length old → (Some at ≡ put_answer at [] old) × (old ≡ put_out at [] old)
put-nothing at old h =
    let put = put-room at 0 [] old refl (omega arith) in
    (ap Some (omega arith) ∙ sym put.0, sym (put.1 ∙ laid_at-nil at old))

pub put-bare : (at x : ℕ) (z : ℤ) (old : List ℕ) → at < length old
    → (Some (at + 1) ≡ put_answer at (x ∷ bytes_of 0 z) old) × (set old at x ≡ put_out at (x ∷ bytes_of 0 z) old)
unfolding bytes_of digits_of
put-bare at x z old h =
    let put = put-room at 1 (x ∷ []) old refl (omega arith) in
    (sym put.0, sym (put.1 ∙ laid_at-cons at x [] old h ∙ laid_at-nil (suc at) (set old at x)))

-- ════════════════════════════════════════════════════════════════════════════════════════════
-- From bytes to commands that can be written
-- ════════════════════════════════════════════════════════════════════════════════════════════

-- a field of k bytes within the bytes
module _ (k : ℕ) (s : List ℕ) (z : ℤ) (b : Bytes s) (h : 0 + k ≤ length s) where
  field-signed : 0 < k → signed_at k s 0 ≡ Some z → Signed (8 * k) z
  field-signed p e =
      let d : z ≡ signed (8 * k) (bits_at k s 0) = cc (Field.signed_at-whole k s 0 h) in
      rw d (signed_range (8 * k) (bits_at k s 0) (omega arith) (Field.bits_at-lt k s 0 h b))

operand-fits : (x : Operand) (s : List ℕ) (z : ℤ) → Bytes s → operand_at x s 0 ≡ Some z → permitted x z ≡ true → Fits x z
operand-fits (Operand.Signed zero) s z b e t = operand_at-none (Operand.Signed 0) s 0 z e refl
operand-fits (Operand.Signed (suc k)) s z b e t =
    field-signed (suc k) s z b (operand_at-whole (Operand.Signed (suc k)) s 0 z e) (omega arith) e
operand-fits Operand.Page s z b e t = t
operand-fits Operand.Counts s z b e t = t

operand-writable : (o : Opcode) (s : List ℕ) (z : ℤ) → Bytes s → operand_at (operand_of o) s 0 ≡ Some z → permitted (operand_of o) z ≡ true
    → Writable (command o z)
operand-writable o s z b e t =
    rw (opcode-command o z, operand-command o z (λ w. operand_at-none (operand_of o) s 0 z e w)) (operand-fits (operand_of o) s z b e t)

prepend-writable : (c : Command) (d : Decoded) → Writable c → AllWritable (commands_of d) → AllWritable (commands_of (prepend c d))
prepend-writable c (refused r) w h = tt
prepend-writable c (accepted cs) w h = (w, h)

-- and so can the command at the start of what was read
abbrev FirstWritable : First → Type 0
FirstWritable unknown = Unit {0}
FirstWritable cut = Unit {0}
FirstWritable (whole c w) = permits c ≡ true → Writable c

operand-first : (o : Opcode) (s : List ℕ) → Bytes s → (f : Option ℤ) → operand_at (operand_of o) s 0 ≡ f → FirstWritable (first_operand o f)
operand-first o s b None e = tt
operand-first o s b (Some z) e =
    λ t. operand-writable o s z b e (rw (opcode-command o z, operand-command o z (λ w. operand_at-none (operand_of o) s 0 z e w)) at t)

opcode-first : (x : Option Opcode) (s : List ℕ) → Bytes s → FirstWritable (first_opcode x s)
opcode-first None s b = tt
opcode-first (Some o) s b = operand-first o s b (operand_at (operand_of o) s 0) refl

first-writable : (x : First) (at : ℕ) (rest : ℕ → Decoded) → FirstWritable x → ((w : ℕ) → AllWritable (commands_of (rest w)))
    → AllWritable (commands_of (decode_first x at rest))
first-writable unknown at rest f h = tt
first-writable cut at rest f h = tt
first-writable (whole c w) at rest f h = go (permits c) refl
  where
    go : (b : Bool) → permits c ≡ b → AllWritable (commands_of (decode_if b c at (rest w)))
    go true t = prepend-writable c (rest w) (f t) (h w)
    go false t = tt

bytes-tail : (b : ℕ) (s : List ℕ) → Bytes (b ∷ s) → Bytes s
bytes-tail b s h i = h (suc i)

bytes_drop : (n : ℕ) (s : List ℕ) → Bytes s → Bytes (drop n s)
bytes_drop n s h i = rw (get_or-drop n s i 0) (h (n + i))

-- the commands of a program that was read can be written
pub decode-writable : (left at : ℕ) (s : List ℕ) → Bytes s → AllWritable (commands_of (decode_from left at s))
unfolding decode_from
decode-writable zero at [] h = tt
decode-writable zero at (b ∷ s) h = tt
decode-writable (suc left) at [] h = tt
decode-writable (suc left) at (b ∷ s) h =
    first-writable (first_opcode (opcode_of b) s) at (λ w. decode_from left (at + suc w) (drop w s))
    (opcode-first (opcode_of b) s (bytes-tail b s h))
    (λ w. decode-writable left (at + suc w) (drop w s) (bytes_drop w s (bytes-tail b s h)))

-- ════════════════════════════════════════════════════════════════════════════════════════════
-- From bytes to commands and back
-- ════════════════════════════════════════════════════════════════════════════════════════════

-- the bytes of a field are those of the number that it holds
module _ (k : ℕ) (s : List ℕ) (b : Bytes s) (h : 0 + k ≤ length s) where
  -- of a number whose lowest bits are the field's
  bits-bytes : (z : ℤ) → residue (8 * k) z ≡ bits_at k s 0 → bytes_of k z ≡ take k s
  unfolding bytes_of bits_at
  bits-bytes z e =
      let ds = take k s in
      let l : length ds ≡ k = length-take-le k s (omega arith) in
      let below : Below 256 ds = λ i j. rw (get_or-take k s i 0 (rw l at j)) (b i) in
      rw e (rw l at (value-digits 256 ds below))

residue-natural : (k n : ℕ) → n < 2 ^ k → residue k (pos n) ≡ n
unfolding residue
residue-natural k n h = mod-eq_of_lt h

-- two counts that are permitted are the two bytes
counts-taken : (s : List ℕ) (z : ℤ) → operand_at Operand.Counts s 0 ≡ Some z → is_counts z ≡ true
    → operand_bytes Operand.Counts z ≡ take 2 s
counts-taken [] z e t = absurd (omega (arith, operand_at-whole Operand.Counts [] 0 z e))
counts-taken (a ∷ []) z e t = absurd (omega (arith, operand_at-whole Operand.Counts (a ∷ []) 0 z e))
counts-taken (a ∷ d ∷ s) z e t =
    let l = a ∷ d ∷ s in
    let k : counts (pos a) (pos d) ≡ z = cc (rw (byte-whole l 0 (omega arith), byte-whole l (0 + 1) (omega arith)) at e) in
    let (g, h) = counts-range a d (ap is_counts k ∙ t) in
    let x = ap arguments_of (sym k) ∙ counts-arguments a d g h in
    let y = ap results_of (sym k) ∙ counts-results a d g h in
    ap₂ (λ (x y : ℕ). x ∷ y ∷ []) (omega arith) y

operand-bytes : (x : Operand) (s : List ℕ) (z : ℤ) → Bytes s → operand_at x s 0 ≡ Some z → permitted x z ≡ true
    → operand_bytes x z ≡ take (width x) s
unfolding bytes_of digits_of
operand-bytes (Operand.Signed zero) s z b e t = refl
operand-bytes (Operand.Signed (suc k)) s z b e t =
    let h = operand_at-whole (Operand.Signed (suc k)) s 0 z e in
    let n = bits_at (suc k) s 0 in
    let d : z ≡ signed (8 * suc k) n = cc (Field.signed_at-whole (suc k) s 0 h) in
    bits-bytes (suc k) s b h z (rw d (residue-signed (8 * suc k) n (omega arith) (Field.bits_at-lt (suc k) s 0 h b)))
operand-bytes Operand.Page s z b e t =
    let h = operand_at-whole Operand.Page s 0 z e in
    let n = bits_at 1 s 0 in
    let d : z ≡ pos n = cc (Field.unsigned_at-whole 1 s 0 h) in
    bits-bytes 1 s b h z (rw d (residue-natural 8 n (Field.bits_at-lt 1 s 0 h b)))
operand-bytes Operand.Counts s z b e t = counts-taken s z e t

-- writing the commands that were read gives these bytes
abbrev Encodes : List ℕ → Decoded → Type 0
Encodes s (refused r) = Unit {0}
Encodes s (accepted cs) = encode cs ≡ s

prepend-encodes : (c : Command) (d : Decoded) (s t : List ℕ) → encode_command c ++ t ≡ s → Encodes t d → Encodes s (prepend c d)
unfolding encode
prepend-encodes c (refused r) s t e h = tt
prepend-encodes c (accepted cs) s t e h = rw h e

operand-encodes : (o : Opcode) (b : ℕ) (s : List ℕ) (at : ℕ) (rest : ℕ → Decoded) → code_of o ≡ b → Bytes s
    → ((w : ℕ) → Encodes (drop w s) (rest w)) → (f : Option ℤ) → operand_at (operand_of o) s 0 ≡ f
    → Encodes (b ∷ s) (decode_first (first_operand o f) at rest)
operand-encodes o b s at rest d h g None e = tt
operand-encodes o b s at rest d h g (Some z) e = by (permits (command o z)) refl
  where
    made : operand (command o z) ≡ z
    made = operand-command o z (λ k. operand_at-none (operand_of o) s 0 z e k)

    by : (t : Bool) → permits (command o z) ≡ t → Encodes (b ∷ s) (decode_if t (command o z) at (rest (operand_width o)))
    by true t =
        let w = operand_width o in
        let x = operand_of o in
        prepend-encodes (command o z) (rest w) (b ∷ s) (drop w s)
        (rw (
          opcode-command o z,
          made,
          d,
          operand-bytes x s z h e (rw (opcode-command o z, made) at t),
          take-append-drop w s,
        ))
        (g w)
    by false t = tt

opcode-encodes : (x : Option Opcode) (b : ℕ) (s : List ℕ) (at : ℕ) (rest : ℕ → Decoded) → opcode_of b ≡ x → Bytes s
    → ((w : ℕ) → Encodes (drop w s) (rest w)) → Encodes (b ∷ s) (decode_first (first_opcode x s) at rest)
opcode-encodes None b s at rest e h g = tt
opcode-encodes (Some o) b s at rest e h g =
    operand-encodes o b s at rest (code_of-opcode_of b o e) h g (operand_at (operand_of o) s 0) refl

decode-encodes : (left at : ℕ) (s : List ℕ) → Bytes s → Encodes s (decode_from left at s)
unfolding decode_from encode
decode-encodes zero at [] h = refl
decode-encodes zero at (b ∷ s) h = tt
decode-encodes (suc left) at [] h = refl
decode-encodes (suc left) at (b ∷ s) h =
    opcode-encodes (opcode_of b) b s at (λ w. decode_from left (at + suc w) (drop w s)) refl (bytes-tail b s h)
    (λ w. decode-encodes left (at + suc w) (drop w s) (bytes_drop w s (bytes-tail b s h)))

-- reading bytes and writing the commands gives the bytes
pub encode-decode : (s : List ℕ) (cs : List Command) → Bytes s → decode s ≡ accepted cs → encode cs ≡ s
unfolding decode
encode-decode s cs b e = rw e at (decode-encodes command_limit 0 s b)

-- what was read can be written, and is not too long
pub decoded-writable : (s : List ℕ) (cs : List Command) → Bytes s → decode s ≡ accepted cs → (length cs ≤ command_limit) × AllWritable cs
unfolding decode
decoded-writable s cs b e =
    (rw e at (decode-length command_limit 0 s), rw e at (decode-writable command_limit 0 s b))

-- ════════════════════════════════════════════════════════════════════════════════════════════
-- What is written are bytes
-- ════════════════════════════════════════════════════════════════════════════════════════════

below-bytes : (s : List ℕ) → Below 256 s → Bytes s
below-bytes [] f i = omega arith
below-bytes (b ∷ s) f zero = f 0 (omega arith)
below-bytes (b ∷ s) f (suc i) = below-bytes s (λ j h. f (suc j) (omega arith)) i

append-bytes : (s t : List ℕ) → Bytes s → Bytes t → Bytes (s ++ t)
append-bytes [] t f g i = g i
append-bytes (b ∷ s) t f g zero = f 0
append-bytes (b ∷ s) t f g (suc i) = append-bytes s t (bytes-tail b s f) g i

command-bytes : (c : Command) → Bytes (encode_command c)
command-bytes c zero = omega (arith, code-most (opcode c))
command-bytes c (suc i) =
    let x = operand_of (opcode c) in
    let y = field_of x (operand c) in
    rw (bytes-field x (operand c)) (below-bytes (bytes_of (width x) y) (Field.bytes_lt (width x) y) i)

pub encode-bytes : (cs : List Command) → Bytes (encode cs)
unfolding encode
encode-bytes [] i = omega arith
encode-bytes (c ∷ cs) i = append-bytes (encode_command c) (encode cs) (command-bytes c) (encode-bytes cs) i
