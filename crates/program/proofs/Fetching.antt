-- Decoding one command at a time, as code reads it: what fetching at a position says of the program from there on.
-- Assumes nothing.
use Rattle.std.proofs.Common.{Err, None, Ok, Option, Result, Some}
use mathlib.Core.Path.{◌≡◌, refl, sym, ap, ap₂, subst, ◌∙◌}
use mathlib.Core.Bool.{Bool}
use mathlib.Core.List.{List, [], ◌∷◌}
use Prim.Native.Nat.{ℕ, suc, ◌+◌, ◌*◌, ◌%◌, ◌<◌, ◌≤◌}
use native.Mathlib.Nat.{add-zero}
use native.Mathlib.Numerals.{add-one}
use native.Mathlib.Omega.{arith}
use lib.IntN.{ℤ, pos}
use lib.ListN.{length, drop, get_or, get_or-eq_default}
use mir.Syntax.{w64}
use mir.Val.{to_z, of_z}
use lib.Seq.{drop-cons, drop-drop}
use Rattle.word.specs.Digits.{digits_of}
use Rattle.word.specs.Wrap.{residue, signed}
use Rattle.word.specs.Field.{bits_at, unsigned_at, signed_at, bytes_of}
use Rattle.word.proofs.Bool.{never}
use Rattle.word.proofs.Signed.{back-ok}
use Rattle.word.proofs.Laws.Field.{bits_at-lt, bits_at-none, bits_at-cons, signed_at-whole, signed_at-cut, unsigned_at-whole}
use Rattle.program.specs.declared.Operand.{Operand}
use Rattle.program.specs.declared.Shape.{Shape}
use Rattle.program.specs.Command.{Opcode, opcode_of, code_of, operand_of, width, operand_width}
use Rattle.program.specs.Command.{counts, arguments_of, results_of, command, opcode, operand}
use Rattle.program.specs.Decode.{First, unknown, cut, whole, counts_field, operand_at, first_opcode, refused, refusal, permits, check_of}
use Rattle.program.specs.Decode.{decode_if, decode_first, decode_from}
use Rattle.program.specs.Encode.{operand_bytes, encode_code}
use Rattle.program.specs.Space.{take_first, readable}
use Rattle.program.specs.Fetch.{shape_of, permits_of, refuses_of, field_of, fetch_field, fetch_opcode, fetch_of}
use Rattle.program.proofs.Counting.{results-small}
use Rattle.program.proofs.Codes.{opcode_of-code_of, code_of-opcode_of, code-most, opcode-command, operand-command, width-none}
use Rattle.program.proofs.Decode.{byte-whole, byte_cut, operand_at-drop, operand_at-none, signed_at-empty, operand_at-whole}
use Rattle.program.specs.declared.Fault.{Fault}
use Rattle.program.specs.declared.Fault.TheVariants.{Unknown, Cut}

-- the operand of a command is its field, which is 0 where it has no bytes
operand-field : (o : Opcode) (s : List ℕ) (p : ℕ) (z : ℤ) → operand_at (operand_of o) s p ≡ Some z → operand (command o z) ≡ z
operand-field o s p z e = operand-command o z (λ w. operand_at-none (operand_of o) s p z e w)

-- what stands at a position
abbrev first_at : List ℕ → ℕ → First
first_at s at = first_opcode (opcode_of (get_or s at 0)) (drop (suc at) s)

-- a command that was fetched there
pub record Next (s : List ℕ) (at : ℕ) (z : ℤ) (next : ℕ) : Type 0 where
  pub opcode : Opcode
  pub code : code_of opcode ≡ get_or s at 0
  pub operand-is : operand (command opcode z) ≡ z
  pub forward : at < next
  pub within : next ≤ length s
  pub next-is : at + 1 + operand_width opcode ≡ next
  pub first : first_at s at ≡ whole (command opcode z) (operand_width opcode)

-- what fetching says of what stands there
abbrev Fetches : List ℕ → ℕ → Result (ℤ × ℕ) Fault → Type 0
Fetches s at (Err Unknown) = first_at s at ≡ unknown
Fetches s at (Err Cut) = first_at s at ≡ cut
Fetches s at (Ok (z, next)) = Next s at z next

module _ (s : List ℕ) (at : ℕ) (h : at < length s) where
  field_at : (x : Operand) → operand_at x (drop (suc at) s) 0 ≡ operand_at x s (at + 1)
  field_at x = operand_at-drop x s (suc at) h ∙ ap (operand_at x s) (sym (add-one at))

  fetches-field : (o : Opcode) → opcode_of (get_or s at 0) ≡ Some o → (f : Option ℤ) → operand_at (operand_of o) s (at + 1) ≡ f
      → Fetches s at (fetch_field f (at + 1 + operand_width o))
  fetches-field o k None e = rw (k, field_at (operand_of o), e)
  fetches-field o k (Some z) e =
      record {
        opcode = o;
        code = code_of-opcode_of (get_or s at 0) o k;
        operand-is = operand-field o s (at + 1) z e;
        forward = omega arith;
        within = operand_at-whole (operand_of o) s (at + 1) z e;
        next-is = refl;
        first = rw (k, field_at (operand_of o), e);
      }

  fetches-opcode : (x : Option Opcode) → opcode_of (get_or s at 0) ≡ x → Fetches s at (fetch_opcode x s (at + 1))
  fetches-opcode None e = rw e
  fetches-opcode (Some o) e = fetches-field o e (operand_at (operand_of o) s (at + 1)) refl

  fetches : (x : Result (ℤ × ℕ) Fault) → fetch_of s at ≡ x → Fetches s at x
  unfolding fetch_of
  fetches x e = subst (Fetches s at) e (fetches-opcode (opcode_of (get_or s at 0)) refl)

  pub fetched-next : (z : ℤ) (next : ℕ) → fetch_of s at ≡ Ok (z, next) → Next s at z next
  fetched-next z next e = fetches (Ok (z, next)) e

  -- may it have its operand? As its code's shape says
  pub fetched-permits : {z : ℤ} {next : ℕ} (n : Next s at z next)
      → permits_of (shape_of (opcode_of (get_or s at 0))) z ≡ permits (command n.opcode z)
  fetched-permits {z} n =
      ap (λ c. permits_of (shape_of (opcode_of c)) z) (sym n.code)
      ∙ rw (opcode_of-code_of n.opcode, opcode-command n.opcode z, n.operand-is)

  -- and by which check it is refused
  pub fetched-refuses : {z : ℤ} {next : ℕ} (n : Next s at z next)
      → refuses_of (shape_of (opcode_of (get_or s at 0))) ≡ check_of (operand_of (opcode (command n.opcode z)))
  fetched-refuses {z} n =
      ap (λ c. refuses_of (shape_of (opcode_of c))) (sym n.code) ∙ rw (opcode_of-code_of n.opcode, opcode-command n.opcode z)

  -- from there on: what a program is read as, of which one command more than `left` may follow
  module _ (left : ℕ) where
    decode-by : (x : First) → first_at s at ≡ x
        → decode_from (suc left) at (drop at s) ≡ decode_first x at (λ w. decode_from left (at + suc w) (drop w (drop (suc at) s)))
    unfolding decode_from
    decode-by x e = rw (drop-cons s at 0 h, e)

    pub decode-unknown : fetch_of s at ≡ Err Unknown → decode_from (suc left) at (drop at s) ≡ refused (refusal 2 at)
    decode-unknown e = decode-by unknown (fetches (Err Unknown) e)

    pub decode-cut : fetch_of s at ≡ Err Cut → decode_from (suc left) at (drop at s) ≡ refused (refusal 3 at)
    decode-cut e = decode-by cut (fetches (Err Cut) e)

    -- a command that was fetched, by whether it may have its operand
    module _ {z : ℤ} {next : ℕ} (n : Next s at z next) (b : Bool) (t : permits (command n.opcode z) ≡ b) where
      pub decode-next :
          decode_from (suc left) at (drop at s) ≡ decode_if b (command n.opcode z) at (decode_from left next (drop next s))
      decode-next =
          let w = operand_width n.opcode in
          let e : at + suc w ≡ at + 1 + w = omega arith in
          let d : suc at + w ≡ at + 1 + w = omega arith in
          decode-by _ n.first ∙ rw (t, drop-drop w (suc at) s, e, d, n.next-is)

  -- and what can be read of it, of which one command more than `room` has room
  module _ (room : ℕ) where
    readable-by : (x : First) → first_at s at ≡ x
        → readable (suc room) (drop at s) ≡ take_first x (λ w. readable room (drop w (drop (suc at) s)))
    unfolding readable
    readable-by x e = rw (drop-cons s at 0 h, e)

    pub readable-unknown : fetch_of s at ≡ Err Unknown → readable (suc room) (drop at s) ≡ []
    readable-unknown e = readable-by unknown (fetches (Err Unknown) e)

    pub readable-cut : fetch_of s at ≡ Err Cut → readable (suc room) (drop at s) ≡ []
    readable-cut e = readable-by cut (fetches (Err Cut) e)

    pub readable-next : {z : ℤ} {next : ℕ} (n : Next s at z next)
        → readable (suc room) (drop at s) ≡ command n.opcode z ∷ readable room (drop next s)
    readable-next n =
        let w = operand_width n.opcode in
        let d : suc at + w ≡ at + 1 + w = omega arith in
        readable-by _ n.first ∙ rw (drop-drop w (suc at) s, d, n.next-is)

-- ════════════════════════════════════════════════════════════════════════════════════════════
-- Fetching by the shape: a signed operand of eight bytes or two, or none; or a page
-- ════════════════════════════════════════════════════════════════════════════════════════════

-- the opcode of a code, which has this operand
abbrev pub Shaped : ℕ → Operand → Type 0
Shaped code x = (o : Opcode) × (opcode_of code ≡ Some o) × (operand_of o ≡ x)

abbrev operand_or : Operand → Option Shape → Operand
operand_or x None = x
operand_or x (Some shape) = shape.operand

pub shaped : (code : ℕ) (shape : Shape) → shape_of (opcode_of code) ≡ Some shape → Shaped code shape.operand
shaped code shape e = of (opcode_of code) refl e
  where
    of : (y : Option Opcode) → opcode_of code ≡ y → shape_of y ≡ Some shape → Shaped code shape.operand
    of None d e = absurd (let z : ◌≡◌ {A = ℕ} 0 1 = cc in omega arith)
    of (Some o) d e = (o, d, ap (operand_or (operand_of o)) e)

-- no bytes, where there are neither eight nor two
pub shaped-none : (code w : ℕ) → Shaped code (Operand.Signed w) → (w ≡ 8 → ⊥) → (w ≡ 2 → ⊥) → w ≡ 0
shaped-none code w x f g = width-none x.0 w x.2 f g

-- nor the one of a page
pub width-nothing : (code : ℕ) (x : Operand) → Shaped code x → (width x ≡ 8 → ⊥) → (width x ≡ 2 → ⊥) → (width x ≡ 1 → ⊥) → width x ≡ 0
width-nothing code (Operand.Signed w) x f g h = shaped-none code w x f g
width-nothing code Operand.Page x f g h = absurd (h refl)
width-nothing code Operand.Counts x f g h = absurd (g refl)

pub unshaped : (code : ℕ) → shape_of (opcode_of code) ≡ None → opcode_of code ≡ None
unshaped code e = of (opcode_of code) refl e
  where
    of : (x : Option Opcode) → opcode_of code ≡ x → shape_of x ≡ None → opcode_of code ≡ None
    of None d e = d
    of (Some o) d e = absurd (let z : ◌≡◌ {A = ℕ} 0 1 = cc in omega arith)

module _ (s : List ℕ) (at : ℕ) where
  pub fetch-unknown : shape_of (opcode_of (get_or s at 0)) ≡ None → Err Unknown ≡ fetch_of s at
  unfolding fetch_of
  fetch-unknown e = rw (unshaped (get_or s at 0) e)

  pub fetch-outside : length s ≤ at → Err Unknown ≡ fetch_of s at
  unfolding fetch_of opcode_of
  fetch-outside h = rw (get_or-eq_default s 0 {n = at} h)

  module _ (shape : Shape) (x : Operand) (e : shape_of (opcode_of (get_or s at 0)) ≡ Some shape) (is : shape.operand ≡ x) where
    of_code : Shaped (get_or s at 0) x
    of_code = subst (Shaped (get_or s at 0)) is (shaped (get_or s at 0) shape e)

    -- an operand that has bytes
    pub fetch-field : fetch_field (operand_at x s (at + 1)) (at + 1 + width x) ≡ fetch_of s at
    unfolding fetch_of
    fetch-field = rw (of_code.1, of_code.2)

  module _ (shape : Shape) (w : ℕ) (e : shape_of (opcode_of (get_or s at 0)) ≡ Some shape) (is : shape.operand ≡ Operand.Signed w) where
    pub fetch-signed : (k : ℕ) → w ≡ k → fetch_field (signed_at k s (at + 1)) (at + 1 + k) ≡ fetch_of s at
    fetch-signed k d = rw (sym d) (fetch-field shape (Operand.Signed w) e is)

    pub fetch-plain : at < length s → (w ≡ 8 → ⊥) → (w ≡ 2 → ⊥) → Ok (pos 0, at + 1) ≡ fetch_of s at
    fetch-plain h f g =
        let k = shaped-none (get_or s at 0) w (of_code shape (Operand.Signed w) e is) f g in
        rw (k, signed_at-empty s (at + 1) (omega arith), add-zero (at + 1)) at (fetch-field shape (Operand.Signed w) e is)

-- a page is the byte that stands there
module _ (s : List ℕ) (at : ℕ) where
  pub page-whole : at < length s → Ok (pos (get_or s at 0), at + 1) ≡ fetch_field (unsigned_at 1 s at) (at + 1)
  page-whole h = rw (byte-whole s at h)

  pub page-cut : length s ≤ at → Err Cut ≡ fetch_field (unsigned_at 1 s at) (at + 1)
  page-cut h = rw (byte_cut s at h)

  -- and two counts are the two bytes that stand there
  pub counts_whole : at + 2 ≤ length s
      → Ok ((counts (pos (get_or s at 0)) (pos (get_or s (at + 1) 0))), (at + 2)) ≡ fetch_field (operand_at Operand.Counts s at) (at + 2)
  counts_whole h = rw (byte-whole s at (omega arith), byte-whole s (at + 1) (omega arith))

  pub counts-cut : length s < at + 2 → Err Cut ≡ fetch_field (operand_at Operand.Counts s at) (at + 2)
  counts-cut h = by (unsigned_at 1 s at)
    where
      by : (f : Option ℤ) → Err Cut ≡ fetch_field (counts_field f (unsigned_at 1 s (at + 1))) (at + 2)
      by None = refl
      by (Some a) = rw (byte_cut s (at + 1) (omega arith))

-- a number of eight bytes is that of its halves
module _ (s : List ℕ) (at : ℕ) where
  pub half-whole : (z : ℤ) → at + 4 ≤ length s → unsigned_at 4 s at ≡ Some z → z ≡ pos (bits_at 4 s at)
  half-whole z h e = number (sym e ∙ unsigned_at-whole 4 s at h)
    where
      number : {y : ℤ} → Some z ≡ Some y → z ≡ y
      number e = cc

  pub half-cut : {A : Type 0} → at + 4 ≤ length s → unsigned_at 4 s at ≡ None → A
  half-cut h e = cut-number (sym e ∙ unsigned_at-whole 4 s at h)
    where
      cut-number : {A : Type 0} {y : ℤ} → None ≡ Some y → A
      cut-number e = never (cc)

  -- as the code reads it
  pub half-read : ((i : ℕ) → get_or s i 0 < 256) → (z : ℤ) → at + 4 ≤ length s → unsigned_at 4 s at ≡ Some z
      → (to_z w64 (of_z w64 z) ≡ pos (bits_at 4 s at)) × (bits_at 4 s at < 4294967296)
  half-read known z h e =
      let small = bits_at-lt 4 s at h known in
      rw (half-whole z h e) (back-ok (pos (bits_at 4 s at)) (omega (arith, small)), omega (arith, small))

  halves : at + 8 ≤ length s → bits_at 4 s at + 4294967296 * bits_at 4 s (at + 4) ≡ bits_at 8 s at
  halves h =
      let e : at + 4 ≡ suc (suc (suc (suc at))) = omega arith in
      rw e (omega (
        arith,
        bits_at-cons 3 s at (omega arith),
        bits_at-cons 2 s (suc at) (omega arith),
        bits_at-cons 1 s (suc (suc at)) (omega arith),
        bits_at-cons 0 s (suc (suc (suc at))) (omega arith),
        bits_at-none s (suc (suc (suc (suc at)))),
        bits_at-cons 7 s at (omega arith),
        bits_at-cons 6 s (suc at) (omega arith),
        bits_at-cons 5 s (suc (suc at)) (omega arith),
        bits_at-cons 4 s (suc (suc (suc at))) (omega arith),
      ))

  pub long-whole : at + 8 ≤ length s
      → Some (signed 64 (bits_at 4 s at + 4294967296 * bits_at 4 s (at + 4))) ≡ signed_at 8 s at
  long-whole h = ap (λ n. Some (signed 64 n)) (halves h) ∙ sym (signed_at-whole 8 s at h)

  pub long-cut : length s < at + 8 → None ≡ signed_at 8 s at
  long-cut h = sym (signed_at-cut 8 s at h)

-- ════════════════════════════════════════════════════════════════════════════════════════════
-- The range of an operand, and the bytes of a command
-- ════════════════════════════════════════════════════════════════════════════════════════════

-- the bytes of an operand are those of a number
pub bytes-field : (x : Operand) (z : ℤ) → operand_bytes x z ≡ bytes_of (width x) (field_of x z)
unfolding bytes_of digits_of residue
bytes-field (Operand.Signed k) z = refl
bytes-field Operand.Page z = refl
bytes-field Operand.Counts z = by (arguments_of z) (results_of z) (results-small z)
  where
    by : (a d : ℕ) → d < 16 → a % 256 ∷ d ∷ [] ≡ bytes_of 2 (pos (a % 256 + 256 * d))
    by a d h = ap₂ (λ (x y : ℕ). x ∷ y ∷ []) (omega arith) (omega arith)

module _ (code : ℕ) (x : Operand) (s : Shaped code x) (z : ℤ) where
  pub encode-shaped : encode_code (opcode_of code) z ≡ code ∷ bytes_of (width x) (field_of x z)
  encode-shaped = rw (s.1, s.2, code_of-opcode_of code s.0 s.1) (ap (λ l. code ∷ l) (bytes-field x z))

  pub code-byte : code < 256
  code-byte = omega (arith, code_of-opcode_of code s.0 s.1, code-most s.0)
