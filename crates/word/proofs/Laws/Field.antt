-- Fields over their width k in bytes: the bytes of a number are read back as the number.
-- Assumes nothing.
use Rattle.std.proofs.Common.{◌≡◌, ℕ, zero, suc, ◌+◌, ◌-◌, ◌*◌, ◌/◌, ◌%◌, ◌^◌, ◌<◌, ◌≤◌, List, ◌∷◌, ◌++◌, length, get_or, take, drop, ℤ, pos, sym, refl, ap, ◌∙◌, append_assoc, mod-eq_of_lt, add_comm, div-one, w64, of_z, pow-suc, mul-suc, arith, length-append, length-drop, length-take-le, get_or-drop, drop-cons, get_or-take, pow_mono, pow-add, le-leb, None, Some}
use Rattle.std.specs.Int.{bytes_low_first, to_le_bytes}
use native.Mathlib.Nat.{pow-zero, div-div-eq-div-mul}
use lib.Seq.{take-append_seam, drop-append_seam}
use borrow.Author.Tests.{lt-leb}
use Rattle.word.specs.Wrap.{Signed, residue, signed}
use Rattle.word.specs.Digits.{value_of, digits_of}
use Rattle.word.specs.Field.{Bytes, bits_at, unsigned_at, signed_at, bytes_of}
use Rattle.word.proofs.Laws.Digits.{Below, value_of-lt, digits-length, digits_lt, digits_value, digits_low, digits_append}
use Rattle.word.proofs.Laws.Wrap.{residue-lt, residue-low, signed-residue}
use Rattle.word.proofs.Laws.Word.{residue-of_z}

pub pow-bytes : (k : ℕ) → 256 ^ k ≡ 2 ^ (8 * k)
pow-bytes zero = refl
pow-bytes (suc k) = pow-suc 256 k ∙ rw (pow-bytes k, mul-suc 8 k) (sym (pow-add 2 (8 * k) 8))

-- ════════════════════════════════════════════════════════════════════════════════════════════
-- The number in the k bytes from a position on
-- ════════════════════════════════════════════════════════════════════════════════════════════

pub bits_at-none : (s : List ℕ) (at : ℕ) → bits_at 0 s at ≡ 0
unfolding bits_at value_of
bits_at-none s at = refl

pub bits_at-cons : (k : ℕ) (s : List ℕ) (at : ℕ) → at < length s
    → bits_at (suc k) s at ≡ bits_at k s (suc at) * 256 + get_or s at 0
unfolding bits_at value_of
bits_at-cons k s at h =
    rw (drop-cons s at 0 h) (add_comm (get_or s at 0) (value_of 256 (take k (drop (suc at) s)) * 256))

pub bits_at-lt : (k : ℕ) (s : List ℕ) (at : ℕ) → at + k ≤ length s → Bytes s → bits_at k s at < 2 ^ (8 * k)
unfolding bits_at
bits_at-lt k s at h f =
    let part = take k (drop at s) in
    let e : length part ≡ k = length-take-le k (drop at s) (rw (length-drop at s) (omega arith)) in
    let below : Below 256 part =
    λ i l. rw (get_or-take k (drop at s) i 0 (rw e at l), get_or-drop at s i 0) (f (at + i)) in
    rw (← pow-bytes k) (rw e at (value_of-lt 256 part below))

-- up to seven bytes fit the lower half of a word
pub bits_at-half : (k : ℕ) (s : List ℕ) (at : ℕ) → k < 8 → at + k ≤ length s → Bytes s → bits_at k s at < 2 ^ 63
bits_at-half k s at p h f = omega (arith, bits_at-lt k s at h f, pow_mono {i = 8 * k} {j = 63} (omega arith))

-- a field is read down from its last byte: n is the number in the bytes from i on
module _ (s : List ℕ) (at k i n : ℕ) (p : 0 < i) (h : i ≤ k) (l : at + k ≤ length s)
    (e : n ≡ bits_at (k - i) s (at + i)) where
  pub bits_at-down : n * 256 + get_or s (at + (i - 1)) 0 ≡ bits_at (k - (i - 1)) s (at + (i - 1))
  bits_at-down =
      let m : k - (i - 1) ≡ suc (k - i) = omega arith in
      let o : at + i ≡ suc (at + (i - 1)) = omega arith in
      rw (e, m, o) (sym (bits_at-cons (k - i) s (at + (i - 1)) (omega arith)))

  -- there is room for one byte more
  pub bits_at-room : k ≤ 8 → Bytes s → n < 2 ^ 56
  bits_at-room q f =
      let small = bits_at-lt (k - i) s (at + i) (omega arith) f in
      omega (arith, pow_mono {i = 8 * (k - i)} {j = 56} (omega arith))

-- the loop goes so over a field that stands alone
module _ (s : List ℕ) (i n : ℕ) (p : 0 < i) (h : i ≤ length s) (e : n ≡ value_of 256 (drop i s)) where
  pub value-down : n * 256 + get_or s (i - 1) 0 ≡ value_of 256 (drop (i - 1) s)
  unfolding value_of
  value-down =
      let j : suc (i - 1) ≡ i = omega arith in
      let d : drop (i - 1) s ≡ get_or s (i - 1) 0 ∷ drop i s =
      drop-cons s (i - 1) 0 (omega arith) ∙ ap (λ (k : ℕ). get_or s (i - 1) 0 ∷ drop k s) j in
      rw (e, d) (add_comm (value_of 256 (drop i s) * 256) (get_or s (i - 1) 0))

  -- there is room for one byte more
  pub value-room : length s ≤ 8 → Bytes s → n < 2 ^ 56
  value-room q f =
      let below : Below 256 (drop i s) = λ k l. rw (get_or-drop i s k 0) (f (i + k)) in
      let small = value_of-lt 256 (drop i s) below in
      rw e (omega (arith, small, pow-bytes (length (drop i s)), length-drop i s, pow_mono {i = 8 * length (drop i s)} {j = 56} (omega (arith, length-drop i s))))

pub bits_at-seam : (before ds after : List ℕ)
    → bits_at (length ds) (before ++ ds ++ after) (length before) ≡ value_of 256 ds
unfolding bits_at
bits_at-seam before ds after =
    rw (append_assoc before ds after, drop-append_seam before (ds ++ after), take-append_seam ds after)

-- ════════════════════════════════════════════════════════════════════════════════════════════
-- Whole and cut fields
-- ════════════════════════════════════════════════════════════════════════════════════════════

module _ (k : ℕ) (s : List ℕ) (at : ℕ) where
  pub signed_at-whole : at + k ≤ length s → signed_at k s at ≡ Some (signed (8 * k) (bits_at k s at))
  unfolding signed_at
  signed_at-whole h = rw (le-leb (at + k) (length s) h)

  pub signed_at-cut : length s < at + k → signed_at k s at ≡ None
  unfolding signed_at
  signed_at-cut h = rw (lt-leb (at + k) (length s) h)

  pub unsigned_at-whole : at + k ≤ length s → unsigned_at k s at ≡ Some (pos (bits_at k s at))
  unfolding unsigned_at
  unsigned_at-whole h = rw (le-leb (at + k) (length s) h)

  pub unsigned_at-cut : length s < at + k → unsigned_at k s at ≡ None
  unfolding unsigned_at
  unsigned_at-cut h = rw (lt-leb (at + k) (length s) h)

-- ════════════════════════════════════════════════════════════════════════════════════════════
-- The bytes of a number
-- ════════════════════════════════════════════════════════════════════════════════════════════

pub bytes-length : (k : ℕ) (z : ℤ) → length (bytes_of k z) ≡ k
unfolding bytes_of
bytes-length k z = digits-length 256 k (residue (8 * k) z)

-- they are the lowest bytes of the word
pub bytes_low : (j k : ℕ) (z : ℤ) → j + 8 * k ≡ 64 → digits_of 256 k (residue 64 z) ≡ bytes_of k z
unfolding bytes_of
bytes_low j k z e =
    sym (digits_low 256 k (residue 64 z) (omega arith))
    ∙ rw (pow-bytes k) (ap (digits_of 256 k) (ap (λ (n : ℕ). residue n z % 2 ^ (8 * k)) (sym e) ∙ residue-low j (8 * k) z))

-- and so the kit gives them
low-first : (i k n : ℕ) → bytes_low_first i k n ≡ digits_of 256 k (n / 256 ^ i)
unfolding digits_of
low-first i zero n = refl
low-first zero (suc k) n = rw (pow-zero 256, div-one n) (ap (λ (l : List ℕ). n % 256 ∷ l) (low-first 1 k n))
low-first (suc i) (suc k) n =
    ap (λ (l : List ℕ). n / 256 ^ suc i % 256 ∷ l)
    (low-first (suc (suc i)) k n ∙ ap (digits_of 256 k) (rw (pow-suc 256 (suc i)) (sym (div-div-eq-div-mul n (256 ^ suc i) 256))))

pub le_bytes : (k : ℕ) (z : ℤ) → k ≤ 8 → Signed 64 z → take k (to_le_bytes w64 (of_z w64 z)) ≡ bytes_of k z
le_bytes k z h s =
    let n = of_z w64 z in
    let e : k + (8 - k) ≡ 8 = omega arith in
    let all : to_le_bytes w64 n ≡ digits_of 256 k n ++ digits_of 256 (8 - k) (n / 256 ^ k) =
    low-first 0 8 n ∙ rw (pow-zero 256, div-one n) (ap (λ (j : ℕ). digits_of 256 j n) (sym e) ∙ digits_append 256 k (8 - k) n) in
    let l = digits-length 256 k n in
    ap (take k) all
    ∙ (rw l at (take-append_seam (digits_of 256 k n) (digits_of 256 (8 - k) (n / 256 ^ k))))
    ∙ ap (digits_of 256 k) (sym (residue-of_z z s))
    ∙ bytes_low (64 - 8 * k) k z (omega arith)

pub bytes_lt : (k : ℕ) (z : ℤ) → Below 256 (bytes_of k z)
unfolding bytes_of
bytes_lt k z = digits_lt 256 k (residue (8 * k) z) (omega arith)

pub bytes-value : (k : ℕ) (z : ℤ) → value_of 256 (bytes_of k z) ≡ residue (8 * k) z
unfolding bytes_of
bytes-value k z = digits_value 256 k (residue (8 * k) z) (rw (pow-bytes k) (residue-lt (8 * k) z))

pub bytes_signed : (k : ℕ) (z : ℤ) → 0 < k → Signed (8 * k) z → signed (8 * k) (value_of 256 (bytes_of k z)) ≡ z
bytes_signed k z p h = rw (bytes-value k z) (signed-residue (8 * k) (omega arith) z h)

pub bytes_unsigned : (k n : ℕ) → n < 2 ^ (8 * k) → value_of 256 (bytes_of k (pos n)) ≡ n
unfolding residue
bytes_unsigned k n h = bytes-value k (pos n) ∙ mod-eq_of_lt h

-- the bytes of a number, wherever they stand, are read as the number
module _ (k : ℕ) (before after : List ℕ) (z : ℤ) where
  bytes_fit : length before + k ≤ length (before ++ bytes_of k z ++ after)
  bytes_fit =
      rw (length-append (before ++ bytes_of k z) after, length-append before (bytes_of k z))
      (omega (arith, bytes-length k z))

  pub bits_at-bytes : bits_at k (before ++ bytes_of k z ++ after) (length before) ≡ value_of 256 (bytes_of k z)
  bits_at-bytes = rw (bytes-length k z) at (bits_at-seam before (bytes_of k z) after)

pub signed_at-bytes : (k : ℕ) (before after : List ℕ) (z : ℤ) → 0 < k → Signed (8 * k) z
    → signed_at k (before ++ bytes_of k z ++ after) (length before) ≡ Some z
signed_at-bytes k before after z p h =
    signed_at-whole k (before ++ bytes_of k z ++ after) (length before) (bytes_fit k before after z)
    ∙ ap Some (rw (bits_at-bytes k before after z) (bytes_signed k z p h))

pub unsigned_at-bytes : (k : ℕ) (before after : List ℕ) (n : ℕ) → n < 2 ^ (8 * k)
    → unsigned_at k (before ++ bytes_of k (pos n) ++ after) (length before) ≡ Some (pos n)
unsigned_at-bytes k before after n h =
    unsigned_at-whole k (before ++ bytes_of k (pos n) ++ after) (length before) (bytes_fit k before after (pos n))
    ∙ ap (λ (m : ℕ). Some (pos m)) (rw (bits_at-bytes k before after (pos n)) (bytes_unsigned k n h))
