-- How long a sheet and a listing are: nine bytes a command, 26 characters a line, and a line that has them.
-- Assumes nothing.
use mathlib.Core.Path.{◌≡◌}
use mathlib.Core.List.{List, [], ◌∷◌}
use Prim.Native.Nat.{ℕ, zero, suc, ◌*◌, ◌-◌, ◌^◌, ◌≤◌}
use native.Mathlib.Omega.{arith}
use lib.IntN.{ℤ, pos, negsuc}
use lib.ListN.{length, length-append, replicate}
use borrow.Author.Tests.{lt-ltb}
use Rattle.word.specs.Text.{digit_count, decimal}
use Rattle.word.specs.Wrap.{Signed}
use Rattle.word.proofs.Laws.Field.{bytes-length}
use Rattle.word.proofs.Laws.Decimal.{natural-length, decimal-length}
use Rattle.program.specs.declared.Command.{Command}
use Rattle.program.specs.declared.Command.TheVariants.{Push}
use Rattle.program.specs.declared.Operand.{Operand}
use Rattle.program.specs.Command.{opcode, operand, operand_of, arguments_of, results_of}
use Rattle.program.specs.Name.{letters}
use Rattle.program.specs.Encode.{Fits, Writable, AllWritable, encode_command, encode}
use Rattle.program.proofs.Counting.{word-range}
use Rattle.program.proofs.Encoding.{operand-length}
use Rattle.program.proofs.Ranges.{width-most, fits_word, page-digits}
use Rattle.assembly.specs.Assembly.{newline, space, operand_text, line_text, listing}
use Rattle.assembly.proofs.Rows.{operand_most, line-most}

-- ════════════════════════════════════════════════════════════════════════════════════════════
-- At most
-- ════════════════════════════════════════════════════════════════════════════════════════════

command-length : (c : Command) → length (encode_command c) ≤ 9
command-length c =
    let o = opcode c in omega (arith, operand-length (operand_of o) (operand c), width-most o)

pub encode-length : (cs : List Command) → length (encode cs) ≤ 9 * length cs
unfolding encode
encode-length [] = omega arith
encode-length (c ∷ cs) =
    omega (arith, length-append (encode_command c) (encode cs), command-length c, encode-length cs)

text-length : (x : Operand) (z : ℤ) → Fits x z → Signed 64 z → length (operand_text x z) ≤ operand_most x
text-length (Operand.Signed zero) z w h = omega arith
text-length (Operand.Signed (suc k)) z w h = omega (arith, decimal-length z h)
text-length Operand.Page z w h = omega (arith, page-digits z w)
text-length Operand.Counts z w h =
    let a = arguments_of z in
    let d = results_of z in
    let (f, g) = word-range z w in
    omega (
      arith,
      length-append (space ∷ decimal (pos a)) (space ∷ decimal (pos d)),
      page-digits (pos a) (lt-ltb a 16 f),
      page-digits (pos d) (lt-ltb d 16 (omega arith)),
    )

line-length : (c : Command) → Writable c → length (line_text c) ≤ 25
line-length c w =
    let o = opcode c in
    omega (
      arith,
      length-append (letters o) (operand_text (operand_of o) (operand c)),
      text-length (operand_of o) (operand c) w (fits_word o (operand c) w),
      line-most o,
    )

pub listing-length : (cs : List Command) → AllWritable cs → length (listing cs) ≤ 26 * length cs
unfolding listing
listing-length [] w = omega arith
listing-length (c ∷ cs) w =
    omega (
      arith,
      length-append (line_text c) (newline ∷ listing cs),
      line-length c w.0,
      listing-length cs w.1,
    )

-- ════════════════════════════════════════════════════════════════════════════════════════════
-- As many commands as one likes, each the longest
-- ════════════════════════════════════════════════════════════════════════════════════════════

-- Push of −2^63
abbrev pub longest : Command
longest = Push (negsuc (2 ^ 63 - 1))

abbrev pub longest_of : ℕ → List Command
longest_of n = replicate n longest

pub longest-writable : (n : ℕ) → AllWritable (longest_of n)
longest-writable zero = tt
longest-writable (suc n) = (omega arith, longest-writable n)

pub longest-encoded : (n : ℕ) → length (encode (longest_of n)) ≡ 9 * n
unfolding encode
longest-encoded zero = omega arith
longest-encoded (suc n) =
    omega (arith, length-append (encode_command longest) (encode (longest_of n)), bytes-length 8 (operand longest), longest-encoded n)

longest-decimal : length (decimal (operand longest)) ≡ 20
unfolding decimal digit_count
longest-decimal = omega (arith, natural-length (2 ^ 63))

pub longest-listed : (n : ℕ) → length (listing (longest_of n)) ≡ 26 * n
unfolding listing
longest-listed zero = omega arith
longest-listed (suc n) =
    omega (
      arith,
      length-append (line_text longest) (newline ∷ listing (longest_of n)),
      longest-decimal,
      longest-listed n,
    )
