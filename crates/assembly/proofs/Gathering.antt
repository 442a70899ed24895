-- Reading a text line by line into a space: what is read, before what is still to be read, gives the whole text's commands.
-- Assumes nothing.
use Rattle.std.proofs.Common.{Err}
use mathlib.Core.Path.{◌≡◌, refl, sym, ap, ◌∙◌}
use mathlib.Core.List.{List, [], ◌∷◌, ◌++◌, append-nil}
use Prim.Native.Nat.{ℕ, zero, suc, ◌+◌, ◌-◌, ◌*◌, ◌<◌, ◌≤◌}
use native.Mathlib.Omega.{arith}
use lib.IntN.{ℤ}
use lib.ListN.{length, drop, length-append}
use Rattle.word.specs.Lay.{laid}
use Rattle.word.specs.Text.{put_out}
use Rattle.word.proofs.Bool.{never}
use Rattle.word.proofs.Lay.{laid_at-nil, laid_at-zero, length-laid}
use Rattle.word.proofs.Laws.Text.{put-room}
use Rattle.program.specs.declared.Command.{Command}
use Rattle.program.specs.Command.{opcode_of, code_of, operand_of, operand_width, opcode, operand}
use Rattle.program.specs.Decode.{Decoded, refused, accepted, refusal, command_limit}
use Rattle.program.specs.Encode.{encode_command, encode_code, encode}
use Rattle.program.proofs.Codes.{opcode_of-code_of}
use Rattle.program.proofs.Encoding.{operand-length}
use Rattle.assembly.specs.declared.line.Line.{Line}
use Rattle.assembly.specs.declared.line.Fault.TheVariants.{Malformed, Outside}
use Rattle.assembly.specs.Assembly as Text
use Rattle.assembly.specs.Assembly.{lines_of, read_line, read_first, read_from, read_text, denied, given, result_of, assembled}
use Rattle.assembly.specs.Scan.{reads, first_line, line_to, line_of}
use Rattle.assembly.specs.Space.{Roomy}
use Rattle.assembly.proofs.Bounds.{encode-length}
use Rattle.assembly.proofs.Lines.{lines_next, line-within, lines_end}
use Rattle.assembly.proofs.Normal.{line-long}
use Rattle.assembly.proofs.Progress.{after, after-snoc, after-refused, after-accepted, length-snoc, laid_more, encode_snoc}

-- ════════════════════════════════════════════════════════════════════════════════════════════
-- What the code's line says of the line
-- ════════════════════════════════════════════════════════════════════════════════════════════

line-malformed : (next : ℕ) (x : Text.Line) → line_to next x ≡ Err Malformed → x ≡ Text.malformed
line-malformed next Text.malformed e = refl
line-malformed next Text.outside e = never (cc)
line-malformed next (Text.says c) e = never (cc)

line-outside : (next : ℕ) (x : Text.Line) → line_to next x ≡ Err Outside → x ≡ Text.outside
line-outside next Text.malformed e = never (cc)
line-outside next Text.outside e = refl
line-outside next (Text.says c) e = never (cc)

-- a command, its bytes and the position after its line
record Said (x : Text.Line) (to : ℕ) (code : ℕ) (z : ℤ) (bytes next : ℕ) : Type 0 where
  command : Command
  said : x ≡ Text.says command
  code_is : code ≡ code_of (opcode command)
  operand-is : z ≡ operand command
  bytes-are : bytes ≡ operand_width (opcode command) + 1
  next-is : next ≡ to

abbrev the_line : ℕ → ℤ → ℕ → ℕ → Line
the_line code z bytes next = record { code = code; operand = z; bytes = bytes; next = next }

line-said : (to : ℕ) (x : Text.Line) (code : ℕ) (z : ℤ) (bytes next : ℕ) → line_to to x ≡ reads code z bytes next → Said x to code z bytes next
line-said to Text.malformed code z bytes next e = never (cc)
line-said to Text.outside code z bytes next e = never (cc)
line-said to (Text.says c) code z bytes next e =
    let same : the_line (code_of (opcode c)) (operand c) (operand_width (opcode c) + 1) to ≡ the_line code z bytes next = cc in
    record {
      command = c;
      said = refl;
      code_is = ap (λ (l : Line). l.code) (sym same);
      operand-is = ap (λ (l : Line). l.operand) (sym same);
      bytes-are = ap (λ (l : Line). l.bytes) (sym same);
      next-is = ap (λ (l : Line). l.next) (sym same);
    }

code-encoded : (code : ℕ) (z : ℤ) (c : Command) → code ≡ code_of (opcode c) → z ≡ operand c → encode_code (opcode_of code) z ≡ encode_command c
code-encoded code z c e f = rw (e, f, opcode_of-code_of (opcode c))

-- ════════════════════════════════════════════════════════════════════════════════════════════
-- The loop
-- ════════════════════════════════════════════════════════════════════════════════════════════

-- what is left of a text from a position on, after `count` lines
abbrev pub remaining : List ℕ → ℕ → ℕ → Decoded
remaining s at count = read_from (command_limit - count) (suc count) (lines_of (drop at s))

pub record Gathered (s : List ℕ) (at count size : ℕ) (old new : List ℕ) : Type 0 where
  pub done : List Command
  pub counted : length done ≡ count
  pub few : count ≤ command_limit
  pub behind : 4 * count ≤ at
  pub rest : read_text s ≡ after done (remaining s at count)
  pub sized : size ≡ length (encode done)
  pub roomy : size ≤ length old
  pub held : new ≡ laid (encode done) old

pub gathered-start : (s old : List ℕ) → Gathered s 0 0 0 old old
unfolding read_text encode
gathered-start s old =
    record {
      done = [];
      counted = refl;
      few = omega arith;
      behind = omega arith;
      rest = refl;
      sized = refl;
      roomy = omega arith;
      held = sym (sym (laid_at-zero [] old) ∙ laid_at-nil 0 old);
    }

read-end : (left number : ℕ) → read_from left number [] ≡ accepted []
unfolding read_from
read-end zero number = refl
read-end (suc left) number = refl

module _ {s : List ℕ} {at count size : ℕ} {old new : List ℕ} (g : Gathered s at count size old new) where
  pub gathered-length : length new ≡ length old
  gathered-length = ap length g.held ∙ length-laid (encode g.done) old (omega (arith, g.sized, g.roomy))

  -- all is read
  pub gathered-end : length s ≤ at → assembled s ≡ given (encode g.done)
  unfolding assembled
  gathered-end h =
      let e : remaining s at count ≡ accepted [] =
      ap (read_from (command_limit - count) (suc count)) (lines_end s at h) ∙ read-end (command_limit - count) (suc count) in
      ap (result_of encode) (g.rest ∙ ap (after g.done) e ∙ after-accepted g.done [] ∙ ap accepted (append-nil g.done))

  refused-by : (code position : ℕ) → remaining s at count ≡ refused (refusal code position) → assembled s ≡ denied (refusal code position)
  unfolding assembled
  refused-by code position e =
      ap (result_of encode) (g.rest ∙ ap (after g.done) e ∙ after-refused g.done (refusal code position))

  module _ (h : at < length s) where
    line : List ℕ
    line = first_line (drop at s)

    end : ℕ
    end = at + length line + 1

    pub gathered-limit : count ≡ command_limit → assembled s ≡ denied (refusal 1 4097)
    unfolding read_from
    gathered-limit e =
        let z : command_limit - count ≡ 0 = omega arith in
        refused-by 1 4097 (rw (lines_next s at h, z, e))

    module _ (more : count ≡ command_limit → ⊥) where
      left : ℕ
      left = command_limit - (count + 1)

      -- what is left, by its first line
      first : remaining s at count ≡ read_first (read_line line) (suc count) (read_from left (suc (suc count)) (lines_of (drop end s)))
      unfolding read_from left line end
      first =
          let e : command_limit - count ≡ suc (command_limit - (count + 1)) = omega (arith, g.few) in
          rw (lines_next s at h, e)

      number : suc count ≡ count + 1
      number = omega arith

      pub gathered-malformed : line_of s at ≡ Err Malformed → assembled s ≡ denied (refusal 10 (count + 1))
      unfolding line_of line
      gathered-malformed e =
          refused-by 10 (count + 1) (first ∙ rw (line-malformed _ (read_line (first_line (drop at s))) e, number))

      pub gathered-outside : line_of s at ≡ Err Outside → assembled s ≡ denied (refusal 11 (count + 1))
      unfolding line_of line
      gathered-outside e =
          refused-by 11 (count + 1) (first ∙ rw (line-outside _ (read_line (first_line (drop at s))) e, number))

      module _ {code : ℕ} {z : ℤ} {bytes next : ℕ} (e : line_of s at ≡ reads code z bytes next) where
        said : Said (read_line line) end code z bytes next
        unfolding line_of line end
        said = line-said _ (read_line (first_line (drop at s))) code z bytes next e

        c : Command
        c = said.command

        -- its bytes
        encoded : encode_code (opcode_of code) z ≡ encode_command c
        unfolding c
        encoded = code-encoded code z said.command said.code_is said.operand-is

        command-bytes : length (encode_command c) ≡ bytes
        unfolding c
        command-bytes =
            let d = said.command in ap suc (operand-length (operand_of (opcode d)) (operand d)) ∙ omega (arith, said.bytes-are)

        grown : size + bytes ≡ length (encode (g.done ++ (c ∷ [])))
        grown =
            let k = ap length (encode_snoc g.done c) ∙ length-append (encode g.done) (encode_command c) in
            omega (arith, k, command-bytes, g.sized)

        -- a line with its end has at least four characters
        line-ahead : at + 4 ≤ next
        unfolding end line
        line-ahead = omega (arith, said.next-is, line-long (first_line (drop at s)) said.command said.said)

        line-inside : next ≤ length s + 1
        unfolding end line
        line-inside = omega (arith, said.next-is, line-within s at (omega arith))

        pub gathered-forward : at < next
        gathered-forward = omega (arith, line-ahead)

        pub gathered-room : Roomy s (length old) → size + bytes ≤ length old
        gathered-room r =
            omega (
              arith,
              grown,
              encode-length (g.done ++ (c ∷ [])),
              length-snoc g.done c,
              g.counted,
              r (count + 1) (omega (arith, g.few)) (omega (arith, g.behind, line-ahead, line-inside)),
            )

        following : read_text s ≡ after (g.done ++ (c ∷ [])) (remaining s next (count + 1))
        unfolding c left
        following =
            let ds = g.done ++ (c ∷ []) in
            let tail = read_from left (suc (suc count)) (lines_of (drop end s)) in
            g.rest
            ∙ ap (after g.done) (first ∙ ap (λ (x : Text.Line). read_first x (suc count) tail) said.said)
            ∙ sym (after-snoc g.done c tail)
            ∙ ap (λ (k : ℕ). after ds (read_from left (suc k) (lines_of (drop end s)))) number
            ∙ ap (λ (p : ℕ). after ds (read_from left (suc (count + 1)) (lines_of (drop p s)))) (sym said.next-is)

        pub gathered_next : Roomy s (length old)
            → Gathered s next (count + 1) (size + bytes) old (put_out size (encode_code (opcode_of code) z) new)
        gathered_next r =
            let room = gathered-room r in
            let same = gathered-length in
            let es = encode g.done in
            record {
              done = g.done ++ (c ∷ []);
              counted = omega (arith, length-snoc g.done c, g.counted);
              few = omega (arith, g.few);
              behind = omega (arith, g.behind, line-ahead);
              rest = following;
              sized = grown;
              roomy = room;
              held =
                  ap (λ (t : List ℕ). put_out size t new) encoded
                  ∙ (put-room size bytes (encode_command c) new command-bytes (omega (arith, room, same))).1
                  ∙ laid_more es (encode_command c) old new size g.sized g.held (omega (arith, room, g.sized))
                  ∙ ap (λ (t : List ℕ). laid t old) (sym (encode_snoc g.done c));
            }
