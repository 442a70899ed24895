-- What is listed of commands that can be written is read as these commands.
-- Assumes nothing.
use mathlib.Core.Path.{◌≡◌, refl, ap, ◌∙◌}
use mathlib.Core.Bool.{true}
use mathlib.Core.List.{List, [], ◌∷◌, ◌++◌, map, append-nil}
use Prim.Native.Nat.{ℕ, zero, suc, ◌≤◌}
use native.Mathlib.Omega.{arith}
use lib.IntN.{ℤ, pos}
use lib.ListN.{length}
use Rattle.word.specs.Text.{decimal}
use Rattle.program.specs.declared.Command.{Command}
use Rattle.program.specs.declared.Operand.{Operand}
use Rattle.program.specs.declared.Operand.TheVariants.{Signed, Page, Counts}
use Rattle.program.specs.Command.{Opcode, operand_of, width, operand_width, is_counts, arguments_of, results_of, opcode, operand, command}
use Rattle.program.specs.Name.{letters}
use Rattle.program.specs.Decode.{accepted, command_limit}
use Rattle.program.specs.Encode.{Fits, Writable, AllWritable}
use Rattle.program.proofs.Codes.{command-whole}
use Rattle.program.proofs.Counting.{word-range, word_counts}
use Rattle.program.proofs.Spelling.{named-letters}
use Rattle.program.proofs.Ranges.{fits-none, fits_word, fits-range}
use Rattle.assembly.specs.Assembly.{newline, space, cut, lines_of, words_of, says, read_one, read_operands, read_line}
use Rattle.assembly.specs.Assembly.{read_from, read_text, operand_text, line_text, listing}
use Rattle.assembly.proofs.Numerals.{decimal-letters, number-decimal}
use Rattle.assembly.proofs.Cutting.{without, without-append, without-letters, cut-first, cut_word}
use Rattle.assembly.proofs.Rows.{letters-without}

-- ════════════════════════════════════════════════════════════════════════════════════════════
-- A line
-- ════════════════════════════════════════════════════════════════════════════════════════════

-- no separator in a number
decimal-without : (separator : ℕ) (z : ℤ) → separator ≤ 32 → without separator (decimal z) ≡ true
decimal-without separator z h = without-letters separator (decimal z) h (decimal-letters z)

-- the words after the name
abbrev pub operand_words : Operand → ℤ → List (List ℕ)
operand_words (Signed zero) z = []
operand_words (Signed (suc k)) z = decimal z ∷ []
operand_words Page z = decimal z ∷ []
operand_words Counts z = decimal (pos (arguments_of z)) ∷ decimal (pos (results_of z)) ∷ []

number-words : (z : ℤ) → words_of (decimal z) ≡ decimal z ∷ []
number-words z = cut_word space (decimal z) (decimal-without space z (omega arith))

pub text-words : (o : Opcode) (x : Operand) (z : ℤ) → words_of (letters o ++ operand_text x z) ≡ letters o ∷ operand_words x z
text-words o x z = by x
  where
    -- words after the name
    after : (t : List ℕ) (ws : List (List ℕ)) → words_of t ≡ ws → words_of (letters o ++ space ∷ t) ≡ letters o ∷ ws
    after t ws e =
        cut-first space ([] ∷ []) (letters o) t (letters-without space o (omega arith)) ∙ ap (λ (l : List (List ℕ)). letters o ∷ l) e

    by : (x : Operand) → words_of (letters o ++ operand_text x z) ≡ letters o ∷ operand_words x z
    by (Signed zero) = rw (append-nil (letters o)) (cut_word space (letters o) (letters-without space o (omega arith)))
    by (Signed (suc k)) = after (decimal z) _ (number-words z)
    by Page = after (decimal z) _ (number-words z)
    by Counts =
        let a = decimal (pos (arguments_of z)) in
        let d = decimal (pos (results_of z)) in
        after (a ++ space ∷ d) _
        (cut-first space ([] ∷ []) a d (decimal-without space (pos (arguments_of z)) (omega arith))
        ∙ ap (λ (ws : List (List ℕ)). a ∷ ws) (number-words (pos (results_of z))))

-- an operand that fits has at least one number, of at most 64 bits, and is in range
module _ (o : Opcode) (z : ℤ) (w : Fits (operand_of o) z) where
  one-read : (k : ℕ) → operand_width o ≡ suc k → read_one o (decimal z ∷ []) ≡ says (command o z)
  one-read k e = rw (number-decimal z (fits_word o z w), fits-range o z k e w)

  words-read : (x : Operand) → operand_of o ≡ x → read_operands o x (operand_words x z) ≡ says (command o z)
  words-read (Signed zero) e = rw (fits-none o z (ap width e) w)
  words-read (Signed (suc k)) e = one-read k (ap width e)
  words-read Page e = one-read 0 (ap width e)
  words-read Counts e =
      let i : is_counts z ≡ true = rw e at w in
      let (f, g) = word-range z i in
      rw (
        number-decimal (pos (arguments_of z)) (omega arith),
        number-decimal (pos (results_of z)) (omega arith),
        word_counts z i,
        fits-range o z 1 (ap width e) w,
      )

-- the line of a command is read as the command
pub line_read : (c : Command) → Writable c → read_line (line_text c) ≡ says c
line_read c w =
    let o = opcode c in
    let z = operand c in
    let x = operand_of o in
    rw (text-words o x z, named-letters o) (words-read o z w x refl ∙ ap says (command-whole c))

-- ════════════════════════════════════════════════════════════════════════════════════════════
-- A text
-- ════════════════════════════════════════════════════════════════════════════════════════════

operand-lineless : (x : Operand) (z : ℤ) → without newline (operand_text x z) ≡ true
operand-lineless (Signed zero) z = refl
operand-lineless (Signed (suc k)) z = decimal-without newline z (omega arith)
operand-lineless Page z = decimal-without newline z (omega arith)
operand-lineless Counts z =
    let a = pos (arguments_of z) in
    let d = pos (results_of z) in
    without-append newline (space ∷ decimal a) (space ∷ decimal d) (decimal-without newline a (omega arith))
    (decimal-without newline d (omega arith))

pub line-lineless : (c : Command) → without newline (line_text c) ≡ true
line-lineless c =
    let o = opcode c in
    without-append newline (letters o) (operand_text (operand_of o) (operand c)) (letters-without newline o (omega arith))
    (operand-lineless (operand_of o) (operand c))

pub listing-lines : (cs : List Command) → lines_of (listing cs) ≡ map line_text cs
unfolding listing cut
listing-lines [] = refl
listing-lines (c ∷ cs) =
    cut-first newline [] (line_text c) (listing cs) (line-lineless c) ∙ ap (λ (ls : List (List ℕ)). line_text c ∷ ls) (listing-lines cs)

texts-read : (cs : List Command) (left number : ℕ) → length cs ≤ left → AllWritable cs
    → read_from left number (map line_text cs) ≡ accepted cs
unfolding read_from
texts-read [] zero number h w = refl
texts-read [] (suc left) number h w = refl
texts-read (c ∷ cs) zero number h w = absurd (omega arith)
texts-read (c ∷ cs) (suc left) number h w =
    rw (line_read c w.0, texts-read cs left (suc number) (omega arith) w.1)

-- at most 4,096 commands that are listed are read
pub listing-read : (cs : List Command) → length cs ≤ command_limit → AllWritable cs → read_text (listing cs) ≡ accepted cs
unfolding read_text
listing-read cs h w = rw (listing-lines cs) (texts-read cs command_limit 1 h w)
