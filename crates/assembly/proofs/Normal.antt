-- What is read of a text are commands that can be written; and a normal text that is read is what is listed of its commands.
-- Assumes nothing.
use Rattle.std.proofs.Common.{None, Option, Some}
use mathlib.Core.Path.{◌≡◌, refl, ap, ◌∙◌}
use mathlib.Core.Bool.{Bool, true, false, ◌&&◌}
use mathlib.Core.List.{List, [], ◌∷◌, ◌++◌, map, append-nil}
use Prim.Native.Nat.{ℕ, zero, suc, ◌≤◌}
use native.Mathlib.Omega.{arith}
use lib.IntN.{ℤ, pos}
use lib.ListN.{length, length-append}
use Rattle.word.specs.Choose.{choose}
use Rattle.word.specs.Text.{decimal}
use Rattle.word.specs.Numeral.{number_of}
use Rattle.word.specs.Wrap.{Signed}
use Rattle.word.proofs.Bool.{never, and_first, and_second}
use Rattle.program.specs.declared.Command.{Command}
use Rattle.program.specs.declared.Operand.{Operand}
use Rattle.program.specs.declared.Operand.TheVariants.{Counts}
use Rattle.program.specs.Command.{Opcode, operand_of, width, counts, arguments_of, results_of, is_counts, in_range, opcode, operand, command}
use Rattle.program.specs.Name.{letters, opcode_named}
use Rattle.program.specs.Decode.{Decoded, refused, accepted, prepend, command_limit}
use Rattle.program.specs.Encode.{Fits, Writable, AllWritable}
use Rattle.program.proofs.Codes.{opcode-command, operand-command}
use Rattle.program.proofs.Counting.{counts-both, word-range}
use Rattle.program.proofs.Naming.{name-long}
use Rattle.program.proofs.Spelling.{letters-named}
use Rattle.program.proofs.Ranges.{fits-none, none-fits, fits_word, range-fits}
use Rattle.assembly.specs.Assembly.{newline, space, lines_of, words_of, Line, malformed, outside, says}
use Rattle.assembly.specs.Assembly.{read_number, read_one, read_counts, read_two, read_operands, read_named, read_words, read_line}
use Rattle.assembly.specs.Assembly.{read_first, read_from, read_text}
use Rattle.assembly.specs.Assembly.{operand_text, opcode_text, line_text, listing}
use Rattle.assembly.specs.Claim.{plain_operand, plain_operands, plain_words, plain_lines, ended, Normal}
use Rattle.assembly.proofs.Numerals.{decimal-plain, plain-decimal}
use Rattle.assembly.proofs.Cutting.{spaced, words_back, lined, lines-back}
use Rattle.assembly.proofs.Round.{operand_words, text-words, listing-lines}

-- ════════════════════════════════════════════════════════════════════════════════════════════
-- A line that says a command
-- ════════════════════════════════════════════════════════════════════════════════════════════

-- words that say a command: its operand fits, and if they are plain, they are the command's line
abbrev Said : List (List ℕ) → Command → Type 0
Said ws c = Writable c × (plain_words ws ≡ true → line_text c ≡ spaced space ws)

-- by an opcode and an operand that make the command
said-parts : (o : Opcode) (z : ℤ) (ws : List (List ℕ)) (c : Command) → c ≡ command o z → Fits (operand_of o) z
    → (plain_words ws ≡ true → opcode_text o z ≡ spaced space ws) → Said ws c
said-parts o z ws c e w t =
    let p = opcode-command o z in
    let q = operand-command o z (λ k. fits-none o z k w) in
    rw (e, p, q) (w, t)

number-said : (o : Opcode) (x : Option ℤ) (c : Command) → read_number o x ≡ says c
    → (z : ℤ) × (x ≡ Some z) × (in_range o z ≡ true) × (c ≡ command o z)
number-said o None c e = never (cc)
number-said o (Some z) c e = by (in_range o z) refl e
  where
    by : (t : Bool) → in_range o z ≡ t → choose t (says (command o z)) outside ≡ says c
        → (y : ℤ) × (Some z ≡ Some y) × (in_range o y ≡ true) × (c ≡ command o y)
    by true f e = (z, refl, f, cc)
    by false f e = never (cc)

-- two numbers that are read are the two counts of a word in range
counts-said : (o : Opcode) (x y : Option ℤ) (c : Command) → operand_of o ≡ Counts → read_counts o x y ≡ says c
    → (z : ℤ) × (x ≡ Some (pos (arguments_of z))) × (y ≡ Some (pos (results_of z))) × (in_range o z ≡ true) × (c ≡ command o z)
counts-said o None y c k e = never (cc)
counts-said o (Some a) None c k e = never (cc)
counts-said o (Some a) (Some d) c k e =
    let (z, n, i, m) = number-said o (Some (counts a d)) c e in
    let l : counts a d ≡ z = cc in
    let (p, q) = counts-both a d (ap is_counts l ∙ rw k at i) in
    (z, ap Some (p ∙ ap (λ w. pos (arguments_of w)) l), ap Some (q ∙ ap (λ w. pos (results_of w)) l), i, m)

module _ (o : Opcode) (name : List ℕ) (c : Command) (f : letters o ≡ name) where
  -- one number
  one-said : (ws : List (List ℕ)) → ((z : ℤ) → operand_text (operand_of o) z ≡ space ∷ decimal z) → read_one o ws ≡ says c → Said (name ∷ ws) c
  one-said [] t r = never (cc)
  one-said (w ∷ []) t r =
      let (z, n, i, d) = number-said o (number_of w) c r in
      let s = range-fits o z i in
      said-parts o z (name ∷ w ∷ []) c d s
      (λ p. rw (t z, f, plain-decimal w z n (fits_word o z s) (and_first (plain_operand w) true p)))
  one-said (w ∷ v ∷ ws) t r = never (cc)

  -- two
  two_said : (ws : List (List ℕ)) → operand_of o ≡ Counts → read_two o ws ≡ says c → Said (name ∷ ws) c
  two_said [] k r = never (cc)
  two_said (w ∷ []) k r = never (cc)
  two_said (w ∷ v ∷ []) k r =
      let (z, m, n, i, d) = counts-said o (number_of w) (number_of v) c k r in
      let s = range-fits o z i in
      let (g, h) = word-range z (rw k at i) in
      said-parts o z (name ∷ w ∷ v ∷ []) c d s
      (λ p. rw (
        k,
        f,
        plain-decimal w (pos (arguments_of z)) m (omega arith) (and_first (plain_operand w) (plain_operand v && true) p),
        plain-decimal v (pos (results_of z)) n (omega arith)
            (and_first (plain_operand v) true (and_second (plain_operand w) (plain_operand v && true) p)),
      ))
  two_said (w ∷ v ∷ u ∷ ws) k r = never (cc)

  operands-said : (x : Operand) (ws : List (List ℕ)) → operand_of o ≡ x → read_operands o x ws ≡ says c → Said (name ∷ ws) c
  operands-said (Operand.Signed zero) [] e r =
      said-parts o (pos 0) (name ∷ []) c (cc) (none-fits o (pos 0) (ap width e) refl) (λ p. rw (e, append-nil (letters o)) f)
  operands-said (Operand.Signed zero) (w ∷ ws) e r = never (cc)
  operands-said (Operand.Signed (suc k)) ws e r = one-said ws (λ z. rw e) r
  operands-said Operand.Page ws e r = one-said ws (λ z. rw e) r
  operands-said Operand.Counts ws e r = two_said ws e r

named-said : (x : Option Opcode) (name : List ℕ) (ws : List (List ℕ)) (c : Command) → opcode_named name ≡ x → read_named x ws ≡ says c
    → Said (name ∷ ws) c
named-said None name ws c e r = never (cc)
named-said (Some o) name ws c e r = operands-said o name c (letters-named name o e) (operand_of o) ws refl r

words-said : (ws : List (List ℕ)) (c : Command) → read_words ws ≡ says c → Said ws c
words-said [] c r = never (cc)
words-said (name ∷ ws) c r = named-said (opcode_named name) name ws c refl r

-- a line that says a command has the name's letters
named-long : (x : Option Opcode) (name : List ℕ) (ws : List (List ℕ)) (c : Command) → opcode_named name ≡ x → read_named x ws ≡ says c
    → 3 ≤ length name
named-long None name ws c e r = never (cc)
named-long (Some o) name ws c e r = rw (← letters-named name o e) (name-long o)

words_long : (ws : List (List ℕ)) (c : Command) → read_words ws ≡ says c → 3 ≤ length (spaced space ws)
words_long [] c r = never (cc)
words_long (name ∷ []) c r = named-long (opcode_named name) name [] c refl r
words_long (name ∷ w ∷ ws) c r =
    omega (
      arith,
      length-append name (space ∷ spaced space (w ∷ ws)),
      named-long (opcode_named name) name (w ∷ ws) c refl r,
    )

pub line-long : (l : List ℕ) (c : Command) → read_line l ≡ says c → 3 ≤ length l
line-long l c r = rw (words_back space l) at (words_long (words_of l) c r)

line-writable : (l : List ℕ) (c : Command) → read_line l ≡ says c → Writable c
line-writable l c r = (words-said (words_of l) c r).0

line_plain : (l : List ℕ) (c : Command) → read_line l ≡ says c → plain_words (words_of l) ≡ true → line_text c ≡ l
line_plain l c r p = (words-said (words_of l) c r).1 p ∙ words_back space l

-- ════════════════════════════════════════════════════════════════════════════════════════════
-- The commands that were read
-- ════════════════════════════════════════════════════════════════════════════════════════════

-- at most so many, they can be written, and if the lines are plain, they are what is listed
abbrev Read : ℕ → List (List ℕ) → Decoded → Type 0
Read left ls (refused r) = Unit {0}
Read left ls (accepted cs) = (length cs ≤ left) × AllWritable cs × (plain_lines ls ≡ true → listing cs ≡ lined ls)

prepend-read : (left : ℕ) (l : List ℕ) (ls : List (List ℕ)) (c : Command) (d : Decoded) → read_line l ≡ says c → Read left ls d
    → Read (suc left) (l ∷ ls) (prepend c d)
unfolding listing
prepend-read left l ls c (refused r) e h = tt
prepend-read left l ls c (accepted cs) e (n, w, t) = (
  omega arith,
  (line-writable l c e, w),
  λ p.
      let q = line_plain l c e (and_first (plain_words (words_of l)) (plain_lines ls) p) in
      rw (q, t (and_second (plain_words (words_of l)) (plain_lines ls) p)),
)

first_read : (left number : ℕ) (l : List ℕ) (ls : List (List ℕ)) (x : Line) (d : Decoded) → read_line l ≡ x → Read left ls d
    → Read (suc left) (l ∷ ls) (read_first x number d)
first_read left number l ls malformed d e h = tt
first_read left number l ls outside d e h = tt
first_read left number l ls (says c) d e h = prepend-read left l ls c d e h

lines-read : (left number : ℕ) (ls : List (List ℕ)) → Read left ls (read_from left number ls)
unfolding read_from listing
lines-read zero number [] = (omega arith, tt, λ p. refl)
lines-read zero number (l ∷ ls) = tt
lines-read (suc left) number [] = (omega arith, tt, λ p. refl)
lines-read (suc left) number (l ∷ ls) =
    first_read left number l ls (read_line l) (read_from left (suc number) ls) refl (lines-read left (suc number) ls)

module _ (text : List ℕ) (cs : List Command) (e : read_text text ≡ accepted cs) where
  text-read : Read command_limit (lines_of text) (accepted cs)
  unfolding read_text
  text-read = rw e at (lines-read command_limit 1 (lines_of text))

  pub read_length : length cs ≤ command_limit
  read_length = text-read.0

  pub read-writable : AllWritable cs
  read-writable = text-read.1

  -- a normal text is what is listed of its commands
  pub normal-listing : Normal text → listing cs ≡ text
  normal-listing n =
      text-read.2 (and_second (ended text) (plain_lines (lines_of text)) n)
      ∙ lines-back text (and_first (ended text) (plain_lines (lines_of text)) n)

-- ════════════════════════════════════════════════════════════════════════════════════════════
-- What is listed is normal
-- ════════════════════════════════════════════════════════════════════════════════════════════

operand-plain : (x : Operand) (z : ℤ) → Fits x z → Signed 64 z → plain_operands (operand_words x z) ≡ true
operand-plain (Operand.Signed zero) z w h = refl
operand-plain (Operand.Signed (suc k)) z w h = rw (decimal-plain z h)
operand-plain Operand.Page z w h = rw (decimal-plain z h)
operand-plain Operand.Counts z w h =
    let (f, g) = word-range z w in
    rw (decimal-plain (pos (arguments_of z)) (omega arith), decimal-plain (pos (results_of z)) (omega arith))

text-plain : (c : Command) → Writable c → plain_words (words_of (line_text c)) ≡ true
text-plain c w =
    let x = operand_of (opcode c) in
    rw (text-words (opcode c) x (operand c)) (operand-plain x (operand c) w (fits_word (opcode c) (operand c) w))

texts-plain : (cs : List Command) → AllWritable cs → plain_lines (map line_text cs) ≡ true
texts-plain [] w = refl
texts-plain (c ∷ cs) w = rw (text-plain c w.0) (texts-plain cs w.1)

-- a newline ends what stands before it
append-ended : (s : List ℕ) (t : List ℕ) → ended t ≡ true → ended (s ++ newline ∷ t) ≡ true
append-ended [] [] e = refl
append-ended [] (c ∷ t) e = e
append-ended (c ∷ []) t e = append-ended [] t e
append-ended (c ∷ d ∷ s) t e = append-ended (d ∷ s) t e

listing-ended : (cs : List Command) → ended (listing cs) ≡ true
unfolding listing
listing-ended [] = refl
listing-ended (c ∷ cs) = append-ended (line_text c) (listing cs) (listing-ended cs)

pub listing-normal : (cs : List Command) → AllWritable cs → Normal (listing cs)
listing-normal cs w = rw (listing-ended cs, listing-lines cs) (texts-plain cs w)
