-- The operand of a command at a position of a text is the one that its line says.
-- Assumes nothing.
use Rattle.std.proofs.Common.{Err, None, Option, Result, Some}
use mathlib.Core.Path.{◌≡◌, refl, sym, ap, ◌∙◌}
use mathlib.Core.Bool.{Bool, true, false}
use mathlib.Core.List.{List, [], ◌∷◌}
use Prim.Native.Nat.{ℕ, zero, suc, ◌+◌, ◌^◌, ◌≤◌}
use native.Mathlib.Omega.{arith}
use lib.IntN.{ℤ, pos, negsuc}
use lib.ListN.{length, drop, get_or}
use borrow.Author.Tests.{eq-eqb, ne_eqb, le-ltb, ltb-false}
use Rattle.word.specs.Choose.{choose}
use Rattle.word.specs.Exact.{is_signed, exactly}
use Rattle.word.specs.Number.{index_of}
use Rattle.word.specs.Numeral.{number_of, decimal_to, decimal_at}
use Rattle.word.specs.declared.numeral.Decimal.{Decimal}
use Rattle.word.specs.declared.numeral.Decimal.TheVariants.{Is, Beyond, Missing}
use Rattle.word.proofs.Bool.{never}
use Rattle.program.specs.declared.Operand.{Operand}
use Rattle.program.specs.declared.Operand.TheVariants.{Signed, Page, Counts}
use Rattle.program.specs.Command.{Opcode, code_of, opcode_of, operand_of, width, operand_width, counts, in_range, command}
use Rattle.program.specs.Fetch.{takes_of}
use Rattle.program.proofs.Codes.{opcode_of-code_of, opcode-command, operand-command}
use Rattle.program.proofs.Counting.{arguments-outside, results-outside}
use Rattle.program.proofs.Ranges.{range-word}
use Rattle.assembly.specs.declared.line.Line.{Line}
use Rattle.assembly.specs.declared.line.Fault.{Fault}
use Rattle.assembly.specs.declared.line.Fault.TheVariants.{Malformed}
use Rattle.assembly.specs.Assembly.{words_of, malformed, outside, says, read_number, read_one, read_two, read_counts, read_operands}
use Rattle.assembly.specs.Scan.{number_at, spaced_at, counted, counts_after, operand_at, first_line, line_to}
use Rattle.assembly.proofs.Words.{words-some, drop-after, byte-first}
use Rattle.assembly.proofs.Number.{Spells, missing, stuck, last, more, spells}

-- ════════════════════════════════════════════════════════════════════════════════════════════
-- A number after one space
-- ════════════════════════════════════════════════════════════════════════════════════════════

module _ (s : List ℕ) (n : ℕ) where
  spaced-some : (b : List ℕ) → drop n s ≡ 32 ∷ b → spaced_at s n ≡ decimal_at s (n + 1)
  unfolding spaced_at
  spaced-some b e = rw (eq-eqb (get_or s n 10) 32 (byte-first s n (32 ∷ b) 10 e))

  spaced-none : (get_or s n 10 ≡ 32 → ⊥) → spaced_at s n ≡ Missing
  unfolding spaced_at
  spaced-none h = rw (ne_eqb (get_or s n 10) 32 h)

  -- where there is no space, there is no operand
  pub operand-missing : (get_or s n 10 ≡ 32 → ⊥) → (x : Operand) → operand_at s n x ≡ Missing
  operand-missing h (Signed k) = spaced-none h
  operand-missing h Page = spaced-none h
  operand-missing h Counts = ap (counts_after s) (spaced-none h)

-- ════════════════════════════════════════════════════════════════════════════════════════════
-- A command's number that the line ends after, or does not
-- ════════════════════════════════════════════════════════════════════════════════════════════

-- the position after a number
abbrev NextIs : ℕ → Decimal → Type 0
NextIs next Missing = Unit {0}
NextIs next (Beyond i) = i ≡ next
NextIs next (Is z i) = i ≡ next

next-is : (next : ℕ) (x : Option ℤ) → NextIs next (decimal_to next x)
next-is next (Some z) = refl
next-is next None = refl

next-counted : (next : ℕ) (a : ℤ) (d : Decimal) → NextIs next d → NextIs next (counted a d)
next-counted next a Missing n = tt
next-counted next a (Beyond i) n = n
next-counted next a (Is z i) n = n

abbrev malformed_line : Result Line Fault
malformed_line = Err Malformed

module _ (s : List ℕ) (o : Opcode) (k : ℕ) (wide : operand_width o ≡ suc k) where
  abbrev line_by : Decimal → Result Line Fault
  line_by d = number_at s (code_of o) (suc k + 1) d

  is-line : (z : ℤ) (next : ℕ) → get_or s next 10 ≡ 10 → line_by (Is z next) ≡ line_to (next + 1) (read_number o (Some z))
  is-line z next e = by (in_range o z) refl
    where
      by : (r : Bool) → in_range o z ≡ r → line_by (Is z next) ≡ line_to (next + 1) (choose r (says (command o z)) outside)
      by true g = rw (opcode_of-code_of o, g, e, opcode-command o z, operand-command o z (λ w. absurd (omega arith)), wide)
      by false g = rw (opcode_of-code_of o, g, e)

  beyond-line : (z : ℤ) (next : ℕ) → get_or s next 10 ≡ 10 → in_range o z ≡ false
      → line_by (Beyond next) ≡ line_to (next + 1) (read_number o (Some z))
  beyond-line z next e g = rw (g, e)

  goes-line : (d : Decimal) (next : ℕ) → NextIs next d → (get_or s next 10 ≡ 10 → ⊥) → line_by d ≡ Err Malformed
  goes-line Missing next n h = refl
  goes-line (Beyond i) next n h = rw (n, ne_eqb (get_or s next 10) 10 h)
  goes-line (Is z i) next n h = rw (n, ne_eqb (get_or s next 10) 10 h) (by (takes_of (opcode_of (code_of o)) z))
    where
      by : (t : Bool) → choose t malformed_line malformed_line ≡ malformed_line
      by true = refl
      by false = refl

  -- one number
  one-exact : (z : ℤ) (next : ℕ) → get_or s next 10 ≡ 10 → line_by (decimal_to next (exactly z)) ≡ line_to (next + 1) (read_number o (Some z))
  unfolding exactly
  one-exact z next e = by (is_signed 64 z) refl
    where
      no : is_signed 64 z ≡ false → (r : Bool) → in_range o z ≡ r → r ≡ false
      no f true g = never (let t = range-word o z g in cc)
      no f false g = refl

      by : (t : Bool) → is_signed 64 z ≡ t
          → line_by (decimal_to next (choose t (Some z) None)) ≡ line_to (next + 1) (read_number o (Some z))
      by true f = is-line z next e
      by false f = beyond-line z next e (no f (in_range o z) refl)

  one_none : (w : List ℕ) → number_of w ≡ None → (ws : List (List ℕ)) → read_one o (w ∷ ws) ≡ malformed
  one_none w n [] = rw n
  one_none w n (v ∷ vs) = refl

  one_line : (p : ℕ) (b : List ℕ) → Spells s p b
      → line_by (decimal_at s p) ≡ line_to (p + length (first_line b) + 1) (read_one o (words_of (first_line b)))
  one_line p b (missing e w ws l n) = rw (e, l, one_none w n ws)
  one_line p b (stuck next x e f g w ws l n) =
      ap line_by e ∙ goes-line (decimal_to next x) next (next-is next x) f ∙ sym (rw (l, one_none w n ws))
  one_line p b (last z next e g w l n i) = ap line_by e ∙ one-exact z next g ∙ sym (rw (l, n, i))
  one_line p b (more z next e rest g w l n i) =
      let k = byte-first s next (32 ∷ rest) 10 g in
      let (u, (us, q)) = words-some (first_line rest) in
      ap line_by e ∙ goes-line (decimal_to next (exactly z)) next (next-is next (exactly z)) (λ t. omega arith) ∙ sym (rw (l, q))

-- ════════════════════════════════════════════════════════════════════════════════════════════
-- Two counts
-- ════════════════════════════════════════════════════════════════════════════════════════════

-- what is beyond the words is beyond the counts
index-beyond : (z : ℤ) (n : ℕ) → n ≤ 2 ^ 63 → is_signed 64 z ≡ false → index_of z n ≡ None
unfolding index_of
index-beyond (pos m) n h f = rw (le-ltb m n (omega (arith, ltb-false m (2 ^ 63) f)))
index-beyond (negsuc m) n h f = refl

module _ (s : List ℕ) where
  -- the first count, or −1 for what is beyond the words: with either the word of the two is the same
  first_count : (z : ℤ) (next : ℕ)
      → (a : ℤ) × (counts_after s (decimal_to next (exactly z)) ≡ counted a (spaced_at s next)) × ((d : ℤ) → counts a d ≡ counts z d)
  unfolding exactly
  first_count z next = by (is_signed 64 z) refl
    where
      by : (t : Bool) → is_signed 64 z ≡ t
          → (a : ℤ) × (counts_after s (decimal_to next (choose t (Some z) None)) ≡ counted a (spaced_at s next))
          × ((d : ℤ) → counts a d ≡ counts z d)
      by true f = (z, refl, λ d. refl)
      by false f = (negsuc 0, refl, λ d. arguments-outside z d (index-beyond z 16 (omega arith) f))

  -- without the second there is no word
  second-missing : (next : ℕ) (x : Option ℤ) → (get_or s next 10 ≡ 32 → ⊥) → counts_after s (decimal_to next x) ≡ Missing
  second-missing next (Some z) h = ap (counted z) (spaced-none s next h)
  second-missing next None h = ap (counted (negsuc 0)) (spaced-none s next h)

-- words that are no two counts
module _ (o : Opcode) (w : List ℕ) where
  two-first : number_of w ≡ None → (ws : List (List ℕ)) → read_two o (w ∷ ws) ≡ malformed
  two-first n [] = refl
  two-first n (v ∷ []) = rw n
  two-first n (v ∷ u ∷ us) = refl

  two-second : (v : List ℕ) → number_of v ≡ None → (ws : List (List ℕ)) → read_two o (w ∷ v ∷ ws) ≡ malformed
  two-second v n [] = rw n (by (number_of w))
    where
      by : (x : Option ℤ) → read_counts o x None ≡ malformed
      by None = refl
      by (Some a) = refl
  two-second v n (u ∷ us) = refl

module _ (s : List ℕ) (o : Opcode) (kind : operand_of o ≡ Counts) where
  wide : operand_width o ≡ 2
  wide = ap width kind

  no_word : (z : ℤ) → negsuc 0 ≡ z → in_range o z ≡ false
  no_word z e = rw (← e, kind)

  two-exact : (z a y : ℤ) (next : ℕ) → counts a y ≡ counts z y → get_or s next 10 ≡ 10
      → line_by s o 1 wide (counted a (decimal_to next (exactly y))) ≡ line_to (next + 1) (read_number o (Some (counts z y)))
  unfolding exactly
  two-exact z a y next same e = by (is_signed 64 y) refl
    where
      by : (t : Bool) → is_signed 64 y ≡ t
          → line_by s o 1 wide (counted a (decimal_to next (choose t (Some y) None)))
          ≡ line_to (next + 1) (read_number o (Some (counts z y)))
      by true f = is-line s o 1 wide (counts a y) next e ∙ ap (λ (i : ℤ). line_to (next + 1) (read_number o (Some i))) same
      by false f =
          beyond-line s o 1 wide (counts z y) next e (no_word (counts z y) (results-outside z y (index-beyond y 2 (omega arith) f)))

  second-goes : (a : ℤ) (next : ℕ) (x : Option ℤ) → (get_or s next 10 ≡ 10 → ⊥) → line_by s o 1 wide (counted a (decimal_to next x)) ≡ Err Malformed
  second-goes a next x h =
      goes-line s o 1 wide (counted a (decimal_to next x)) next (next-counted next a (decimal_to next x) (next-is next x)) h

  -- after the first count z, which the word w is
  second-line : (z a : ℤ) (w : List ℕ) → ((d : ℤ) → counts a d ≡ counts z d) → number_of w ≡ Some z → (p : ℕ) (b : List ℕ) → Spells s p b
      → line_by s o 1 wide (counted a (decimal_at s p))
      ≡ line_to (p + length (first_line b) + 1) (read_two o (w ∷ words_of (first_line b)))
  second-line z a w same m p b (missing e v vs l n) = rw (e, l, two-second o w v n vs)
  second-line z a w same m p b (stuck next x e f g v vs l n) =
      ap (λ d. line_by s o 1 wide (counted a d)) e ∙ second-goes a next x f ∙ sym (rw (l, two-second o w v n vs))
  second-line z a w same m p b (last y next e g v l n i) =
      ap (λ d. line_by s o 1 wide (counted a d)) e ∙ two-exact z a y next (same y) g ∙ sym (rw (l, m, n, i))
  second-line z a w same m p b (more y next e rest g v l n i) =
      let k = byte-first s next (32 ∷ rest) 10 g in
      let (u, (us, q)) = words-some (first_line rest) in
      ap (λ d. line_by s o 1 wide (counted a d)) e ∙ second-goes a next (exactly y) (λ t. omega arith) ∙ sym (rw (l, q))

  first-line : (p : ℕ) (b : List ℕ) → Spells s p b
      → line_by s o 1 wide (counts_after s (decimal_at s p)) ≡ line_to (p + length (first_line b) + 1) (read_two o (words_of (first_line b)))
  first-line p b (missing e w ws l n) = rw (e, l, two-first o w n ws)
  first-line p b (stuck next x e f g w ws l n) =
      ap (λ d. line_by s o 1 wide (counts_after s d)) e
      ∙ ap (line_by s o 1 wide) (second-missing s next x g)
      ∙ sym (rw (l, two-first o w n ws))
  first-line p b (last z next e g w l n i) =
      ap (λ d. line_by s o 1 wide (counts_after s d)) e
      ∙ ap (line_by s o 1 wide) (second-missing s next (exactly z) (λ t. omega arith))
      ∙ sym (rw l)
  first-line p b (more z next e rest g w l n i) =
      let (a, q, same) = first_count s z next in
      ap (λ d. line_by s o 1 wide (counts_after s d)) e
      ∙ ap (line_by s o 1 wide) (q ∙ ap (counted a) (spaced-some s next rest g))
      ∙ second-line z a w same n (next + 1) rest (spells s (next + 1) rest (drop-after s next (32 ∷ []) rest g))
      ∙ sym (rw (l, i))

-- ════════════════════════════════════════════════════════════════════════════════════════════
-- The operand after the space, by its kind
-- ════════════════════════════════════════════════════════════════════════════════════════════

module _ (s : List ℕ) (o : Opcode) (n : ℕ) (b : List ℕ) (space : drop n s ≡ 32 ∷ b) where
  spelt : Spells s (n + 1) b
  spelt = spells s (n + 1) b (drop-after s n (32 ∷ []) b space)

  -- what is read there is what the words of the line that begins there say
  pub operand-line : (x : Operand) → operand_of o ≡ x → (width x ≡ 0 → ⊥)
      → number_at s (code_of o) (width x + 1) (operand_at s n x)
      ≡ line_to (n + 1 + length (first_line b) + 1) (read_operands o x (words_of (first_line b)))
  operand-line (Signed zero) e h = absurd (h refl)
  operand-line (Signed (suc k)) e h = rw (spaced-some s n b space) (one_line s o k (ap width e) (n + 1) b spelt)
  operand-line Page e h = rw (spaced-some s n b space) (one_line s o 0 (ap width e) (n + 1) b spelt)
  operand-line Counts e h = rw (spaced-some s n b space) (first-line s o e (n + 1) b spelt)
