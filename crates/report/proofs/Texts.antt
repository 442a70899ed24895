-- Texts written one after the other, and how long the parts of a page are.
-- Assumes nothing.
use Rattle.std.proofs.Common.{Option, SFits, unwrap_or, w64}
use mathlib.Core.Path.{◌≡◌, refl, sym, ap, ◌∙◌}
use mathlib.Core.Bool.{true}
use mathlib.Core.List.{List, ◌++◌, append_assoc}
use Prim.Native.Nat.{ℕ, suc, ◌+◌, ◌-◌, ◌^◌, ◌<◌, ◌≤◌}
use native.Mathlib.Omega.{arith}
use lib.IntN.{ℤ, pos, negsuc}
use lib.Signed.{mag}
use lib.ListN.{length, take, drop, length-append}
use lib.Seq.{drop-drop}
use borrow.Rule.Slice.PartMut.{put_mid}
use Rattle.word.specs.Lay.{laid_at}
use Rattle.word.specs.Text.{digit_count, natural, decimal, hexadecimal, put_answer, put_out}
use Rattle.word.proofs.Lay.{laid_at-append, length-laid_at}
use Rattle.word.proofs.Laws.Numeral.{numeral-length, digit_count-le, digit_count-within}
use Rattle.word.proofs.Laws.Text.{put-room}
use Rattle.program.specs.Command.{is_page}
use Rattle.program.proofs.Ranges.{page-digits}
use Rattle.machine.specs.declared.Kind.{Kind}
use Rattle.machine.specs.declared.Kind.TheVariants.{Number, End}
use Rattle.machine.specs.Atom.{Line}
use Rattle.report.specs.Lines.{space, newline, job_word, refused_word, job_text, refused_text, page_text, head_text, line_text}
use Rattle.report.specs.Written.{Written}

-- ════════════════════════════════════════════════════════════════════════════════════════════
-- Writing
-- ════════════════════════════════════════════════════════════════════════════════════════════

pub natural-short : (n : ℕ) → length (natural n) ≤ 20
unfolding natural
natural-short n = omega (arith, numeral-length 10 (digit_count 10 19 n) n, digit_count-le 10 19 n)

-- a word has at most 19 digits, and a sign before them
pub decimal-short : (z : ℤ) → mag z < 2 ^ 63 → length (decimal z) ≤ 20
unfolding decimal natural
decimal-short (pos n) h = natural-short n
decimal-short (negsuc n) h =
    omega (arith, numeral-length 10 (digit_count 10 19 (suc n)) (suc n), digit_count-within 10 19 18 (suc n) (omega arith))

pub hexadecimal-length : (n : ℕ) → length (hexadecimal n) ≡ 8
unfolding hexadecimal
hexadecimal-length n = numeral-length 16 8 n

-- a text for which there is room
pub written-put : (text old : List ℕ) (at : ℕ) (put : Option ℕ) (next : ℕ) (new : List ℕ) → at + length text ≤ length old
    → put ≡ put_answer at text old → new ≡ put_out at text old → next ≡ unwrap_or put at → Written text old at next new
written-put text old at put next new h p q r =
    let room = put-room at (length text) text old refl h in
    record { end = r ∙ ap (λ x. unwrap_or x at) (p ∙ room.0); space = q ∙ room.1 }

-- bytes in the place of as many
pub written_part : (at : ℕ) (text old : List ℕ) → at + length text ≤ length old
    → Written text old at (at + length text) (put_mid at (at + length text - at) old text)
unfolding laid_at
written_part at text old h =
    let size : at + length text - at ≡ length text = omega arith in
    record { end = refl; space = rw (size, drop-drop (length text) at old) (sym (append_assoc (take at old) text (drop (at + length text) old))) }

pub written_natural : (n : ℕ) (old : List ℕ) (at : ℕ) (put : Option ℕ) (next : ℕ) (new : List ℕ) → at + 20 ≤ length old
    → put ≡ put_answer at (natural n) old → new ≡ put_out at (natural n) old → next ≡ unwrap_or put at → Written (natural n) old at next new
written_natural n old at put next new h = written-put (natural n) old at put next new (omega (arith, natural-short n, h))

pub written_decimal : (z : ℤ) (old : List ℕ) (at : ℕ) (put : Option ℕ) (next : ℕ) (new : List ℕ) → SFits w64 z → at + 20 ≤ length old
    → put ≡ put_answer at (decimal z) old → new ≡ put_out at (decimal z) old → next ≡ unwrap_or put at → Written (decimal z) old at next new
written_decimal z old at put next new f h = written-put (decimal z) old at put next new (omega (arith, decimal-short z f.sfits, h))

pub written_hexadecimal : (n : ℕ) (old : List ℕ) (at : ℕ) (put : Option ℕ) (next : ℕ) (new : List ℕ) → at + 8 ≤ length old
    → put ≡ put_answer at (hexadecimal n) old → new ≡ put_out at (hexadecimal n) old → next ≡ unwrap_or put at → Written (hexadecimal n) old at next new
written_hexadecimal n old at put next new h = written-put (hexadecimal n) old at put next new (omega (arith, hexadecimal-length n, h))

-- a text and then another
pub written-append : (xs ys old mid new : List ℕ) (at p q : ℕ) → at + length xs ≤ length old
    → Written xs old at p mid → Written ys mid p q new → Written (xs ++ ys) old at q new
written-append xs ys old mid new at p q h a b =
    let e : q ≡ at + (length xs + length ys) = let x = a.end in let y = b.end in omega arith in
    record {
      end = e ∙ ap (λ n. at + n) (sym (length-append xs ys));
      space =
          b.space
          ∙ ap (λ n. laid_at n ys mid) a.end
          ∙ ap (λ (l : List ℕ). laid_at (at + length xs) ys l) a.space
          ∙ sym (laid_at-append at xs ys old h);
    }

-- what room there is after it
pub written-room : {text old new : List ℕ} {at next : ℕ} (m k : ℕ) → length text ≤ m → at + (m + k) ≤ length old
    → Written text old at next new → next + k ≤ length new
written-room {text} {old} {new} {at} {next} m k l h w =
    let n = w.end in
    omega (arith, ap length w.space, length-laid_at at text old (omega arith))

-- ════════════════════════════════════════════════════════════════════════════════════════════
-- Lengths
-- ════════════════════════════════════════════════════════════════════════════════════════════

-- a number, or `end`
pub head-short : (k : Kind) (z : ℤ) → mag z < 2 ^ 63 → length (head_text k z) ≤ 20
head-short Number z h = decimal-short z h
head-short End z h = omega arith

-- a page has at most two digits
pub page-short : (z : ℤ) → is_page z ≡ true → length (page_text z) ≤ 3
unfolding page_text
page-short z h = simp length-append (omega (arith, page-digits z h))

pub line-short : (x : Line) → is_page x.page ≡ true → mag x.number < 2 ^ 63 → length (line_text x) ≤ 33
unfolding line_text
line-short x p h =
    simp length-append
    (omega (arith, page-short x.page p, head-short x.kind x.number h, hexadecimal-length x.label))

-- ════════════════════════════════════════════════════════════════════════════════════════════
-- The messages and a line, part by part
-- ════════════════════════════════════════════════════════════════════════════════════════════

pub written-job : (offset : ℕ) (o₀ o₁ o₂ o₃ : List ℕ) (a b c : ℕ) → 30 ≤ length o₀
    → Written (job_word ++ space) o₀ 0 a o₁ → Written (natural offset) o₁ a b o₂ → Written newline o₂ b c o₃
    → Written (job_text offset) o₀ 0 c o₃
unfolding job_text
written-job offset o₀ o₁ o₂ o₃ a b c h x y z =
    let n = natural-short offset in
    written-append (job_word ++ space ++ natural offset) newline o₀ o₂ o₃ 0 b c (simp length-append (omega arith))
    (written-append (job_word ++ space) (natural offset) o₀ o₁ o₂ 0 a b (omega arith) x y) z

pub written-refused : (number place : ℕ) (o₀ o₁ o₂ o₃ o₄ o₅ : List ℕ) (a b c d e : ℕ) → 60 ≤ length o₀
    → Written (refused_word ++ space) o₀ 0 a o₁ → Written (natural number) o₁ a b o₂ → Written space o₂ b c o₃
    → Written (natural place) o₃ c d o₄ → Written newline o₄ d e o₅ → Written (refused_text number place) o₀ 0 e o₅
unfolding refused_text
written-refused number place o₀ o₁ o₂ o₃ o₄ o₅ a b c d e h v w x y z =
    let n = natural-short number in
    let p = natural-short place in
    let two = written-append (refused_word ++ space) (natural number) o₀ o₁ o₂ 0 a b (omega arith) v w in
    let three = written-append (refused_word ++ space ++ natural number) space o₀ o₂ o₃ 0 b c (simp length-append (omega arith)) two x in
    let four =
    written-append (refused_word ++ space ++ natural number ++ space) (natural place) o₀ o₃ o₄ 0 c d
    (simp length-append (omega arith)) three y in
    written-append (refused_word ++ space ++ natural number ++ space ++ natural place) newline o₀ o₄ o₅ 0 d e
    (simp length-append (omega arith)) four z

pub written-line : (x : Line) (o₀ o₁ o₂ o₃ o₄ o₅ : List ℕ) (at p a b c d : ℕ) → is_page x.page ≡ true → mag x.number < 2 ^ 63
    → at + 33 ≤ length o₀ → Written (page_text x.page) o₀ at p o₁ → Written (head_text x.kind x.number) o₁ p a o₂
    → Written space o₂ a b o₃ → Written (hexadecimal x.label) o₃ b c o₄ → Written newline o₄ c d o₅
    → Written (line_text x) o₀ at d o₅
unfolding line_text
written-line l o₀ o₁ o₂ o₃ o₄ o₅ at p a b c d g f h v w x y z =
    let page = page_text l.page in
    let first = head_text l.kind l.number in
    let label = hexadecimal l.label in
    let m = page-short l.page g in
    let n = head-short l.kind l.number f in
    let k = hexadecimal-length l.label in
    let one = written-append page first o₀ o₁ o₂ at p a (omega arith) v w in
    let two = written-append (page ++ first) space o₀ o₂ o₃ at a b (simp length-append (omega arith)) one x in
    let three = written-append (page ++ first ++ space) label o₀ o₃ o₄ at b c (simp length-append (omega arith)) two y in
    written-append (page ++ first ++ space ++ label) newline o₀ o₄ o₅ at c d
    (simp length-append (omega arith)) three z
