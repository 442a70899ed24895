-- What the end line is for, on pages (specs/Pages.antt). In the text of a line an `n` stands exactly where the line is an end line; so the
-- bytes of a page say whether its view has one, and where.
-- Assumes nothing.
use mathlib.Core.Path.{◌≡◌, refl, sym, ap, subst, ◌∙◌}
use mathlib.Core.Logic.{◌≢◌}
use mathlib.Core.Bool.{Bool, true, false, ◌||◌}
use mathlib.Core.List.{List, [], ◌∷◌, ◌++◌, append-nil, append_assoc}
use Prim.Native.Nat.{ℕ, zero, suc, ◌+◌, ◌%◌, ◌<◌, ◌≤◌}
use native.Mathlib.Omega.{arith}
use lib.IntN.{ℤ, pos, negsuc}
use lib.ListN.{length, length-append}
use lib.Dec.{eqb, ltb}
use borrow.Author.Tests.{ne_eqb, ltb-true}
use Rattle.word.specs.Choose.{choose}
use Rattle.word.specs.Digits.{digits_of}
use Rattle.word.specs.Text.{digit_char, digit_if, numeral, digit_count, natural, decimal, hexadecimal}
use Rattle.word.proofs.Bool.{never}
use Rattle.word.proofs.Laws.Numeral.{numeral-none, numeral-cons, numeral-length}
use Rattle.machine.specs.declared.Kind.{Kind}
use Rattle.machine.specs.declared.Kind.TheVariants.{Number, End}
use Rattle.machine.specs.Atom.{Line, end_line}
use Rattle.machine.specs.State.{stop_number}
use Rattle.machine.specs.Holds.{Each}
use Rattle.machine.specs.Claim.{view}
use Rattle.machine.specs.End.{is_end, has_end, Whole}
use Rattle.machine.specs.End as Views
use Rattle.report.specs.Job.{read_job, sheet_of}
use Rattle.report.specs.Lines.{space, newline, page_text, head_text, line_text}
use Rattle.report.specs.Page.{page_of}
use Rattle.claims.specs.Pages.{reader_of, end_text, Ends, Tells, Complete, Means, Meant}
use Rattle.claims.proofs.Starts.{texts, texts-append, texts-start}
use Rattle.claims.proofs.Private.{runs-complete, runs-whole, runs-meant}
use Rattle.claims.proofs.PagesPrivate.{Shown, shown, pages-related}

-- ════════════════════════════════════════════════════════════════════════════════════════════
-- Texts without an `n`
-- ════════════════════════════════════════════════════════════════════════════════════════════

-- the byte of `n`
abbrev letter : ℕ
letter = 0x6e

abbrev Other : ℕ → Type 0
Other x = x ≢ letter

abbrev Without : List ℕ → Type 0
Without text = Each Other text

without-append : (xs ys : List ℕ) → Without xs → Without ys → Without (xs ++ ys)
without-append [] ys h k = k
without-append (x ∷ xs) ys h k = (h.0, without-append xs ys h.1 k)

-- no digit is one
digit-other : (d : ℕ) → d < 16 → Other (digit_char d)
unfolding digit_char
digit-other d h = go (ltb d 10) refl
  where
    go : (b : Bool) → ltb d 10 ≡ b → Other (digit_if b d)
    go true e f = let k = ltb-true d 10 e in omega arith
    go false e f = omega arith

numeral-without : (b : ℕ) → ((n : ℕ) → n % b < 16) → (k n : ℕ) → Without (numeral b k n)
numeral-without b h zero n = rw (numeral-none b n) tt
numeral-without b h (suc k) n = rw (numeral-cons b k n) (digit-other _ (h _), numeral-without b h k n)

natural-without : (n : ℕ) → Without (natural n)
unfolding natural
natural-without n = numeral-without 10 (λ n. omega arith) (digit_count 10 19 n) n

decimal-without : (z : ℤ) → Without (decimal z)
unfolding decimal
decimal-without (pos n) = natural-without n
decimal-without (negsuc n) = (λ e. omega arith, natural-without (suc n))

hexadecimal-without : (n : ℕ) → Without (hexadecimal n)
unfolding hexadecimal
hexadecimal-without n = numeral-without 16 (λ n. omega arith) 8 n

blank : Without space
blank = (λ f. omega arith, tt)

page-without : (z : ℤ) → Without (page_text z)
unfolding page_text
page-without z = without-append (decimal z) space (decimal-without z) blank

-- nor has a line that is no end line one
line-without : (l : Line) → is_end l.kind ≡ false → Without (line_text l)
unfolding line_text
line-without l e =
    let page = page_text l.page in
    let first = head_text l.kind l.number in
    let label = hexadecimal l.label in
    without-append (page ++ first ++ space ++ label) newline
    (without-append (page ++ first ++ space) label
    (without-append (page ++ first) space
    (without-append page first (page-without l.page) (head l.kind e))
    blank)
    (hexadecimal-without l.label))
    (λ f. omega arith, tt)
  where
    head : (k : Kind) → is_end k ≡ false → Without (head_text k l.number)
    head Number e = decimal-without l.number
    head End e = never (cc)

lines-without : (ls : List Line) → has_end ls ≡ false → Without (texts line_text ls)
lines-without [] e = tt
lines-without (l ∷ ls) e = go (is_end l.kind) refl e (lines-without ls)
  where
    go : (b : Bool) → is_end l.kind ≡ b → (b || has_end ls) ≡ false → (has_end ls ≡ false → Without (texts line_text ls))
        → Without (line_text l ++ texts line_text ls)
    go true f g on = never (cc)
    go false f g on = without-append (line_text l) (texts line_text ls) (line-without l f) (on g)

-- ════════════════════════════════════════════════════════════════════════════════════════════
-- Where the first stands
-- ════════════════════════════════════════════════════════════════════════════════════════════

abbrev first_at : List ℕ → ℕ
first_at [] = 0
first_at (x ∷ xs) = choose (eqb x letter) 0 (suc (first_at xs))

first-after : (xs ys : List ℕ) → Without xs → first_at (xs ++ ys) ≡ length xs + first_at ys
first-after [] ys h = omega arith
first-after (x ∷ xs) ys h = rw (ne_eqb x letter h.0) (omega (arith, first-after xs ys h.1))

first-before : (xs ys : List ℕ) → first_at (xs ++ ys) ≤ length xs + first_at ys
first-before [] ys = omega arith
first-before (x ∷ xs) ys = go (eqb x letter) (first-before xs ys)
  where
    go : (b : Bool) → first_at (xs ++ ys) ≤ length xs + first_at ys
        → choose b 0 (suc (first_at (xs ++ ys))) ≤ suc (length xs) + first_at ys
    go true h = omega arith
    go false h = omega arith

-- the fourth byte of an end line, `0 end` and its label, which has 15
end-first : (label : ℕ) (ys : List ℕ) → first_at (end_text label ++ ys) ≡ 3
unfolding line_text page_text decimal natural numeral digit_count digit_char digits_of
end-first label ys = refl

end-length : (label : ℕ) → length (end_text label) ≡ 15
unfolding line_text page_text decimal natural numeral digit_count digit_char digits_of hexadecimal
end-length label = simp length-append (omega (arith, numeral-length 16 8 label))

-- ════════════════════════════════════════════════════════════════════════════════════════════
-- The page of a view
-- ════════════════════════════════════════════════════════════════════════════════════════════

-- where the bytes of an end line stand in a text, an `n` stands
without_end : (before after : List ℕ) (label : ℕ) → Without (before ++ end_text label ++ after) → ⊥
unfolding line_text page_text decimal natural numeral digit_count digit_char digits_of
without_end [] after label h = h.1.1.1.0 refl
without_end (x ∷ before) after label h = without_end before after label h.1

module _ (v : List Line) where
  abbrev page : List ℕ
  page = texts line_text v

  -- it is the text of an end line of the view
  split-end : (before after : List ℕ) (label : ℕ) → page ≡ before ++ end_text label ++ after → has_end v ≡ true
  split-end before after label e = go (has_end v) refl
    where
      go : (b : Bool) → has_end v ≡ b → b ≡ true
      go true f = refl
      go false f = absurd (without_end before after label (subst Without e (lines-without v f)))

  ends-end : Ends page → has_end v ≡ true
  ends-end (before, label, e) = split-end before [] label (e ∙ sym (append-nil (before ++ end_text label)))

  whole-page : (w : Whole v) → page ≡ texts line_text w.before ++ end_text w.label
  whole-page w =
      ap (texts line_text) w.last ∙ texts-append line_text w.before (end_line w.label ∷ [])
      ∙ ap (λ (t : List ℕ). texts line_text w.before ++ t) (append-nil (end_text w.label))

  -- and the last one
  whole-last : Whole v → (before after : List ℕ) (label : ℕ) → page ≡ before ++ end_text label ++ after → after ≡ []
  whole-last w before after label e =
      let front = texts line_text w.before in
      let at : first_at page ≡ length front + 3 =
      ap first_at (whole-page w ∙ ap (λ (t : List ℕ). front ++ t) (sym (append-nil (end_text w.label))))
      ∙ first-after front (end_text w.label ++ []) (lines-without w.before w.only)
      ∙ ap (λ n. length front + n) (end-first w.label []) in
      let same = e ∙ append_assoc before (end_text label) after in
      let below : first_at page ≤ length before + 3 =
      subst (λ n. first_at page ≤ length before + n) (end-first label after)
      (subst (λ (t : List ℕ). first_at t ≤ length before + first_at (end_text label ++ after)) (sym same)
      (first-before before (end_text label ++ after))) in
      let long : length page ≡ length front + 15 =
      ap length (whole-page w) ∙ length-append front (end_text w.label) ∙ ap (λ n. length front + n) (end-length w.label) in
      let also : length page ≡ length before + (15 + length after) =
      ap length same ∙ length-append before (end_text label ++ after)
      ∙ ap (λ n. length before + n) (length-append (end_text label) after ∙ ap (λ n. n + length after) (end-length label)) in
      none after (omega arith)
    where
      none : (xs : List ℕ) → length xs ≡ 0 → xs ≡ []
      none [] e = refl
      none (x ∷ xs) e = absurd (omega arith)

views-tell : (v w : List Line) → Views.Tells v w → Tells (texts line_text v) (texts line_text w)
views-tell v w t =
    record {
      last = λ before after label e. whole-last v (t.whole (split-end v before after label e)) before after label e;
      start = λ e. texts-start line_text w v (t.start (ends-end v e));
      equal = λ e f. ap (texts line_text) (t.equal (ends-end v e) (ends-end w f));
    }

-- ════════════════════════════════════════════════════════════════════════════════════════════
-- The claims
-- ════════════════════════════════════════════════════════════════════════════════════════════

-- a page that does not end in `end` is of a view without one
unended : (v : List Line) → (Ends (texts line_text v) → ⊥) → (has_end v ≡ true → Whole v) → has_end v ≡ false
unended v never_ends last = go (has_end v) refl
  where
    go : (b : Bool) → has_end v ≡ b → b ≡ false
    go true e = let w = last e in absurd (never_ends (texts line_text w.before, w.label, whole-page v w))
    go false e = refl

pub pages-meant : Meant
pages-meant job e r stopped =
    let s : Shown (read_job job).heard (sheet_of job) (page_of job) = shown job e in
    let v = view (reader_of job) s.lines in
    let same : s.ran ≡ r = let x = sym s.stopped ∙ stopped in cc in
    let means : Views.Means (reader_of job) v (stop_number s.ran.stop) s.ran.machine.label.0 = runs-meant _ _ _ _ _ _ s.by in
    subst (Means job) same
    (record {
      present = λ ends. means.present (ends-end v (subst Ends s.is ends));
      missing =
          λ never_ends.
          means.missing (unended v (subst (λ (p : List ℕ). Ends p → ⊥) s.is never_ends) (runs-whole _ _ _ _ _ _ s.by));
    })

pub pages-complete : Complete
pages-complete = pages-related Views.Tells runs-complete Tells views-tell
