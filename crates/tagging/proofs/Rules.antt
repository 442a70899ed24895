-- Consulting the rule memory: from an accepted row, with the handler of a rule table, it answers as the table does.
-- Assumes nothing.
use mathlib.Core.Path.{◌≡◌, refl, sym, ap, ◌∙◌}
use mathlib.Core.Bool.{Bool, true, false, ◌&&◌}
use mathlib.Core.List.{List, [], ◌∷◌}
use Prim.Native.Nat.{ℕ, zero, suc}
use native.Mathlib.Omega.{arith}
use lib.IntN.{ℤ, pos}
use lib.ListN.{length}
use Rattle.word.specs.Number.{same_word}
use Rattle.word.proofs.Bool.{never}
use Rattle.word.proofs.Laws.Test.{same_word_lem, word_same}
use Rattle.program.specs.Command.{code_of}
use Rattle.machine.specs.Rule.{input_word, Key, Verdict, denied, allowed}
use Rattle.machine.specs.Holds.{WellMarked}
use Rattle.machine.proofs.Asked.{marked-has}
use Rattle.engine.proofs.Link.Stack.{low_label-id}
use Rattle.policy.specs.Expression.{Table}
use Rattle.policy.specs.Evaluate.{evaluate}
use Rattle.policy.specs.Write.{TableWritable}
use Rattle.policy.specs.Row.{accepted_row, word, key_row, fault_row}
use Rattle.policy.proofs.Hits.{accepted-hit, hit-accepted}
use Rattle.handler.specs.Kernel.{Result, handle}
use Rattle.handler.specs.Translate.{translate}
use Rattle.handler.specs.Claim.{outcome_of, row_of, Handled}
use Rattle.handler.proofs.Handler.{handler-run}
use Rattle.tagging.specs.Consult.{five_of, matches, ruled, again, faulted, consult_if, consult}
use Rattle.tagging.specs.Claim.{Fits, Ruled}
use Rattle.tagging.proofs.Ruled.{evaluate-range}

-- ════════════════════════════════════════════════════════════════════════════════════════════
-- The words of a row
-- ════════════════════════════════════════════════════════════════════════════════════════════

-- n words from the i-th on
abbrev words_from : (i n : ℕ) → List ℤ → List ℤ
words_from i zero ws = []
words_from i (suc n) ws = word ws i ∷ words_from (suc i) n ws

words-shift : (i n : ℕ) (w : ℤ) (ws : List ℤ) → words_from (suc i) n (w ∷ ws) ≡ words_from i n ws
words-shift i zero w ws = refl
words-shift i (suc n) w ws = ap (λ (x : List ℤ). word ws i ∷ x) (words-shift (suc i) n w ws)

pub words-all : (n : ℕ) (ws : List ℤ) → length ws ≡ n → ws ≡ words_from 0 n ws
words-all zero [] e = refl
words-all zero (w ∷ ws) e = absurd (omega arith)
words-all (suc n) [] e = absurd (omega arith)
words-all (suc n) (w ∷ ws) e = ap (λ (x : List ℤ). w ∷ x) (words-all n ws (omega arith) ∙ sym (words-shift 0 n w ws))

-- ════════════════════════════════════════════════════════════════════════════════════════════
-- Matching
-- ════════════════════════════════════════════════════════════════════════════════════════════

both_true : (a b : Bool) → (a && b) ≡ true → (a ≡ true) × (b ≡ true)
both_true true b e = (refl, e)
both_true false b e = never (cc)

five-same : {a b c d e a' b' c' d' e' : ℤ} (rest : List ℤ) → a ≡ a' → b ≡ b' → c ≡ c' → d ≡ d' → e ≡ e'
    → a ∷ b ∷ c ∷ d ∷ e ∷ rest ≡ a' ∷ b' ∷ c' ∷ d' ∷ e' ∷ rest
five-same rest f g h i j = rw (f, g, h, i, j)

module _ (k : Key) where
  -- seven words match a key exactly where they are a row of it
  pub matches-row : (ws : List ℤ) → length ws ≡ 7 → matches (five_of k) ws ≡ true → ws ≡ key_row k (word ws 5) (word ws 6)
  unfolding matches
  matches-row ws size e =
      let f = five_of k in
      let (c, e1) = both_true (same_word f.code (word ws 0)) _ e in
      let (p, e2) = both_true (same_word f.pc (word ws 1)) _ e1 in
      let (i1, e3) = both_true (same_word f.input1 (word ws 2)) _ e2 in
      let (i2, i3) = both_true (same_word f.input2 (word ws 3)) _ e3 in
      words-all 7 ws size
      ∙ five-same (word ws 5 ∷ word ws 6 ∷ []) (same_word_lem f.code (word ws 0) c) (same_word_lem f.pc (word ws 1) p)
      (same_word_lem f.input1 (word ws 2) i1) (same_word_lem f.input2 (word ws 3) i2) (same_word_lem f.input3 (word ws 4) i3)

  pub row-matches : (p r : ℤ) → matches (five_of k) (key_row k p r) ≡ true
  unfolding matches
  row-matches p r =
      rw (
        word_same (pos (code_of k.opcode)),
        word_same (pos k.pc),
        word_same (input_word k.input1),
        word_same (input_word k.input2),
        word_same (input_word k.input3),
      )

-- ════════════════════════════════════════════════════════════════════════════════════════════
-- Consulting
-- ════════════════════════════════════════════════════════════════════════════════════════════

module _ (t : Table) (k : Key) (m : WellMarked k) where
  -- the last two words of an allowed row are the table's labels
  row-ruled : (p r : ℕ) → evaluate t k ≡ allowed p r → ruled (key_row k (pos p) (pos r)) ≡ allowed p r
  row-ruled p r e =
      let (hp, hr) = evaluate-range t k p r (marked-has m) e in
      rw (low_label-id p hp, low_label-id r hr)

  -- the row that an allowed key leaves is accepted again
  pub row_fits : (p r : ℕ) → evaluate t k ≡ allowed p r → Fits t (row_of k (allowed p r))
  row_fits p r e =
      let (hp, hr) = evaluate-range t k p r (marked-has m) e in
      record { size = refl; accepted = hit-accepted t k p r m hp hr e }

  -- the five words match
  hit : (ws : List ℤ) → Fits t ws → matches (five_of k) ws ≡ true
      → Ruled t k ws (consult_if true (handle (translate t)) (five_of k) ws)
  hit ws h e =
      let same : ws ≡ key_row k (word ws 5) (word ws 6) = matches-row k ws h.size e in
      let g = accepted-hit t k (word ws 5) (word ws 6) (sym (ap (accepted_row t) same) ∙ h.accepted) in
      let is : ws ≡ key_row k (pos g.place) (pos g.result) = same ∙ words g.place_is g.result-is in
      record {
        verdict = ap ruled is ∙ row-ruled g.place g.result g.verdict ∙ sym g.verdict;
        row = is ∙ ap (row_of k) (sym g.verdict);
        counts = rw e (refl, refl, refl);
      }
    where
      words : {p p' r r' : ℤ} → p ≡ p' → r ≡ r' → key_row k p r ≡ key_row k p' r'
      words d e = rw (d, e)

  -- after the handler the row matches again, or the command is not allowed
  again-is : (v : Verdict) → evaluate t k ≡ v → again (five_of k) (outcome_of v) (row_of k v) ≡ v
  again-is denied e = refl
  again-is (allowed p r) e = rw (row-matches k (pos p) (pos r)) (row-ruled p r e)

  module _ (well : TableWritable t) where
    -- they do not match, and the handler runs
    miss : (ws : List ℤ) → matches (five_of k) ws ≡ false → Ruled t k ws (consult_if false (handle (translate t)) (five_of k) ws)
    miss ws e = handled (handle (translate t) (fault_row k)) refl
      where
        handled : (x : Result) → handle (translate t) (fault_row k) ≡ x → Ruled t k ws (faulted (five_of k) x)
        handled x d =
            let h : Handled t k (translate t) x = rw d at (handler-run t k well m) in
            record {
              verdict = rw (h.outcome, h.row) (again-is (evaluate t k) refl);
              row = h.row;
              counts = rw e (refl, ap (λ (y : Result). y.steps) (sym d), h.steps);
            }

    -- from an accepted row: the table's verdict, and a row of the key
    pub consult-table : (ws : List ℤ) → Fits t ws → Ruled t k ws (consult (handle (translate t)) (five_of k) ws)
    unfolding consult
    consult-table ws h = go (matches (five_of k) ws) refl
      where
        go : (b : Bool) → matches (five_of k) ws ≡ b → Ruled t k ws (consult_if b (handle (translate t)) (five_of k) ws)
        go true e = hit ws h e
        go false e = miss ws e
