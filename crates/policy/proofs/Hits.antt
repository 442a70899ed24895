-- An accepted row with a key's words holds what the table says for the key; and what the table says makes an accepted row.
-- Assumes nothing.
use Rattle.std.proofs.Common.{Some, None, Option}
use mathlib.Core.Path.{◌≡◌, refl, sym, ap, ◌∙◌}
use mathlib.Core.Bool.{Bool, true, false, ◌&&◌}
use Prim.Native.Nat.{ℕ, zero, suc, ◌≤◌, ◌^◌}
use native.Mathlib.Omega.{arith}
use lib.IntN.{ℤ, pos, negsuc}
use lib.Dec.{leb, ltb}
use lib.ListN.{replicate}
use borrow.Author.Tests.{lt-ltb, eqb-true, eq-eqb}
use Rattle.word.specs.Number.{is_zero}
use Rattle.label.specs.Label.{principals, InRange}
use Rattle.label.specs.Word.{stored_if, stored}
use Rattle.program.specs.Command.{Opcode, code_of, supplies}
use Rattle.program.proofs.Codes.{opcode_of-code_of, code-least}
use Rattle.machine.specs.Rule.{Input, present, missing, input_word, Key, Verdict, denied, allowed}
use Rattle.machine.specs.Holds.{Marked, WellMarked}
use Rattle.policy.specs.Expression.{Table}
use Rattle.policy.specs.Evaluate.{evaluate}
use Rattle.policy.specs.Row.{empty_row, input_of, present_of, label_option, given, holds, row_key, is_stored, agrees}
use Rattle.policy.specs.Row.{accepted_row, key_row}

-- ════════════════════════════════════════════════════════════════════════════════════════════
-- Labels and inputs as words
-- ════════════════════════════════════════════════════════════════════════════════════════════

stored-in-range : (l : ℕ) → InRange l → stored (pos l) ≡ Some (record { 0 = l })
unfolding stored
stored-in-range l h = rw (lt-ltb l (2 ^ principals) h)

-- a word that stores a label is that label
stored_back : (w : ℤ) (l : ℕ) → is_stored (stored w) l ≡ true → w ≡ pos l
unfolding stored
stored_back (pos n) l e = by-test (ltb n (2 ^ principals)) e
  where
    by-test : (b : Bool) → is_stored (stored_if b n) l ≡ true → pos n ≡ pos l
    by-test true e = ap pos (eqb-true n l e)
    by-test false e = absurd (let z : ◌≡◌ {A = ℕ} 0 1 = cc in omega arith)
stored_back (negsuc n) l e = absurd (let z : ◌≡◌ {A = ℕ} 0 1 = cc in omega arith)

label-back : (l m : ℕ) → label_option (stored (pos l)) ≡ Some m → m ≡ l
unfolding stored
label-back l m e = by-test (ltb l (2 ^ principals)) e
  where
    by-test : (b : Bool) → label_option (stored_if b l) ≡ Some m → m ≡ l
    by-test true e = cc
    by-test false e = absurd (let z : ◌≡◌ {A = ℕ} 0 1 = cc in omega arith)

input_back : (b : Bool) (i x : Input) → input_of b (input_word i) ≡ Some x → x ≡ i
unfolding stored
input_back true (present l) x e = by-test (ltb l (2 ^ principals)) e
  where
    by-test : (b : Bool) → present_of (stored_if b l) ≡ Some x → x ≡ present l
    by-test true e = cc
    by-test false e = absurd (let z : ◌≡◌ {A = ℕ} 0 1 = cc in omega arith)
input_back true missing x e = absurd (let z : ◌≡◌ {A = ℕ} 0 1 = cc in omega arith)
input_back false (present l) x e = absurd (let z : ◌≡◌ {A = ℕ} 0 1 = cc in omega arith)
input_back false missing x e = cc

input-word : (b : Bool) (i : Input) → Marked b i → input_of b (input_word i) ≡ Some i
input-word true (present l) h = ap present_of (stored-in-range l h)
input-word true missing h = absurd h
input-word false (present l) h = absurd h
input-word false missing h = refl

-- ════════════════════════════════════════════════════════════════════════════════════════════
-- The key of a row
-- ════════════════════════════════════════════════════════════════════════════════════════════

record Known {A : Type 0} (x : Option A) (P : A → Type 0) : Type 0 where
  value : A
  is : x ≡ Some value
  then : P value

given-some : {A B : Type 0} (x : Option A) (f : A → Option B) (y : B) → given x f ≡ Some y → Known x (λ a. f a ≡ Some y)
given-some None f y e = absurd (let z : ◌≡◌ {A = ℕ} 0 1 = cc in omega arith)
given-some (Some a) f y e = record { value = a; is = refl; then = e }

holds-some : {A : Type 0} (x : Option A) (f : A → Bool) → holds x f ≡ true → Known x (λ a. f a ≡ true)
holds-some None f e = absurd (let z : ◌≡◌ {A = ℕ} 0 1 = cc in omega arith)
holds-some (Some a) f e = record { value = a; is = refl; then = e }

positive-not-zero : (n : ℕ) → 1 ≤ n → is_zero (pos n) ≡ false
positive-not-zero zero h = absurd (omega arith)
positive-not-zero (suc n) h = refl

code-not-zero : (o : Opcode) → is_zero (pos (code_of o)) ≡ false
code-not-zero o = positive-not-zero (code_of o) (code-least o)

abbrev key_with : Opcode → ℕ → Input → Input → Input → Key
key_with o p a b c = record { opcode = o; pc = p; input1 = a; input2 = b; input3 = c }

same_key : (o : Opcode) {p q : ℕ} {a x b y c z : Input} → q ≡ p → x ≡ a → y ≡ b → z ≡ c → key_with o q x y z ≡ key_with o p a b c
same_key o d e f g = rw (d, e, f, g)

module _ (k : Key) (p r : ℤ) where
  abbrev o : Opcode
  o = k.opcode

  not-empty : empty_row (key_row k p r) ≡ false
  not-empty = rw (code-not-zero o)

  -- the row's key is the key
  row-key-back : (j : Key) → row_key o (key_row k p r) ≡ Some j → j ≡ k
  row-key-back j e =
      let q = given-some (label_option (stored (pos k.pc))) _ j e in
      let a = given-some (input_of (leb 1 (supplies o)) (input_word k.input1)) _ j q.then in
      let b = given-some (input_of (leb 2 (supplies o)) (input_word k.input2)) _ j a.then in
      let c = given-some (input_of (leb 3 (supplies o)) (input_word k.input3)) _ j b.then in
      some_same _ j c.then
      ∙ same_key o (label-back k.pc q.value q.is) (input_back (leb 1 (supplies o)) k.input1 a.value a.is)
      (input_back (leb 2 (supplies o)) k.input2 b.value b.is) (input_back (leb 3 (supplies o)) k.input3 c.value c.is)
    where
      some_same : (x y : Key) → Some x ≡ Some y → y ≡ x
      some_same x y e = cc

  row-key-is : WellMarked k → row_key o (key_row k p r) ≡ Some k
  row-key-is m =
      rw (
        ap label_option (stored-in-range k.pc m.pc),
        input-word (leb 1 (supplies o)) k.input1 m.input1,
        input-word (leb 2 (supplies o)) k.input2 m.input2,
        input-word (leb 3 (supplies o)) k.input3 m.input3,
      )

-- ════════════════════════════════════════════════════════════════════════════════════════════
-- Hits
-- ════════════════════════════════════════════════════════════════════════════════════════════

-- the table allows the key's command, and the two words are its labels
pub record Hit (t : Table) (k : Key) (p r : ℤ) : Type 0 where
  pub place : ℕ
  pub result : ℕ
  pub verdict : evaluate t k ≡ allowed place result
  pub place_is : p ≡ pos place
  pub result-is : r ≡ pos result

hit-verdict : (t : Table) (k : Key) (p r : ℤ) (v : Verdict) → evaluate t k ≡ v → agrees v p r ≡ true → Hit t k p r
hit-verdict t k p r denied d e = absurd (let z : ◌≡◌ {A = ℕ} 0 1 = cc in omega arith)
hit-verdict t k p r (allowed x y) d e =
    record {
      place = x;
      result = y;
      verdict = d;
      place_is = stored_back p x (and_first (is_stored (stored p) x) (is_stored (stored r) y) e);
      result-is = stored_back r y (and_second (is_stored (stored p) x) (is_stored (stored r) y) e);
    }
  where
    and_first : (a b : Bool) → (a && b) ≡ true → a ≡ true
    and_first true b e = refl
    and_first false b e = e

    and_second : (a b : Bool) → (a && b) ≡ true → b ≡ true
    and_second true b e = e
    and_second false b e = absurd (let z : ◌≡◌ {A = ℕ} 0 1 = cc in omega arith)

-- an accepted row with a key's words gives the table's verdict for the key
pub accepted-hit : (t : Table) (k : Key) (p r : ℤ) → accepted_row t (key_row k p r) ≡ true → Hit t k p r
unfolding accepted_row
accepted-hit t k p r e =
    let f = rw (not-empty k p r, opcode_of-code_of k.opcode) at e in
    let j = holds-some (row_key k.opcode (key_row k p r)) (λ j. agrees (evaluate t j) p r) f in
    hit-verdict t k p r (evaluate t k) refl (ap (λ j. agrees (evaluate t j) p r) (sym (row-key-back k p r j.value j.is)) ∙ j.then)

-- what the table says for a key makes an accepted row
pub hit-accepted : (t : Table) (k : Key) (p r : ℕ) → WellMarked k → InRange p → InRange r → evaluate t k ≡ allowed p r
    → accepted_row t (key_row k (pos p) (pos r)) ≡ true
unfolding accepted_row
hit-accepted t k p r m hp hr e =
    rw (
      not-empty k (pos p) (pos r),
      opcode_of-code_of k.opcode,
      row-key-is k (pos p) (pos r) m,
      e,
      stored-in-range p hp,
      stored-in-range r hr,
      eq-eqb p p refl,
      eq-eqb r r refl,
    )

-- a -1 pair is never accepted
pub accepted-unmarked : (t : Table) (k : Key) (r : ℤ) → accepted_row t (key_row k (negsuc 0) r) ≡ true → ⊥
accepted-unmarked t k r e =
    let h = accepted-hit t k (negsuc 0) r e in
    let d = h.place_is in
    let z : ◌≡◌ {A = ℕ} 0 1 = cc in
    omega arith

-- the empty row is
pub accepted-empty : (t : Table) → accepted_row t (replicate 7 (pos 0)) ≡ true
unfolding accepted_row
accepted-empty t = refl
