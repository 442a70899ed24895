-- Reading a table rule by rule, as the code does it: what is left to read, after what was passed, gives the whole table's answer.
-- Assumes nothing.
use Rattle.std.proofs.Common.{Err, None, Ok, Option, Result, Some, slice_get}
use Rattle.std.specs.Result.{result_ok, MatchResult, IsErrAnd}
use Rattle.std.proofs.lemmas.Option.{none-some, same_Some}
use mathlib.Core.Path.{◌≡◌, refl, sym, ap, ◌∙◌}
use mathlib.Core.Bool.{Bool, true, false}
use mathlib.Core.List.{List, [], ◌∷◌}
use Prim.Native.Nat.{ℕ, zero, suc, ◌+◌, ◌<◌, ◌≤◌}
use native.Mathlib.Omega.{arith}
use lib.Dec.{ltb}
use lib.ListN.{length, drop}
use borrow.Author.Tests.{lt-ltb, le-ltb, le-leb, lt-leb}
use Rattle.program.specs.Command.{Opcode, ruled, opcode_of, supplies}
use Rattle.program.specs.Decode.{refusal}
use Rattle.word.proofs.Bool.{never}
use Rattle.tables.specs.declared.Labels.{Labels}
use Rattle.policy.specs.Expression.{Rule, Table}
use Rattle.policy.specs.Evaluate.{eval_rule}
use Rattle.policy.proofs.Ruled.{ruled-code}
use Rattle.policy.specs.Read.{Read, fault, found, prepend, rule_count, owner_code, read_rule, read_rules, whole, whole_if, table_limit}
use Rattle.policy.specs.Read.{read_table}
use Rattle.tables.specs.Value.{key_of}
use Rattle.tables.specs.Ask.{verdict_of, rule_read, CodeAt, check_answer}
use Rattle.tables.specs.declared.Allowed.{Allowed}

-- the element at an index, and those after it
pub record Element {A : Type 0} (l : List A) (i : ℕ) : Type 0 where
  pub here : A
  pub at : slice_get l i ≡ Some here
  pub rest : drop i l ≡ here ∷ drop (i + 1) l

pub element : {A : Type 0} (l : List A) (i : ℕ) → i < length l → Element l i
element [] i h = absurd (omega arith)
element (x ∷ l) zero h = record { here = x; at = refl; rest = refl }
element (x ∷ l) (suc i) h =
    let e = element l i (omega arith) in
    let d : suc i + 1 ≡ suc (i + 1) = omega arith in
    record { here = e.here; at = e.at; rest = rw d e.rest }

-- the rule with number i and the command that it belongs to: what it says to whichever command asks, and what reading says of the rules
-- from there on
pub record Next (ls : Labels) (s : List ℕ) (i at : ℕ) (v : Option Allowed) (next : ℕ) : Type 0 where
  pub owner : Opcode
  pub owns : slice_get ruled i ≡ Some owner
  pub rule : Rule
  pub said : (o : Opcode) → v ≡ verdict_of (eval_rule (Some rule) (key_of o (supplies owner) ls))
  pub rules : read_rules (drop i ruled) s at ≡ prepend rule (read_rules (drop (i + 1) ruled) s next)

ok-parts : {A : Type 0} (a b : A) (m n : ℕ) → ◌≡◌ {A = Result (A × ℕ) ℕ} (Ok (a, m)) (Ok (b, n)) → (a ≡ b) × (m ≡ n)
ok-parts a b m n e = let d : ◌≡◌ {A = _ × ℕ} (a, m) (b, n) = cc in (ap (λ p. p.0) d, ap (λ p. p.1) d)

abbrev Reads : Labels → List ℕ → (i at : ℕ) → Result (Option Allowed × ℕ) ℕ → Type 0
Reads ls s i at (Err p) = read_rules (drop i ruled) s at ≡ fault p
Reads ls s i at (Ok (v, next)) = Next ls s i at v next

module _ (ls : Labels) (s : List ℕ) (i at : ℕ) (h : i < rule_count) where
  reads-rule : (e : Element ruled i) (x : Read Rule) → read_rule e.here s at ≡ x → (r : Result (Option Allowed × ℕ) ℕ)
      → ((o : Opcode) → r ≡ rule_read (key_of o (supplies e.here) ls) x) → Reads ls s i at r
  unfolding read_rules
  reads-rule e (fault p) d (Err q) f = let g = f e.here in let k : p ≡ q = cc in rw (e.rest, d, k)
  reads-rule e (fault p) d (Ok (v, next)) f = let g = f e.here in never (cc)
  reads-rule e (found x end) d (Err q) f = let g = f e.here in never (cc)
  reads-rule e (found x end) d (Ok (v, next)) f =
      let k = (ok-parts _ _ _ _ (f e.here)).1 in
      record { owner = e.here; owns = e.at; rule = x; said = λ o. (ok-parts _ _ _ _ (f o)).0; rules = rw (e.rest, d, ← k) }

  pub reads : (r : Result (Option Allowed × ℕ) ℕ) → CodeAt (opcode_of (owner_code i)) ls s at r → Reads ls s i at r
  reads r f =
      let e = element ruled i h in
      reads-rule e (read_rule e.here s at) refl r (rw (ruled-code i e.here e.at) at f)

-- ════════════════════════════════════════════════════════════════════════════════════════════
-- Checking
-- ════════════════════════════════════════════════════════════════════════════════════════════

-- whether bytes are left over does not depend on what was read
whole-prepend : (n : ℕ) (r : Rule) (x : Read Table) → check_answer (whole n (prepend r x)) ≡ check_answer (whole n x)
whole-prepend n r (fault p) = refl
whole-prepend n r (found rs end) = left_over (ltb end n)
  where
    left_over : (b : Bool) → check_answer (whole_if b (r ∷ rs) end) ≡ check_answer (whole_if b rs end)
    left_over true = refl
    left_over false = refl

pub record Checking (s : List ℕ) (i at : ℕ) : Type 0 where
  pub few : i ≤ rule_count
  pub answer : check_answer (whole (length s) (read_rules (drop i ruled) s at)) ≡ check_answer (read_table s)

pub checking-limit : (s : List ℕ) → table_limit < length s → Err (refusal 6 table_limit) ≡ check_answer (read_table s)
unfolding read_table
checking-limit s h = rw (lt-leb (length s) table_limit h)

pub checking-start : (s : List ℕ) → length s ≤ table_limit → Checking s 0 0
unfolding read_table
checking-start s h = record { few = omega arith; answer = rw (le-leb (length s) table_limit h) }

module _ (s : List ℕ) (i at : ℕ) (c : Checking s i at) where
  module _ (ls : Labels) (h : i < rule_count) where
    pub checking-fault : (p : ℕ) → CodeAt (opcode_of (owner_code i)) ls s at (Err p)
        → Err (refusal 6 p) ≡ check_answer (read_table s)
    checking-fault p f = ap (λ x. check_answer (whole (length s) x)) (sym (reads ls s i at h (Err p) f)) ∙ c.answer

    pub checking-next : (v : Option Allowed) (next : ℕ) → CodeAt (opcode_of (owner_code i)) ls s at (Ok (v, next)) → Checking s (i + 1) next
    checking-next v next f =
        let n = reads ls s i at h (Ok (v, next)) f in
        record {
          few = omega arith;
          answer =
              sym (whole-prepend (length s) n.rule (read_rules (drop (i + 1) ruled) s next))
              ∙ ap (λ x. check_answer (whole (length s) x)) (sym n.rules)
              ∙ c.answer;
        }

  module _ (h : rule_count ≤ i) where
    at-end : check_answer (whole_if (ltb at (length s)) [] at) ≡ check_answer (read_table s)
    unfolding read_rules
    at-end = let e : i ≡ rule_count = (let f = c.few in omega arith) in rw e at c.answer

    pub checking-left-over : at < length s → Err (refusal 6 at) ≡ check_answer (read_table s)
    checking-left-over l = rw (lt-ltb at (length s) l) at at-end

    pub checking-end : length s ≤ at → (Ok tt) ≡ check_answer (read_table s)
    checking-end l = rw (le-ltb at (length s) l) at at-end

-- ════════════════════════════════════════════════════════════════════════════════════════════
-- What `ok` and `map_err` were called on
-- ════════════════════════════════════════════════════════════════════════════════════════════

module _ {T E : Type 0} where
  pub ok-some : (r : Result T E) (x : T) → Some x ≡ result_ok r → r ≡ Ok x
  ok-some (Ok y) x e = ap Ok (sym (same_Some x y e))
  ok-some (Err q) x e = absurd (none-some x (sym e))

  pub ok-none : (r : Result T E) → None ≡ result_ok r → (q : E) × r ≡ Err q
  ok-none (Ok y) e = absurd (none-some y e)
  ok-none (Err q) e = (q, refl)

  module _ {D : Type 0} (P : E → D → Type 0) (r : Result T E) where
    abbrev Mapped : Result T D → Type 0
    Mapped x = MatchResult r (λ y. x ≡ Ok y) (λ q. IsErrAnd x (P q))

    pub mapped-ok : (x : T) → Mapped (Ok x) → r ≡ Ok x
    mapped-ok x h = by-case r h
      where
        by-case : (r : Result T E) → MatchResult r (λ y. ◌≡◌ {A = Result T D} (Ok x) (Ok y)) (λ q. IsErrAnd {T = T} {E = D} (Ok x) (P q)) → r ≡ Ok x
        by-case (Ok y) h = let d : y ≡ x = cc in ap Ok d
        by-case (Err q) h = absurd h

    pub mapped-err : (d : D) → Mapped (Err d) → (q : E) × (r ≡ Err q) × P q d
    mapped-err d h = by-case r h
      where
        by-case : (r : Result T E) → MatchResult r (λ y. ◌≡◌ {A = Result T D} (Err d) (Ok y)) (λ q. IsErrAnd {T = T} {E = D} (Err d) (P q))
            → (q : E) × (r ≡ Err q) × P q d
        by-case (Ok y) h = never (cc)
        by-case (Err q) h = (q, refl, h)
