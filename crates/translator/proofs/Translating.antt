-- The pieces that the code reads from a table's bytes are the table's translation.
-- Assumes nothing.
use Rattle.std.proofs.Common.{Err, Ok, None, Option, Some, slice_get}
use mathlib.Core.Path.{◌≡◌, refl, sym, ap, subst, ◌∙◌}
use mathlib.Core.Bool.{Bool, true, false}
use mathlib.Core.List.{List, [], ◌∷◌, map}
use Prim.Native.Nat.{ℕ, zero, suc, ◌+◌, ◌*◌, ◌≤◌}
use native.Mathlib.Omega.{arith}
use lib.IntN.{ℤ}
use lib.Dec.{leb, ltb, eqb}
use lib.ListN.{length}
use borrow.Author.Tests.{eqb-true}
use Rattle.word.specs.Lay.{laid}
use Rattle.program.specs.Command.{Opcode, ruled, supplies, has_result}
use Rattle.program.specs.declared.Refusal.{Refusal}
use Rattle.policy.specs.declared.Token.{Token}
use Rattle.policy.specs.Expression.{LabelExpr, empty, input1, input2, input3, join, Condition, flows, always, both, either, Rule, Table}
use Rattle.policy.specs.Token.{token_of, token_at}
use Rattle.tables.specs.Value.{test_of}
use Rattle.tables.specs.Ask.{check_answer}
use Rattle.policy.specs.Read.{Read, fault, found, and_then, read_two, read_if, label_from, read_label, condition_from, read_condition, depth_limit}
use Rattle.policy.specs.Read.{empty_byte, result_if, read_rule_with, read_rule, rule_count, prepend, read_rules}
use Rattle.policy.specs.Read.{ReadTable, refused, table, whole_if, whole, table_limit, table_if, read_table}
use Rattle.handler.specs.Kernel.{Instruction}
use Rattle.handler.specs.Space.{kernel_words}
use Rattle.handler.specs.Translate.{compile_label, compile_condition, compile_answer, compile_if, guarded, compile_rule}
use Rattle.handler.specs.Translate.{handler_with, translate, handler_of}
use Rattle.handler.specs.Claim.{Handles}
use Rattle.handler.proofs.Sound.{read-handles}
use Rattle.translator.specs.Emit.{Piece, piece, join_code, flows_code, either_code, part_of, label_piece, label_code}
use Rattle.translator.specs.Emit.{condition_piece, condition_code, answer_of, answer_code, guarded_of, guarded_code, rule_piece, rule_code}
use Rattle.translator.specs.Emit.{bodies_at, table_code, put_code}
use Rattle.translator.proofs.Putting.{put_code-laid}

-- a piece is the translation of what was found, with the offset after it
abbrev Is : {A : Type 0} → (A → List Instruction) → Read A → Piece → Type 0
Is compile (fault at) p = Unit {0}
Is compile (found a next) p = p ≡ piece (compile a) next

-- two, one after the other
then_is : {A B C : Type 0} (compile_a : A → List Instruction) (compile_b : B → List Instruction) (compile_c : C → List Instruction)
    (make : A → B → C) (put : List Instruction → List Instruction → List Instruction)
    → ((a : A) (b : B) → compile_c (make a b) ≡ put (compile_a a) (compile_b b))
    → (ra : Read A) (p : Piece) (read_b : ℕ → Read B) (code_b : ℕ → Piece)
    → Is compile_a ra p → ((at : ℕ) → Is compile_b (read_b at) (code_b at))
    → Is compile_c (and_then ra (λ a next. and_then (read_b next) (λ b end. found (make a b) end)))
    (piece (put p.code (code_b p.next).code) (code_b p.next).next)
then_is c_a c_b c_c make put law (fault at) p read_b code_b e h = tt
then_is c_a c_b c_c make put law (found a next) p read_b code_b e h = second (read_b next) (h next)
  where
    second : (rb : Read _) → Is c_b rb (code_b next)
        → Is c_c (and_then rb (λ b end. found (make a b) end)) (piece (put p.code (code_b p.next).code) (code_b p.next).next)
    second (fault at) f = tt
    second (found b end) f =
        ap (λ (q : Piece). piece (put q.code (code_b q.next).code) (code_b q.next).next) e
        ∙ ap (λ (q : Piece). piece (put (c_a a) q.code) q.next) f
        ∙ ap (λ code. piece code end) (sym (law a b))

-- a byte by itself
lone_is : {A : Type 0} (compile : A → List Instruction) (b : Bool) (a : A) (at : ℕ)
    → Is compile (read_if b a at) (piece (compile a) (at + 1))
lone_is compile true a at = refl
lone_is compile false a at = tt

-- ════════════════════════════════════════════════════════════════════════════════════════════
-- Expressions
-- ════════════════════════════════════════════════════════════════════════════════════════════

module _ (n : ℕ) (s : List ℕ) where
  label-from : (t : Token) (at : ℕ) (inner : ℕ → Read LabelExpr) (code : ℕ → Piece) → ((at : ℕ) → Is compile_label (inner at) (code at))
      → Is compile_label (label_from t n at inner) (label_piece (part_of t) at code)
  label-from Token.Empty at inner code h = refl
  label-from Token.Place at inner code h = refl
  label-from Token.Input1 at inner code h = lone_is compile_label (leb 1 n) input1 at
  label-from Token.Input2 at inner code h = lone_is compile_label (leb 2 n) input2 at
  label-from Token.Input3 at inner code h = lone_is compile_label (leb 3 n) input3 at
  label-from Token.Join at inner code h =
      then_is compile_label compile_label compile_label join join_code (λ a b. refl) (inner (at + 1)) (code (at + 1)) inner code (h (at + 1)) h
  label-from Token.Flows at inner code h = tt
  label-from Token.True at inner code h = tt
  label-from Token.And at inner code h = tt
  label-from Token.Or at inner code h = tt
  label-from Token.Nothing at inner code h = tt

  label_is : (d at : ℕ) → Is compile_label (read_label d n s at) (label_code d s at)
  unfolding read_label label_code
  label_is zero at = tt
  label_is (suc d) at = label-from (token_at s at) at (read_label d n s) (label_code d s) (label_is d)

  condition-from : (t : Token) (at : ℕ) (label : ℕ → Read LabelExpr) (inner : ℕ → Read Condition) (code_l code : ℕ → Piece)
      → ((at : ℕ) → Is compile_label (label at) (code_l at)) → ((at : ℕ) → Is compile_condition (inner at) (code at))
      → Is compile_condition (condition_from t at label inner) (condition_piece (test_of t) at code_l code)
  condition-from Token.Empty at label inner code_l code g h = tt
  condition-from Token.Place at label inner code_l code g h = tt
  condition-from Token.Input1 at label inner code_l code g h = tt
  condition-from Token.Input2 at label inner code_l code g h = tt
  condition-from Token.Input3 at label inner code_l code g h = tt
  condition-from Token.Join at label inner code_l code g h = tt
  condition-from Token.Flows at label inner code_l code g h =
      then_is compile_label compile_label compile_condition flows flows_code (λ a b. refl) (label (at + 1)) (code_l (at + 1)) label code_l
      (g (at + 1)) g
  condition-from Token.True at label inner code_l code g h = refl
  condition-from Token.And at label inner code_l code g h =
      then_is compile_condition compile_condition compile_condition both join_code (λ a b. refl)
      (inner (at + 1)) (code (at + 1)) inner code (h (at + 1)) h
  condition-from Token.Or at label inner code_l code g h =
      then_is compile_condition compile_condition compile_condition either either_code (λ a b. refl)
      (inner (at + 1)) (code (at + 1)) inner code (h (at + 1)) h
  condition-from Token.Nothing at label inner code_l code g h = tt

  condition-is : (d at : ℕ) → Is compile_condition (read_condition d n s at) (condition_code d s at)
  unfolding read_condition condition_code
  condition-is zero at = tt
  condition-is (suc d) at =
      condition-from (token_at s at) at (read_label d n s) (read_condition d n s) (label_code d s) (condition_code d s) (label_is d)
      (condition-is d)

  -- the byte 10 is a label expression too
  empty-is : (o : Option ℕ) (at : ℕ) → slice_get s at ≡ o → Is compile_label (empty_byte o at) (label_code depth_limit s at)
  unfolding label_code token_at token_of
  empty-is None at e = tt
  empty-is (Some b) at e = by (eqb b 0x10) refl
    where
      by : (x : Bool) → eqb b 0x10 ≡ x → Is compile_label (read_if x empty at) (label_code depth_limit s at)
      by true d = rw (e, eqb-true b 0x10 d)
      by false d = tt

  result-is : (has : Bool) (at : ℕ) → Is compile_label (result_if has n s at) (label_code depth_limit s at)
  result-is true at = label_is depth_limit at
  result-is false at = empty-is (slice_get s at) at refl

  -- ════════════════════════════════════════════════════════════════════════════════════════════
  -- A rule
  -- ════════════════════════════════════════════════════════════════════════════════════════════

  abbrev rule_of : Condition → LabelExpr → LabelExpr → Rule
  rule_of c p r = record { allowed = c; pc = p; result = r }

  module _ (has : Bool) where
    -- what is read after a condition
    abbrev answer_read : Condition → ℕ → Read Rule
    answer_read c at = and_then (read_label depth_limit n s at) (λ p at3. and_then (result_if has n s at3) (λ r end. found (rule_of c p r) end))

    always-is : (at : ℕ) → Is compile_rule (answer_read always at) (answer_code s at)
    unfolding answer_code compile_rule
    always-is at =
        then_is compile_label compile_label compile_rule (rule_of always) answer_of (λ p r. refl)
        (read_label depth_limit n s at) (label_code depth_limit s at) (result_if has n s) (label_code depth_limit s) (label_is depth_limit at)
        (result-is has)

    -- a condition that is tested
    abbrev Tests : Condition → Type 0
    Tests c = (code : List Instruction) → compile_if c code ≡ guarded c code

    abbrev AllTest : Read Condition → Type 0
    AllTest (fault at) = Unit {0}
    AllTest (found c next) = Tests c

    two-test : {A : Type 0} (read : ℕ → Read A) (make : A → A → Condition) (at : ℕ) → ((a b : A) → Tests (make a b))
        → AllTest (read_two read make at)
    two-test read make at h = first (read at)
      where
        first : (r : Read _) → AllTest (and_then r (λ a next. and_then (read next) (λ b end. found (make a b) end)))
        first (fault p) = tt
        first (found a next) = second (read next)
          where
            second : (r : Read _) → AllTest (and_then r (λ b end. found (make a b) end))
            second (fault p) = tt
            second (found b end) = h a b

    guarded-is : (rc : Read Condition) (at : ℕ) → Is compile_condition rc (condition_code depth_limit s at) → AllTest rc
        → Is compile_rule (and_then rc answer_read) (guarded_code s at)
    unfolding guarded_code answer_code compile_rule
    guarded-is (fault p) at e h = tt
    guarded-is (found c next) at e h =
        let guarded_by : Piece → Piece = λ q. piece (guarded_of q.code (answer_code s q.next).code) (answer_code s q.next).next in
        subst (λ (q : Piece). Is compile_rule (answer_read c next) (guarded_by q)) (sym e)
        (then_is compile_label compile_label compile_rule (rule_of c) (λ x y. guarded_of (compile_condition c) (answer_of x y))
        (λ p r. h (compile_answer (rule_of c p r))) (read_label depth_limit n s next) (label_code depth_limit s next)
        (result_if has n s) (label_code depth_limit s) (label_is depth_limit next) (result-is has))

    rule-from : (t : Token) (d at : ℕ)
        → Is compile_condition (condition_from t at (read_label d n s) (read_condition d n s)) (condition_code depth_limit s at)
        → Is compile_rule (and_then (condition_from t at (read_label d n s) (read_condition d n s)) answer_read) (rule_piece (test_of t) s at)
    rule-from Token.Empty d at e = tt
    rule-from Token.Place d at e = tt
    rule-from Token.Input1 d at e = tt
    rule-from Token.Input2 d at e = tt
    rule-from Token.Input3 d at e = tt
    rule-from Token.Join d at e = tt
    rule-from Token.Flows d at e = guarded-is (read_two (read_label d n s) flows (at + 1)) at e
        (two-test (read_label d n s) flows (at + 1) (λ a b code. refl))
    rule-from Token.True d at e = always-is (at + 1)
    rule-from Token.And d at e = guarded-is (read_two (read_condition d n s) both (at + 1)) at e
        (two-test (read_condition d n s) both (at + 1) (λ a b code. refl))
    rule-from Token.Or d at e = guarded-is (read_two (read_condition d n s) either (at + 1)) at e
        (two-test (read_condition d n s) either (at + 1) (λ a b code. refl))
    rule-from Token.Nothing d at e = tt

    rule-is : (at : ℕ) → Is compile_rule (read_rule_with n has s at) (rule_code s at)
    unfolding read_rule_with rule_code read_condition
    rule-is at = rule-from (token_at s at) 7 at (condition-is depth_limit at)

-- ════════════════════════════════════════════════════════════════════════════════════════════
-- A table
-- ════════════════════════════════════════════════════════════════════════════════════════════

abbrev AreRules : Read Table → List (List Instruction) → Type 0
AreRules (fault at) bodies = Unit {0}
AreRules (found t end) bodies = bodies ≡ map compile_rule t

abbrev Translates : ReadTable → List Instruction → Type 0
Translates (refused r) code = Unit {0}
Translates (table t) code = code ≡ translate t

module _ (s : List ℕ) where
  rules-are : (os : List Opcode) (at : ℕ) → AreRules (read_rules os s at) (bodies_at (length os) s at)
  unfolding read_rules bodies_at
  rules-are [] at = refl
  rules-are (o ∷ os) at = rule (read_rule o s at) (rule-is (supplies o) s (has_result o) at) (rules-are os)
    where
      rule : (r : Read Rule) → Is compile_rule r (rule_code s at)
          → ((next : ℕ) → AreRules (read_rules os s next) (bodies_at (length os) s next))
          → AreRules (and_then r (λ r next. prepend r (read_rules os s next)))
          ((rule_code s at).code ∷ bodies_at (length os) s (rule_code s at).next)
      rule (fault p) e h = tt
      rule (found r next) e h = rest (read_rules os s next) (h next)
        where
          rest : (x : Read Table) → AreRules x (bodies_at (length os) s next)
              → AreRules (prepend r x) ((rule_code s at).code ∷ bodies_at (length os) s (rule_code s at).next)
          rest (fault p) f = tt
          rest (found t end) f =
              ap (λ (q : Piece). q.code ∷ bodies_at (length os) s q.next) e ∙ ap (λ (bs : List (List Instruction)). compile_rule r ∷ bs) f

  pub table-translates : Translates (read_table s) (table_code s)
  unfolding read_table table_code translate
  table-translates = limit (leb (length s) table_limit)
    where
      over : (b : Bool) (t : Table) (end : ℕ) → AreRules (found t end) (bodies_at rule_count s 0) → Translates (whole_if b t end) (table_code s)
      over true t end e = tt
      over false t end e = ap handler_with e

      rules : (x : Read Table) → AreRules x (bodies_at rule_count s 0) → Translates (whole (length s) x) (table_code s)
      rules (fault p) e = tt
      rules (found t end) e = over (ltb end (length s)) t end e

      limit : (b : Bool) → Translates (table_if b s) (table_code s)
      limit true = rules (read_rules ruled s 0) (rules-are ruled 0)
      limit false = tt

-- of bytes that are a table, what is read is the handler
pub read-code : (s : List ℕ) (t : Table) → read_table s ≡ table t → table_code s ≡ translate t
read-code s t e = subst (λ x. Translates x (table_code s)) e (table-translates s)

-- and is stored where it fits
pub written-table : (s : List ℕ) (t : Table) (space : List ℤ) → read_table s ≡ table t → 2 * length (translate t) ≤ length space
    → put_code 0 (table_code s) space ≡ laid (kernel_words (translate t)) space
written-table s t space e h = ap (λ code. put_code 0 code space) (read-code s t e) ∙ put_code-laid (translate t) space h

-- ════════════════════════════════════════════════════════════════════════════════════════════
-- The answers
-- ════════════════════════════════════════════════════════════════════════════════════════════

-- what is stored of an accepted table's bytes is its handler; others have none
pub accepted-handler : (s : List ℕ) → check_answer (read_table s) ≡ Ok tt → table_code s ≡ handler_of (read_table s)
accepted-handler s e = by-table (read_table s) (table-translates s) e
  where
    by-table : (x : ReadTable) → Translates x (table_code s) → check_answer x ≡ Ok tt → table_code s ≡ handler_of x
    by-table (refused q) h e = absurd (let z : ◌≡◌ {A = ℕ} 0 1 = cc in omega arith)
    by-table (table t) h e = h

pub refused-handler : (x : ReadTable) (r : Refusal) → check_answer x ≡ Err r → handler_of x ≡ []
refused-handler (refused q) r e = refl
refused-handler (table t) r e = absurd (let z : ◌≡◌ {A = ℕ} 0 1 = cc in omega arith)

-- a handler's length: of what is read, of what the bytes are
abbrev pub Counts : List ℕ → ℕ → Type 0
Counts s n = Handles (read_table s) (λ t code. n ≡ length code)

pub code-counts : (s : List ℕ) (n : ℕ) → n ≡ length (table_code s) → Counts s n
code-counts s n e = read-handles s _ (λ t q. e ∙ ap length (read-code s t q))

pub handler-counts : (s : List ℕ) (n : ℕ) → n ≡ length (handler_of (read_table s)) → Counts s n
handler-counts s n e = read-handles s _ (λ t q. e ∙ ap (λ x. length (handler_of x)) q)
