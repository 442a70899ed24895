-- A table that was read can be written: its expressions are at most 8 deep, name supplied inputs only, and its bytes are those read.
-- Assumes nothing.
use Rattle.std.proofs.Common.{None, Option, Some, slice_get}
use mathlib.Core.Path.{◌≡◌, refl}
use mathlib.Core.Bool.{Bool, true, false}
use mathlib.Core.List.{List, [], ◌∷◌}
use Prim.Native.Nat.{ℕ, zero, suc, ◌+◌, ◌<◌, ◌≤◌, max}
use native.Mathlib.Omega.{arith}
use lib.Dec.{leb, ltb, eqb}
use lib.ListN.{length, length-append}
use borrow.Author.Tests.{leb-true}
use Rattle.program.specs.Command.{Opcode, ruled, supplies, has_result}
use Rattle.policy.specs.declared.Token.{Token}
use Rattle.policy.specs.declared.Token.TheVariants.{Empty, Place, Input1, Input2, Input3, Join, Flows, True, And, Or, Nothing}
use Rattle.policy.specs.Expression.{LabelExpr, empty, place, input1, input2, input3, join, Condition, flows, both, either, Rule}
use Rattle.policy.specs.Expression.{Table}
use Rattle.policy.specs.Token.{token_at, token_option}
use Rattle.policy.specs.Read.{Read, fault, found, and_then, read_two, read_if, label_from, read_label, condition_from, read_condition}
use Rattle.policy.specs.Read.{depth_limit, empty_byte, result_if, read_rule_with, prepend, read_rules, table, whole_if, whole}
use Rattle.policy.specs.Read.{table_limit, table_if, read_table}
use Rattle.policy.specs.Write.{write_label, write_condition, write_rule, write_table, label_depth, condition_depth, LabelSupplied}
use Rattle.policy.specs.Write.{ConditionSupplied, ResultWritable, RuleWritable, RulesWritable, TableWritable}

-- what is found has a property, with the offset after it
abbrev Good : {A : Type 0} → (A → ℕ → Type 0) → Read A → Type 0
Good P (fault at) = Unit {0}
Good P (found a next) = P a next

then-good : {A B : Type 0} (P : A → ℕ → Type 0) (Q : B → ℕ → Type 0) (r : Read A) (k : A → ℕ → Read B)
    → Good P r → ((a : A) (next : ℕ) → P a next → Good Q (k a next)) → Good Q (and_then r k)
then-good P Q (fault at) k g f = tt
then-good P Q (found a next) k g f = f a next g

-- ════════════════════════════════════════════════════════════════════════════════════════════
-- A byte that was read is there
-- ════════════════════════════════════════════════════════════════════════════════════════════

present-lt : (bytes : List ℕ) (at b : ℕ) → slice_get bytes at ≡ Some b → at < length bytes
present-lt [] at b e = absurd (let z : ◌≡◌ {A = ℕ} 0 1 = cc in omega arith)
present-lt (x ∷ bytes) zero b e = omega arith
present-lt (x ∷ bytes) (suc at) b e = let h = present-lt bytes at b e in omega arith

abbrev Present : Token → Type 0
Present Empty = Unit {0}
Present Place = Unit {0}
Present Input1 = Unit {0}
Present Input2 = Unit {0}
Present Input3 = Unit {0}
Present Join = Unit {0}
Present Flows = Unit {0}
Present True = Unit {0}
Present And = Unit {0}
Present Or = Unit {0}
Present Nothing = ⊥

token-lt : (bytes : List ℕ) (at : ℕ) (t : Token) → token_at bytes at ≡ t → Present t → at < length bytes
unfolding token_at
token-lt bytes at t e p = go (slice_get bytes at) refl e
  where
    go : (x : Option ℕ) → slice_get bytes at ≡ x → token_option x ≡ t → at < length bytes
    go None d e = let q : Present Nothing = rw (← e) at p in absurd q
    go (Some b) d e = present-lt bytes at b d

-- ════════════════════════════════════════════════════════════════════════════════════════════
-- Expressions
-- ════════════════════════════════════════════════════════════════════════════════════════════

module _ (n : ℕ) (bytes : List ℕ) where
  -- the label expression read at an offset
  record LabelFound (depth at : ℕ) (e : LabelExpr) (next : ℕ) : Type 0 where
    deep : label_depth e ≤ depth
    supplied : LabelSupplied n e
    size : at + length (write_label e) ≡ next
    within : next ≤ length bytes

  -- one byte, where its input is supplied
  lone : (depth at : ℕ) (e : LabelExpr) (b : Bool) → label_depth e ≡ 1 → length (write_label e) ≡ 1 → (b ≡ true → LabelSupplied n e)
      → at < length bytes
      → Good (LabelFound (suc depth) at) (read_if b e at)
  lone depth at e true d w s h = record { deep = omega arith; supplied = s refl; size = omega arith; within = omega arith }
  lone depth at e false d w s h = tt

  joined : (depth at : ℕ) (inner : ℕ → Read LabelExpr) → ((at : ℕ) → Good (LabelFound depth at) (inner at))
      → Good (LabelFound (suc depth) at) (read_two inner join (at + 1))
  unfolding write_label
  joined depth at inner g =
      then-good (LabelFound depth (at + 1)) (LabelFound (suc depth) at) (inner (at + 1)) _ (g (at + 1)) (λ a next p.
      then-good (LabelFound depth next) (LabelFound (suc depth) at) (inner next) _ (g next) (λ b end q.
      record {
        deep = let x = p.deep in let y = q.deep in omega arith;
        supplied = (p.supplied, q.supplied);
        size = let x = p.size in let y = q.size in simp length-append (omega arith);
        within = q.within;
      }))

  label-from : (depth at : ℕ) (t : Token) → token_at bytes at ≡ t → (inner : ℕ → Read LabelExpr)
      → ((at : ℕ) → Good (LabelFound depth at) (inner at))
      → Good (LabelFound (suc depth) at) (label_from t n at inner)
  unfolding write_label
  label-from depth at Empty e inner g = lone depth at empty true refl refl (λ b. tt) (token-lt bytes at Empty e tt)
  label-from depth at Place e inner g = lone depth at place true refl refl (λ b. tt) (token-lt bytes at Place e tt)
  label-from depth at Input1 e inner g = lone depth at input1 (leb 1 n) refl refl (leb-true 1 n) (token-lt bytes at Input1 e tt)
  label-from depth at Input2 e inner g = lone depth at input2 (leb 2 n) refl refl (leb-true 2 n) (token-lt bytes at Input2 e tt)
  label-from depth at Input3 e inner g = lone depth at input3 (leb 3 n) refl refl (leb-true 3 n) (token-lt bytes at Input3 e tt)
  label-from depth at Join e inner g = joined depth at inner g
  label-from depth at Flows e inner g = tt
  label-from depth at True e inner g = tt
  label-from depth at And e inner g = tt
  label-from depth at Or e inner g = tt
  label-from depth at Nothing e inner g = tt

  label-found : (depth at : ℕ) → Good (LabelFound depth at) (read_label depth n bytes at)
  unfolding read_label
  label-found zero at = tt
  label-found (suc depth) at = label-from depth at (token_at bytes at) refl (read_label depth n bytes) (label-found depth)

  record ConditionFound (depth at : ℕ) (e : Condition) (next : ℕ) : Type 0 where
    deep : condition_depth e ≤ depth
    supplied : ConditionSupplied n e
    size : at + length (write_condition e) ≡ next
    within : next ≤ length bytes

  flowing : (depth at : ℕ) → Good (ConditionFound (suc depth) at) (read_two (read_label depth n bytes) flows (at + 1))
  unfolding write_condition
  flowing depth at =
      then-good (LabelFound depth (at + 1)) (ConditionFound (suc depth) at) (read_label depth n bytes (at + 1)) _
      (label-found depth (at + 1)) (λ a next p.
      then-good (LabelFound depth next) (ConditionFound (suc depth) at) (read_label depth n bytes next) _ (label-found depth next)
      (λ b end q.
      record {
        deep = let x = p.deep in let y = q.deep in omega arith;
        supplied = (p.supplied, q.supplied);
        size = let x = p.size in let y = q.size in simp length-append (omega arith);
        within = q.within;
      }))

  -- and, or
  module _ (make : Condition → Condition → Condition)
      (deep : (a b : Condition) → condition_depth (make a b) ≡ suc (max (condition_depth a) (condition_depth b)))
      (supplied : (a b : Condition) → ConditionSupplied n a → ConditionSupplied n b → ConditionSupplied n (make a b))
      (size : (a b : Condition) → length (write_condition (make a b)) ≡ suc (length (write_condition a) + length (write_condition b))) where
    paired : (depth at : ℕ) (inner : ℕ → Read Condition) → ((at : ℕ) → Good (ConditionFound depth at) (inner at))
        → Good (ConditionFound (suc depth) at) (read_two inner make (at + 1))
    paired depth at inner g =
        then-good (ConditionFound depth (at + 1)) (ConditionFound (suc depth) at) (inner (at + 1)) _ (g (at + 1)) (λ a next p.
        then-good (ConditionFound depth next) (ConditionFound (suc depth) at) (inner next) _ (g next) (λ b end q.
        record {
          deep = let x = p.deep in let y = q.deep in let z = deep a b in omega arith;
          supplied = supplied a b p.supplied q.supplied;
          size = let x = p.size in let y = q.size in let z = size a b in omega arith;
          within = q.within;
        }))

  condition-from : (depth at : ℕ) (t : Token) → token_at bytes at ≡ t → (inner : ℕ → Read Condition)
      → ((at : ℕ) → Good (ConditionFound depth at) (inner at))
      → Good (ConditionFound (suc depth) at) (condition_from t at (read_label depth n bytes) inner)
  unfolding write_condition
  condition-from depth at Empty e inner g = tt
  condition-from depth at Place e inner g = tt
  condition-from depth at Input1 e inner g = tt
  condition-from depth at Input2 e inner g = tt
  condition-from depth at Input3 e inner g = tt
  condition-from depth at Join e inner g = tt
  condition-from depth at Flows e inner g = flowing depth at
  condition-from depth at True e inner g =
      let h = token-lt bytes at True e tt in record { deep = omega arith; supplied = tt; size = omega arith; within = omega arith }
  condition-from depth at And e inner g =
      paired both (λ a b. refl) (λ a b p q. (p, q)) (λ a b. simp length-append (omega arith)) depth at inner g
  condition-from depth at Or e inner g =
      paired either (λ a b. refl) (λ a b p q. (p, q)) (λ a b. simp length-append (omega arith)) depth at inner g
  condition-from depth at Nothing e inner g = tt

  condition-found : (depth at : ℕ) → Good (ConditionFound depth at) (read_condition depth n bytes at)
  unfolding read_condition
  condition-found zero at = tt
  condition-found (suc depth) at = condition-from depth at (token_at bytes at) refl (read_condition depth n bytes) (condition-found depth)

  -- ══════════════════════════════════════════════════════════════════════════════════════════
  -- Rules
  -- ══════════════════════════════════════════════════════════════════════════════════════════

  record ResultFound (has : Bool) (at : ℕ) (e : LabelExpr) (next : ℕ) : Type 0 where
    fits : ResultWritable has n e
    size : at + length (write_label e) ≡ next
    within : next ≤ length bytes

  empty-byte : (at : ℕ) (x : Option ℕ) → slice_get bytes at ≡ x → Good (ResultFound false at) (empty_byte x at)
  unfolding write_label
  empty-byte at None d = tt
  empty-byte at (Some b) d = go (eqb b 0x10)
    where
      go : (c : Bool) → Good (ResultFound false at) (read_if c empty at)
      go true = let h = present-lt bytes at b d in record { fits = refl; size = refl; within = omega arith }
      go false = tt

  result-found : (has : Bool) (at : ℕ) → Good (ResultFound has at) (result_if has n bytes at)
  result-found false at = empty-byte at (slice_get bytes at) refl
  result-found true at = go (read_label depth_limit n bytes at) (label-found depth_limit at)
    where
      go : (r : Read LabelExpr) → Good (LabelFound depth_limit at) r → Good (ResultFound true at) r
      go (fault x) g = tt
      go (found e next) g = record { fits = (g.deep, g.supplied); size = g.size; within = g.within }

module _ (bytes : List ℕ) where
  record RuleFound (o : Opcode) (at : ℕ) (r : Rule) (next : ℕ) : Type 0 where
    fits : RuleWritable o r
    size : at + length (write_rule r) ≡ next
    within : next ≤ length bytes

  module _ (o : Opcode) (at : ℕ) where
    abbrev n : ℕ
    n = supplies o

    rule-put : (c : Condition) (at2 : ℕ) (q : LabelExpr) (at3 : ℕ) (r : LabelExpr) (end : ℕ) → ConditionFound n bytes depth_limit at c at2
        → LabelFound n bytes depth_limit at2 q at3 → ResultFound n bytes (has_result o) at3 r end
        → RuleFound o at (record { allowed = c; pc = q; result = r }) end
    rule-put c at2 q at3 r end p s t =
        record {
          fits = record { depth = p.deep; supplied = p.supplied; pc = (s.deep, s.supplied); result = t.fits };
          size = let x = p.size in let y = s.size in let z = t.size in simp length-append (omega arith);
          within = t.within;
        }

    -- what is read after the condition, and after the place
    abbrev last : Condition → LabelExpr → LabelExpr → ℕ → Read Rule
    last c q r end = found (record { allowed = c; pc = q; result = r }) end

    abbrev middle : Condition → LabelExpr → ℕ → Read Rule
    middle c q at3 = and_then (result_if (has_result o) n bytes at3) (last c q)

    abbrev rest : Condition → ℕ → Read Rule
    rest c at2 = and_then (read_label depth_limit n bytes at2) (middle c)

    rule_found : Good (RuleFound o at) (read_rule_with n (has_result o) bytes at)
    unfolding read_rule_with
    rule_found =
        then-good (ConditionFound n bytes depth_limit at) (RuleFound o at) (read_condition depth_limit n bytes at) rest
        (condition-found n bytes depth_limit at) (λ c at2 p.
        then-good (LabelFound n bytes depth_limit at2) (RuleFound o at) (read_label depth_limit n bytes at2) (middle c)
        (label-found n bytes depth_limit at2) (λ q at3 s.
        then-good (ResultFound n bytes (has_result o) at3) (RuleFound o at) (result_if (has_result o) n bytes at3) (last c q)
        (result-found n bytes (has_result o) at3) (λ r end t. rule-put c at2 q at3 r end p s t)))

  record RulesFound (os : List Opcode) (at : ℕ) (t : Table) (next : ℕ) : Type 0 where
    fits : RulesWritable os t
    size : at + length (write_table t) ≡ next
    within : at ≤ length bytes → next ≤ length bytes

  rules-found : (os : List Opcode) (at : ℕ) → Good (RulesFound os at) (read_rules os bytes at)
  unfolding read_rules write_table
  rules-found [] at = record { fits = tt; size = omega arith; within = λ h. h }
  rules-found (o ∷ os) at =
      then-good (RuleFound o at) (RulesFound (o ∷ os) at) (read_rule_with (supplies o) (has_result o) bytes at)
      (λ r next. prepend r (read_rules os bytes next))
      (rule_found o at) (λ r next p. more r next p (read_rules os bytes next) (rules-found os next))
    where
      more : (r : Rule) (next : ℕ) → RuleFound o at r next → (x : Read Table) → Good (RulesFound os next) x
          → Good (RulesFound (o ∷ os) at) (prepend r x)
      more r next p (fault y) g = tt
      more r next p (found t end) g =
          record {
            fits = (p.fits, g.fits);
            size = let x = p.size in let y = g.size in let z = length-append (write_rule r) (write_table t) in omega arith;
            within = λ h. g.within p.within;
          }

-- ════════════════════════════════════════════════════════════════════════════════════════════
-- Tables
-- ════════════════════════════════════════════════════════════════════════════════════════════

never : {A : Type 0} → ◌≡◌ {A = ℕ} 0 1 → A
never z = absurd (omega arith)

-- every table that check 6 accepts can be written
pub read-writable : (bytes : List ℕ) (t : Table) → read_table bytes ≡ table t → TableWritable t
unfolding read_table
read-writable bytes t e = limited (leb (length bytes) table_limit) refl e
  where
    left : (r : Read Table) → Good (RulesFound bytes ruled 0) r → length bytes ≤ table_limit → whole (length bytes) r ≡ table t
        → TableWritable t
    left (fault at) g h e = never (cc)
    left (found u end) g h e = go (ltb end (length bytes)) e
      where
        go : (b : Bool) → whole_if b u end ≡ table t → TableWritable t
        go true e = never (cc)
        go false e =
            let k : u ≡ t = cc in
            let w = g.within (omega arith) in
            let s = g.size in
            let writable : TableWritable u = record { rules = g.fits; size = omega arith } in
            rw k at writable

    limited : (b : Bool) → leb (length bytes) table_limit ≡ b → table_if b bytes ≡ table t → TableWritable t
    limited true l e = left (read_rules ruled bytes 0) (rules-found bytes ruled 0) (leb-true (length bytes) table_limit l) e
    limited false l e = never (cc)
