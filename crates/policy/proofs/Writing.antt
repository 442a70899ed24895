-- Writing a rule table as bytes and reading it gives it back.
-- Assumes nothing.
use mathlib.Core.Path.{◌≡◌, sym, ap, ◌∙◌}
use mathlib.Core.Bool.{Bool, true, false}
use mathlib.Core.List.{List, [], ◌∷◌, ◌++◌, append_assoc, append-nil}
use Prim.Native.Nat.{ℕ, zero, suc, ◌+◌, ◌≤◌}
use native.Mathlib.Omega.{arith}
use lib.ListN.{length, drop, length-append}
use borrow.Author.Tests.{le-leb, le-ltb}
use Rattle.program.specs.Command.{Opcode, ruled, supplies, has_result}
use Rattle.policy.specs.Expression.{LabelExpr, empty, place, input1, input2, input3, join, Condition, flows, always, both}
use Rattle.policy.specs.Expression.{either, Rule, Table}
use Rattle.policy.specs.Token.{token_of}
use Rattle.policy.specs.Read.{Read, found, read_two, read_label, read_condition, depth_limit, result_if, read_rule_with, read_rule}
use Rattle.policy.specs.Read.{read_rules, table, read_table, table_limit}
use Rattle.policy.specs.Write.{write_label, write_condition, write_rule, write_table, label_depth, condition_depth, LabelSupplied}
use Rattle.policy.specs.Write.{ConditionSupplied, ResultWritable, RuleWritable, RulesWritable, TableWritable}
use Rattle.policy.proofs.Tokens.{get_elem-drop, token_at-drop, drop-next, drop_past}

-- reading bytes wherever something is written gives it, and the offset after it
abbrev Reads : {A : Type 0} → List ℕ → (ℕ → Read A) → A → List ℕ → Type 0
Reads s read x bytes = (at : ℕ) (rest : List ℕ) → drop at s ≡ bytes ++ rest → read at ≡ found x (at + length bytes)

-- an operator and two expressions after it
two-written : {A B : Type 0} (s : List ℕ) (read : ℕ → Read A) (make : A → A → B) (a b : A) (xs bs : List ℕ)
    → Reads s read a xs → Reads s read b bs → (operator at : ℕ) (rest : List ℕ) → drop at s ≡ operator ∷ ((xs ++ bs) ++ rest)
    → read_two read make (at + 1) ≡ found (make a b) (at + suc (length (xs ++ bs)))
two-written s read make a b xs bs ra rb operator at rest e =
    let after : drop (at + 1) s ≡ xs ++ (bs ++ rest) = drop-next s at operator _ e ∙ append_assoc xs bs rest in
    let end : at + 1 + length xs + length bs ≡ at + suc (length (xs ++ bs)) = omega (arith, length-append xs bs) in
    rw (
      ra (at + 1) (bs ++ rest) after,
      rb (at + 1 + length xs) rest (drop_past s (at + 1) xs (bs ++ rest) after),
      end,
    )

label-written : (s : List ℕ) (e : LabelExpr) (d n : ℕ) → label_depth e ≤ d → LabelSupplied n e → Reads s (read_label d n s) e (write_label e)
unfolding read_label write_label token_of
label-written s empty zero n h k at rest e = absurd (omega arith)
label-written s place zero n h k at rest e = absurd (omega arith)
label-written s input1 zero n h k at rest e = absurd (omega arith)
label-written s input2 zero n h k at rest e = absurd (omega arith)
label-written s input3 zero n h k at rest e = absurd (omega arith)
label-written s (join a b) zero n h k at rest e = absurd (omega arith)
label-written s empty (suc d) n h k at rest e = rw (token_at-drop s at _ _ e)
label-written s place (suc d) n h k at rest e = rw (token_at-drop s at _ _ e)
label-written s input1 (suc d) n h k at rest e = rw (token_at-drop s at _ _ e, le-leb 1 n k)
label-written s input2 (suc d) n h k at rest e = rw (token_at-drop s at _ _ e, le-leb 2 n k)
label-written s input3 (suc d) n h k at rest e = rw (token_at-drop s at _ _ e, le-leb 3 n k)
label-written s (join a b) (suc d) n h k at rest e =
    rw (token_at-drop s at _ _ e)
    (two-written s (read_label d n s) join a b (write_label a) (write_label b)
    (label-written s a d n (omega arith) k.0) (label-written s b d n (omega arith) k.1) _ at rest e)

condition-written : (s : List ℕ) (c : Condition) (d n : ℕ) → condition_depth c ≤ d → ConditionSupplied n c
    → Reads s (read_condition d n s) c (write_condition c)
unfolding read_condition write_condition token_of
condition-written s (flows a b) zero n h k at rest e = absurd (omega arith)
condition-written s always zero n h k at rest e = absurd (omega arith)
condition-written s (both a b) zero n h k at rest e = absurd (omega arith)
condition-written s (either a b) zero n h k at rest e = absurd (omega arith)
condition-written s (flows a b) (suc d) n h k at rest e =
    rw (token_at-drop s at _ _ e)
    (two-written s (read_label d n s) flows a b (write_label a) (write_label b)
    (label-written s a d n (omega arith) k.0) (label-written s b d n (omega arith) k.1) _ at rest e)
condition-written s always (suc d) n h k at rest e = rw (token_at-drop s at _ _ e)
condition-written s (both a b) (suc d) n h k at rest e =
    rw (token_at-drop s at _ _ e)
    (two-written s (read_condition d n s) both a b (write_condition a) (write_condition b)
    (condition-written s a d n (omega arith) k.0) (condition-written s b d n (omega arith) k.1) _ at rest e)
condition-written s (either a b) (suc d) n h k at rest e =
    rw (token_at-drop s at _ _ e)
    (two-written s (read_condition d n s) either a b (write_condition a) (write_condition b)
    (condition-written s a d n (omega arith) k.0) (condition-written s b d n (omega arith) k.1) _ at rest e)

result-written : (s : List ℕ) (b : Bool) (n : ℕ) (r : LabelExpr) → ResultWritable b n r → Reads s (result_if b n s) r (write_label r)
unfolding write_label token_of
result-written s true n r w at rest e = label-written s r depth_limit n w.0 w.1 at rest e
result-written s false n empty w at rest e = rw (get_elem-drop s at _ _ e)
result-written s false n place w at rest e = absurd (let z : ◌≡◌ {A = ℕ} 0 1 = cc in omega arith)
result-written s false n input1 w at rest e = absurd (let z : ◌≡◌ {A = ℕ} 0 1 = cc in omega arith)
result-written s false n input2 w at rest e = absurd (let z : ◌≡◌ {A = ℕ} 0 1 = cc in omega arith)
result-written s false n input3 w at rest e = absurd (let z : ◌≡◌ {A = ℕ} 0 1 = cc in omega arith)
result-written s false n (join a b) w at rest e = absurd (let z : ◌≡◌ {A = ℕ} 0 1 = cc in omega arith)

rule-written : (s : List ℕ) (o : Opcode) (r : Rule) → RuleWritable o r → Reads s (read_rule o s) r (write_rule r)
unfolding read_rule_with
rule-written s o r w at rest e =
    let cs = write_condition r.allowed in
    let ps = write_label r.pc in
    let rs = write_label r.result in
    let e1 : drop at s ≡ cs ++ (ps ++ (rs ++ rest)) =
    e ∙ append_assoc cs (ps ++ rs) rest ∙ ap (λ (l : List ℕ). cs ++ l) (append_assoc ps rs rest) in
    let e2 = drop_past s at cs (ps ++ (rs ++ rest)) e1 in
    let e3 = drop_past s (at + length cs) ps (rs ++ rest) e2 in
    let end : at + length cs + length ps + length rs ≡ at + length (write_rule r) =
    omega (arith, length-append cs (ps ++ rs), length-append ps rs) in
    rw (
      condition-written s r.allowed depth_limit (supplies o) w.depth w.supplied at _ e1,
      label-written s r.pc depth_limit (supplies o) w.pc.0 w.pc.1 (at + length cs) _ e2,
      result-written s (has_result o) (supplies o) r.result w.result (at + length cs + length ps) _ e3,
      end,
    )

rules-written : (s : List ℕ) (os : List Opcode) (t : Table) → RulesWritable os t → Reads s (read_rules os s) t (write_table t)
unfolding read_rules write_table
rules-written s [] [] w at rest e = ap (found []) (omega arith)
rules-written s [] (r ∷ rs) w at rest e = absurd w
rules-written s (o ∷ os) [] w at rest e = absurd w
rules-written s (o ∷ os) (r ∷ rs) w at rest e =
    let e1 = e ∙ append_assoc (write_rule r) (write_table rs) rest in
    let end : at + length (write_rule r) + length (write_table rs) ≡ at + length (write_table (r ∷ rs)) =
    omega (arith, length-append (write_rule r) (write_table rs)) in
    rw (
      rule-written s o r w.0 at _ e1,
      rules-written s os rs w.1 (at + length (write_rule r)) rest (drop_past s at (write_rule r) _ e1),
      end,
    )

-- a table that can be written is read back from its bytes
pub read_table-write_table : (t : Table) → TableWritable t → read_table (write_table t) ≡ table t
unfolding read_table
read_table-write_table t w =
    let s = write_table t in
    rw (
      le-leb (length s) table_limit w.size,
      rules-written s ruled t w.rules 0 [] (sym (append-nil s)),
      le-ltb (0 + length s) (length s) (omega arith),
    )
