-- How long a translated table is, and that its jumps go forward or to −1.
-- Assumes nothing.
use mathlib.Core.Path.{◌≡◌, refl, ap}
use mathlib.Core.List.{List, [], ◌∷◌, ◌++◌, map}
use Prim.Native.Nat.{ℕ, zero, suc, ◌+◌, ◌*◌, ◌≤◌}
use native.Mathlib.Omega.{arith}
use lib.ListN.{length, length-append, length-map}
use Rattle.policy.specs.Expression.{LabelExpr, empty, place, input1, input2, input3, join, Condition, flows, always, both, either}
use Rattle.policy.specs.Expression.{Rule, Table}
use Rattle.handler.specs.Kernel.{Instruction}
use Rattle.handler.specs.Translate.{compile_label, compile_condition, compile_answer, compile_if, compile_rule, guarded, concat, before}
use Rattle.handler.specs.Translate.{slots, translate}
use Rattle.program.specs.Command.{Opcode, ruled, rule_number}
use Rattle.policy.specs.Write.{write_label, write_condition, write_table, RulesWritable, TableWritable}
use Rattle.handler.specs.Claim.{Forward, none, straight, branch, deny}
use Rattle.handler.proofs.Dispatch.{slots_length}

-- ════════════════════════════════════════════════════════════════════════════════════════════
-- Length
-- ════════════════════════════════════════════════════════════════════════════════════════════

label-length : (e : LabelExpr) → length (compile_label e) ≤ 2 * length (write_label e)
unfolding write_label
label-length empty = omega arith
label-length place = omega arith
label-length input1 = omega arith
label-length input2 = omega arith
label-length input3 = omega arith
label-length (join a b) = simp length-append (omega (arith, label-length a, label-length b))

condition-length : (c : Condition) → length (compile_condition c) ≤ 4 * length (write_condition c)
unfolding write_condition
condition-length (flows a b) = simp length-append (omega (arith, label-length a, label-length b))
condition-length always = omega arith
condition-length (both a b) = simp length-append (omega (arith, condition-length a, condition-length b))
condition-length (either a b) = simp length-append (omega (arith, condition-length a, condition-length b))

answer-length : (a : Rule) → length (compile_answer a) ≤ 2 * length (write_label a.pc) + 2 * length (write_label a.result) + 5
answer-length a = simp length-append (omega (arith, label-length a.pc, label-length a.result))

if-length : (c : Condition) (code : List Instruction) → length (compile_if c code) ≤ 4 * length (write_condition c) + length code + 3
unfolding write_condition
if-length (flows a b) code = simp length-append (omega (arith, label-length a, label-length b))
if-length always code = omega arith
if-length (both a b) code = simp length-append (omega (arith, condition-length a, condition-length b))
if-length (either a b) code = simp length-append (omega (arith, condition-length a, condition-length b))

rule-length : (a : Rule)
    → length (compile_rule a)
    ≤ 4 * (length (write_condition a.allowed) + (length (write_label a.pc) + length (write_label a.result))) + 8
unfolding compile_rule
rule-length a = omega (arith, if-length a.allowed (compile_answer a), answer-length a)

bodies-length : (t : Table) → length (concat (map compile_rule t)) ≤ 4 * length (write_table t) + 8 * length t
unfolding write_table
bodies-length [] = omega arith
bodies-length (a ∷ t) = simp length-append (omega (arith, rule-length a, bodies-length t))

rules-length : (os : List Opcode) (t : Table) → RulesWritable os t → length t ≡ length os
rules-length [] [] w = refl
rules-length [] (r ∷ t) w = absurd w
rules-length (o ∷ os) [] w = absurd w
rules-length (o ∷ os) (r ∷ t) w = ap suc (rules-length os t w.1)

-- at most 8,192 instructions
pub handler-length : (t : Table) → TableWritable t → length (translate t) ≤ 8192
unfolding translate
handler-length t well =
    simp (length-append, slots_length, length-map)
    (omega (arith, rules-length ruled t well.rules, well.size, bodies-length t))

-- ════════════════════════════════════════════════════════════════════════════════════════════
-- Jumps
-- ════════════════════════════════════════════════════════════════════════════════════════════

forward-append : {a b : List Instruction} → Forward a → Forward b → Forward (a ++ b)
forward-append none g = g
forward-append (straight h f) g = straight h (forward-append f g)
forward-append {b} (branch {d} {rest} h f) g = branch {d = d} {rest = rest ++ b} (omega (arith, length-append rest b)) (forward-append f g)
forward-append (deny f) g = deny (forward-append f g)

label-forward : (e : LabelExpr) → Forward (compile_label e)
label-forward empty = straight tt none
label-forward place = straight tt (straight tt none)
label-forward input1 = straight tt (straight tt none)
label-forward input2 = straight tt (straight tt none)
label-forward input3 = straight tt (straight tt none)
label-forward (join a b) = forward-append (forward-append (label-forward a) (label-forward b)) (straight tt none)

condition-forward : (c : Condition) → Forward (compile_condition c)
condition-forward (flows a b) =
    forward-append (forward-append (label-forward b) (straight tt (label-forward a))) (straight tt (straight tt none))
condition-forward always = straight tt none
condition-forward (both a b) = forward-append (forward-append (condition-forward a) (condition-forward b)) (straight tt none)
condition-forward (either a b) =
    forward-append (condition-forward a) (branch (omega arith) (straight tt (straight tt (branch (omega arith) (condition-forward b)))))

answer-forward : (a : Rule) → Forward (compile_answer a)
answer-forward a =
    forward-append (forward-append (label-forward a.pc) (label-forward a.result))
    (straight tt (straight tt (straight tt (straight tt (straight tt none)))))

guarded-forward : (c : Condition) (code : List Instruction) → Forward code → Forward (guarded c code)
guarded-forward c code f = forward-append (forward-append (condition-forward c) (branch (omega arith) f)) (deny none)

if-forward : (c : Condition) (code : List Instruction) → Forward code → Forward (compile_if c code)
if-forward (flows a b) code f = guarded-forward (flows a b) code f
if-forward always code f = f
if-forward (both a b) code f = guarded-forward (both a b) code f
if-forward (either a b) code f = guarded-forward (either a b) code f

rule-forward : (a : Rule) → Forward (compile_rule a)
unfolding compile_rule
rule-forward a = if-forward a.allowed (compile_answer a) (answer-forward a)

pub bodies-forward : (t : Table) → Forward (concat (map compile_rule t))
bodies-forward [] = none
bodies-forward (a ∷ t) = forward-append (rule-forward a) (bodies-forward t)

-- no body stands past the end
pub before-most : (bodies : List (List Instruction)) (n : ℕ) → before bodies n ≤ length (concat bodies)
before-most bodies zero = omega arith
before-most [] (suc n) = omega arith
before-most (b ∷ bs) (suc n) = simp length-append (omega (arith, before-most bs n))

pub slots-forward : (bodies : List (List Instruction)) (os : List Opcode) → Forward (concat bodies)
    → Forward (slots bodies os ++ concat bodies)
slots-forward bodies [] f = f
slots-forward bodies (o ∷ os) f =
    branch {d = length os + before bodies (rule_number o)} {rest = slots bodies os ++ concat bodies}
    (simp (length-append, slots_length) (omega (arith, before-most bodies (rule_number o))))
    (slots-forward bodies os f)
