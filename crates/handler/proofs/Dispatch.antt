-- A translated rule ends the handler as the rule says, and the dispatch chooses the rule that the command with the code is under.
-- Assumes nothing.
use Rattle.std.proofs.Common.{Some, slice_get}
use mathlib.Core.Path.{◌≡◌, refl, sym, ap, ◌∙◌}
use mathlib.Core.Bool.{Bool, true, false}
use mathlib.Core.List.{List, [], ◌∷◌, ◌++◌, append_assoc, map}
use Prim.Native.Nat.{ℕ, zero, suc, ◌+◌, ◌-◌, ◌≤◌}
use native.Mathlib.Omega.{arith}
use lib.IntN.{ℤ, pos, negsuc}
use lib.ListN.{length, take, drop, length-append}
use lib.Dec.{eqb, eqb-suc-zero}
use Rattle.word.specs.Wrap.{add_wrap}
use Rattle.program.specs.Command.{Opcode, opcodes, code_of, supplies, has_result, rule_number}
use Rattle.program.proofs.Codes.{opcodes-code, code-least, code-most}
use Rattle.machine.specs.Rule.{Key, Verdict, allowed_if}
use Rattle.policy.specs.Expression.{LabelExpr, Condition, flows, always, both, either, Rule, Table}
use Rattle.policy.specs.Write.{condition_depth, ConditionSupplied, LabelWritable, ResultWritable, RuleWritable}
use Rattle.policy.specs.Evaluate.{eval_label, eval_condition, rule_of, eval_rule}
use Rattle.policy.specs.Row.{key_row, fault_row}
use Rattle.handler.specs.Kernel.{Instruction, Jump, Push, Bnz, Dup, Add, returned}
use Rattle.handler.specs.Translate.{read, compile_answer, compile_if, compile_rule, guarded, concat, slots, translate}
use Rattle.handler.specs.Claim.{outcome_of, row_of}
use Rattle.handler.proofs.Exec.{exec, Ending, ending}
use Rattle.handler.proofs.Instruction.{exec-push, exec-store, exec-ret, exec-bnz, exec-bnz-zero, exec-denied, exec-over, exec-pass}
use Rattle.handler.proofs.Instruction.{exec-read, exec-dup, exec-add, exec-jump}
use Rattle.handler.proofs.Word.{add_wrap-pos}
use Rattle.handler.proofs.Compile.{Reads, label-run, condition-run, condition_word, word_holds}

-- the ending that a verdict comes to
abbrev pub ending_for : Key → Verdict → Ending
ending_for k v = ending (outcome_of v) (row_of k v)

-- ════════════════════════════════════════════════════════════════════════════════════════════
-- Rules
-- ════════════════════════════════════════════════════════════════════════════════════════════

module _ (n m : ℕ) (k : Key) (reads : Reads m k) where
  answer-run : (a : Rule) (rest : List Instruction) → LabelWritable m a.pc → LabelWritable m a.result
      → exec n (compile_answer a ++ rest) 0 [] (fault_row k)
      ≡ ending returned (key_row k (pos (eval_label k a.pc)) (pos (eval_label k a.result)))
  answer-run a rest h g =
      simp append_assoc
      (label-run n m k reads (negsuc 0) (negsuc 0) a.pc _ [] h.1 (omega (arith, h.0))
      ∙ label-run n m k reads (negsuc 0) (negsuc 0) a.result _ _ g.1 (omega (arith, g.0))
      ∙ exec-push n _ _ _ (pos 6) (omega arith)
      ∙ exec-store n _ _ _ 6 _ _ refl
      ∙ exec-push n _ _ _ (pos 5) (omega arith)
      ∙ exec-store n _ _ _ 5 _ _ refl
      ∙ exec-ret n _ _ _)

  -- instructions that answer with p and r, behind a condition
  module _ (p r : ℕ) (code : List Instruction)
      (answers : (rest : List Instruction) → exec n (code ++ rest) 0 [] (fault_row k) ≡ ending returned (key_row k (pos p) (pos r))) where
    -- with the condition's number on the stack
    tested-run : (x : ℕ) (rest : List Instruction)
        → exec n (Bnz (pos (suc (length code))) ∷ code ++ (Push (negsuc 0) ∷ Jump ∷ rest)) 0 (pos x ∷ []) (fault_row k)
        ≡ ending_for k (allowed_if (eqb x 0) p r)
    tested-run zero rest = exec-bnz-zero n _ [] _ _ ∙ answers _
    tested-run (suc x) rest =
        rw (eqb-suc-zero x)
        (exec-bnz n _ [] _ x (length code) ∙ exec-over n code _ [] _ ∙ exec-denied n rest [] _ (omega arith))

    guarded-run : (c : Condition) (rest : List Instruction) → ConditionSupplied m c → condition_depth c ≤ 8
        → exec n (guarded c code ++ rest) 0 [] (fault_row k) ≡ ending_for k (allowed_if (eval_condition k c) p r)
    guarded-run c rest h d =
        simp append_assoc
        (condition-run n m k reads (negsuc 0) (negsuc 0) c _ [] h (omega arith)
        ∙ rw (word_holds n m k reads c h) (tested-run (condition_word k c) rest))

    if-run : (c : Condition) (rest : List Instruction) → ConditionSupplied m c → condition_depth c ≤ 8
        → exec n (compile_if c code ++ rest) 0 [] (fault_row k) ≡ ending_for k (allowed_if (eval_condition k c) p r)
    if-run (flows a b) rest h d = guarded-run (flows a b) rest h d
    if-run always rest h d = answers rest
    if-run (both a b) rest h d = guarded-run (both a b) rest h d
    if-run (either a b) rest h d = guarded-run (either a b) rest h d

result-writable : (b : Bool) (m : ℕ) (e : LabelExpr) → ResultWritable b m e → LabelWritable m e
result-writable true m e h = h
result-writable false m e h = rw h (omega arith, tt)

pub rule-run : (n : ℕ) (o : Opcode) (k : Key) (a : Rule) (rest : List Instruction) → Reads (supplies o) k → RuleWritable o a
    → exec n (compile_rule a ++ rest) 0 [] (fault_row k) ≡ ending_for k (eval_rule (Some a) k)
unfolding compile_rule
rule-run n o k a rest reads w =
    if-run n (supplies o) k reads (eval_label k a.pc) (eval_label k a.result) (compile_answer a)
    (λ more. answer-run n (supplies o) k reads a more w.pc (result-writable (has_result o) (supplies o) a.result w.result))
    a.allowed rest w.supplied w.depth

-- ════════════════════════════════════════════════════════════════════════════════════════════
-- The dispatch
-- ════════════════════════════════════════════════════════════════════════════════════════════

pub slots_length : (bodies : List (List Instruction)) (os : List Opcode) → length (slots bodies os) ≡ length os
slots_length bodies [] = refl
slots_length bodies (o ∷ os) = ap suc (slots_length bodies os)

-- a body, behind those before it
concat-at : (bodies : List (List Instruction)) (n : ℕ) (b : List Instruction) → slice_get bodies n ≡ Some b
    → concat bodies ≡ concat (take n bodies) ++ (b ++ concat (drop (suc n) bodies))
concat-at [] n b e = let z : ◌≡◌ {A = ℕ} 0 1 = cc in absurd (omega arith)
concat-at (a ∷ bodies) zero b e = let same : a ≡ b = cc in rw same
concat-at (a ∷ bodies) (suc n) b e = rw (concat-at bodies n b e) (sym (append_assoc a (concat (take n bodies)) _))

-- a command's slot comes to the body of its rule; c is any number but 0
module _ (n c : ℕ) (s w : List ℤ) (x : Ending) (bodies : List (List Instruction)) (o : Opcode) (b : List Instruction)
    (body : slice_get bodies (rule_number o) ≡ Some b) (runs : (rest : List Instruction) → exec n (b ++ rest) 0 s w ≡ x) where
  slots-run : (os : List Opcode) (i : ℕ) → slice_get os i ≡ Some o → exec n (slots bodies os ++ concat bodies) i (pos (suc c) ∷ s) w ≡ x
  slots-run [] i e = let z : ◌≡◌ {A = ℕ} 0 1 = cc in absurd (omega arith)
  slots-run (p ∷ os) zero e =
      let same : p ≡ o = cc in
      let front = concat (take (rule_number o) bodies) in
      let behind = b ++ concat (drop (suc (rule_number o)) bodies) in
      let l : length os + length front ≡ length (slots bodies os ++ front) = simp (length-append, slots_length) in
      rw same
      (exec-bnz n _ s w c (length os + length front)
      ∙ rw (concat-at bodies (rule_number o) b body, ← append_assoc (slots bodies os) front behind, l)
      (exec-over n (slots bodies os ++ front) behind s w ∙ runs _))
  slots-run (p ∷ os) (suc i) e = exec-pass n _ _ i _ w ∙ slots-run os i e

element-map : (t : Table) (i : ℕ) (a : Rule) → slice_get t i ≡ Some a → slice_get (map compile_rule t) i ≡ Some (compile_rule a)
element-map [] i a e = let z : ◌≡◌ {A = ℕ} 0 1 = cc in absurd (omega arith)
element-map (b ∷ t) zero a e = cc
element-map (b ∷ t) (suc i) a e = element-map t i a e

-- from the start of the handler of t with a command's code in the row's first word to the body of the rule that the command is under
pub dispatch-run : (t : Table) (o : Opcode) (w : List ℤ) (x : Ending) (a : Rule) → slice_get w 0 ≡ Some (pos (code_of o))
    → rule_of t o ≡ Some a → ((rest : List Instruction) → exec (length (translate t)) (compile_rule a ++ rest) 0 [] w ≡ x)
    → exec (length (translate t)) (translate t) 0 [] w ≡ x
dispatch-run t o w x a code rule h =
    let i = code_of o - 1 in
    let c : code_of o ≡ suc i = omega (arith, code-least o) in
    let bodies = map compile_rule t in
    let n = length (translate t) in
    let rest = slots bodies opcodes ++ concat bodies in
    let add : add_wrap (pos 5) (pos (suc i)) ≡ pos (suc 5 + i) =
    add_wrap-pos 5 (suc i) (omega arith) (omega (arith, code-most o)) ∙ ap pos (omega arith) in
    let same : translate t ≡ read 0 ++ (Dup ∷ Push (pos 5) ∷ Add ∷ Jump ∷ rest) = unfold translate in refl in
    let l : n ≡ suc 5 + length rest = unfold translate in omega arith in
    ap (λ (c : List Instruction). exec n c 0 [] w) same
    ∙ exec-read n (Dup ∷ Push (pos 5) ∷ Add ∷ Jump ∷ rest) [] w 0 (pos (suc i)) (code ∙ ap (λ m. Some (pos m)) c) (omega arith)
    ∙ exec-dup n _ [] w _ (omega arith)
    ∙ exec-push n _ _ w (pos 5) (omega arith)
    ∙ exec-add n _ _ w (pos 5) (pos (suc i))
    ∙ rw add (exec-jump n rest (pos (suc i) ∷ []) w 5 i l)
    ∙ slots-run n i [] w x bodies o (compile_rule a) (element-map t (rule_number o) a rule) h opcodes i (opcodes-code o)
