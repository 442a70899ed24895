-- Translated expressions: run before any rest they leave their value, and nothing else, on the stack.
-- Assumes nothing.
use Rattle.std.proofs.Common.{Some}
use mathlib.Core.Path.{◌≡◌, refl, ap, ◌∙◌}
use mathlib.Core.Bool.{◌||◌}
use mathlib.Core.List.{List, ◌∷◌, ◌++◌, append_assoc}
use Prim.Native.Nat.{ℕ, zero, suc, ◌+◌, ◌-◌, ◌≤◌}
use native.Mathlib.Omega.{arith}
use lib.IntN.{ℤ, pos}
use lib.ListN.{length}
use lib.Dec.{eqb, eqb-suc-zero}
use Rattle.label.specs.Label as Label
use Rattle.label.specs.Label.{InRange}
use Rattle.label.proofs.Laws.{join-range, join-comm, flows-is-join}
use Rattle.machine.specs.Rule.{Input, present, missing, input_word, Key, label_of}
use Rattle.policy.specs.Expression.{LabelExpr, empty, place, input1, input2, input3, join, Condition, flows, always, both, either}
use Rattle.policy.specs.Evaluate.{eval_label, eval_condition}
use Rattle.handler.specs.Kernel.{Instruction, Push, Bnz, stack_limit}
use Rattle.handler.specs.Translate.{compile_label, compile_condition}
use Rattle.policy.specs.Write.{label_depth, condition_depth, LabelSupplied, ConditionSupplied}
use Rattle.policy.specs.Row.{key_row}
use Rattle.handler.proofs.Word.{or_word-join, join-le, join-zero, difference-zero, sub_wrap-pos}
use Rattle.handler.proofs.Exec.{exec}
use Rattle.handler.proofs.Instruction.{exec-push, exec-dup, exec-or, exec-sub, exec-bnz, exec-bnz-zero, exec-read, exec-over}

-- an input that is there, with a label in range
abbrev pub Readable : Input → Type 0
Readable (present l) = InRange l
Readable missing = ⊥

-- a key whose labels are in range, with its first m inputs
pub record Reads (m : ℕ) (k : Key) : Type 0 where
  pub pc : InRange k.pc
  pub input1 : 1 ≤ m → Readable k.input1
  pub input2 : 2 ≤ m → Readable k.input2
  pub input3 : 3 ≤ m → Readable k.input3

readable-word : (i : Input) → Readable i → input_word i ≡ pos (label_of i)
readable-word (present l) h = refl
readable-word missing h = elim h [ ]

readable-range : (i : Input) → Readable i → InRange (label_of i)
readable-range (present l) h = h
readable-range missing h = elim h [ ]

-- what a translated condition leaves on the stack
abbrev pub unless_zero : ℕ → ℕ → ℕ
unless_zero zero y = zero
unless_zero (suc x) y = y

abbrev pub condition_word : Key → Condition → ℕ
condition_word k (flows a b) = Label.join (eval_label k a) (eval_label k b) - eval_label k b
condition_word k always = 0
condition_word k (both a b) = Label.join (condition_word k b) (condition_word k a)
condition_word k (either a b) = unless_zero (condition_word k a) (condition_word k b)

unless-range : (x y : ℕ) → InRange y → InRange (unless_zero x y)
unless-range zero y h = omega arith
unless-range (suc x) y h = h

unless-zero : (x y : ℕ) → (eqb x 0 || eqb y 0) ≡ eqb (unless_zero x y) 0
unless-zero zero y = refl
unless-zero (suc x) y = rw (eqb-suc-zero x)

-- the second of two ways is taken where the first leaves no zero
either-run : (n : ℕ) (block rest : List Instruction) (s w : List ℤ) (x y : ℕ) → length s + 2 ≤ stack_limit
    → exec n (block ++ rest) 0 s w ≡ exec n rest 0 (pos y ∷ s) w
    → exec n (Bnz (pos 4) ∷ Push (pos 0) ∷ Push (pos 1) ∷ Bnz (pos (suc (length block))) ∷ block ++ rest) 0 (pos x ∷ s) w
    ≡ exec n rest 0 (pos (unless_zero x y) ∷ s) w
either-run n block rest s w zero y h e =
    exec-bnz-zero n _ s w (pos 4)
    ∙ exec-push n _ s w (pos 0) (omega arith)
    ∙ exec-push n _ (pos 0 ∷ s) w (pos 1) (omega arith)
    ∙ exec-bnz n _ (pos 0 ∷ s) w 0 (length block)
    ∙ exec-over n block rest (pos 0 ∷ s) w
either-run n block rest s w (suc x) y h e = exec-bnz n _ s w x 3 ∙ unfold exec in e

module _ (n m : ℕ) (k : Key) (reads : Reads m k) where
  -- ══════════════════════════════════════════════════════════════════════════════════════════
  -- Labels
  -- ══════════════════════════════════════════════════════════════════════════════════════════

  pub label-range : (e : LabelExpr) → LabelSupplied m e → InRange (eval_label k e)
  label-range empty h = omega arith
  label-range place h = reads.pc
  label-range input1 h = readable-range k.input1 (reads.input1 h)
  label-range input2 h = readable-range k.input2 (reads.input2 h)
  label-range input3 h = readable-range k.input3 (reads.input3 h)
  label-range (join a b) h = join-range (eval_label k a) (eval_label k b)

  -- beside the key's words the row may hold any two
  module _ (p r : ℤ) where
    pub label-run : (e : LabelExpr) (rest : List Instruction) (s : List ℤ) → LabelSupplied m e → length s + label_depth e ≤ stack_limit
        → exec n (compile_label e ++ rest) 0 s (key_row k p r) ≡ exec n rest 0 (pos (eval_label k e) ∷ s) (key_row k p r)
    label-run empty rest s h d = exec-push n rest s (key_row k p r) (pos 0) (omega arith)
    label-run place rest s h d = exec-read n rest s (key_row k p r) 1 (pos k.pc) refl (omega arith)
    label-run input1 rest s h d =
        exec-read n rest s (key_row k p r) 2 (pos (label_of k.input1)) (ap Some (readable-word k.input1 (reads.input1 h)))
        (omega arith)
    label-run input2 rest s h d =
        exec-read n rest s (key_row k p r) 3 (pos (label_of k.input2)) (ap Some (readable-word k.input2 (reads.input2 h)))
        (omega arith)
    label-run input3 rest s h d =
        exec-read n rest s (key_row k p r) 4 (pos (label_of k.input3)) (ap Some (readable-word k.input3 (reads.input3 h)))
        (omega arith)
    label-run (join a b) rest s h d =
        simp append_assoc
        (label-run a _ s h.0 (omega arith)
        ∙ label-run b _ _ h.1 (omega arith)
        ∙ exec-or n rest s (key_row k p r) _ _
        ∙ rw (or_word-join (eval_label k b) (eval_label k a) (label-range b h.1) (label-range a h.0), join-comm))

  -- ══════════════════════════════════════════════════════════════════════════════════════════
  -- Conditions
  -- ══════════════════════════════════════════════════════════════════════════════════════════

  word-range : (c : Condition) → ConditionSupplied m c → InRange (condition_word k c)
  word-range (flows a b) h = omega (arith, join-range (eval_label k a) (eval_label k b))
  word-range always h = omega arith
  word-range (both a b) h = join-range (condition_word k b) (condition_word k a)
  word-range (either a b) h = unless-range (condition_word k a) (condition_word k b) (word-range b h.1)

  -- zero means yes
  pub word_holds : (c : Condition) → ConditionSupplied m c → eval_condition k c ≡ eqb (condition_word k c) 0
  word_holds (flows a b) h =
      flows-is-join (eval_label k a) (eval_label k b) (label-range b h.1)
      ∙ difference-zero _ _ (join-le (eval_label k a) (eval_label k b) (label-range a h.0) (label-range b h.1))
  word_holds always h = refl
  word_holds (both a b) h =
      rw (word_holds a h.0, word_holds b h.1)
      (join-zero (condition_word k a) (condition_word k b) (word-range a h.0) (word-range b h.1))
  word_holds (either a b) h =
      rw (word_holds a h.0, word_holds b h.1) (unless-zero (condition_word k a) (condition_word k b))

  module _ (p r : ℤ) where
    pub condition-run : (c : Condition) (rest : List Instruction) (s : List ℤ)
        → ConditionSupplied m c → length s + suc (condition_depth c) ≤ stack_limit
        → exec n (compile_condition c ++ rest) 0 s (key_row k p r) ≡ exec n rest 0 (pos (condition_word k c) ∷ s) (key_row k p r)
    condition-run (flows a b) rest s h d =
        simp append_assoc
        (label-run p r b _ s h.1 (omega arith)
        ∙ exec-dup n _ s (key_row k p r) _ (omega arith)
        ∙ label-run p r a _ _ h.0 (omega arith)
        ∙ exec-or n _ _ (key_row k p r) _ _
        ∙ rw (or_word-join (eval_label k a) (eval_label k b) (label-range a h.0) (label-range b h.1))
        (exec-sub n rest s (key_row k p r) _ _
        ∙ rw (sub_wrap-pos (Label.join (eval_label k a) (eval_label k b)) (eval_label k b) (join-range _ _)
        (join-le (eval_label k a) (eval_label k b) (label-range a h.0) (label-range b h.1)))))
    condition-run always rest s h d = exec-push n rest s (key_row k p r) (pos 0) (omega arith)
    condition-run (both a b) rest s h d =
        simp append_assoc
        (condition-run a _ s h.0 (omega arith)
        ∙ condition-run b _ _ h.1 (omega arith)
        ∙ exec-or n rest s (key_row k p r) _ _
        ∙ rw (or_word-join (condition_word k b) (condition_word k a) (word-range b h.1) (word-range a h.0)))
    condition-run (either a b) rest s h d =
        simp append_assoc
        (condition-run a _ s h.0 (omega arith)
        ∙ either-run n (compile_condition b) rest s (key_row k p r) (condition_word k a) (condition_word k b) (omega arith)
        (condition-run b rest s h.1 (omega arith)))
