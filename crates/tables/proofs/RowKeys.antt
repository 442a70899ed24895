-- Rows as the code checks them: the key of a row by its labels, and the answer by the row's command, labels and verdict.
-- Assumes nothing.
use Rattle.std.proofs.Common.{None, Option, Some}
use mathlib.Core.Path.{◌≡◌, refl, sym, ap, ◌∙◌}
use mathlib.Core.Bool.{Bool, true, false}
use mathlib.Core.List.{List}
use Prim.Native.Nat.{ℕ, ◌<◌}
use native.Mathlib.Omega.{arith}
use lib.IntN.{ℤ}
use lib.Dec.{leb}
use Rattle.word.specs.Number.{natural_of}
use Rattle.word.proofs.Bool.{never}
use Rattle.label.specs.Word.{stored}
use Rattle.program.specs.Fetch.{shape_of}
use Rattle.program.specs.Command.{Opcode, opcode_of, supplies, rule_number}
use Rattle.machine.specs.Rule as Rules
use Rattle.tables.specs.declared.Labels.{Labels}
use Rattle.policy.specs.Evaluate.{evaluate}
use Rattle.policy.specs.Read.{rule_count, ReadTable, refused, table}
use Rattle.tables.specs.Value.{input_if, key_of}
use Rattle.tables.specs.Ask.{verdict_of, ask, RuleSays}
use Rattle.policy.proofs.Ruled.{rule-few}
use Rattle.policy.specs.Row.{is_mark, empty_row, input_of, present_of, missing_if, label_option, given, word, row_key, agrees, accepted_row}
use Rattle.policy.specs.Row.{row_answer}
use Rattle.tables.specs.RowCode.{input_stored, row_labels, verdict_agrees, row_in}
use Rattle.label.specs.declared.Label.{Label}
use Rattle.tables.specs.declared.Allowed.{Allowed}
use Rattle.std.specs.Bool.{then_some}
use Rattle.std.specs.Option.{MatchOption}
use Rattle.tables.specs.Value.{label_with}
use Rattle.label.specs.Label.{bottom}
use Rattle.program.specs.declared.Shape.{Shape}

-- ════════════════════════════════════════════════════════════════════════════════════════════
-- The key of a row
-- ════════════════════════════════════════════════════════════════════════════════════════════

-- the input whose label the code found
abbrev input_option : Bool → Option Label → Option Rules.Input
input_option b (Some l) = Some (input_if b l)
input_option b None = None

input-stored : (b : Bool) (w : ℤ) → input_of b w ≡ input_option b (input_stored b w)
input-stored true w = by-stored (stored w)
  where
    by-stored : (x : Option Label) → present_of x ≡ input_option true x
    by-stored (Some l) = refl
    by-stored None = refl
input-stored false w = by-mark (is_mark w)
  where
    by-mark : (m : Bool) → missing_if m ≡ input_option false (then_some m (label_with bottom))
    by-mark true = refl
    by-mark false = refl

abbrev key_option : Opcode → ℕ → Option Labels → Option Rules.Key
key_option o n (Some ls) = Some (key_of o n ls)
key_option o n None = None

module _ (o : Opcode) (n : ℕ) where
  key-labels : (p a b c : Option Label)
      → given (label_option p) (λ q.
      given (input_option (leb 1 n) a) (λ x.
      given (input_option (leb 2 n) b) (λ y.
      given (input_option (leb 3 n) c) (λ z. Some (record { opcode = o; pc = q; input1 = x; input2 = y; input3 = z })))))
      ≡ key_option o n (given p (λ p. given a (λ a. given b (λ b. given c (λ c.
      Some (record { place = p; input1 = a; input2 = b; input3 = c }))))))
  key-labels None a b c = refl
  key-labels (Some p) None b c = refl
  key-labels (Some p) (Some a) None c = refl
  key-labels (Some p) (Some a) (Some b) None = refl
  key-labels (Some p) (Some a) (Some b) (Some c) = refl

row-key : (o : Opcode) (ws : List ℤ) → row_key o ws ≡ key_option o (supplies o) (row_labels (supplies o) ws)
row-key o ws =
    let n = supplies o in
    rw (input-stored (leb 1 n) (word ws 2), input-stored (leb 2 n) (word ws 3), input-stored (leb 3 n) (word ws 4))
    (key-labels o n (stored (word ws 1)) (input_stored (leb 1 n) (word ws 2)) (input_stored (leb 2 n) (word ws 3))
    (input_stored (leb 3 n) (word ws 4)))

-- ════════════════════════════════════════════════════════════════════════════════════════════
-- A row whose command is known
-- ════════════════════════════════════════════════════════════════════════════════════════════

verdict-agrees : (v : Rules.Verdict) (p r : ℤ) → verdict_agrees (verdict_of v) p r ≡ agrees v p r
verdict-agrees Rules.denied p r = refl
verdict-agrees (Rules.allowed q t) p r = refl

-- a command that has a shape is under a rule
pub shape-rule : (x : Option Opcode) (h : Shape) → shape_of x ≡ Some h
    → h.rule < rule_count
shape-rule None h e = never (cc)
shape-rule (Some o) h e = let d : rule_number o ≡ h.rule = cc in rw d at (rule-few o)

module _ (t : ReadTable) (ws : List ℤ) where
  pub row-found : (x : Option Opcode) (h : Shape) (ls : Labels) (v : Option Allowed)
      → shape_of x ≡ Some h → row_labels h.inputs ws ≡ Some ls → RuleSays t h.rule ls v
      → verdict_agrees v (word ws 5) (word ws 6) ≡ row_in t x ws
  row-found None h ls v e f says = absurd (let z : ◌≡◌ {A = ℕ} 0 1 = cc in omega arith)
  row-found (Some o) h ls v e f says = ap (λ v. verdict_agrees v (word ws 5) (word ws 6)) (says o (cc)) ∙ by-table t
    where
      key-is : row_key o ws ≡ Some (key_of o (supplies o) ls)
      key-is = row-key o ws ∙ ap (key_option o (supplies o)) (ap (λ m. row_labels m ws) (let d : supplies o ≡ h.inputs = cc in d) ∙ f)

      by-table : (t : ReadTable) → verdict_agrees (verdict_of (ask t o ls)) (word ws 5) (word ws 6) ≡ row_in t (Some o) ws
      by-table (refused r) = refl
      by-table (table t) = rw key-is (verdict-agrees (evaluate t (key_of o (supplies o) ls)) (word ws 5) (word ws 6))

-- ════════════════════════════════════════════════════════════════════════════════════════════
-- Any row
-- ════════════════════════════════════════════════════════════════════════════════════════════

module _ (ws : List ℤ) where
  pub row-empty : (t : ReadTable) → empty_row ws ≡ true → true ≡ row_answer t ws
  unfolding accepted_row
  row-empty (refused r) e = sym e
  row-empty (table t) e = rw e

  pub row-code : (t : ReadTable) → empty_row ws ≡ false → (x : Option ℕ) → natural_of (word ws 0) ≡ x → (r : Bool)
      → (Q : ℕ → Type 0) → MatchOption x (r ≡ false) Q → ((n : ℕ) → Q n → r ≡ row_in t (opcode_of n) ws) → r ≡ row_answer t ws
  unfolding accepted_row
  row-code (refused q) e None f r Q h k = h ∙ sym e
  row-code (refused q) e (Some n) f r Q h k = k n h ∙ sym e
  row-code (table t) e None f r Q h k = rw (e, f) h
  row-code (table t) e (Some n) f r Q h k = rw (e, f) (k n h)
