-- Reading a rule, as the code does it: a yes/no expression and two label expressions, at a key.
-- Assumes nothing.
use Rattle.std.proofs.Common.{◌≡◌, refl, ap, ◌∙◌, Bool, true, false, ℕ, List, Err, Ok, Option, Result}
use Rattle.std.specs.Bool.{then_some}
use Rattle.label.specs.declared.Label.{Label}
use Rattle.machine.specs.Rule.{Key, allowed_if}
use Rattle.policy.specs.Expression.{LabelExpr, Condition}
use Rattle.policy.specs.Evaluate.{eval_label, eval_condition}
use Rattle.policy.specs.Read.{Read, fault, found, and_then, read_label, read_condition, depth_limit, result_if, read_rule_with}
use Rattle.tables.specs.declared.Allowed.{Allowed}
use Rattle.tables.specs.Value.{label_with, label_read, condition_read}
use Rattle.tables.specs.Ask.{verdict_of, rule_read}
use Rattle.tables.proofs.Reading.{then_read}

-- a rule's verdict
abbrev said : Bool → Label → Label → Option Allowed
said c p r = then_some c (record { place = p; result = r })

said-verdict : (c : Bool) (p r : ℕ) → said c (label_with p) (label_with r) ≡ verdict_of (allowed_if c p r)
said-verdict true p r = refl
said-verdict false p r = refl

module _ (k : Key) (n : ℕ) (has : Bool) (s : List ℕ) (at : ℕ) where
  abbrev rule_at : Result (Option Allowed × ℕ) ℕ
  rule_at = rule_read k (read_rule_with n has s at)

  abbrev condition : Result (Bool × ℕ) ℕ
  condition = condition_read k (read_condition depth_limit n s at)

  abbrev place : ℕ → Result (Label × ℕ) ℕ
  place next = label_read k (read_label depth_limit n s next)

  abbrev last : ℕ → Result (Label × ℕ) ℕ
  last next = label_read k (result_if has n s next)

  abbrev by_last : Bool → Label → Result (Label × ℕ) ℕ → Result (Option Allowed × ℕ) ℕ
  by_last c p x = then_read x (λ r end. Ok (said c p r, end))

  abbrev by_place : Bool → Result (Label × ℕ) ℕ → Result (Option Allowed × ℕ) ℕ
  by_place c x = then_read x (λ p next. by_last c p (last next))

  abbrev by_condition : Result (Bool × ℕ) ℕ → Result (Option Allowed × ℕ) ℕ
  by_condition x = then_read x (λ c next. by_place c (place next))

  rule-by : by_condition condition ≡ rule_at
  unfolding read_rule_with
  rule-by = first (read_condition depth_limit n s at)
    where
      third : (c : Condition) (p : LabelExpr) (r : Read LabelExpr)
          → by_last (eval_condition k c) (label_with (eval_label k p)) (label_read k r)
          ≡ rule_read k (and_then r (λ l end. found (record { allowed = c; pc = p; result = l }) end))
      third c p (fault q) = refl
      third c p (found l end) = ap (λ v. Ok (v, end)) (said-verdict (eval_condition k c) (eval_label k p) (eval_label k l))

      second : (c : Condition) (r : Read LabelExpr)
          → by_place (eval_condition k c) (label_read k r)
          ≡ rule_read k (and_then r
          (λ p at3. and_then (result_if has n s at3) (λ l end. found (record { allowed = c; pc = p; result = l }) end)))
      second c (fault q) = refl
      second c (found p next) = third c p (result_if has n s next)

      first : (r : Read Condition)
          → by_condition (condition_read k r)
          ≡ rule_read k (and_then r (λ c at2.
          and_then (read_label depth_limit n s at2) (λ p at3.
          and_then (result_if has n s at3) (λ l end. found (record { allowed = c; pc = p; result = l }) end))))
      first (fault q) = refl
      first (found c next) = second c (read_label depth_limit n s next)

  pub rule-condition : (q : ℕ) → Err q ≡ condition → Err q ≡ rule_at
  rule-condition q e = ap by_condition e ∙ rule-by

  -- after the yes/no expression
  module _ (c : Bool) (at2 : ℕ) (e : Ok (c, at2) ≡ condition) where
    pub rule-place : (q : ℕ) → Err q ≡ place at2 → Err q ≡ rule_at
    rule-place q f = ap (by_place c) f ∙ ap by_condition e ∙ rule-by

    -- after the place
    module _ (p : Label) (at3 : ℕ) (f : Ok (p, at3) ≡ place at2) where
      pub rule-last : (q : ℕ) → Err q ≡ last at3 → Err q ≡ rule_at
      rule-last q g = ap (by_last c p) g ∙ ap (by_place c) f ∙ ap by_condition e ∙ rule-by

      pub rule-whole : (r : Label) (end : ℕ) → Ok (r, end) ≡ last at3 → Ok (said c p r, end) ≡ rule_at
      rule-whole r end g = ap (by_last c p) g ∙ ap (by_place c) f ∙ ap by_condition e ∙ rule-by
