-- Reading expressions by their first byte, as the code does it: the value at a key and the offset after it.
-- Assumes nothing.
use Rattle.std.proofs.Common.{◌≡◌, refl, sym, ap, ◌∙◌, Bool, true, false, ◌&&◌, ◌||◌, ℕ, zero, suc, ◌+◌, ◌-◌, ◌<◌, List, length, arith}
use Rattle.std.proofs.Common.{None, Option, Some, Err, Ok, Result, slice_get}
use Rattle.std.proofs.lemmas.Option.{slice_get_within, none-some}
use Rattle.std.specs.Bool.{then_some}
use Rattle.word.proofs.Bool.{never}
use lib.Dec.{leb}
use Rattle.label.specs.declared.Label.{Label}
use Rattle.label.specs.Label.{join, flows}
use Rattle.program.specs.Command.{Opcode}
use Rattle.machine.specs.Rule.{Key}
use Rattle.policy.specs.declared.Token.{Token}
use Rattle.policy.specs.Expression.{LabelExpr, Condition}
use Rattle.policy.specs.Expression as Expression
use Rattle.policy.specs.Evaluate.{eval_condition}
use Rattle.policy.specs.Token.{token_option, token_at}
use Rattle.policy.specs.Read.{Read, fault, found, and_then, read_two, read_if, label_from, read_label, condition_from, read_condition}
use Rattle.tables.specs.declared.Asked.{Asked}
use Rattle.tables.specs.declared.expression.Leaf.{Leaf}
use Rattle.tables.specs.declared.expression.Test.{Test}
use Rattle.tables.specs.Value.{label_with, asked_key, value_read, label_value, label_read, condition_read, leaf_of, test_of, at_offset}

-- what is made of what was read and of the offset after it
abbrev pub then_read : {A B : Type 0} → Result (A × ℕ) ℕ → (A → ℕ → Result (B × ℕ) ℕ) → Result (B × ℕ) ℕ
then_read (Err at) rest = Err at
then_read (Ok p) rest = rest p.0 p.1

-- two of a kind, one after the other
abbrev pub both_read : {A B : Type 0} → (ℕ → Result (A × ℕ) ℕ) → (A → A → B) → ℕ → Result (B × ℕ) ℕ
both_read read make at = then_read (read at) (λ a next. then_read (read next) (λ b end. Ok (make a b, end)))

-- they give r: where one is at fault, and where both are read
pub record Both {A B : Type 0} (read : ℕ → Result (A × ℕ) ℕ) (make : A → A → B) (at : ℕ) (r : Result (B × ℕ) ℕ) : Type 0 where
  pub first : (p : ℕ) → Err p ≡ read at → Err p ≡ r
  pub second : (a : A) (next p : ℕ) → Ok (a, next) ≡ read at → Err p ≡ read next → Err p ≡ r
  pub found : (a b : A) (next end : ℕ) → Ok (a, next) ≡ read at → Ok (b, end) ≡ read next → Ok (make a b, end) ≡ r

both : {A B : Type 0} (read : ℕ → Result (A × ℕ) ℕ) (make : A → A → B) (at : ℕ) (r : Result (B × ℕ) ℕ) → both_read read make at ≡ r
    → Both read make at r
both {A} {B} read make at r e =
    record {
      first = λ p f. ap from f ∙ e;
      second = λ a next p f g. ap (after a) g ∙ ap from f ∙ e;
      found = λ a b next end f g. ap (after a) g ∙ ap from f ∙ e;
    }
  where
    after : A → Result (A × ℕ) ℕ → Result (B × ℕ) ℕ
    after a x = then_read x (λ b end. Ok (make a b, end))

    from : Result (A × ℕ) ℕ → Result (B × ℕ) ℕ
    from x = then_read x (λ a next. after a (read next))

-- their values, as they are read and after
value-two : {A B C D : Type 0} (f : A → C) (g : B → D) (make : A → A → B) (combine : C → C → D)
    → ((a b : A) → g (make a b) ≡ combine (f a) (f b)) → (read : ℕ → Read A) (at : ℕ)
    → both_read (λ n. value_read f (read n)) combine at ≡ value_read g (read_two read make at)
value-two f g make combine h read at = first (read at)
  where
    second : (a : _) (r : Read _)
        → then_read (value_read f r) (λ b end. Ok (combine (f a) b, end)) ≡ value_read g (and_then r (λ b end. found (make a b) end))
    second a (fault p) = refl
    second a (found b end) = ap (λ v. Ok (v, end)) (sym (h a b))

    first : (r : Read _)
        → then_read (value_read f r) (λ a next. then_read (value_read f (read next)) (λ b end. Ok (combine a b, end)))
        ≡ value_read g (and_then r (λ a next. and_then (read next) (λ b end. found (make a b) end)))
    first (fault p) = refl
    first (found a next) = second a (read next)

-- what stands at an offset, if anything
fault-by : {A B : Type 0} (x : Option A) (at p : ℕ) (read : Option A → Result B ℕ) → read None ≡ Err at → Err p ≡ at_offset x at
    → Err p ≡ read x
fault-by None at p read h e = let d : p ≡ at = cc in ap Err d ∙ sym h
fault-by (Some a) at p read h e = never (cc)

pub nothing-by : {A : Type 0} (x : Option A) (at p : ℕ) → Err p ≡ at_offset x at → x ≡ None
nothing-by None at p e = refl
nothing-by (Some a) at p e = never (cc)

pub found-by : {A : Type 0} (x : Option A) (at : ℕ) (y : A) (next : ℕ) → Ok (y, next) ≡ at_offset x at → (next ≡ at + 1) × (x ≡ Some y)
found-by None at y next e = never (cc)
found-by (Some a) at y next e =
    let d : ◌≡◌ {A = _ × ℕ} (y, next) (a, at + 1) = cc in
    (ap (λ p. p.1) d, ap (λ p. Some p.0) (sym d))

-- a byte that stands for something is there
pub within : {A : Type 0} (of : Token → Option A) → of Token.Nothing ≡ None → (s : List ℕ) (at : ℕ) (t : Token) (x : Option A) (a : A)
    → t ≡ token_at s at → x ≡ of t → x ≡ Some a → at < length s
unfolding token_at
within of none s at t x a e f g = there (slice_get s at) refl
  where
    there : (x : Option ℕ) → slice_get s at ≡ x → at < length s
    there None h = absurd (none-some a (sym none ∙ ap (λ x. of (token_option x)) (sym h) ∙ ap of (sym e) ∙ sym f ∙ g))
    there (Some b) h = slice_get_within s at b h

-- ════════════════════════════════════════════════════════════════════════════════════════════
-- Label expressions
-- ════════════════════════════════════════════════════════════════════════════════════════════

abbrev join_labels : Label → Label → Label
join_labels a b = label_with (join a.0 b.0)

-- what a first byte makes of the expressions after it
abbrev leaf_read : Option Leaf → ℕ → (ℕ → Result (Label × ℕ) ℕ) → Result (Label × ℕ) ℕ
leaf_read (Some (Leaf.Is l)) at inner = Ok (l, at + 1)
leaf_read (Some Leaf.Join) at inner = both_read inner join_labels (at + 1)
leaf_read None at inner = Err at

module _ (o : Opcode) (a : Asked) where
  abbrev key : Key
  key = asked_key o a

  input-token : (b : Bool) (l : Label) (e : LabelExpr) (at : ℕ) (inner : ℕ → Read LabelExpr) → (b ≡ true → l ≡ label_value key e)
      → leaf_read (then_some b (Leaf.Is l)) at (λ n. label_read key (inner n)) ≡ label_read key (read_if b e at)
  input-token true l e at inner h = ap (λ v. Ok (v, at + 1)) (h refl)
  input-token false l e at inner h = refl

  label-token : (t : Token) (at : ℕ) (inner : ℕ → Read LabelExpr)
      → leaf_read (leaf_of t a) at (λ n. label_read key (inner n)) ≡ label_read key (label_from t a.supplied at inner)
  label-token Token.Empty at inner = refl
  label-token Token.Place at inner = refl
  label-token Token.Input1 at inner = input-token (leb 1 a.supplied) a.labels.input1 Expression.input1 at inner (λ e. rw e)
  label-token Token.Input2 at inner = input-token (leb 2 a.supplied) a.labels.input2 Expression.input2 at inner (λ e. rw e)
  label-token Token.Input3 at inner = input-token (leb 3 a.supplied) a.labels.input3 Expression.input3 at inner (λ e. rw e)
  label-token Token.Join at inner =
      value-two (label_value key) (label_value key) Expression.join join_labels (λ a b. refl) inner (at + 1)
  label-token Token.Flows at inner = refl
  label-token Token.True at inner = refl
  label-token Token.And at inner = refl
  label-token Token.Or at inner = refl
  label-token Token.Nothing at inner = refl

  module _ (d : ℕ) (s : List ℕ) (at : ℕ) where
    abbrev label_at : Result (Label × ℕ) ℕ
    label_at = label_read key (read_label d a.supplied s at)

    abbrev labels_inner : ℕ → Result (Label × ℕ) ℕ
    labels_inner n = label_read key (read_label (d - 1) a.supplied s n)

    -- too deep
    pub label-deep : d ≡ 0 → Err at ≡ label_at
    unfolding read_label
    label-deep e = rw e

    -- otherwise by the first byte
    pub label-first : (d ≡ 0 → ⊥) → leaf_read (leaf_of (token_at s at) a) at labels_inner ≡ label_at
    unfolding read_label
    label-first f = first d f
      where
        first : (d : ℕ) → (d ≡ 0 → ⊥)
            → leaf_read (leaf_of (token_at s at) a) at (λ n. label_read key (read_label (d - 1) a.supplied s n))
            ≡ label_read key (read_label d a.supplied s at)
        first zero f = absurd (f refl)
        first (suc d) f = let h : suc d - 1 ≡ d = omega arith in rw h (label-token (token_at s at) at (read_label d a.supplied s))

    module _ (f : d ≡ 0 → ⊥) where
      pub label-none : (p : ℕ) → Err p ≡ at_offset (leaf_of (token_at s at) a) at → Err p ≡ label_at
      label-none p e = fault-by (leaf_of (token_at s at) a) at p (λ x. leaf_read x at labels_inner) refl e ∙ label-first f

      module _ (y : Leaf) (next : ℕ) (e : Ok (y, next) ≡ at_offset (leaf_of (token_at s at) a) at) where
        pub label-is : (l : Label) → y ≡ Leaf.Is l → Ok (l, next) ≡ label_at
        label-is l i = let g = found-by _ at y next e in rw g.0 (ap (λ x. leaf_read x at labels_inner) (ap Some (sym i) ∙ sym g.1) ∙ label-first f)

        pub label-join : y ≡ Leaf.Join → Both labels_inner join_labels next label_at
        label-join i =
            let g = found-by _ at y next e in
            rw g.0 (both _ _ _ _ (ap (λ x. leaf_read x at labels_inner) (ap Some (sym i) ∙ sym g.1) ∙ label-first f))

-- ════════════════════════════════════════════════════════════════════════════════════════════
-- Yes/no expressions
-- ════════════════════════════════════════════════════════════════════════════════════════════

abbrev flow_labels : Label → Label → Bool
flow_labels a b = flows a.0 b.0

abbrev test_read : Option Test → ℕ → (ℕ → Result (Label × ℕ) ℕ) → (ℕ → Result (Bool × ℕ) ℕ) → Result (Bool × ℕ) ℕ
test_read (Some Test.True) at label inner = Ok (true, at + 1)
test_read (Some Test.Flows) at label inner = both_read label flow_labels (at + 1)
test_read (Some Test.And) at label inner = both_read inner ◌&&◌ (at + 1)
test_read (Some Test.Or) at label inner = both_read inner ◌||◌ (at + 1)
test_read None at label inner = Err at

module _ (o : Opcode) (a : Asked) where
  condition-token : (t : Token) (at : ℕ) (label : ℕ → Read LabelExpr) (inner : ℕ → Read Condition)
      → test_read (test_of t) at (λ n. label_read (asked_key o a) (label n)) (λ n. condition_read (asked_key o a) (inner n))
      ≡ condition_read (asked_key o a) (condition_from t at label inner)
  condition-token Token.Empty at label inner = refl
  condition-token Token.Place at label inner = refl
  condition-token Token.Input1 at label inner = refl
  condition-token Token.Input2 at label inner = refl
  condition-token Token.Input3 at label inner = refl
  condition-token Token.Join at label inner = refl
  condition-token Token.Flows at label inner =
      value-two (label_value (asked_key o a)) (eval_condition (asked_key o a)) Expression.flows flow_labels (λ a b. refl) label (at + 1)
  condition-token Token.True at label inner = refl
  condition-token Token.And at label inner =
      value-two (eval_condition (asked_key o a)) (eval_condition (asked_key o a)) Expression.both ◌&&◌ (λ a b. refl) inner (at + 1)
  condition-token Token.Or at label inner =
      value-two (eval_condition (asked_key o a)) (eval_condition (asked_key o a)) Expression.either ◌||◌ (λ a b. refl) inner (at + 1)
  condition-token Token.Nothing at label inner = refl

  module _ (d : ℕ) (s : List ℕ) (at : ℕ) where
    abbrev condition_at : Result (Bool × ℕ) ℕ
    condition_at = condition_read (asked_key o a) (read_condition d a.supplied s at)

    abbrev labels_within : ℕ → Result (Label × ℕ) ℕ
    labels_within n = label_read (asked_key o a) (read_label (d - 1) a.supplied s n)

    abbrev conditions_within : ℕ → Result (Bool × ℕ) ℕ
    conditions_within n = condition_read (asked_key o a) (read_condition (d - 1) a.supplied s n)

    pub condition-deep : d ≡ 0 → Err at ≡ condition_at
    unfolding read_condition
    condition-deep e = rw e

    pub condition-first : (d ≡ 0 → ⊥) → test_read (test_of (token_at s at)) at labels_within conditions_within ≡ condition_at
    unfolding read_condition
    condition-first f = first d f
      where
        first : (d : ℕ) → (d ≡ 0 → ⊥)
            → test_read (test_of (token_at s at)) at (λ n. label_read (asked_key o a) (read_label (d - 1) a.supplied s n))
            (λ n. condition_read (asked_key o a) (read_condition (d - 1) a.supplied s n))
            ≡ condition_read (asked_key o a) (read_condition d a.supplied s at)
        first zero f = absurd (f refl)
        first (suc d) f =
            let h : suc d - 1 ≡ d = omega arith in
            rw h (condition-token (token_at s at) at (read_label d a.supplied s) (read_condition d a.supplied s))

    module _ (f : d ≡ 0 → ⊥) where
      pub condition-none : (p : ℕ) → Err p ≡ at_offset (test_of (token_at s at)) at → Err p ≡ condition_at
      condition-none p e = fault-by (test_of (token_at s at)) at p (λ x. test_read x at labels_within conditions_within) refl e ∙ condition-first f

      module _ (y : Test) (next : ℕ) (e : Ok (y, next) ≡ at_offset (test_of (token_at s at)) at) where
        condition-by : (z : Test) → y ≡ z → (next ≡ at + 1) × (test_read (Some z) at labels_within conditions_within ≡ condition_at)
        condition-by z i =
            let g = found-by _ at y next e in
            (g.0, ap (λ x. test_read x at labels_within conditions_within) (ap Some (sym i) ∙ sym g.1) ∙ condition-first f)

        pub condition-true : y ≡ Test.True → Ok (true, next) ≡ condition_at
        condition-true i = let h = condition-by Test.True i in rw h.0 h.1

        pub condition-flows : y ≡ Test.Flows → Both labels_within flow_labels next condition_at
        condition-flows i = let h = condition-by Test.Flows i in rw h.0 (both _ _ _ _ h.1)

        pub condition-both : y ≡ Test.And → Both conditions_within ◌&&◌ next condition_at
        condition-both i = let h = condition-by Test.And i in rw h.0 (both _ _ _ _ h.1)

        pub condition-either : y ≡ Test.Or → Both conditions_within ◌||◌ next condition_at
        condition-either i = let h = condition-by Test.Or i in rw h.0 (both _ _ _ _ h.1)
