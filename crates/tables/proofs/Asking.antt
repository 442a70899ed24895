-- The rule with a number in bytes that are a table: after the rules before it, the next is that one.
-- Assumes nothing.
use Rattle.std.proofs.Common.{Err, Ok, Option, Some, slice_get}
use mathlib.Core.Path.{◌≡◌, refl, sym, ap, ◌∙◌}
use mathlib.Core.Bool.{Bool, true, false}
use mathlib.Core.List.{List, ◌∷◌}
use Prim.Native.Nat.{ℕ, ◌+◌, ◌<◌, ◌≤◌}
use native.Mathlib.Omega.{arith}
use lib.Dec.{leb, ltb}
use lib.ListN.{length, drop}
use lib.Seq.{drop-drop}
use Rattle.word.proofs.Bool.{never}
use Rattle.program.specs.Command.{Opcode, ruled, opcode_of, supplies, rule_number}
use Rattle.tables.specs.declared.Labels.{Labels}
use Rattle.policy.specs.Expression.{Rule, Table}
use Rattle.policy.specs.Evaluate.{eval_rule, evaluate}
use Rattle.policy.specs.Read.{Read, fault, found, prepend, rule_count, read_rules, table, whole, whole_if, table_if}
use Rattle.policy.specs.Read.{owner_code, table_limit, read_table}
use Rattle.tables.specs.Value.{key_of}
use Rattle.tables.specs.Ask.{verdict_of, CodeAt, Readable, RuleSays}
use Rattle.policy.proofs.Tokens.{get_elem-drop}
use Rattle.policy.proofs.Ruled.{owner-inputs}
use Rattle.tables.proofs.TableReading.{Next, reads}
use Rattle.tables.specs.declared.Allowed.{Allowed}

-- what is left to read, after i rules were passed, are the table's other rules; the one with the number is not passed
pub record Passing (s : List ℕ) (number i at : ℕ) : Type 0 where
  pub rules : Table
  pub end : ℕ
  pub is : read_table s ≡ table rules
  pub left : read_rules (drop i ruled) s at ≡ found (drop i rules) end
  pub before : i ≤ number
  pub few : number < rule_count

pub passing-start : (s : List ℕ) (number : ℕ) → Readable (read_table s) → number < rule_count → Passing s number 0 0
unfolding read_table
passing-start s number h m = limit (leb (length s) table_limit) refl h
  where
    over : (b : Bool) (t : Table) (end : ℕ) → read_rules ruled s 0 ≡ found t end → ltb end (length s) ≡ b
        → Readable (whole_if b t end) → whole_if b t end ≡ table t
    over true t end e d h = absurd h
    over false t end e d h = refl

    read : (x : Read Table) → read_rules ruled s 0 ≡ x → Readable (whole (length s) x) → read_table s ≡ whole (length s) x
        → Passing s number 0 0
    read (fault p) e h d = absurd h
    read (found t end) e h d =
        record {
          rules = t;
          end = end;
          is = d ∙ over (ltb end (length s)) t end e refl h;
          left = e;
          before = omega arith;
          few = m;
        }

    limit : (b : Bool) → leb (length s) table_limit ≡ b → Readable (table_if b s) → Passing s number 0 0
    limit true e h = read (read_rules ruled s 0) refl h (ap (λ b. table_if b s) e)
    limit false e h = absurd h

-- a table that starts with a rule and goes on with what else is read
record Parts (r : Rule) (x : Read Table) (t : Table) (end : ℕ) : Type 0 where
  rest : Table
  is : x ≡ found rest end
  whole_is : t ≡ r ∷ rest

parts : (r : Rule) (x : Read Table) (t : Table) (end : ℕ) → prepend r x ≡ found t end → Parts r x t end
parts r (fault p) t end e = absurd (let z : ◌≡◌ {A = ℕ} 0 1 = cc in omega arith)
parts r (found rs n) t end e =
    let d : n ≡ end = cc in
    let f : t ≡ r ∷ rs = cc in
    record { rest = rs; is = ap (found rs) d; whole_is = f }

module _ (ls : Labels) (s : List ℕ) (number i at : ℕ) (p : Passing s number i at) where
  i-few : i < rule_count
  i-few = omega (arith, p.before, p.few)

  pub passing-whole : (q : ℕ) → CodeAt (opcode_of (owner_code i)) ls s at (Err q) → ⊥
  passing-whole q f =
      let d : fault q ≡ found (drop i p.rules) p.end = sym (reads ls s i at i-few (Err q) f) ∙ p.left in
      never (cc)

  module _ (v : Option Allowed) (next : ℕ) (f : CodeAt (opcode_of (owner_code i)) ls s at (Ok (v, next))) where
    n : Next ls s i at v next
    n = reads ls s i at i-few (Ok (v, next)) f

    cut : Parts n.rule (read_rules (drop (i + 1) ruled) s next) (drop i p.rules) p.end
    cut = parts n.rule _ _ _ (sym n.rules ∙ p.left)

    pub passing-next : i < number → Passing s number (i + 1) next
    passing-next h =
        record {
          rules = p.rules;
          end = p.end;
          is = p.is;
          left = cut.is ∙ ap (λ t. found t p.end) (sym (ap (drop 1) cut.whole_is) ∙ drop-drop 1 i p.rules);
          before = omega arith;
          few = p.few;
        }

    -- the next rule is the one with the number
    module _ (h : number ≤ i) where
      own : (o : Opcode) → rule_number o ≡ i
          → evaluate p.rules (key_of o (supplies o) ls) ≡ eval_rule (Some n.rule) (key_of o (supplies n.owner) ls)
      unfolding evaluate
      own o e =
          rw (
            owner-inputs o n.owner (ap (slice_get ruled) e ∙ n.owns),
            e,
            get_elem-drop p.rules i n.rule cut.rest cut.whole_is,
          )

      pub passing-said : RuleSays (read_table s) number ls v
      passing-said o e =
          let d : rule_number o ≡ i = omega (arith, p.before) in
          n.said o ∙ sym (rw p.is (ap verdict_of (own o d)))

-- once the rules before it are passed
pub passing-there : (s : List ℕ) (number i at : ℕ) → Passing s number i at → number ≤ i → Passing s number number at
passing-there s number i at p h = let e : i ≡ number = omega (arith, p.before) in rw e at p
