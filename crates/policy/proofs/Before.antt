-- A table of the day before request U6, which has no rule for RetV, is refused: 6 at its length, where RetV's first expression is missing.
-- Assumes nothing.
use mathlib.Core.Path.{◌≡◌, refl, ap, ◌∙◌}
use mathlib.Core.List.{List, [], ◌∷◌, ◌++◌}
use Prim.Native.Nat.{ℕ, ◌≤◌}
use native.Mathlib.Omega.{arith}
use lib.ListN.{length, take}
use borrow.Author.Tests.{le-leb}
use Rattle.word.proofs.Bool.{never}
use Rattle.program.specs.Command.{Opcode, ret_v, ruled}
use Rattle.program.specs.Decode.{refusal}
use Rattle.policy.specs.Expression.{Rule, Table}
use Rattle.policy.specs.Read.{Read, fault, found, read_condition, read_rule_with, read_rule, prepend, read_rules, table_limit, refused, read_table}
use Rattle.policy.proofs.Tokens.{token_at-missing}

-- rules that are read to the end of the bytes, and one more
rules-short : (os : List Opcode) (o : Opcode) (bytes : List ℕ) (at end p : ℕ) (t : Table) → read_rules os bytes at ≡ found t end
    → read_rule o bytes end ≡ fault p → read_rules (os ++ (o ∷ [])) bytes at ≡ fault p
unfolding read_rules
rules-short [] o bytes at end p t e f = let d : at ≡ end = cc in rw (d, f)
rules-short (x ∷ os) o bytes at end p t e f = by (read_rule x bytes at) refl e (λ next rest. rules-short os o bytes next end p rest)
  where
    on : (r : Rule) (next : ℕ) (y : Read Table) → read_rules os bytes next ≡ y → prepend r y ≡ found t end
        → ((rest : Table) → read_rules os bytes next ≡ found rest end → read_rule o bytes end ≡ fault p
        → read_rules (os ++ (o ∷ [])) bytes next ≡ fault p)
        → prepend r (read_rules (os ++ (o ∷ [])) bytes next) ≡ fault p
    on r next (fault q) d e h = never (cc)
    on r next (found rest q) d e h = let g : q ≡ end = cc in rw (h rest (d ∙ ap (found rest) g) f)

    by : (y : Read Rule) → read_rule x bytes at ≡ y → read_rules (x ∷ os) bytes at ≡ found t end
        → ((next : ℕ) (rest : Table) → read_rules os bytes next ≡ found rest end → read_rule o bytes end ≡ fault p
        → read_rules (os ++ (o ∷ [])) bytes next ≡ fault p)
        → read_rules (x ∷ os ++ (o ∷ [])) bytes at ≡ fault p
    by (fault q) d e h = never (let c = rw d at e in cc)
    by (found r next) d e h = rw d (on r next (read_rules os bytes next) refl (rw d at e) (h next))

nothing_read : (bytes : List ℕ) → read_rule ret_v bytes (length bytes) ≡ fault (length bytes)
unfolding read_rule_with read_condition
nothing_read bytes = rw (token_at-missing bytes (length bytes) (omega arith))

-- eleven rules, as they were
pub table_before : (bytes : List ℕ) (t : Table) → length bytes ≤ table_limit → read_rules (take 11 ruled) bytes 0 ≡ found t (length bytes)
    → read_table bytes ≡ refused (refusal 6 (length bytes))
unfolding read_table
table_before bytes t h e =
    let short : read_rules ruled bytes 0 ≡ fault (length bytes) =
    rules-short (take 11 ruled) ret_v bytes 0 (length bytes) (length bytes) t e (nothing_read bytes) in
    rw (le-leb (length bytes) table_limit h, short)
