-- Pieces of a handler by their first byte, as the code reads them, and how long they are.
-- Assumes nothing.
use Rattle.tables.specs.Value.{at_offset}
use Rattle.tables.proofs.Reading.{nothing-by, found-by}
use lib.IntN.{pos}
use Rattle.handler.specs.Kernel.{Push, Load}
use Rattle.std.proofs.Common.{Err, None, Ok, Option, Some, ◌∷◌, ◌⊎◌, inl, inr}
use mathlib.Core.Path.{◌≡◌, refl, sym, ap, ◌∙◌}
use mathlib.Core.List.{List, []}
use Prim.Native.Nat.{ℕ, zero, suc, ◌+◌, ◌-◌, ◌*◌, ◌^◌, ◌≤◌}
use native.Mathlib.Omega.{arith}
use lib.ListN.{length, length-append}
use Rattle.policy.specs.declared.Token.{Token}
use Rattle.tables.specs.declared.expression.Test.{Test}
use Rattle.policy.specs.Token.{token_at}
use Rattle.tables.specs.Value.{test_of}
use Rattle.policy.specs.Read.{depth_limit}
use Rattle.word.proofs.Bool.{never}
use Rattle.translator.specs.declared.Part.{Part}
use Rattle.translator.specs.Emit.{piece, two_pieces, join_code, flows_code, either_code, part_of, label_piece, label_code, condition_piece, condition_code}
use Rattle.translator.specs.Emit.{answer_code, guarded_code, rule_piece, rule_code}

-- ════════════════════════════════════════════════════════════════════════════════════════════
-- By the first byte
-- ════════════════════════════════════════════════════════════════════════════════════════════

-- the words of the row that a label expression may name
pub word-few : (t : Token) (address : ℕ) → Some (Part.Word address) ≡ part_of t → address ≤ 4
word-few Token.Empty a e = never (cc)
word-few Token.Place a e = let d : a ≡ 1 = cc in omega arith
word-few Token.Input1 a e = let d : a ≡ 2 = cc in omega arith
word-few Token.Input2 a e = let d : a ≡ 3 = cc in omega arith
word-few Token.Input3 a e = let d : a ≡ 4 = cc in omega arith
word-few Token.Join a e = never (cc)
word-few Token.Flows a e = never (cc)
word-few Token.True a e = never (cc)
word-few Token.And a e = never (cc)
word-few Token.Or a e = never (cc)
word-few Token.Nothing a e = never (cc)

module _ (d : ℕ) (s : List ℕ) (at : ℕ) where
  pub label-deep : d ≡ 0 → label_code d s at ≡ piece [] at
  unfolding label_code
  label-deep e = rw e

  pub condition-deep : d ≡ 0 → condition_code d s at ≡ piece [] at
  unfolding condition_code
  condition-deep e = rw e

  module _ (f : d ≡ 0 → ⊥) where
    pub label-first : (x : Option Part) → part_of (token_at s at) ≡ x → label_code d s at ≡ label_piece x at (label_code (d - 1) s)
    unfolding label_code
    label-first x e = first d f
      where
        first : (d : ℕ) → (d ≡ 0 → ⊥) → label_code d s at ≡ label_piece x at (label_code (d - 1) s)
        first zero f = absurd (f refl)
        first (suc d) f = let n : suc d - 1 ≡ d = omega arith in rw (n, e)

    pub label-none : (p : ℕ) → Err p ≡ at_offset (part_of (token_at s at)) at → label_code d s at ≡ piece [] at
    label-none p e = label-first None (nothing-by _ at p e)

    module _ (y : Part) (next : ℕ) (e : Ok (y, next) ≡ at_offset (part_of (token_at s at)) at) where
      pub label-empty : y ≡ Part.Empty → label_code d s at ≡ piece (Push (pos 0) ∷ []) next
      label-empty i = let g = found-by _ at y next e in rw g.0 (label-first (Some Part.Empty) (g.1 ∙ ap Some i))

      pub label-word : (address : ℕ) → y ≡ Part.Word address
          → (address ≤ 4) × (label_code d s at ≡ piece (Push (pos address) ∷ Load ∷ []) next)
      label-word address i =
          let g = found-by _ at y next e in
          (word-few (token_at s at) address (sym (g.1 ∙ ap Some i)), rw g.0 (label-first (Some (Part.Word address)) (g.1 ∙ ap Some i)))

      pub label-join : y ≡ Part.Join → label_code d s at ≡ two_pieces join_code (label_code (d - 1) s) next
      label-join i = let g = found-by _ at y next e in rw g.0 (label-first (Some Part.Join) (g.1 ∙ ap Some i))

      -- one by itself ends behind its byte
      pub label-ends : (y ≡ Part.Empty) ⊎ ((x : ℕ) × y ≡ Part.Word x) → next ≡ (label_code d s at).next
      label-ends (inl i) = rw (label-empty i)
      label-ends (inr i) = rw ((label-word i.0 i.1).1)

    pub condition-first : (x : Option Test) → test_of (token_at s at) ≡ x
        → condition_code d s at ≡ condition_piece x at (label_code (d - 1) s) (condition_code (d - 1) s)
    unfolding condition_code
    condition-first x e = first d f
      where
        first : (d : ℕ) → (d ≡ 0 → ⊥) → condition_code d s at ≡ condition_piece x at (label_code (d - 1) s) (condition_code (d - 1) s)
        first zero f = absurd (f refl)
        first (suc d) f = let n : suc d - 1 ≡ d = omega arith in rw (n, e)

    pub condition-none : (p : ℕ) → Err p ≡ at_offset (test_of (token_at s at)) at → condition_code d s at ≡ piece [] at
    condition-none p e = condition-first None (nothing-by _ at p e)

    module _ (y : Test) (next : ℕ) (e : Ok (y, next) ≡ at_offset (test_of (token_at s at)) at) where
      pub condition-true : y ≡ Test.True → condition_code d s at ≡ piece (Push (pos 0) ∷ []) next
      condition-true i = let g = found-by _ at y next e in rw g.0 (condition-first (Some Test.True) (g.1 ∙ ap Some i))

      pub condition-flows : y ≡ Test.Flows → condition_code d s at ≡ two_pieces flows_code (label_code (d - 1) s) next
      condition-flows i = let g = found-by _ at y next e in rw g.0 (condition-first (Some Test.Flows) (g.1 ∙ ap Some i))

      pub condition-both : y ≡ Test.And → condition_code d s at ≡ two_pieces join_code (condition_code (d - 1) s) next
      condition-both i = let g = found-by _ at y next e in rw g.0 (condition-first (Some Test.And) (g.1 ∙ ap Some i))

      pub condition-either : y ≡ Test.Or → condition_code d s at ≡ two_pieces either_code (condition_code (d - 1) s) next
      condition-either i = let g = found-by _ at y next e in rw g.0 (condition-first (Some Test.Or) (g.1 ∙ ap Some i))

-- a rule, which a condition guards unless it always allows
module _ (s : List ℕ) (at : ℕ) where
  pub rule-first : (x : Option Test) → test_of (token_at s at) ≡ x → rule_code s at ≡ rule_piece x s at
  unfolding rule_code
  rule-first x e = rw e

  pub rule-none : (p : ℕ) → Err p ≡ at_offset (test_of (token_at s at)) at → rule_code s at ≡ piece [] at
  rule-none p e = rule-first None (nothing-by _ at p e)

  module _ (y : Test) (next : ℕ) (e : Ok (y, next) ≡ at_offset (test_of (token_at s at)) at) where
    pub rule-true : y ≡ Test.True → rule_code s at ≡ answer_code s next
    rule-true i = let g = found-by _ at y next e in rw g.0 (rule-first (Some Test.True) (g.1 ∙ ap Some i))

    pub rule-guarded : (y ≡ Test.Flows) ⊎ ((y ≡ Test.And) ⊎ (y ≡ Test.Or)) → rule_code s at ≡ guarded_code s at
    rule-guarded (inl i) = rule-first (Some Test.Flows) ((found-by _ at y next e).1 ∙ ap Some i)
    rule-guarded (inr (inl i)) = rule-first (Some Test.And) ((found-by _ at y next e).1 ∙ ap Some i)
    rule-guarded (inr (inr i)) = rule-first (Some Test.Or) ((found-by _ at y next e).1 ∙ ap Some i)

-- ════════════════════════════════════════════════════════════════════════════════════════════
-- Length
-- ════════════════════════════════════════════════════════════════════════════════════════════

pub pow-suc : (d : ℕ) → 2 ^ suc d ≡ 2 * 2 ^ d
pow-suc d = omega arith

pub pow_pos : (d : ℕ) → 1 ≤ 2 ^ d
pow_pos zero = omega arith
pow_pos (suc d) = omega (arith, pow_pos d, pow-suc d)

pub pow-pred : (d : ℕ) → (d ≡ 0 → ⊥) → 2 ^ d ≡ 2 * 2 ^ (d - 1)
pow-pred zero f = absurd (f refl)
pow-pred (suc d) f = let e : suc d - 1 ≡ d = omega arith in rw e (pow-suc d)

pub label-length : (d : ℕ) (s : List ℕ) (at : ℕ) → length (label_code d s at).code + 1 ≤ 3 * 2 ^ d
unfolding label_code
label-length zero s at = omega arith
label-length (suc d) s at = by (part_of (token_at s at)) (label-length d s)
  where
    by : (x : Option Part) → ((at : ℕ) → length (label_code d s at).code + 1 ≤ 3 * 2 ^ d)
        → length (label_piece x at (label_code d s)).code + 1 ≤ 3 * 2 ^ suc d
    by (Some Part.Empty) h = omega (arith, pow_pos d, pow-suc d)
    by (Some (Part.Word a)) h = omega (arith, pow_pos d, pow-suc d)
    by (Some Part.Join) h =
        let a = label_code d s (at + 1) in
        simp length-append (omega (arith, pow-suc d, h (at + 1), h a.next))
    by None h = omega (arith, pow_pos d, pow-suc d)

pub condition-length : (d : ℕ) (s : List ℕ) (at : ℕ) → length (condition_code d s at).code + 4 ≤ 8 * 2 ^ d
unfolding condition_code
condition-length zero s at = omega arith
condition-length (suc d) s at = by (test_of (token_at s at)) (condition-length d s)
  where
    by : (x : Option Test) → ((at : ℕ) → length (condition_code d s at).code + 4 ≤ 8 * 2 ^ d)
        → length (condition_piece x at (label_code d s) (condition_code d s)).code + 4 ≤ 8 * 2 ^ suc d
    by (Some Test.True) h = omega (arith, pow_pos d, pow-suc d)
    by (Some Test.Flows) h =
        let a = label_code d s (at + 1) in
        simp length-append (omega (arith, pow_pos d, pow-suc d, label-length d s (at + 1), label-length d s a.next))
    by (Some Test.And) h =
        let a = condition_code d s (at + 1) in
        simp length-append (omega (arith, pow-suc d, h (at + 1), h a.next))
    by (Some Test.Or) h =
        let a = condition_code d s (at + 1) in
        simp length-append (omega (arith, pow-suc d, h (at + 1), h a.next))
    by None h = omega (arith, pow_pos d, pow-suc d)

pub answer-length : (s : List ℕ) (at : ℕ) → length (answer_code s at).code ≤ 1539
unfolding answer_code
answer-length s at =
    let p = label_code depth_limit s at in
    simp length-append (omega (arith, label-length depth_limit s at, label-length depth_limit s p.next))

guarded-length : (s : List ℕ) (at : ℕ) → length (guarded_code s at).code ≤ 4096
unfolding guarded_code
guarded-length s at =
    let c = condition_code depth_limit s at in
    simp length-append (omega (arith, condition-length depth_limit s at, answer-length s c.next))

pub rule-length : (s : List ℕ) (at : ℕ) → length (rule_code s at).code ≤ 4096
unfolding rule_code
rule-length s at = by (test_of (token_at s at))
  where
    by : (x : Option Test) → length (rule_piece x s at).code ≤ 4096
    by (Some Test.True) = omega (arith, answer-length s (at + 1))
    by (Some Test.Flows) = guarded-length s at
    by (Some Test.And) = guarded-length s at
    by (Some Test.Or) = guarded-length s at
    by None = omega arith
