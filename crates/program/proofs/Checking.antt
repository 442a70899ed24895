-- Checking a program command by command: what is left to check, after what was counted, gives the whole program's answer.
-- Assumes nothing.
use Rattle.std.proofs.Common.{Err, Ok, Result}
use mathlib.Core.Path.{◌≡◌, refl, sym, ap, ◌∙◌}
use mathlib.Core.Bool.{true, false}
use mathlib.Core.List.{List, []}
use Prim.Native.Nat.{ℕ, zero, suc, ◌+◌, ◌-◌, ◌<◌, ◌≤◌}
use native.Mathlib.Nat.{zero-add, add-zero}
use native.Mathlib.Omega.{arith}
use lib.IntN.{ℤ}
use lib.ListN.{length, drop, get_or, drop_of_length-le}
use lib.Seq.{drop-cons}
use Rattle.program.specs.declared.Command.{Command}
use Rattle.program.specs.Decode.{Decoded, refused, accepted, refusal, prepend, decode_from, decode, command_limit, check_answer}
use Rattle.program.specs.Command.{opcode_of}
use Rattle.program.specs.Fetch.{shape_of, permits_of, refuses_of, faults_of, fetch_of}
use Rattle.program.proofs.Fetching.{Next, fetched-next, fetched-permits, fetched-refuses, decode-unknown, decode-cut, decode-next}
use Rattle.program.specs.declared.Refusal.{Refusal}
use Rattle.program.specs.declared.Fault.{Fault}
use Rattle.program.specs.declared.Fault.TheVariants.{Unknown, Cut}

-- the answer, after k commands were counted
abbrev pub counted : ℕ → Decoded → Result ℕ Refusal
counted k (refused r) = Err r
counted k (accepted cs) = Ok (k + length cs)

counted-zero : (d : Decoded) → counted 0 d ≡ check_answer d
counted-zero (refused r) = refl
counted-zero (accepted cs) = ap Ok (zero-add (length cs))

counted-prepend : (k : ℕ) (c : Command) (d : Decoded) → counted k (prepend c d) ≡ counted (k + 1) d
counted-prepend k c (refused r) = refl
counted-prepend k c (accepted cs) = ap Ok (omega arith)

-- what is left from a position on, after `count` commands
abbrev pub remaining : List ℕ → ℕ → ℕ → Decoded
remaining s at count = decode_from (command_limit - count) at (drop at s)

pub record Invariant (s : List ℕ) (at count : ℕ) : Type 0 where
  pub few : count ≤ command_limit
  pub within : at ≤ length s
  pub answer : counted count (remaining s at count) ≡ check_answer (decode s)

pub invariant-start : (s : List ℕ) → Invariant s 0 0
unfolding decode
invariant-start s = record { few = omega arith; within = omega arith; answer = counted-zero (decode_from command_limit 0 s) }

pub remaining-end : (left at : ℕ) → decode_from left at [] ≡ accepted []
unfolding decode_from
remaining-end zero at = refl
remaining-end (suc left) at = refl

pub remaining-limit : (s : List ℕ) (at : ℕ) → at < length s → decode_from 0 at (drop at s) ≡ refused (refusal 1 at)
unfolding decode_from
remaining-limit s at h = rw (drop-cons s at 0 h)

module _ (s : List ℕ) (at count : ℕ) (i : Invariant s at count) where
  pub invariant-end : length s ≤ at → Ok count ≡ check_answer (decode s)
  invariant-end h =
      ap Ok (sym (add-zero count))
      ∙ ap (counted count) (sym (ap (decode_from (command_limit - count) at) (drop_of_length-le s h)
      ∙ remaining-end (command_limit - count) at))
      ∙ i.answer

  pub invariant-limit : at < length s → count ≡ command_limit → Err (refusal 1 at) ≡ check_answer (decode s)
  invariant-limit h e =
      let z : command_limit - count ≡ 0 = omega arith in
      ap (counted count) (sym (ap (λ n. decode_from n at (drop at s)) z ∙ remaining-limit s at h)) ∙ i.answer

  module _ (h : at < length s) (more : count ≡ command_limit → ⊥) where
    left : ℕ
    left = command_limit - (count + 1)

    left-suc : command_limit - count ≡ suc left
    unfolding left
    left-suc = let k = i.few in omega arith

    -- the answer, by what is left of one command more
    answer-suc : counted count (decode_from (suc left) at (drop at s)) ≡ check_answer (decode s)
    answer-suc = ap (λ n. counted count (decode_from n at (drop at s))) (sym left-suc) ∙ i.answer

    pub invariant-unknown : fetch_of s at ≡ Err Unknown → Err (refusal 2 at) ≡ check_answer (decode s)
    invariant-unknown e = ap (counted count) (sym (decode-unknown s at h left e)) ∙ answer-suc

    pub invariant-cut : fetch_of s at ≡ Err Cut → Err (refusal 3 at) ≡ check_answer (decode s)
    invariant-cut e = ap (counted count) (sym (decode-cut s at h left e)) ∙ answer-suc

    pub invariant-fault : (fault : Fault) → fetch_of s at ≡ Err fault → Err (refusal (faults_of fault) at) ≡ check_answer (decode s)
    invariant-fault Unknown e = invariant-unknown e
    invariant-fault Cut e = invariant-cut e

    module _ (z : ℤ) (next : ℕ) (e : fetch_of s at ≡ Ok (z, next)) where
      n : Next s at z next
      n = fetched-next s at h z next e

      pub invariant-forward : at < next
      invariant-forward = n.forward

      -- what its code's shape says of its operand
      pub invariant-outside : permits_of (shape_of (opcode_of (get_or s at 0))) z ≡ false
          → Err (refusal (refuses_of (shape_of (opcode_of (get_or s at 0)))) at) ≡ check_answer (decode s)
      invariant-outside t =
          ap (λ k. Err (refusal k at)) (fetched-refuses s at h n)
          ∙ ap (counted count) (sym (decode-next s at h left n false (sym (fetched-permits s at h n) ∙ t))) ∙ answer-suc

      pub invariant-next : permits_of (shape_of (opcode_of (get_or s at 0))) z ≡ true → Invariant s next (count + 1)
      unfolding left
      invariant-next t =
          record {
            few = let k = i.few in omega arith;
            within = n.within;
            answer =
                sym (counted-prepend count _ (remaining s next (count + 1)))
                ∙ ap (counted count) (sym (decode-next s at h left n true (sym (fetched-permits s at h n) ∙ t)))
                ∙ answer-suc;
          }
