-- Pieces that were stored, put together: one after the other, before a fixed run of instructions, or round one that was left out; and
-- how far they reach.
-- Assumes nothing.
use mathlib.Core.Path.{◌≡◌, refl, sym, ap, subst, ◌∙◌}
use mathlib.Core.List.{List, [], ◌∷◌, ◌++◌}
use Prim.Native.Nat.{ℕ, suc, ◌+◌, ◌-◌, ◌*◌, ◌^◌, ◌≤◌}
use native.Mathlib.Nat.{add-zero}
use native.Mathlib.Omega.{arith}
use lib.IntN.{ℤ, pos, negsuc}
use lib.ListN.{length, length-append}
use lib.Seq.{append_snoc}
use Rattle.translator.specs.declared.Mark.{Mark}
use Rattle.handler.specs.Kernel.{Instruction, Sub, Or, Load, Store, Dup, Jump, Ret, Push, Bnz}
use Rattle.handler.specs.Space.{kernel_words}
use Rattle.translator.specs.Emit.{Piece, piece, two_pieces, join_code, flows_code, either_code, answer_of, guarded_of}
use Rattle.translator.specs.Emit.{label_code, condition_code, answer_code, put_all, put_code, Emits}
use Rattle.translator.proofs.Pieces.{label-length, condition-length, answer-length}
use Rattle.translator.proofs.Putting.{put_code-append, put_code-late}

abbrev pub mark : (next position : ℕ) → Mark
mark next position = record { next = next; position = position }

-- nothing
pub emits-nothing : (p : Piece) (m : Mark) (s : List ℤ) → p ≡ piece [] m.next → Emits p m.position s m s
unfolding put_all kernel_words
emits-nothing p m s e = rw e (record { next = refl; position = sym (add-zero m.position); space = refl })

-- a fixed run
emits-run : (p : Piece) (code : List Instruction) (next start : ℕ) (before after : List ℤ) → p ≡ piece code next
    → after ≡ put_code start code before → Emits p start before (mark next (start + length code)) after
emits-run p code next start before after e d = rw e (record { next = refl; position = refl; space = d })

pub emits-zero : (p : Piece) (next start : ℕ) (before after : List ℤ) → p ≡ piece (Push (pos 0) ∷ []) next
    → after ≡ put_code start (Push (pos 0) ∷ []) before → Emits p start before (mark next (start + 1)) after
emits-zero p next start before after e d = emits-run p (Push (pos 0) ∷ []) next start before after e d

pub emits-read : (p : Piece) (address next start : ℕ) (before after : List ℤ) → p ≡ piece (Push (pos address) ∷ Load ∷ []) next
    → after ≡ put_code start (Push (pos address) ∷ Load ∷ []) before → Emits p start before (mark next (start + 2)) after
emits-read p address next start before after e d = emits-run p (Push (pos address) ∷ Load ∷ []) next start before after e d

module _ {a : Piece} {start : ℕ} {s0 : List ℤ} {r1 : Mark} {s1 : List ℤ} (e1 : Emits a start s0 r1 s1) where
  -- and a piece behind it
  emits_then : (b : Piece) {r2 : Mark} {s2 : List ℤ} → Emits b r1.position s1 r2 s2
      → Emits (piece (a.code ++ b.code) b.next) start s0 r2 s2
  emits_then b {r2} {s2} e2 =
      record {
        next = e2.next;
        position = simp length-append (omega (arith, e1.position, e2.position));
        space =
            e2.space
            ∙ ap (put_code r1.position b.code) e1.space
            ∙ ap (λ n. put_code n b.code (put_code start a.code s0)) e1.position
            ∙ sym (put_code-append start a.code b.code s0);
      }

  -- and a fixed run behind it
  emits-put : (code : List Instruction) (next : ℕ) {s2 : List ℤ} → s2 ≡ put_code r1.position code s1
      → Emits (piece (a.code ++ code) next) start s0 (mark next (r1.position + length code)) s2
  emits-put code next e2 = emits_then (piece code next) (record { next = refl; position = refl; space = e2 })

  -- a fixed run left out, a piece behind it, then the run
  emits-late : (code : List Instruction) (b : Piece) {r2 : Mark} {s2 s3 : List ℤ} → Emits b (r1.position + length code) s1 r2 s2
      → s3 ≡ put_code r1.position code s2 → Emits (piece (a.code ++ (code ++ b.code)) b.next) start s0 r2 s3
  emits-late code b {r2} {s2} {s3} e2 e3 =
      emits_then (piece (code ++ b.code) b.next)
      (record {
        next = e2.next;
        position = simp length-append (omega (arith, e2.position));
        space = e3 ∙ ap (put_code r1.position code) e2.space ∙ put_code-late r1.position code b.code s1;
      })

-- ════════════════════════════════════════════════════════════════════════════════════════════
-- Two expressions
-- ════════════════════════════════════════════════════════════════════════════════════════════

module _ (inner : ℕ → Piece) (n start : ℕ) (s0 : List ℤ) where
  abbrev second : Piece
  second = inner (inner n).next

  module _ (r1 : Mark) (s1 : List ℤ) (e1 : Emits (inner n) start s0 r1 s1) where
    module _ (r2 : Mark) (s2 : List ℤ) (e2 : Emits (inner r1.next) r1.position s1 r2 s2) where
      emits_two : Emits (piece ((inner n).code ++ second.code) second.next) start s0 r2 s2
      emits_two = emits_then e1 second (subst (λ k. Emits (inner k) r1.position s1 r2 s2) e1.next e2)

      emits-tail : (code : List Instruction) (s3 : List ℤ) → s3 ≡ put_code r2.position code s2
          → Emits (piece ((inner n).code ++ second.code ++ code) second.next) start s0 (mark r2.next (r2.position + length code)) s3
      emits-tail code s3 e3 = rw emits_two.next (emits-put emits_two code second.next e3)

      pub emits-join : (s3 : List ℤ) → s3 ≡ put_code r2.position (Or ∷ []) s2
          → Emits (two_pieces join_code inner n) start s0 (mark r2.next (r2.position + 1)) s3
      emits-join s3 e3 = emits-tail (Or ∷ []) s3 e3

      -- the stores of a rule's answer
      pub emits-answer : (s3 : List ℤ)
          → s3 ≡ put_code r2.position (Push (pos 6) ∷ Store ∷ Push (pos 5) ∷ Store ∷ Ret ∷ []) s2
          → Emits (two_pieces answer_of inner n) start s0 (mark r2.next (r2.position + 5)) s3
      emits-answer s3 e3 = emits-tail (Push (pos 6) ∷ Store ∷ Push (pos 5) ∷ Store ∷ Ret ∷ []) s3 e3

    -- the branch over the second is stored behind it
    pub emits-either : (r2 : Mark) (s2 : List ℤ) → Emits (inner r1.next) (r1.position + 4) s1 r2 s2 → (s3 : List ℤ)
        → s3 ≡ put_code r1.position (Bnz (pos 4) ∷ Push (pos 0) ∷ Push (pos 1) ∷ Bnz (pos (r2.position - r1.position - 3)) ∷ []) s2
        → Emits (two_pieces either_code inner n) start s0 r2 s3
    emits-either r2 s2 e2 s3 e3 =
        let f : Emits second (r1.position + 4) s1 r2 s2 = subst (λ k. Emits (inner k) (r1.position + 4) s1 r2 s2) e1.next e2 in
        let d : r2.position - r1.position - 3 ≡ suc (length second.code) = omega (arith, f.position) in
        emits-late e1 (Bnz (pos 4) ∷ Push (pos 0) ∷ Push (pos 1) ∷ Bnz (pos (suc (length second.code))) ∷ []) second f (rw d at e3)

  -- the second comes first
  pub emits-flows : (k : ℕ) → k ≡ (inner n).next → (r1 : Mark) (s1 : List ℤ) → Emits (inner k) start s0 r1 s1
      → (s2 : List ℤ) → s2 ≡ put_code r1.position (Dup ∷ []) s1
      → (r2 : Mark) (s3 : List ℤ) → Emits (inner n) (r1.position + 1) s2 r2 s3
      → (s4 : List ℤ) → s4 ≡ put_code r2.position (Or ∷ Sub ∷ []) s3
      → Emits (two_pieces flows_code inner n) start s0 (mark r1.next (r2.position + 2)) s4
  emits-flows k e r1 s1 e1 s2 d r2 s3 e2 s4 d2 =
      let f : Emits second start s0 r1 s1 = subst (λ j. Emits (inner j) start s0 r1 s1) e e1 in
      let g = emits-put (emits_then (emits-put f (Dup ∷ []) r1.next d) (inner n) e2) (Or ∷ Sub ∷ []) second.next d2 in
      rw f.next (rw (append_snoc second.code Dup (inner n).code) at g)

-- ════════════════════════════════════════════════════════════════════════════════════════════
-- A rule with a condition
-- ════════════════════════════════════════════════════════════════════════════════════════════

pub emits-guarded : (c : Piece) (answer : ℕ → Piece) (start : ℕ) (s0 : List ℤ) (r1 : Mark) (s1 : List ℤ) → Emits c start s0 r1 s1
    → (r2 : Mark) (s2 : List ℤ) → Emits (answer r1.next) (r1.position + 1) s1 r2 s2
    → (s3 : List ℤ) → s3 ≡ put_code r1.position (Bnz (pos (r2.position - r1.position)) ∷ []) s2
    → (s4 : List ℤ) → s4 ≡ put_code r2.position (Push (negsuc 0) ∷ Jump ∷ []) s3
    → Emits (piece (guarded_of c.code (answer c.next).code) (answer c.next).next) start s0 (mark r2.next (r2.position + 2)) s4
emits-guarded c answer start s0 r1 s1 e1 r2 s2 e2 s3 e3 s4 e4 =
    let a = answer c.next in
    let f : Emits a (r1.position + 1) s1 r2 s2 = subst (λ k. Emits (answer k) (r1.position + 1) s1 r2 s2) e1.next e2 in
    let d : r2.position - r1.position ≡ suc (length a.code) = omega (arith, f.position) in
    rw f.next (emits-put (emits-late e1 (Bnz (pos (suc (length a.code))) ∷ []) a f (rw d at e3)) (Push (negsuc 0) ∷ Jump ∷ [])
    a.next e4)

-- ════════════════════════════════════════════════════════════════════════════════════════════
-- How far they reach
-- ════════════════════════════════════════════════════════════════════════════════════════════

module _ {start : ℕ} {before after : List ℤ} {r : Mark} where
  pub label-room : (d : ℕ) (s : List ℕ) (at : ℕ) → Emits (label_code d s at) start before r after → r.position + 1 ≤ start + 3 * 2 ^ d
  label-room d s at e = omega (arith, e.position, label-length d s at)

  pub condition-room : (d : ℕ) (s : List ℕ) (at : ℕ) → Emits (condition_code d s at) start before r after
      → r.position + 4 ≤ start + 8 * 2 ^ d
  condition-room d s at e = omega (arith, e.position, condition-length d s at)

  pub answer-room : (s : List ℕ) (at : ℕ) → Emits (answer_code s at) start before r after → r.position ≤ start + 1539
  answer-room s at e = omega (arith, e.position, answer-length s at)
