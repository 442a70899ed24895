-- A handler stored in parts, the rules' bodies before the slots that branch to them, is the handler stored whole.
-- Assumes nothing.
use Rattle.std.proofs.Common.{None, Some}
use mathlib.Core.Path.{◌≡◌, refl, sym, ap, ap₂, ◌∙◌}
use mathlib.Core.List.{List, [], ◌∷◌, ◌++◌, append_assoc, append-nil}
use Prim.Native.Nat.{ℕ, zero, suc, ◌+◌, ◌-◌, ◌*◌, ◌^◌, ◌<◌, ◌≤◌}
use native.Mathlib.Nat.{add-zero}
use native.Mathlib.Omega.{arith}
use native.Mathlib.Numerals.{add-one}
use lib.IntN.{ℤ, pos}
use lib.ListN.{length, get_or, take, drop, set, length-append, length-set, drop_of_length-le}
use lib.Seq.{append_snoc, take-suc-set, take_all}
use Rattle.translator.specs.declared.Mark.{Mark}
use Rattle.word.proofs.Bool.{never}
use Rattle.program.specs.declared.Shape.{Shape}
use Rattle.program.specs.Fetch.{shape_of}
use Rattle.program.specs.Command.{Opcode, opcodes, opcode_of, rule_number}
use Rattle.tables.proofs.TableReading.{Element, element}
use Rattle.policy.specs.Read.{rule_count}
use Rattle.policy.proofs.Ruled.{rule-few, opcodes-next}
use Rattle.handler.specs.Kernel.{Instruction, Bnz}
use Rattle.handler.specs.Space.{kernel_words}
use Rattle.handler.specs.Translate.{concat, before, slots, dispatch}
use Rattle.translator.specs.Emit.{rule_code, bodies_at, table_code, put_all, put_code, Emits, first_slot, first_body, slots_to, Ahead}
use Rattle.handler.proofs.Dispatch.{slots_length}
use Rattle.handler.proofs.Shape.{before-most}
use Rattle.translator.proofs.Putting.{put_code-append, put_code-late}
use Rattle.translator.proofs.Pieces.{rule-length}

abbrev bodies : List ℕ → List (List Instruction)
bodies s = bodies_at rule_count s 0

bodies-length : (count : ℕ) (s : List ℕ) (at : ℕ) → length (bodies_at count s at) ≡ count
unfolding bodies_at
bodies-length zero s at = refl
bodies-length (suc count) s at = ap suc (bodies-length count s (rule_code s at).next)

-- any bytes give fewer instructions than a word counts
concat-length : (count : ℕ) (s : List ℕ) (at : ℕ) → length (concat (bodies_at count s at)) ≤ 4096 * count
unfolding bodies_at
concat-length zero s at = omega arith
concat-length (suc count) s at =
    let r = rule_code s at in
    simp length-append (omega (arith, rule-length s at, concat-length count s r.next))

-- ════════════════════════════════════════════════════════════════════════════════════════════
-- Slots by where the bodies start
-- ════════════════════════════════════════════════════════════════════════════════════════════

-- if the first does at a place
abbrev starts : (place : ℕ) → List (List Instruction) → List ℕ
starts place [] = []
starts place (b ∷ bs) = place ∷ starts (place + length b) bs

starts-at : (place : ℕ) (bodies : List (List Instruction)) (n : ℕ) → n < length bodies
    → get_or (starts place bodies) n 0 ≡ place + before bodies n
starts-at place [] n h = absurd (omega arith)
starts-at place (b ∷ bs) zero h = sym (add-zero place)
starts-at place (b ∷ bs) (suc n) h =
    starts-at (place + length b) bs n (omega arith) ∙ (let l = length-append b (concat (take n bs)) in omega arith)

module _ (bodies : List (List Instruction)) (all : length bodies ≡ rule_count) where
  slots-to : (place : ℕ) (os : List Opcode) → place + length os ≡ first_body → slots_to place (starts first_body bodies) os ≡ slots bodies os
  unfolding slots_to
  slots-to place [] h = refl
  slots-to place (o ∷ os) h =
      let at = starts-at first_body bodies (rule_number o) (omega (arith, rule-few o)) in
      let d : get_or (starts first_body bodies) (rule_number o) 0 - place ≡ suc (length os + before bodies (rule_number o)) = omega arith in
      ap₂ (λ k rest. Bnz (pos k) ∷ rest) d (slots-to (place + 1) os (omega arith))

  starts-ahead : first_body + length (concat bodies) ≤ 2 ^ 20 → Ahead (starts first_body bodies)
  starts-ahead few n h =
      let at = starts-at first_body bodies n (omega arith) in
      (omega arith, omega (arith, before-most bodies n))

-- slots and bodies, behind the dispatch
placed-table : (s : List ℕ) (space : List ℤ)
    → put_code first_slot (slots (bodies s) opcodes) (put_code first_body (concat (bodies s)) (put_code 0 dispatch space))
    ≡ put_code 0 (table_code s) space
unfolding table_code
placed-table s space =
    let front = slots (bodies s) opcodes in
    let behind = concat (bodies s) in
    let start = put_code 0 dispatch space in
    ap (λ k. put_code first_slot front (put_code (first_slot + k) behind start)) (sym (slots_length (bodies s) opcodes))
    ∙ put_code-late first_slot front behind start
    ∙ sym (put_code-append 0 dispatch (front ++ behind) space)
    ∙ ap (λ code. put_code 0 code space) (sym (append_assoc dispatch front behind))

-- ════════════════════════════════════════════════════════════════════════════════════════════
-- Rule by rule
-- ════════════════════════════════════════════════════════════════════════════════════════════

abbrev pub start : Mark
start = record { next = 0; position = first_body }

-- i bodies are stored, and storing the others makes all; where each starts is known likewise
pub record Placing (s : List ℕ) (space : List ℤ) (i : ℕ) (m : Mark) (begun : List ℕ) (now : List ℤ) : Type 0 where
  pub few : i ≤ rule_count
  pub size : length now ≡ length space
  pub array : length begun ≡ rule_count
  pub end : m.position + length (concat (bodies_at (rule_count - i) s m.next)) ≡ first_body + length (concat (bodies s))
  pub known : take i begun ++ starts m.position (bodies_at (rule_count - i) s m.next) ≡ starts first_body (bodies s)
  pub left : put_code m.position (concat (bodies_at (rule_count - i) s m.next)) now ≡ put_code first_body (concat (bodies s)) space

module _ (s : List ℕ) (space : List ℤ) where
  pub placing-start : (begun : List ℕ) → length begun ≡ rule_count → Placing s space 0 start begun space
  placing-start begun l = record { few = omega arith; size = refl; array = l; end = refl; known = refl; left = refl }

  module _ (i : ℕ) (m : Mark) (begun : List ℕ) (now : List ℤ) (p : Placing s space i m begun now) where
    pub placing-room : m.position ≤ 2 ^ 16
    placing-room = omega (arith, p.end, concat-length rule_count s 0)

    pub placing-next : i < rule_count → (r : Mark) (s2 : List ℤ) → Emits (rule_code s m.next) m.position now r s2
        → length s2 ≡ length now → Placing s space (i + 1) r (set begun i m.position) s2
    unfolding bodies_at
    placing-next h r s2 e l =
        let q = rule_code s m.next in
        let n : rule_count - i ≡ suc (rule_count - (i + 1)) = omega arith in
        let bs = bodies_at (rule_count - (i + 1)) s q.next in
        let k : r ≡ record { next = q.next; position = m.position + length q.code } =
        ap (λ a. record { next = a; position = r.position }) e.next ∙ ap (λ a. record { next = q.next; position = a }) e.position in
        let taken : take (i + 1) (set begun i m.position) ≡ take i begun ++ (m.position ∷ []) =
        rw (add-one i) (take-suc-set begun i m.position (omega (arith, p.array))) in
        record {
          few = omega arith;
          size = l ∙ p.size;
          array = length-set begun i m.position ∙ p.array;
          end = rw k (omega (arith, length-append q.code (concat bs), rw n at p.end));
          known =
              rw (k, taken)
              (append_snoc (take i begun) m.position (starts (m.position + length q.code) bs) ∙ (rw n at p.known));
          left =
              rw (k, e.space)
              (sym (put_code-append m.position q.code (concat bs) now) ∙ (rw n at p.left));
        }

    -- none is left
    module _ (h : rule_count ≤ i) where
      nothing : bodies_at (rule_count - i) s m.next ≡ []
      unfolding bodies_at
      nothing = let e : rule_count - i ≡ 0 = omega arith in rw e

      placing-known : begun ≡ starts first_body (bodies s)
      placing-known =
          sym (take_all i begun (omega (arith, p.array))) ∙ sym (append-nil (take i begun)) ∙ (rw nothing at p.known)

      pub placing-ahead : Ahead begun
      placing-ahead =
          rw placing-known (starts-ahead (bodies s) (bodies-length rule_count s 0) (omega (arith, concat-length rule_count s 0)))

      pub placing-count : m.position ≡ length (table_code s)
      unfolding table_code
      placing-count = simp length-append (omega (arith, slots_length (bodies s) opcodes, rw nothing at p.end))

      pub placing-written : (old after : List ℤ) → space ≡ put_code 0 dispatch old
          → after ≡ put_code first_slot (slots_to first_slot begun opcodes) now → after ≡ put_code 0 (table_code s) old
      placing-written old after e d =
          let all = bodies-length rule_count s 0 in
          let stored : now ≡ put_code first_body (concat (bodies s)) space = unfold put_all kernel_words in rw nothing at p.left in
          rw (d, placing-known, slots-to (bodies s) all first_slot opcodes refl, stored, e) (placed-table s old)

-- ════════════════════════════════════════════════════════════════════════════════════════════
-- Slot by slot
-- ════════════════════════════════════════════════════════════════════════════════════════════

-- i slots are stored, and storing the others makes all
pub record Slotting (begun : List ℕ) (space : List ℤ) (i : ℕ) (now : List ℤ) : Type 0 where
  pub size : length now ≡ length space
  pub left : put_code (first_slot + i) (slots_to (first_slot + i) begun (drop i opcodes)) now
      ≡ put_code first_slot (slots_to first_slot begun opcodes) space

module _ (begun : List ℕ) (space : List ℤ) where
  pub slotting-start : Slotting begun space 0 space
  slotting-start = record { size = refl; left = refl }

  module _ (i : ℕ) (now : List ℤ) (p : Slotting begun space i now) where
    pub slotting-end : length opcodes ≤ i → now ≡ put_code first_slot (slots_to first_slot begun opcodes) space
    unfolding slots_to put_all kernel_words
    slotting-end h = rw (drop_of_length-le opcodes {i = i} h) at p.left

    module _ (h : i < length opcodes) where
      abbrev e : Element opcodes i
      e = element opcodes i h

      pub slotting-known : shape_of (opcode_of (i + 1)) ≡ None → ⊥
      slotting-known f = let d = rw (opcodes-next i e.here e.at) at f in never (cc)

      pub slotting-next : (x : Shape) → shape_of (opcode_of (i + 1)) ≡ Some x → (s2 : List ℤ)
          → s2 ≡ put_code (first_slot + i) (Bnz (pos (get_or begun x.rule 0 - (first_slot + i))) ∷ []) now → length s2 ≡ length now
          → Slotting begun space (i + 1) s2
      unfolding slots_to
      slotting-next x f s2 d l =
          let own : x.rule ≡ rule_number e.here = (let g = rw (opcodes-next i e.here e.at) at f in cc) in
          let place = first_slot + i in
          let first = Bnz (pos (get_or begun (rule_number e.here) 0 - place)) ∷ [] in
          let more = slots_to (place + 1) begun (drop (i + 1) opcodes) in
          let a : first_slot + (i + 1) ≡ place + 1 = omega arith in
          record { size = l ∙ p.size; left = rw (a, d, own) (sym (put_code-append place first more now) ∙ (rw e.rest at p.left)) }
