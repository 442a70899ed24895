-- Every refusal has a number, which is not 0: so 0 in its place says that nothing was refused.
-- Assumes nothing.
use Rattle.std.proofs.Common.{Err, None, Ok, Option, Result, Some}
use mathlib.Core.Path.{◌≡◌}
use mathlib.Core.Bool.{Bool, true, false}
use mathlib.Core.List.{List, [], ◌∷◌}
use Prim.Native.Nat.{ℕ, zero, suc, ◌*◌, ◌≤◌, min}
use native.Mathlib.Omega.{arith}
use lib.IntN.{ℤ}
use lib.ListN.{length}
use lib.Dec.{leb, eqb}
use Rattle.word.proofs.Bool.{never}
use Rattle.label.specs.Word.{stored}
use Rattle.program.specs.declared.Operand.{Operand}
use Rattle.program.specs.Command.{opcode_of, operand_of, opcode}
use Rattle.program.specs.Decode.{Decoded, refused, accepted, refusal, prepend, First, unknown, cut, whole}
use Rattle.program.specs.Decode.{first_opcode, permits, check_of, decode_if, decode_first, decode_from, decode, command_limit}
use Rattle.program.specs.declared.Command.{Command}
use Rattle.program.specs.declared.Refusal.{Refusal}
use Rattle.machine.specs.Rule.{Ruler}
use Rattle.engine.specs.declared.Clearances.{Clearances}
use Rattle.engine.specs.declared.start.Given.{Given}
use Rattle.engine.specs.declared.start.Own.{Own}
use Rattle.engine.specs.Memory.{Memory}
use Rattle.engine.specs.Start.{kept_if, first_of, or_label, labels_limit, limits, within, start_decoded, start_of}
use Rattle.engine.specs.Ended.{engine_of}
use Rattle.label.specs.declared.Label.{Label}

abbrev pub Numbered : Decoded → Type 0
Numbered (refused r) = 1 ≤ r.code
Numbered (accepted cs) = Unit {0}

pub data LimitNumbered : Result (Unit {0}) Refusal → Type 0 where
  broken : {r : Refusal} → 1 ≤ r.code → LimitNumbered (Err r)
  kept : LimitNumbered (Ok tt)

-- ════════════════════════════════════════════════════════════════════════════════════════════
-- The sheet
-- ════════════════════════════════════════════════════════════════════════════════════════════

prepend-numbered : (c : Command) (d : Decoded) → Numbered d → Numbered (prepend c d)
prepend-numbered c (refused r) h = h
prepend-numbered c (accepted cs) h = tt

check-numbered : (x : Operand) → 1 ≤ check_of x
check-numbered (Operand.Signed k) = omega arith
check-numbered Operand.Page = omega arith
check-numbered Operand.Counts = omega arith

first-numbered : (f : First) (at : ℕ) (rest : ℕ → Decoded) → ((width : ℕ) → Numbered (rest width)) → Numbered (decode_first f at rest)
first-numbered unknown at rest h = omega arith
first-numbered cut at rest h = omega arith
first-numbered (whole c width) at rest h = by (permits c)
  where
    by : (b : Bool) → Numbered (decode_if b c at (rest width))
    by true = prepend-numbered c (rest width) (h width)
    by false = check-numbered (operand_of (opcode c))

decode-numbered : (left at : ℕ) (bytes : List ℕ) → Numbered (decode_from left at bytes)
unfolding decode_from
decode-numbered zero at [] = tt
decode-numbered zero at (b ∷ bytes) = omega arith
decode-numbered (suc left) at [] = tt
decode-numbered (suc left) at (b ∷ bytes) =
    first-numbered (first_opcode (opcode_of b) bytes) at _ (λ width. decode-numbered left _ _)

-- ════════════════════════════════════════════════════════════════════════════════════════════
-- The limits
-- ════════════════════════════════════════════════════════════════════════════════════════════

pub kept-numbered : (b : Bool) (n p : ℕ) → 1 ≤ n → LimitNumbered (kept_if b (refusal n p))
kept-numbered true n p h = kept
kept-numbered false n p h = broken h

-- of a list
data AllNumbered : List (Result (Unit {0}) Refusal) → Type 0 where
  none : AllNumbered []
  also : {l : Result (Unit {0}) Refusal} {ls : List (Result (Unit {0}) Refusal)} → LimitNumbered l → AllNumbered ls → AllNumbered (l ∷ ls)

first-of : (ls : List (Result (Unit {0}) Refusal)) → AllNumbered ls → LimitNumbered (first_of ls)
first-of [] none = kept
first-of (Err r ∷ ls) (also h more) = h
first-of (Ok tt ∷ ls) (also h more) = first-of ls more

labels-numbered : (check i : ℕ) (labels : List ℤ) → 1 ≤ check → LimitNumbered (labels_limit check i labels)
unfolding labels_limit
labels-numbered check i [] h = kept
labels-numbered check i (w ∷ labels) h = by (stored w) (labels-numbered check (suc i) labels h)
  where
    by : (x : Option Label) → LimitNumbered (labels_limit check (suc i) labels)
        → LimitNumbered (or_label check x i (labels_limit check (suc i) labels))
    by (Some l) more = more
    by None more = broken {r = refusal check i} h

-- an engine's own
pub record OwnNumbered (own : Own) : Type 0 where
  pub rules : LimitNumbered own.rules
  pub row : LimitNumbered own.row
  pub handler : LimitNumbered own.handler

module _ (labels : List ℤ) (c : Clearances) (g : Given) (own : Own) (numbered : OwnNumbered own) where
  limits-numbered : (count : ℕ) → LimitNumbered (first_of (limits count labels c g own))
  limits-numbered count =
      first-of (limits count labels c g own)
      (also (kept-numbered (eqb g.values (length labels)) 4 (min g.values (length labels)) (omega arith))
      (also (kept-numbered (leb g.values 1024) 4 1024 (omega arith))
      (also (labels-numbered 5 0 labels (omega arith))
      (also (kept-numbered (eqb c.count 16) 13 16 (omega arith))
      (also (labels-numbered 13 0 c.words (omega arith))
      (also numbered.rules
      (also numbered.row
      (also (kept-numbered (leb (2 * count) g.program) 8 1 (omega arith))
      (also (kept-numbered (leb 768 g.stack) 8 2 (omega arith))
      (also numbered.handler
      (also (kept-numbered (leb g.fuel 1000000) 9 0 (omega arith)) none)))))))))))

  pub start-numbered : (sheet : List ℕ) → Numbered (start_of sheet labels c g own)
  unfolding start_of decode
  start-numbered sheet = by (decode sheet) (decode-numbered command_limit 0 sheet)
    where
      limited : (l : Result (Unit {0}) Refusal) (cs : List Command) → LimitNumbered l → Numbered (within l cs)
      limited (Err r) cs (broken h) = h
      limited (Ok tt) cs h = tt

      by : (d : Decoded) → Numbered d → Numbered (start_decoded d labels c g own)
      by (refused r) h = h
      by (accepted cs) h = limited _ cs (limits-numbered (length cs))

-- so has what an engine refuses
pub answer-numbered : {R : Type 0} (ρ : Ruler R) (d : Decoded) (u : R) (c : Clearances) (m : Memory) (fuel : ℕ) → Numbered d
    → (q : Refusal) → (engine_of ρ d u c m fuel).answer ≡ Err q → 1 ≤ q.code
answer-numbered ρ (refused r) u c m fuel h q e = let same : r ≡ q = cc in rw same at h
answer-numbered ρ (accepted cs) u c m fuel h q e = never (cc)
