-- From an engine's contract to that of the exported function over it.
-- Assumes nothing.
use Rattle.std.proofs.Common.{Err, Ok, Result}
use mathlib.Core.Path.{◌≡◌, refl, sym, ap, ap₂, ◌∙◌}
use mathlib.Core.List.{List}
use Prim.Native.Nat.{ℕ}
use lib.IntN.{ℤ}
use native.Mathlib.Omega.{arith}
use Rattle.word.specs.Lay.{laid}
use Rattle.policy.specs.Expression.{Table}
use Rattle.policy.specs.Evaluate.{evaluate}
use Rattle.policy.specs.Read.{ReadTable, refused, table, read_table}
use Rattle.handler.specs.Kernel.{Instruction}
use Rattle.handler.specs.Space.{kernel_words}
use Rattle.handler.specs.Translate.{translate}
use Rattle.handler.specs.Claim.{Handles}
use Rattle.engine.specs.declared.Clearances.{Clearances}
use Rattle.engine.specs.declared.Ran.{Ran}
use Rattle.engine.specs.Memory.{Memory}
use Rattle.engine.specs.Ended.{Ended, ended, directly, SameEnd}
use Rattle.plain.specs.Plain.{plain}
use Rattle.tagged.specs.declared.Tagged.{Tagged}
use Rattle.tagged.specs.Tagged.{Left, left, ended_by, tagged, Promises}
use Rattle.tagged.proofs.Numbers.{tagged-numbered}
use Rattle.exports.specs.declared.result.LuvrodanResult.{LuvrodanResult}
use Rattle.exports.specs.Result.{result_of}
use Rattle.exports.specs.Row.{given_row, left_row}
use Rattle.exports.specs.Clearance.{given_clearances}
use Rattle.exports.specs.Exported.{plain_left, exported_end, exported_plain, tagged_left, exported_tagged, uncounted, ExportedPromises}
use Rattle.program.specs.declared.Refusal.{Refusal}

module _ (sheet : List ℕ) (words : List ℤ) (c : Clearances) (is : c ≡ given_clearances words) (m : Memory) (fuel : ℕ) (r : LuvrodanResult)
    (after : Memory) where
  pub plain-left : (a : Result Ran Refusal) → r ≡ result_of a 0 0 → ended a tt after ≡ plain sheet c m fuel
      → plain_left r after ≡ exported_plain sheet words m fuel
  unfolding exported_plain
  plain-left a e d =
      ap (λ (x : LuvrodanResult). plain_left x after) e
      ∙ ap (λ (x : Ended Unit). plain_left (result_of x.answer 0 0) x.memory) (d ∙ ap (λ x. plain sheet x m fuel) is)

  module _ (bytes : List ℕ) (lent : List ℤ) (handler : List ℤ) where
    pub tagged-left : (a : Tagged) (given row space : List ℤ) → r ≡ result_of a.answer a.faults a.kernel
        → given ≡ given_row lent → row ≡ left_row a.cache.words lent
        → left (ended_by a after) space ≡ tagged sheet bytes given c m handler fuel
        → tagged_left r row after space ≡ exported_tagged sheet bytes lent words m handler fuel
    unfolding exported_tagged
    tagged-left a given row space e g l d =
        ap (λ (x : LuvrodanResult). tagged_left x row after space) e
        ∙ ap (λ (x : List ℤ). tagged_left (result_of a.answer a.faults a.kernel) x after space) l
        ∙ ap (λ (x : Left).
        tagged_left (result_of x.ended.answer x.ended.ruler.faults x.ended.ruler.kernel_steps)
        (left_row x.ended.ruler.row lent)
        x.ended.memory x.handler)
        (d ∙ ap₂ (λ x y. tagged sheet bytes x y m handler fuel) g is)

-- what is promised of a handler goes over to what follows from it
handles-also : (P Q : Table → List Instruction → Type 0) (x : ReadTable) → ((t : Table) → P t (translate t) → Q t (translate t))
    → Handles x P → Handles x Q
handles-also P Q (refused r) f h = tt
handles-also P Q (table t) f h = (h.0, f t h.1)

-- the tag engine's promises in the words of the result: no refusal has the number 0. Of the rule memory they say nothing
module _ (sheet bytes : List ℕ) (given words : List ℤ) (c : Clearances) (given_is : c ≡ given_clearances words) (m : Memory) (handler : List ℤ)
    (fuel : ℕ) where
  module _ (r : LuvrodanResult) (after : Memory) (a : Tagged) (space : List ℤ) where
    abbrev Stops : Table → List Instruction → Type 0
    Stops t code =
        (ran : Ran) → a.answer ≡ Ok ran
        → (space ≡ laid (kernel_words code) handler) × SameEnd (ended_by a after) (directly (evaluate t) sheet c m fuel)

    abbrev Runs : Table → List Instruction → Type 0
    Runs t code =
        (space ≡ laid (kernel_words code) handler)
        × (plain_left (uncounted r) after ≡ exported_end (directly (evaluate t) sheet (given_clearances words) m fuel))

    pub promises-left : r ≡ result_of a.answer a.faults a.kernel
        → left (ended_by a after) space ≡ tagged sheet bytes given c m handler fuel
        → Promises sheet bytes c m handler fuel (left (ended_by a after) space)
        → ExportedPromises sheet bytes words m handler fuel (tagged_left r given after space)
    promises-left e d h =
        handles-also Stops (λ t code. r.refusal ≡ 0 → Runs t code) (read_table bytes)
        (λ t p none. by a.answer refl t p (ap (λ (x : LuvrodanResult). x.refusal) (sym e) ∙ none)) h
      where
        by : (x : Result Ran Refusal) → a.answer ≡ x → (t : Table) → Stops t (translate t)
            → (result_of a.answer a.faults a.kernel).refusal ≡ 0 → Runs t (translate t)
        by (Err q) is t p none =
            let number = tagged-numbered sheet bytes given c m handler fuel q (ap (λ (x : Left). x.ended.answer) (sym d) ∙ is) in
            let zero : q.code ≡ 0 = rw is at none in
            absurd (omega arith)
        by (Ok ran) is t p none =
            let (lies, same) = p ran is in
            let result : uncounted r ≡ result_of (Ok ran) 0 0 =
            ap uncounted e ∙ ap (λ (x : Result Ran Refusal). uncounted (result_of x a.faults a.kernel)) is in (
              lies,
              ap₂ plain_left (result ∙ ap (λ (x : Result Ran Refusal). result_of x 0 0) (sym is ∙ same.answer)) same.memory
                  ∙ ap (λ x. exported_end (directly (evaluate t) sheet x m fuel)) given_is,
            )
