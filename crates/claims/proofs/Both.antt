-- Demand 2 of the engines as they are called (specs/Both.antt), of what the tag engine promises.
-- Assumes nothing.
use Rattle.std.proofs.Common.{Ok}
use mathlib.Core.Path.{◌≡◌, sym, ap, ap₂, ◌∙◌, fun_ext}
use mathlib.Core.List.{List}
use Prim.Native.Nat.{ℕ}
use lib.IntN.{ℤ}
use lib.ListN.{length}
use Rattle.machine.specs.Rule.{Policy, standard}
use Rattle.engine.specs.declared.Clearances.{Clearances}
use Rattle.engine.specs.declared.Ran.{Ran}
use Rattle.engine.specs.Memory.{Memory}
use Rattle.engine.specs.Ended.{Ended, ended, directly, SameEnd}
use Rattle.policy.specs.Evaluate.{evaluate}
use Rattle.policy.specs.Standard.{standard_table, standard_bytes}
use Rattle.policy.proofs.Standard.{evaluate-standard, standard-read}
use Rattle.plain.specs.Plain.{plain}
use Rattle.tagging.specs.Consult.{Tag}
use Rattle.tagged.specs.Tagged.{Left, left, tagged}
use Rattle.tagged.proofs.Reading.{stopped-reads}
use Rattle.claims.specs.Both.{Reads, Runs, Claim}
use Rattle.claims.proofs.Refusals.{tagged-demand}

-- what an engine without a state leaves is its answer and the lent runs
same_ended : (x : Ended Tag) (y : Ended Unit) → SameEnd x y → y ≡ ended x.answer tt x.memory
same_ended x y h = ap₂ (λ a m. ended a tt m) (sym h.answer) (sym h.memory)

pub tagged-reads : Reads
tagged-reads sheet bytes row c m handler fuel size r u after handler' e =
    let x : Left = tagged sheet bytes row c m handler fuel in
    let (t, q, same) = stopped-reads sheet bytes row size c m handler fuel r (ap (λ (y : Left). y.ended.answer) e) in (
      t,
      q,
      same_ended x.ended _ same
          ∙ ap₂ (λ a m. ended a tt m) (ap (λ (y : Left). y.ended.answer) e) (ap (λ (y : Left). y.ended.memory) e),
    )

pub tagged-runs : Runs
tagged-runs sheet bytes row c m handler fuel size kept =
    let (r, u, after, e, stop, steps) = (tagged-demand sheet c m fuel bytes row handler).otherwise kept in
    let space = (tagged sheet bytes row c m handler fuel).handler in
    let is = ap (λ (x : Ended Tag). left x space) e in
    let (t, q, run) = tagged-reads sheet bytes row c m handler fuel size r u after space is in
    (t, q, (r, u, after, space, run, is))

-- of the standard table: the plain engine's run
pub tagged-plain : (sheet : List ℕ) (c : Clearances) (m : Memory) (fuel : ℕ) (row handler : List ℤ) → length row ≡ 7
    → (r : Ran) (u : Tag) (after : Memory) (handler' : List ℤ)
    → tagged sheet standard_bytes row c m handler fuel ≡ left (ended (Ok r) u after) handler'
    → plain sheet c m fuel ≡ ended (Ok r) tt after
unfolding plain
tagged-plain sheet c m fuel row handler size r u after handler' e =
    let (t, q, run) = tagged-reads sheet standard_bytes row c m handler fuel size r u after handler' e in
    let read = sym q ∙ standard-read in
    let is : t ≡ standard_table = cc in
    let rules : evaluate t ≡ standard = ap evaluate is ∙ fun_ext evaluate-standard in
    ap (λ (π : Policy). directly π sheet c m fuel) (sym rules) ∙ run

pub engines-agree : Claim
engines-agree sheet c m fuel row handler size p after e r u after' handler' f =
    let same = sym (tagged-plain sheet c m fuel row handler size r u after' handler' f) ∙ e in
    let answers = ap (λ (x : Ended Unit). x.answer) same in
    let ran : r ≡ p = cc in
    (ran, ap (λ (x : Ended Unit). x.memory) same)
