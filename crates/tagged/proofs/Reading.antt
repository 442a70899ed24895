-- What the tag engine promises of the table that it is given: the handler in its space, and the run of reading the table directly.
-- Assumes nothing.
use Rattle.std.proofs.Common.{Ok}
use mathlib.Core.Path.{◌≡◌, refl, sym, subst, ◌∙◌}
use mathlib.Core.List.{List}
use Prim.Native.Nat.{ℕ}
use lib.IntN.{ℤ}
use lib.ListN.{length}
use Rattle.word.specs.Lay.{laid}
use Rattle.word.proofs.Bool.{never}
use Rattle.program.specs.declared.Command.{Command}
use Rattle.program.specs.Decode.{Decoded, refused, accepted}
use Rattle.machine.specs.Rule.{fixed}
use Rattle.engine.specs.declared.Clearances.{Clearances}
use Rattle.engine.specs.declared.Ran.{Ran}
use Rattle.engine.specs.Memory.{Memory, surroundings}
use Rattle.engine.specs.Ended.{begin, engine_of, directly, SameEnd}
use Rattle.engine.proofs.Accepted.{start-range, start-direct, same_end}
use Rattle.policy.specs.Expression.{Table}
use Rattle.policy.specs.Evaluate.{evaluate}
use Rattle.policy.specs.Read.{table, read_table}
use Rattle.handler.specs.Space.{kernel_words}
use Rattle.handler.specs.Translate.{translate}
use Rattle.handler.proofs.Sound.{read-handles}
use Rattle.tagging.specs.Consult.{tag_ruler}
use Rattle.tagging.proofs.Refines.{tag_read}
use Rattle.tagged.specs.Start.{own_of}
use Rattle.tagged.specs.Tagged.{Left, tag_of, start_tagged, tagged_of, tagged, Promises}
use Rattle.tagged.proofs.Accepted.{start-ready}

module _ (sheet bytes : List ℕ) (row : List ℤ) (size : length row ≡ 7) (c : Clearances) (m : Memory) (handler : List ℤ) (fuel : ℕ) where
  -- an accepted start, with the table
  accepted-reads : (cs : List Command) → start_tagged sheet (read_table bytes) row c m handler fuel ≡ accepted cs
      → (t : Table) → read_table bytes ≡ table t
      → SameEnd (engine_of (tag_ruler (translate t)) (accepted cs) (tag_of row) c m fuel) (directly (evaluate t) sheet c m fuel)
  accepted-reads cs e t q =
      let own = own_of (read_table bytes) row (length handler) in
      let (t', ready) = start-ready sheet bytes row c m handler fuel cs e in
      let read = sym ready.rules ∙ q in
      let same : t' ≡ t = cc in
      let agrees =
      tag_read bytes t q (surroundings c m.output) cs fuel (begin m) (tag_of row) (start-range sheet c m fuel own cs ready.fine)
      (record { size = size; accepted = rw same at ready.kept_row }) in
      rw (start-direct sheet c m fuel own cs e)
      (same_end (tag_ruler (translate t)) (fixed (evaluate t)) cs (tag_of row) tt c m fuel agrees.machine (agrees.stack m.lent.stack))

  pub tagged-promises : Promises sheet bytes c m handler fuel (tagged sheet bytes row c m handler fuel)
  unfolding tagged
  tagged-promises = read-handles bytes _ (λ t q r e. by t q r (start_tagged sheet (read_table bytes) row c m handler fuel) refl e)
    where
      by : (t : Table) → read_table bytes ≡ table t → (r : Ran) (d : Decoded) → start_tagged sheet (read_table bytes) row c m handler fuel ≡ d
          → let x : Left = tagged_of d (read_table bytes) row c m handler fuel in
          x.ended.answer ≡ Ok r
          → (x.handler ≡ laid (kernel_words (translate t)) handler) × SameEnd x.ended (directly (evaluate t) sheet c m fuel)
      by t q r (refused p) is e = never (cc)
      by t q r (accepted cs) is e = rw q (refl, accepted-reads cs is t q)

  -- so what is left keeps it
  pub promised : (x : Left) → x ≡ tagged sheet bytes row c m handler fuel → Promises sheet bytes c m handler fuel x
  promised x e = subst (Promises sheet bytes c m handler fuel) (sym e) tagged-promises

  -- what stopped was given a table
  pub stopped-reads : (r : Ran) → (tagged sheet bytes row c m handler fuel).ended.answer ≡ Ok r
      → (t : Table) × (read_table bytes ≡ table t)
      × SameEnd (tagged sheet bytes row c m handler fuel).ended (directly (evaluate t) sheet c m fuel)
  unfolding tagged
  stopped-reads r e = by (start_tagged sheet (read_table bytes) row c m handler fuel) refl e
    where
      by : (d : Decoded) → start_tagged sheet (read_table bytes) row c m handler fuel ≡ d
          → let x : Left = tagged_of d (read_table bytes) row c m handler fuel in
          x.ended.answer ≡ Ok r
          → (t : Table) × (read_table bytes ≡ table t) × SameEnd x.ended (directly (evaluate t) sheet c m fuel)
      by (refused p) is e = never (cc)
      by (accepted cs) is e =
          let (t, ready) = start-ready sheet bytes row c m handler fuel cs is in
          (t, ready.rules, rw ready.rules (accepted-reads cs is t ready.rules))
