-- Demand 1 (specs/Refusals.antt): each limit decides its check, and the first that is broken decides the start.
-- Assumes nothing.
use Rattle.std.proofs.Common.{Err, Ok, Result}
use mathlib.Core.Path.{◌≡◌, refl, sym, ap, ◌∙◌}
use mathlib.Core.Bool.{Bool, true, false}
use mathlib.Core.List.{List, [], ◌∷◌}
use Prim.Native.Nat.{ℕ, suc, ◌*◌, ◌^◌, ◌<◌}
use native.Mathlib.Omega.{arith}
use lib.IntN.{ℤ, pos, negsuc}
use lib.ListN.{length}
use lib.Dec.{leb, ltb}
use borrow.Author.Tests.{ltb-true, ltb-false, leb-true, leb-false, eqb-true, eqb-false}
use Rattle.word.proofs.Bool.{never}
use Rattle.label.specs.Word.{stored, stored_if}
use Rattle.program.specs.declared.Command.{Command}
use Rattle.program.specs.declared.Refusal.{Refusal}
use Rattle.program.specs.Decode.{Decoded, decode}
use Rattle.program.specs.Decode as Decode
use Rattle.machine.specs.Rule.{Ruler, standard, fixed}
use Rattle.machine.specs.Run.{Result as RunResult}
use Rattle.machine.proofs.Run.{run-steps}
use Rattle.machine.proofs.Stops.{stop-number}
use Rattle.engine.specs.declared.Clearances.{Clearances}
use Rattle.engine.specs.declared.start.Own as Limits
use Rattle.engine.specs.Memory.{Memory, surroundings}
use Rattle.engine.specs.Start.{kept_if, or_else, first_of, or_label, labels_limit, given, limits, within, start_decoded, start_of}
use Rattle.engine.specs.Start as Engine
use Rattle.engine.specs.Ended.{Ended, ended, begin, result_of, summary, engine_of}
use Rattle.plain.specs.Plain.{plain}
use Rattle.policy.specs.Expression.{Table}
use Rattle.policy.specs.Read.{ReadTable, table, read_table}
use Rattle.policy.specs.Read as Read
use Rattle.policy.specs.Row.{accepted_row}
use Rattle.handler.specs.Translate.{translate, handler_of}
use Rattle.tagging.specs.Consult.{tag_ruler}
use Rattle.tagged.specs.Start.{own_of}
use Rattle.tagged.specs.Tagged.{Left, left, tag_of, start_tagged, tagged_of, tagged}
use Rattle.claims.specs.Refusals.{Gives, broken, Nothing, ◌before◌, first, next, Labels, OfSheet, OfTable, Own, none_own, tagged_own}
use Rattle.claims.specs.Refusals.{Checks, Demand, StoppedBy, TaggedDemand, PlainClaim, TaggedClaim}

-- ════════════════════════════════════════════════════════════════════════════════════════════
-- Limits and checks
-- ════════════════════════════════════════════════════════════════════════════════════════════

-- a limit is broken with the one refusal that a check gives, and kept where it gives none
data Decides (c : Refusal → Type 0) : Result (Unit {0}) Refusal → Type 0 where
  refuses : {r : Refusal} → c r → ((q : Refusal) → c q → q ≡ r) → Decides c (Err r)
  passes : Nothing c → Decides c (Ok tt)

module _ {c d : Refusal → Type 0} where
  first-decides : {r : Refusal} → c r → ((q : Refusal) → c q → q ≡ r) → Decides (c before d) (Err r)
  first-decides {r} given one = refuses (first given) go
    where
      go : (q : Refusal) → (c before d) q → q ≡ r
      go q (first p) = one q p
      go q (next none p) = absurd (none r given)

  next-decides : {y : Result (Unit {0}) Refusal} → Nothing c → Decides d y → Decides (c before d) y
  next-decides none (refuses {r = r} given one) = refuses (next none given) go
    where
      go : (q : Refusal) → (c before d) q → q ≡ r
      go q (first p) = absurd (none q p)
      go q (next _ p) = one q p
  next-decides none (passes other) = passes go
    where
      go : Nothing (c before d)
      go q (first p) = none q p
      go q (next _ p) = other q p

  before-decides : {x y : Result (Unit {0}) Refusal} → Decides c x → (x ≡ Ok tt → Decides d y) → Decides (c before d) (or_else x y)
  before-decides (refuses given one) on = first-decides given one
  before-decides (passes none) on = next-decides none (on refl)

gives_one : {P : Type 0} {q : Refusal} (r : Refusal) → Gives P q r → r ≡ q
gives_one r (broken p) = refl

gives-holds : {P : Type 0} {q : Refusal} (r : Refusal) → Gives P q r → P
gives-holds r (broken p) = p

test-decides : (b : Bool) {P : Type 0} {q : Refusal} → (b ≡ true → P → ⊥) → (b ≡ false → P) → Decides (Gives P q) (kept_if b q)
test-decides true ok bad = passes (λ r h. ok refl (gives-holds r h))
test-decides false ok bad = refuses (broken (bad refl)) gives_one

-- ════════════════════════════════════════════════════════════════════════════════════════════
-- Each limit
-- ════════════════════════════════════════════════════════════════════════════════════════════

enough : (n words : ℕ) → leb n words ≡ true → words < n → ⊥
enough n words e h = let g = leb-true n words e in omega arith

-- so many words are wanted
wanted : (n words : ℕ) {q : Refusal} → Decides (Gives (words < n) q) (kept_if (leb n words) q)
wanted n words = test-decides (leb n words) (enough n words) (leb-false n words)

-- the commands of a sheet, and the table of some bytes, are one
commands-decides : (sheet : List ℕ) (cs : List Command) → decode sheet ≡ Decode.accepted cs
    → (P : List Command → Type 0) (b : Bool) {q : Refusal} → (b ≡ true → P cs → ⊥) → (b ≡ false → P cs)
    → Decides (Gives (OfSheet sheet P) q) (kept_if b q)
commands-decides sheet cs e P b ok bad = test-decides b other (λ f. (cs, e, bad f))
  where
    other : b ≡ true → OfSheet sheet P → ⊥
    other f (ds, g, h) = let k = sym g ∙ e in let same : ds ≡ cs = cc in ok f (rw same at h)

table-decides : (bytes : List ℕ) (t : Table) → read_table bytes ≡ table t
    → (P : Table → Type 0) (b : Bool) {q : Refusal} → (b ≡ true → P t → ⊥) → (b ≡ false → P t)
    → Decides (Gives (OfTable bytes P) q) (kept_if b q)
table-decides bytes t e P b ok bad = test-decides b other (λ f. (t, e, bad f))
  where
    other : b ≡ true → OfTable bytes P → ⊥
    other f (u, g, h) = let k = sym g ∙ e in let same : u ≡ t = cc in ok f (rw same at h)

labels-decides : (check i : ℕ) (ws : List ℤ) → Decides (Labels check i ws) (labels_limit check i ws)
unfolding labels_limit stored
labels-decides check i [] = passes (λ r h. h)
labels-decides check i (negsuc n ∷ ws) = first-decides (broken tt) gives_one
labels-decides check i (pos n ∷ ws) = go (ltb n (2 ^ 32)) refl (labels-decides check (suc i) ws)
  where
    go : (b : Bool) → ltb n (2 ^ 32) ≡ b → Decides (Labels check (suc i) ws) (labels_limit check (suc i) ws)
        → Decides (Labels check i (pos n ∷ ws)) (or_label check (stored_if b n) i (labels_limit check (suc i) ws))
    go true e h = next-decides (λ r p. let g = ltb-true n (2 ^ 32) e in let o = gives-holds r p in omega arith) h
    go false e h = first-decides (broken (ltb-false n (2 ^ 32) e)) gives_one

-- ════════════════════════════════════════════════════════════════════════════════════════════
-- A start
-- ════════════════════════════════════════════════════════════════════════════════════════════

-- an engine's own limits decide its own checks; the later ones where the rules are a table
record Owns (own : Own) (lim : Limits.Own) : Type 0 where
  rules : Decides own.rules lim.rules
  row : lim.rules ≡ Ok tt → Decides own.row lim.row
  handler : lim.rules ≡ Ok tt → Decides own.handler lim.handler

abbrev limit_of : Decoded → Result (Unit {0}) Refusal
limit_of (Decode.refused r) = Err r
limit_of (Decode.accepted cs) = Ok tt

module _ (sheet : List ℕ) (c : Clearances) (m : Memory) (fuel : ℕ) (own : Own) (lim : Limits.Own) (owns : Owns own lim) where
  start-decides : (d : Decoded) → decode sheet ≡ d
      → Decides (Checks sheet c m fuel own) (limit_of (start_decoded d m.lent.cells.labels c (given m fuel) lim))
  start-decides (Decode.refused r) e = first-decides e (λ q f. let k = sym f ∙ e in cc)
  start-decides (Decode.accepted cs) e =
      go (first_of (limits (length cs) m.lent.cells.labels c (given m fuel) lim))
      (next-decides (λ q f. let k = sym f ∙ e in never (cc))
      (before-decides (test-decides _ (λ e h. h (eqb-true _ _ e)) (eqb-false _ _)) (λ k.
      before-decides (wanted (length m.lent.cells.values) 1024) (λ k.
      before-decides (labels-decides 5 0 m.lent.cells.labels) (λ k.
      before-decides (test-decides _ (λ e h. h (eqb-true _ _ e)) (eqb-false _ _)) (λ k.
      before-decides (labels-decides 13 0 c.words) (λ k.
      before-decides owns.rules (λ kept.
      before-decides (owns.row kept) (λ k.
      before-decides
      (commands-decides sheet cs e (λ ds. length m.program < 2 * length ds) _ (enough _ _) (leb-false _ _)) (λ k.
      before-decides (wanted 768 (length m.lent.stack)) (λ k.
      before-decides (owns.handler kept) (λ k.
      before-decides (wanted fuel 1000000) (λ k. passes (λ r h. h))))))))))))))
    where
      go : (x : Result (Unit {0}) Refusal) → Decides (Checks sheet c m fuel own) x → Decides (Checks sheet c m fuel own) (limit_of (within x cs))
      go (Err r) h = h
      go (Ok tt) h = h

-- what an engine leaves, by what its start came to
module _ {R : Type 0} (ρ : Ruler R) (u : R) (c : Clearances) (m : Memory) (fuel : ℕ) {checks : Refusal → Type 0} where
  engine-demand : (d : Decoded) → Decides checks (limit_of d)
      → Demand checks (λ r. engine_of ρ d u c m fuel ≡ ended (Err r) u m) (StoppedBy fuel (engine_of ρ d u c m fuel))
  engine-demand (Decode.refused r) (refuses given one) =
      record {
        only = λ q e. let k = ap (λ (x : Ended R). x.answer) e in let same : r ≡ q = cc in rw same at given;
        always = λ q h. rw (one q h);
        otherwise = λ none. absurd (none r given);
      }
  engine-demand (Decode.accepted cs) (passes none) =
      let r : RunResult R = result_of ρ cs u c m fuel in
      let h = (run-steps ρ (surroundings c m.output) cs fuel (begin m) u).most in
      record {
        only = λ q e. let k = ap (λ (x : Ended R). x.answer) e in never (cc);
        always = λ q h. absurd (none q h);
        otherwise = λ _. (summary r, r.ruler, _, refl, stop-number r.stop, omega (arith, h));
      }

-- ════════════════════════════════════════════════════════════════════════════════════════════
-- The engines
-- ════════════════════════════════════════════════════════════════════════════════════════════

none-owns : Owns none_own Engine.none_own
none-owns = record { rules = passes (λ r h. h); row = λ k. passes (λ r h. h); handler = λ k. passes (λ r h. h) }

pub plain-demand : PlainClaim
unfolding plain start_of
plain-demand sheet c m fuel =
    engine-demand (fixed standard) tt c m fuel (start_of sheet m.lent.cells.labels c (given m fuel) Engine.none_own)
    (start-decides sheet c m fuel none_own Engine.none_own none-owns (decode sheet) refl)

tagged-owns : (bytes : List ℕ) (row handler : List ℤ) (q : ReadTable) → read_table bytes ≡ q
    → Owns (tagged_own bytes row handler) (own_of q row (length handler))
tagged-owns bytes row handler (Read.refused r) e =
    record { rules = refuses e (λ q f. let k = sym f ∙ e in cc); row = λ k. never (cc); handler = λ k. never (cc) }
tagged-owns bytes row handler (table t) e =
    record {
      rules = passes (λ q f. let k = sym f ∙ e in never (cc));
      row = λ k. table-decides bytes t e (λ u. accepted_row u row ≡ false) (accepted_row t row) (λ f g. let z = sym f ∙ g in never (cc))
          (λ f. f);
      handler = λ k. table-decides bytes t e (λ u. length handler < 2 * length (translate u)) _ (enough _ _) (leb-false _ _);
    }

module _ (sheet : List ℕ) (c : Clearances) (m : Memory) (fuel : ℕ) (bytes : List ℕ) (row handler : List ℤ) where
  abbrev checks : Refusal → Type 0
  checks = Checks sheet c m fuel (tagged_own bytes row handler)

  abbrev leaves : Decoded → Left
  leaves d = tagged_of d (read_table bytes) row c m handler fuel

  tagged-left : (d : Decoded) → Decides checks (limit_of d)
      → Demand checks (λ r. (leaves d).ended ≡ ended (Err r) (tag_of row) m) (StoppedBy fuel (leaves d).ended)
      → TaggedDemand sheet c m fuel bytes row handler (leaves d)
  tagged-left (Decode.refused r) h g =
      record {
        only = λ q e. g.only q (ap (λ (x : Left). x.ended) e);
        always = λ q h. ap (λ x. left x handler) (g.always q h);
        otherwise = g.otherwise;
      }
  tagged-left (Decode.accepted cs) (passes none) g =
      record {
        only = λ q e. g.only q (ap (λ (x : Left). x.ended) e);
        always = λ q h. absurd (none q h);
        otherwise = g.otherwise;
      }

pub tagged-demand : TaggedClaim
unfolding tagged start_of
tagged-demand sheet c m fuel bytes row handler =
    let decides =
    start-decides sheet c m fuel (tagged_own bytes row handler) (own_of (read_table bytes) row (length handler))
    (tagged-owns bytes row handler (read_table bytes) refl) (decode sheet) refl in
    let d = start_tagged sheet (read_table bytes) row c m handler fuel in
    tagged-left sheet c m fuel bytes row handler d decides
    (engine-demand (tag_ruler (handler_of (read_table bytes))) (tag_of row) c m fuel d decides)
