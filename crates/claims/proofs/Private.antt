-- Demand 3 (specs/Privacy.antt): what an accepted run leaves on either engine is the machine's run of the sheet's commands under the
-- standard policy, from the same cells, and its lines stand in the output space; so the machine's theorem speaks of it.
-- Assumes nothing.
use Rattle.std.proofs.Common.{Ok}
use mathlib.Core.Path.{◌≡◌, refl, sym, ap, ap₂, subst, ◌∙◌}
use mathlib.Core.Bool.{true}
use mathlib.Core.List.{List, [], ◌∷◌}
use Prim.Native.Nat.{ℕ}
use lib.IntN.{ℤ}
use lib.ListN.{length}
use Rattle.program.specs.declared.Command.{Command}
use Rattle.word.proofs.Bool.{never}
use Rattle.program.specs.Decode.{Decoded, refused, accepted, decode}
use Rattle.machine.specs.Atom.{Atom, Line}
use Rattle.machine.specs.Rule.{standard, fixed}
use Rattle.machine.specs.State.{start, stop_number}
use Rattle.machine.specs.Claim.{view, OneStartsOther, Alike, none, same}
use Rattle.machine.specs.Claim as Machine
use Rattle.machine.specs.End.{has_end, Whole, Tells, Means}
use Rattle.machine.specs.Page.{TellsPage, OnPages}
use Rattle.machine.specs.Clearance.{AllCleared}
use Rattle.machine.specs.Run.{Result, run}
use Rattle.machine.proofs.Holds.{run-range, standard-range}
use Rattle.machine.proofs.Privacy.{standard-private}
use Rattle.machine.proofs.End.{standard-complete, meant}
use Rattle.machine.proofs.Page.{standard-pages, decoded-pages, pages-kept}
use Rattle.machine.proofs.Clearance.{lines-cleared, standard-closed}
use Rattle.engine.specs.declared.Clearances.{Clearances}
use Rattle.engine.specs.declared.Ran as Engine
use Rattle.engine.specs.Memory.{Output, Memory, surroundings}
use Rattle.engine.specs.Start as Start
use Rattle.engine.specs.Ended.{Ended, ended, summary, begin, result_of, engine_of}
use Rattle.engine.proofs.Accepted.{answer, start_fine, start-range}
use Rattle.engine.proofs.Pairs.{lines-read}
use Rattle.policy.specs.Standard.{standard_bytes}
use Rattle.plain.specs.Plain.{plain}
use Rattle.tagging.specs.Consult.{Tag}
use Rattle.tagged.specs.Tagged.{left, tagged}
use Rattle.claims.specs.Refusals.{Nothing, Checks, none_own, tagged_own}
use Rattle.claims.specs.Privacy.{cells_in, lines_in, Ran, on_plain, on_tagged, Views, Claim, Complete, Meant}
use Rattle.claims.specs.Privacy.{EachPage, Paged, Cleared, ClosedPage}
use Rattle.claims.proofs.Refusals.{plain-demand, tagged-demand}
use Rattle.claims.proofs.Both.{tagged-plain}

-- the machine's run that a sheet, cells, an end and lines belong to
record Runs (sheet : List ℕ) (c : Clearances) (cells : List Atom) (ran : Engine.Ran) (lines : List Line) : Type 0 where
  commands : List Command
  decoded : decode sheet ≡ accepted commands
  space : Output
  fuel : ℕ
  ended : ran ≡ summary (run (fixed standard) (surroundings c space) commands fuel (start cells) tt)
  are : lines ≡ (run (fixed standard) (surroundings c space) commands fuel (start cells) tt).state.lines

plain_runs : (sheet : List ℕ) (c : Clearances) (m : Memory) (fuel : ℕ) (p : Engine.Ran) (after : Memory)
    → plain sheet c m fuel ≡ ended (Ok p) tt after → Runs sheet c (cells_in m) p (lines_in p after)
unfolding plain
plain_runs sheet c m fuel p after e = go (answer sheet c m fuel Start.none_own) refl e
  where
    go : (d : Decoded) → answer sheet c m fuel Start.none_own ≡ d → engine_of (fixed standard) d tt c m fuel ≡ ended (Ok p) tt after
        → Runs sheet c (cells_in m) p (lines_in p after)
    go (refused r) is e = let answered = ap (λ (x : Ended Unit). x.answer) e in never (cc)
    go (accepted cs) is e =
        let answered = ap (λ (x : Ended Unit). x.answer) e in
        let result = result_of (fixed standard) cs tt c m fuel in
        let ran : p ≡ summary result = cc in
        let fine = start_fine sheet c m fuel Start.none_own cs is in
        record {
          commands = cs;
          decoded = fine.decoded;
          space = m.output;
          fuel = fuel;
          ended = ran;
          are =
              ap₂ lines_in ran (sym (ap (λ (x : Ended Unit). x.memory) e))
              ∙ lines-read result.state.lines m.output
              (run-range (fixed standard) (λ u. standard-range) (surroundings c m.output) cs fuel (begin m) tt
              (start-range sheet c m fuel Start.none_own cs fine)).lines;
        }

ran-runs : (sheet : List ℕ) (c : Clearances) {cells : List Atom} {ran : Engine.Ran} {lines : List Line} → Ran sheet c cells ran lines
    → Runs sheet c cells ran lines
ran-runs sheet c (on_plain m fuel p after e) = plain_runs sheet c m fuel p after e
ran-runs sheet c (on_tagged row size m handler fuel p u after handler' e) =
    plain_runs sheet c m fuel p after (tagged-plain sheet c m fuel row handler size p u after handler' e)

-- two runs of a sheet are of the same commands
one-program : {sheet : List ℕ} {c₁ c₂ : Clearances} {cells₁ cells₂ : List Atom} {ran₁ ran₂ : Engine.Ran} {lines₁ lines₂ : List Line}
    (r₁ : Runs sheet c₁ cells₁ ran₁ lines₁) (r₂ : Runs sheet c₂ cells₂ ran₂ lines₂) → r₂.commands ≡ r₁.commands
one-program r₁ r₂ = let read = sym r₂.decoded ∙ r₁.decoded in cc

-- what holds of the machine's views holds of the engines'
views-run : (So : List Line → List Line → Type 0) → Machine.Views So (fixed standard) (fixed standard) → Views So
views-run So holds S sheet c₁ c₂ cells₁ cells₂ ended₁ ended₂ lines₁ lines₂ ran₁ ran₂ alike =
    let r₁ = ran-runs sheet c₁ ran₁ in
    let r₂ = ran-runs sheet c₂ ran₂ in
    rw (r₁.are, r₂.are, one-program r₁ r₂)
    (holds r₁.commands S cells₁ cells₂ alike (surroundings c₁ r₁.space) (surroundings c₂ r₂.space) r₁.fuel r₂.fuel tt tt)

pub runs-private : Claim
runs-private = views-run OneStartsOther standard-private

-- one page of them
pub runs-each-page : EachPage
runs-each-page page = views-run (TellsPage page) (standard-pages page)

pub runs-paged : Paged
runs-paged sheet bytes c cells ended lines ran =
    let r = ran-runs sheet c ran in
    subst OnPages (sym r.are)
    (pages-kept Unit (fixed standard) (surroundings c r.space) r.commands (decoded-pages sheet r.commands bytes r.decoded) r.fuel cells tt)

pub runs-complete : Complete
runs-complete = views-run Tells standard-complete

-- the end line of a view is its last: cells are alike to themselves
alike_same : (S : ℕ) (cells : List Atom) → Alike S cells cells
alike_same S [] = none
alike_same S (a ∷ cells) = same (alike_same S cells)

pub runs-whole : (S : ℕ) (sheet : List ℕ) (c : Clearances) (cells : List Atom) (ran : Engine.Ran) (lines : List Line)
    → Ran sheet c cells ran lines
    → has_end (view S lines) ≡ true → Whole (view S lines)
runs-whole S sheet c cells ran lines r =
    (runs-complete S sheet c c cells cells ran ran lines lines r r (alike_same S cells)).whole

pub runs-meant : Meant
runs-meant S sheet c cells ended lines ran =
    let r = ran-runs sheet c ran in
    let result : Result Unit = run (fixed standard) (surroundings c r.space) r.commands r.fuel (start cells) tt in
    subst (λ (ls : List Line). Means S (view S ls) (stop_number ended.stop) ended.machine.label.0) (sym r.are)
    (subst (λ (x : Engine.Ran). Means S (view S result.state.lines) (stop_number x.stop) x.machine.label.0) (sym r.ended)
    (meant Unit (fixed standard) r.commands S cells (surroundings c r.space) r.fuel tt))

-- request U5: what a page's clearance is for
pub runs-cleared : Cleared
runs-cleared sheet c cells ended lines ran =
    let r = ran-runs sheet c ran in
    let env = surroundings c r.space in
    subst (AllCleared env) (sym r.are) (lines-cleared Unit (fixed standard) env r.commands r.fuel cells tt)

pub runs_closed : ClosedPage
runs_closed C sheet c₁ c₂ cells₁ cells₂ ended₁ ended₂ lines₁ lines₂ ran₁ ran₂ alike page fits₁ fits₂ =
    let r₁ = ran-runs sheet c₁ ran₁ in
    let r₂ = ran-runs sheet c₂ ran₂ in
    rw (r₁.are, r₂.are, one-program r₁ r₂)
    (standard-closed r₁.commands C cells₁ cells₂ alike (surroundings c₁ r₁.space) (surroundings c₂ r₂.space) r₁.fuel r₂.fuel
    tt tt page fits₁ fits₂)

-- ════════════════════════════════════════════════════════════════════════════════════════════
-- What the claim covers: there is such a run wherever no limit is broken (demand 1)
-- ════════════════════════════════════════════════════════════════════════════════════════════

module _ (sheet : List ℕ) (c : Clearances) (m : Memory) (fuel : ℕ) where
  pub plain-ran : Nothing (Checks sheet c m fuel none_own) → (ran : Engine.Ran) × (lines : List Line) × Ran sheet c (cells_in m) ran lines
  plain-ran kept =
      let (ran, u, after, e, stop, steps) = (plain-demand sheet c m fuel).otherwise kept in
      (ran, lines_in ran after, on_plain m fuel ran after e)

  pub tagged-ran : (row handler : List ℤ) → length row ≡ 7 → Nothing (Checks sheet c m fuel (tagged_own standard_bytes row handler))
      → (ran : Engine.Ran) × (lines : List Line) × Ran sheet c (cells_in m) ran lines
  tagged-ran row handler size kept =
      let (ran, u, after, e, stop, steps) = (tagged-demand sheet c m fuel standard_bytes row handler).otherwise kept in
      let space = (tagged sheet standard_bytes row c m handler fuel).handler in
      (ran, lines_in ran after, on_tagged row size m handler fuel ran u after space (ap (λ (x : Ended Tag). left x space) e))
