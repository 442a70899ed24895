-- `engine::Surroundings::clearance` meets its contract: a page's word, or outside them the empty set.
-- Assumes nothing.
use mathlib.Core.Path.{◌≡◌, sym, ap, ◌∙◌}
use lib.IntN.{ℤ}
use lib.ListN.{length}
use Rattle.word.specs.Number.{index_of}
use Rattle.word.proofs.Signed.{back, back-ok}
use Rattle.label.specs.Word.{low_label}
use Rattle.engine.proofs.Clearing.{clearance-at, clearance-outside}
use Rattle.engine.proofs.Surroundings.clearance.Goals as goal

pub returns-in-Some : goal.returns-in-Some
returns-in-Some c =
    let found : c.below.result ≡ index_of c.args.page (length c.args.self.clearances.now) = c.below.ensures ∙ ap (λ (z : ℤ). index_of z (length c.args.self.clearances.now)) (back c.ranges.page) in
    let a = c.args in
    c.low.ensures
    ∙ ap low_label (back-ok c.at.result c.at.type_inv ∙ c.at.ensures)
    ∙ clearance-at a.self.clearances.now a.page _ (sym (found) ∙ c.in-Some.is)

pub returns-in-None : goal.returns-in-None
returns-in-None c =
    let found : c.below.result ≡ index_of c.args.page (length c.args.self.clearances.now) = c.below.ensures ∙ ap (λ (z : ℤ). index_of z (length c.args.self.clearances.now)) (back c.ranges.page) in
    let a = c.args in
    clearance-outside a.self.clearances.now a.page (sym (found) ∙ c.in-None.is)
