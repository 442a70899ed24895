-- `program::fetch` meets its contract: by the shape, the operand is a field of eight or two bytes, a page or two counts, or there is none.
-- Assumes nothing.
use Rattle.std.proofs.Common.{arith, Some}
use Rattle.std.proofs.lemmas.Result.{err_from_is_err_and}
use mathlib.Core.Path.{◌≡◌, ◌∙◌, sym}
use Rattle.program.proofs.Fetching.{fetch-field, fetch-signed, fetch-plain, fetch-unknown}
use Rattle.program.proofs.fetch.Goals as goal

pub returns-in_err-shape : goal.returns-in_err-shape
returns-in_err-shape c =
    let p = err_from_is_err_and c.from_residual.result c.from_residual.ensures.1 in
    rw (p.1, p.2) (grind (arith, fetch-unknown c.args.bytes.now c.args.at))

pub returns-in-Page : goal.returns-in-Page
returns-in-Page c =
    let shape : c.args.shape ≡ Some c.in_ok-shape.shape = grind arith in
    let a = c.args in
    rw c.page_at.ensures (fetch-field a.bytes.now a.at _ _ (sym c.requires.1 ∙ shape) c.in-Page.is)

pub returns-in-Counts : goal.returns-in-Counts
returns-in-Counts c =
    let shape : c.args.shape ≡ Some c.in_ok-shape.shape = grind arith in
    let a = c.args in
    rw c.counts_at.ensures (fetch-field a.bytes.now a.at _ _ (sym c.requires.1 ∙ shape) c.in-Counts.is)

pub returns-in-Signed-eq8 : goal.returns-in-Signed-eq8
returns-in-Signed-eq8 c =
    let shape : c.args.shape ≡ Some c.in_ok-shape.shape = grind arith in
    let a = c.args in
    rw (c.with_field.ensures, c.long_at.ensures)
    (fetch-signed a.bytes.now a.at _ _ (sym c.requires.1 ∙ shape) c.in-Signed-eq8.is 8 (grind arith))

pub returns-in-Signed-eq2 : goal.returns-in-Signed-eq2
returns-in-Signed-eq2 c =
    let shape : c.args.shape ≡ Some c.in_ok-shape.shape = grind arith in
    let a = c.args in
    rw (c.with_field-in-Signed-eq2.ensures, c.signed_at.ensures)
    (fetch-signed a.bytes.now a.at _ _ (sym c.requires.1 ∙ shape) c.in-Signed-eq2.is 2 (grind arith))

pub returns-in-Signed : goal.returns-in-Signed
returns-in-Signed c =
    let shape : c.args.shape ≡ Some c.in_ok-shape.shape = grind arith in
    fetch-plain c.args.bytes.now c.args.at _ _ (sym c.requires.1 ∙ shape) c.in-Signed.is c.requires.0
    (λ e. c.in-Signed.field-0-test.0.1 (c.in-Signed.field-0-is ∙ e)) (λ e. c.in-Signed.field-0-test.1 (c.in-Signed.field-0-is ∙ e))
