-- `assembly::listing::measure` meets its contract: what was measured is the text of the commands before.
-- Assumes nothing.
use mathlib.Core.Path.{sym, ap, ◌∙◌}
use native.Mathlib.Omega.{arith}
use lib.ListN.{length}
use borrow.Author.Rules.{rules}
use Rattle.word.proofs.Signed.{back-ok}
use Rattle.assembly.proofs.Telling.{told-start, told-end, told-whole, told-forward, told-room, told-next, text-most}
use Rattle.assembly.proofs.listing.measure.Goals as goal

pub loop-at-init : goal.loop-at-init
loop-at-init c = told-start c.args.sheet.now

pub returns-in_default : goal.returns-in_default
returns-in_default c =
    told-whole c.requires c.loop-at.invariant c.loop-at-test.true c.in_default.field-0 (sym c.command_at.ensures ∙ c.in_default.is)

pub overflow_add-size : goal.overflow_add-size
overflow_add-size c =
    omega (
      arith,
      rw (back-ok c.in-Ok.operand (search rules)) at c.line_length-size.ensures,
      told-room c.requires c.loop-at.invariant c.loop-at-test.true (sym c.command_at.ensures ∙ c.in-Ok.is),
      text-most c.args.sheet.now (λ i. (c.type_inv.sheet i).fits) c.requires,
    )

pub loop-at-smaller : goal.loop-at-smaller
loop-at-smaller c =
    omega (
      arith,
      c.loop-at-test.true,
      told-forward c.requires c.loop-at.invariant c.loop-at-test.true (sym c.command_at.ensures ∙ c.in-Ok.is),
    )

pub loop-at-preserved : goal.loop-at-preserved
loop-at-preserved c =
    rw (c.line_length-size.ensures, back-ok c.in-Ok.operand (search rules))
    (told-next c.requires c.loop-at.invariant c.loop-at-test.true (sym c.command_at.ensures ∙ c.in-Ok.is))

pub returns : goal.returns
returns c = c.loop-at.invariant.sized ∙ sym (ap length (told-end c.requires c.loop-at.invariant c.loop-at-test.false))
