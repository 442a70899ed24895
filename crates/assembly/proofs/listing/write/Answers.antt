-- `assembly::listing::write` meets its contract: what was written is the text of the commands before.
-- Assumes nothing.
use mathlib.Core.Path.{sym, ◌∙◌}
use native.Mathlib.Omega.{arith}
use borrow.Author.Rules.{rules}
use Rattle.word.proofs.Signed.{back-ok}
use Rattle.word.proofs.Clauses.{both}
use Rattle.assembly.proofs.Telling.{laid-start, laid_end, laid_next, laid-room, laid-bare, laid_next_bare, told-whole, told-forward}
use Rattle.assembly.proofs.listing.write.Goals as goal

pub loop-at-init : goal.loop-at-init
loop-at-init c = laid-start c.args.sheet.now c.args.out.now

pub returns-in_default : goal.returns-in_default
returns-in_default c =
    told-whole c.requires.0 c.loop-at.invariant.told c.loop-at-test.true c.in_default.field-0 (sym c.command_at.ensures ∙ c.in_default.is)

pub put_bare-size-requires : goal.put_bare-size-requires
put_bare-size-requires c =
    laid-bare c.requires.0 c.loop-at.invariant c.loop-at-test.true (sym c.command_at.ensures ∙ c.in-Ok.is) c.requires.1 c.if-next-at.true

pub put_line-size-requires : goal.put_line-size-requires
put_line-size-requires c =
    rw (back-ok c.in-Ok.operand (search rules))
    (laid-room c.requires.0 c.loop-at.invariant c.loop-at-test.true (sym c.command_at.ensures ∙ c.in-Ok.is) c.requires.1)

pub loop-at-smaller : goal.loop-at-smaller
loop-at-smaller c =
    omega (
      arith,
      c.loop-at-test.true,
      told-forward c.requires.0 c.loop-at.invariant.told c.loop-at-test.true (sym c.command_at.ensures ∙ c.in-Ok.is),
    )

pub loop-at-preserved-then-next-at : goal.loop-at-preserved-then-next-at
loop-at-preserved-then-next-at c =
    laid_next_bare c.requires.0 c.loop-at.invariant c.loop-at-test.true (sym c.command_at.ensures ∙ c.in-Ok.is) c.requires.1 c.if-next-at.true
    c.put_bare-size.ensures.answer c.put_bare-size.ensures.written

pub loop-at-preserved : goal.loop-at-preserved
loop-at-preserved c =
    let same = back-ok c.in-Ok.operand (search rules) in
    laid_next c.requires.0 c.loop-at.invariant c.loop-at-test.true (sym c.command_at.ensures ∙ c.in-Ok.is) c.requires.1
    (rw same at c.put_line-size.ensures.answer) (rw same at c.put_line-size.ensures.written)

pub returns : goal.returns
returns c = both (laid_end c.requires.0 c.loop-at.invariant c.loop-at-test.false)
