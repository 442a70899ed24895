-- `program::write` meets its contract. The loop's invariant: what is left to write, laid from word i on, gives the whole space.
-- The measure is what is left of the bytes. Assumes nothing.
use Rattle.std.proofs.Common.{rules}
use native.Mathlib.Omega.{arith}
use mathlib.Core.Path.{sym}
use mir.Syntax.{w64}
use mir.Facts.{to_z_pos}
use lib.ListN.{get_or}
use Rattle.word.proofs.Signed.{back-ok}
use Rattle.program.proofs.Loading.{writing_start, writing-end, writing-full, writing-fault}
use Rattle.program.proofs.Loading.{writing-forward, writing-next}
use Rattle.program.proofs.write.Goals as goal

pub loop-at-init : goal.loop-at-init
loop-at-init c = writing_start c.args.bytes.now c.args.space.now

pub returns-then-space-i-lt2 : goal.returns-then-space-i-lt2
returns-then-space-i-lt2 c = writing-full _ _ _ _ _ c.loop-at.invariant c.if-space-i-lt2.true

pub loop-at-smaller : goal.loop-at-smaller
loop-at-smaller c =
    omega (
      arith,
      writing-forward _ _ _ _ _ c.loop-at.invariant c.loop-at-test.true c.if-space-i-lt2.false _ _ (sym c.in-Ok.ensures),
    )

pub loop-at-preserved : goal.loop-at-preserved
loop-at-preserved c =
    rw (
      to_z_pos w64 {n = get_or c.args.bytes.now c.loop-at.at 0} (omega (arith, c.type_inv.bytes c.loop-at.at)),
      back-ok c.in-Ok.operand (search rules),
    )
    (writing-next _ _ _ _ _ c.loop-at.invariant c.loop-at-test.true c.if-space-i-lt2.false _ _ (sym c.in-Ok.ensures))

pub returns-in_default : goal.returns-in_default
returns-in_default c =
    writing-fault _ _ _ _ _ c.loop-at.invariant c.loop-at-test.true c.if-space-i-lt2.false _ (sym c.in_default.ensures)

pub returns : goal.returns
returns c = writing-end _ _ _ _ _ c.loop-at.invariant c.loop-at-test.false
