-- `translator::store` meets its contract.
-- Assumes nothing.
use Rattle.std.proofs.Common.{get_or, pos, rules, w64}
use mir.Val.{SFits}
use Rattle.word.proofs.Signed.{back}
use Rattle.translator.proofs.Putting.{storing-next, storing-end}
use Rattle.translator.proofs.store.Goals as goal

pub loop-i-preserved : goal.loop-i-preserved
loop-i-preserved c =
    let f : SFits w64 (get_or c.args.words.now c.loop-i.i (pos 0)) = search rules in
    rw (c.put.ensures, back f) (storing-next _ _ _ _ _ c.loop-i.invariant c.loop-i-test.true)

pub returns : goal.returns
returns c = storing-end _ _ _ _ _ c.loop-i.invariant c.loop-i-test.false
