-- `kernel::go` meets its contract. The loop's invariant: what is left to run, from where it stands, equals the whole run.
-- The measure is what is left of the places. Assumes nothing.
use Rattle.std.proofs.Common.{rules}
use Rattle.kernel.proofs.Going.{going_start, going_end, going_failed, going_ended, going_less, going_on}
use Rattle.kernel.proofs.go.Goals as goal

pub loop-at-init : goal.loop-at-init
loop-at-init c = search (rules, going_start)

pub loop-at-smaller : goal.loop-at-smaller
loop-at-smaller c = search (rules, going_less)

pub loop-at-preserved : goal.loop-at-preserved
loop-at-preserved c =
    going_on _ _ _ _ c.min-limit.ensures _ _ _ _ c.loop-at.invariant c.loop-at-test.true _ _ _ (search rules) _ c.in-Ok.is c.act.auto.stack

pub returns-in-Err-Failed : goal.returns-in-Err-Failed
returns-in-Err-Failed c = search (rules, going_failed)

pub returns-in-Err : goal.returns-in-Err
returns-in-Err c = search (rules, going_ended)

pub returns : goal.returns
returns c = search (rules, going_end)
