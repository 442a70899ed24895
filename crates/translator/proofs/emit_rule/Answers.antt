-- `translator::emit_rule` meets its contract: by the first byte of the rule.
-- Assumes nothing.
use Rattle.translator.proofs.Pieces.{rule-none, rule-true, rule-guarded}
use Rattle.translator.proofs.Emitting.{emits-nothing}
use Rattle.translator.proofs.emit_rule.Goals as goal

pub returns-in_default : goal.returns-in_default
returns-in_default c =
    emits-nothing _ c.args.mark _ (rule-none c.args.bytes.now c.args.mark.next _ c.in_default.ensures)

pub returns-in-True : goal.returns-in-True
returns-in-True c =
    rw (rule-true c.args.bytes.now c.args.mark.next _ _ c.in-Ok.ensures c.in-True.is) c.emit_answer.ensures

pub returns-in-Flows : goal.returns-in-Flows
returns-in-Flows c =
    rw (rule-guarded c.args.bytes.now c.args.mark.next _ _ c.in-Ok.ensures c.in-Flows.is) c.emit_guarded.ensures
