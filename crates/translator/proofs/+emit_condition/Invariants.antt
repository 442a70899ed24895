-- The measure of `translator::emit_condition`: the depth.
use Rattle.translator.proofs.+emit_condition.Given as goal

abbrev pub decreases-emit_condition : goal.decreases-emit_condition
decreases-emit_condition l = l.depth
