-- The measure of `translator::emit_label`: the depth.
use Rattle.translator.proofs.+emit_label.Given as goal

abbrev pub decreases-emit_label : goal.decreases-emit_label
decreases-emit_label l = l.depth
