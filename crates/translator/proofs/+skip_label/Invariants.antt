-- The measure of `translator::skip_label`: the depth.
use Rattle.translator.proofs.+skip_label.Given as goal

abbrev pub decreases-skip_label : goal.decreases-skip_label
decreases-skip_label l = l.depth
