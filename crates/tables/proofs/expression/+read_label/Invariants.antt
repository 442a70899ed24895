-- The measure of `tables::expression::read_label`: the depth.
use Rattle.tables.proofs.expression.+read_label.Given as goal

abbrev pub decreases-read_label : goal.decreases-read_label
decreases-read_label l = l.depth
