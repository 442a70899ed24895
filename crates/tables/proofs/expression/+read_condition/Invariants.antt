-- The measure of `tables::expression::read_condition`: the depth.
use Rattle.tables.proofs.expression.+read_condition.Given as goal

abbrev pub decreases-read_condition : goal.decreases-read_condition
decreases-read_condition l = l.depth
