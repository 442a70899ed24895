-- `tables::expression::leaf_at` meets its contract: the byte is there.
-- Assumes nothing.
use Rattle.std.proofs.Common.{refl, arith}
use Rattle.tables.specs.Value.{leaf_of}
use Rattle.tables.proofs.Reading.{within}
use Rattle.tables.proofs.expression.leaf_at.Goals as goal

pub overflow_add-result : goal.overflow_add-result
overflow_add-result c =
    let a = c.args in
    let h = within (λ t. leaf_of t a.asked) refl a.bytes.now a.at _ _ _ c.token_at.ensures c.leaf_of.ensures c.in_ok-leaf.ensures.ok_part in
    omega arith
