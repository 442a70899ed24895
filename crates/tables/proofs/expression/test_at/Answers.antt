-- `tables::expression::test_at` meets its contract: the byte is there.
-- Assumes nothing.
use Rattle.std.proofs.Common.{refl, arith}
use Rattle.tables.specs.Value.{test_of}
use Rattle.tables.proofs.Reading.{within}
use Rattle.tables.proofs.expression.test_at.Goals as goal

pub overflow_add-result : goal.overflow_add-result
overflow_add-result c =
    let h = within test_of refl c.args.bytes.now c.args.at _ _ _ c.token_at.ensures c.test_of.ensures c.in_ok-test.ensures.ok_part in
    omega arith
