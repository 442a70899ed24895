-- `translator::part_at` meets its contract: the byte is there.
-- Assumes nothing.
use Rattle.std.proofs.Common.{refl, arith}
use Rattle.tables.proofs.Reading.{within}
use Rattle.translator.specs.Emit.{part_of}
use Rattle.translator.proofs.part_at.Goals as goal

pub overflow_add-result : goal.overflow_add-result
overflow_add-result c =
    let h = within part_of refl c.args.bytes.now c.args.at _ _ _ c.token_at.ensures c.part_of.ensures c.in_ok-part.ensures.ok_part in
    omega arith
