-- `translator::instructions` meets its contract: so many are stored where there is room for none.
-- Assumes nothing.
use Rattle.translator.proofs.Translating.{code-counts}
use Rattle.translator.proofs.instructions.Goals as goal

pub returns : goal.returns
returns c =
    let e = c.emit_table.ensures.count in
    record { count = e; handler = code-counts c.args.bytes.now _ e }
