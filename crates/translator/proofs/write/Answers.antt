-- `translator::write` meets its contract: what is stored of a table, where it fits, is its handler.
-- Assumes nothing.
use mathlib.Core.Path.{◌∙◌}
use Rattle.handler.proofs.Sound.{read-handles}
use Rattle.translator.proofs.Translating.{written-table}
use Rattle.translator.proofs.write.Goals as goal

pub returns : goal.returns
returns c =
    let bytes = c.args.bytes.now in
    let e = c.emit_table.ensures.written in
    record { written = e; handler = read-handles bytes _ (λ t q fits. e ∙ written-table bytes t _ q fits) }
