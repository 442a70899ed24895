-- `tables::row::check_row` meets its contract: empty, or by the code.
-- Assumes nothing.
use mathlib.Core.Path.{◌∙◌, sym, ap}
use Rattle.word.proofs.Signed.{back-ok}
use Rattle.word.specs.Number.{natural_of}
use Rattle.policy.specs.Read.{read_table}
use Rattle.std.proofs.Common.{rules}
use Rattle.tables.proofs.RowKeys.{row-empty, row-code}
use Rattle.tables.proofs.row.check_row.Goals as goal

pub returns-then-is_empty : goal.returns-then-is_empty
returns-then-is_empty c =
    rw c.if-is_empty.true (row-empty c.args.cache.words (read_table c.args.bytes.now) (sym c.if-is_empty.ensures))

pub returns-else-is_empty : goal.returns-else-is_empty
returns-else-is_empty c =
    row-code c.args.cache.words (read_table c.args.bytes.now) (sym c.if-is_empty.ensures) c.unsigned.result
    (ap natural_of (sym (back-ok c.get.result c.get.type_inv ∙ c.get.ensures)) ∙ sym c.unsigned.ensures)
    c.is_some_and.result _ c.is_some_and.ensures (λ n q. search rules)
