-- `tables::row::allowed_row` meets its contract: by the command's shape, the row's labels and the verdict.
-- Assumes nothing.
use mathlib.Core.Path.{◌∙◌, sym}
use Rattle.word.proofs.Signed.{back-ok}
use Rattle.program.specs.Command.{opcode_of}
use Rattle.policy.specs.Read.{read_table}
use Rattle.tables.proofs.RowKeys.{row-found}
use Rattle.tables.proofs.row.allowed_row.Goals as goal

pub returns : goal.returns
returns c =
    let a = c.args in
    rw (
      c.agrees.ensures,
      back-ok c.get.result c.get.type_inv ∙ c.get.ensures,
      back-ok c.get-2.result c.get-2.type_inv ∙ c.get-2.ensures,
    )
    (row-found (read_table a.bytes.now) a.cache.words (opcode_of a.code) c.in-Some.shape c.in-Some-row_labels.labels c.rule_of-verdict.result
    (sym c.in-Some.ensures) (sym c.in-Some-row_labels.ensures) c.rule_of-verdict.ensures)
