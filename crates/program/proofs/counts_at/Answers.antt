-- `program::counts_at` meets its contract: two fields of one byte are these bytes. Assumes nothing.
use Rattle.std.proofs.Common.{arith, rules}
use Rattle.std.proofs.lemmas.Grind.{common_steps}
use mir.Syntax.{w64}
use mir.Facts.{to_z_pos}
use Rattle.word.proofs.Signed.{back-ok}
use Rattle.program.proofs.Fetching.{counts_whole, counts-cut}
use Rattle.program.proofs.counts_at.Goals as goal

pub returns-in_err-results : goal.returns-in_err-results
returns-in_err-results c = grind (arith, common_steps, counts-cut c.args.bytes.now c.args.at)

pub returns : goal.returns
returns c =
    rw (
      back-ok c.counts.result c.counts.type_inv,
      c.counts.ensures,
      to_z_pos w64 {n = c.in_ok-results.field-0.now} (search rules),
    )
    (grind (arith, common_steps, counts_whole c.args.bytes.now c.args.at))
