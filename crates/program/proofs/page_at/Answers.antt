-- `program::page_at` meets its contract: a field of one byte is that byte. Assumes nothing.
use Rattle.std.proofs.Common.{arith}
use Rattle.std.proofs.lemmas.Grind.{common_steps}
use mir.Syntax.{w64}
use mir.Facts.{to_z_pos}
use Rattle.program.proofs.Fetching.{page-whole, page-cut}
use Rattle.program.proofs.page_at.Goals as goal

pub returns-in_err-page : goal.returns-in_err-page
returns-in_err-page c = grind (arith, common_steps, page-cut c.args.bytes.now c.args.at)

pub returns : goal.returns
returns c = grind (arith, common_steps, page-whole c.args.bytes.now c.args.at, to_z_pos w64 {n = c.in_ok-page.field-0.now})
