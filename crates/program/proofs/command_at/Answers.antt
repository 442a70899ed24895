-- `program::command_at` meets its contract.
-- Assumes nothing.
use Rattle.std.proofs.Common.{arith}
use Rattle.std.proofs.lemmas.Grind.{common_steps}
use Rattle.program.proofs.Fetching.{fetch-outside}
use Rattle.program.proofs.command_at.Goals as goal

pub returns-in_err-byte : goal.returns-in_err-byte
returns-in_err-byte c = grind (arith, common_steps, fetch-outside c.args.bytes.now c.args.at)
