-- `tables::expression::token_at` meets its contract.
-- Assumes nothing.
use Rattle.std.proofs.Common.{arith}
use Rattle.std.proofs.lemmas.Grind.{common_steps}
use Rattle.std.proofs.lemmas.Option.{gets}
use Rattle.policy.specs.Token.{token_at}
use Rattle.tables.proofs.expression.token_at.Goals as goal

pub returns : goal.returns
unfolding token_at
returns c = grind (arith, common_steps, gets)
