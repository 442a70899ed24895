-- `exports::luvrodan_plain` meets its contract.
-- Assumes nothing.
use Rattle.exports.proofs.Leaving.{plain-left}
use Rattle.exports.proofs.luvrodan_plain.Goals as goal

pub returns : goal.returns
returns c =
    plain-left _ _ _ c.given.ensures _ _ _ _ c.execute-answer.result c.of_answer.ensures c.execute-answer.ensures
