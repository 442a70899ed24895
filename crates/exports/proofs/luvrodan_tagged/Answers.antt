-- `exports::luvrodan_tagged` meets its contract.
-- Assumes nothing.
use Rattle.exports.proofs.Leaving.{tagged-left, promises-left}
use Rattle.exports.proofs.luvrodan_tagged.Goals as goal

pub returns : goal.returns
returns c =
    let x = c.execute-tagged.ensures in record {
      left = tagged-left _ _ _ c.given.ensures _ _ _ _ _ _ _ c.execute-tagged.result c.given-2.result.words _ _
          c.of_answer.ensures c.given-2.ensures c.leave.ensures x.left;
      rules = promises-left _ _ _ _ _ c.given.ensures _ _ _ _ _ c.execute-tagged.result _ c.of_answer.ensures x.left x.rules;
    }
