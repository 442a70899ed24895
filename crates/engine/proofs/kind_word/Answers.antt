-- `engine::kind_word` meets its contract.
-- Assumes nothing.
use Rattle.engine.proofs.kind_word.Goals as goal

pub returns-in-Number : goal.returns-in-Number
returns-in-Number c = rw c.in-Number.is

pub returns-in-End : goal.returns-in-End
returns-in-End c = rw c.in-End.is
