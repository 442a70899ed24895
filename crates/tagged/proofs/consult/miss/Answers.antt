-- `tagged::consult::miss` meets its contract.
-- Assumes nothing.
use mathlib.Core.Path.{◌∙◌}
use lib.IntN.{negsuc}
use borrow.Author.Rules.{rules}
use Rattle.tagged.specs.declared.consult.Five.{Five}
use Rattle.tagged.proofs.Seven.{seven_written}
use Rattle.tagged.proofs.consult.miss.Goals as goal

pub returns : goal.returns
returns c =
    let f : Five = c.args.five in
    (search rules) ∙ seven_written c.args.cache.words c.requires f.code f.pc f.input1 f.input2 f.input3 (negsuc 0) (negsuc 0)
