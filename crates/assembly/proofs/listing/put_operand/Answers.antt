-- `assembly::listing::put_operand` meets its contract: the numbers of the operand, one after the other.
-- Assumes nothing.
use Rattle.std.proofs.Common.{SFits, w64}
use mathlib.Core.Path.{sym, ◌∙◌}
use borrow.Author.Rules.{rules}
use Rattle.word.proofs.Lay.{laid_at-nil}
use Rattle.word.proofs.Signed.{back}
use Rattle.program.specs.Command.{opcode_of}
use Rattle.assembly.proofs.Laying.{operand-none, operand-two, numbers-laid}
use Rattle.assembly.proofs.listing.put_operand.Goals as goal

pub returns-in-None-clause-written : goal.returns-in-None-clause-written
returns-in-None-clause-written c =
    let e = sym (rw (back c.ranges.operand) at c.numbers_of.ensures) ∙ c.in-None.is in
    rw (operand-none (opcode_of c.args.code) c.args.operand e) (sym (laid_at-nil c.args.at c.args.out.now))

pub returns-in-Two-clause-written : goal.returns-in-Two-clause-written
returns-in-Two-clause-written c =
    let a : SFits w64 c.in-Two.a = search rules in
    let d : SFits w64 c.in-Two.d = search rules in
    let e = operand-two (opcode_of c.args.code) c.args.operand c.in-Two.a c.in-Two.d (sym (rw (back c.ranges.operand) at c.numbers_of.ensures) ∙ c.in-Two.is) in
    let first = rw (back a) at c.put_number-end.ensures in
    let second = rw (back d) at c.put_number-in-Two.ensures in
    rw e (numbers-laid c.in-Two.a c.in-Two.d c.args.at _ c.args.out.now _ _ (rw e at c.requires) first.answer first.written second.written)
