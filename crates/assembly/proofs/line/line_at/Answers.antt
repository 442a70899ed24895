-- `assembly::line::line_at` meets its contract: the name, its code and its shape, and what follows.
-- Assumes nothing.
use borrow.Author.Rules.{rules}
use mathlib.Core.Path.{sym, ap, subst, ◌∙◌}
use Prim.Native.Nat.{◌≤◌}
use lib.ListN.{length}
use Rattle.program.specs.Command.{opcode_of}
use Rattle.program.specs.Name.{code_named}
use Rattle.assembly.specs.Scan.{Few, shape_at, code_at, line_at}
use Rattle.assembly.proofs.Lines.{letters-within}
use Rattle.assembly.proofs.Rows.{shape-few}
use Rattle.assembly.proofs.Scanning.{line-at}
use Rattle.assembly.proofs.line.line_at.Goals as goal

pub shaped-requires : goal.shaped-requires
shaped-requires c = (
  subst (λ x. x.next ≤ length c.args.text.now) (sym c.name_at-name.ensures)
      (letters-within c.args.text.now c.args.at (search rules)),
  subst Few (sym c.shape_of.ensures) (shape-few (opcode_of c.code_of-code.result)),
)

pub returns : goal.returns
unfolding line_at
returns c =
    let t = c.args.text.now in
    let bytes = c.type_inv.text in
    c.shaped.ensures
    ∙ ap (shape_at t c.code_of-code.result c.name_at-name.result.next) c.shape_of.ensures
    ∙ ap (λ n. code_at t n c.name_at-name.result.next) c.code_of-code.ensures
    ∙ ap (λ x. code_at t (code_named x.word) x.next) c.name_at-name.ensures
    ∙ line-at t c.args.at (λ i. (bytes i).fits) c.requires
