-- `tagged::execute` meets its contract: refused, nothing is written; accepted, the loop's run is the tag engine's.
-- Assumes nothing.
use Rattle.std.proofs.Common.{Ok}
use native.Mathlib.Omega.{arith}
use borrow.Author.Rules.{rules}
use mathlib.Core.Path.{◌≡◌, ◌∙◌, sym, ap, ap₂}
use lib.ListN.{length}
use Rattle.word.specs.Field.{Bytes}
use Rattle.program.specs.Decode.{check_answer}
use Rattle.step.specs.Lent.{cells, lent}
use Rattle.engine.specs.Memory.{Memory, output, memory}
use Rattle.engine.specs.Loop.{done}
use Rattle.policy.specs.Read.{read_table}
use Rattle.handler.specs.Translate.{handler_of}
use Rattle.tagged.specs.declared.start.Found.{Found}
use Rattle.tagged.specs.Ruling.{tag_kept}
use Rattle.tagged.specs.Tagged.{start_tagged}
use Rattle.tagged.proofs.Accepted.{execute-refused, loop_needs, run_is}
use Rattle.tagged.proofs.Reading.{promised}
use Rattle.tagged.proofs.execute.Goals as goal
use Rattle.tagged.proofs.execute.Goals.{In-Ok}

-- the lent runs as they came, and a count of commands, which the start answered
abbrev came : In-Ok → Memory
came c =
    let a = c.args in
    memory a.program.now (lent a.stack.now (cells a.values.now a.labels.now))
    (output a.numbers.now a.line_labels.now a.kinds.now a.pages.now)

checked : (c : In-Ok) → let a = c.args in
    Ok c.in-Ok.count
    ≡ check_answer (start_tagged a.sheet.now (read_table a.table.now) a.cache.words a.clearances (came c) a.handler.now a.fuel)
checked c = sym c.in-Ok.is ∙ (rw c.rules-rules.ensures at c.check.ensures)

sized : (c : In-Ok) → c.rules-rules.result.size ≡ length (handler_of (read_table c.args.table.now))
sized c = ap (λ (x : Found). x.size) c.rules-rules.ensures

pub go-end-requires : goal.go-end-requires
go-end-requires c =
    let bytes : Bytes c.args.sheet.now = λ i. omega (arith, c.type_inv.sheet i) in
    let i : In-Ok = (goal.at.go-end-requires c).In-Ok in
    loop_needs _ _ _ _ (came i) _ _ bytes _ (checked i) _ (sized i)

pub returns-in-Err-clause-left : goal.returns-in-Err-clause-left
returns-in-Err-clause-left c =
    execute-refused _ _ _ _ _ _ _ _ (sym c.in-Err.is ∙ (rw c.rules-rules.ensures at c.check.ensures))

pub returns-in-Err-clause-rules : goal.returns-in-Err-clause-rules
returns-in-Err-clause-rules c = promised _ _ c.args.cache.words (search rules) _ _ _ _ _ (returns-in-Err-clause-left c)

pub returns-clause-left : goal.returns-clause-left
returns-clause-left c =
    let bytes : Bytes c.args.sheet.now = λ i. omega (arith, c.type_inv.sheet i) in
    let i : In-Ok = (goal.at.returns-clause-left c).In-Ok in
    run_is _ _ _ _ (came i) _ _ bytes _ (checked i) _ (sized i) _ _ c.write.ensures c.write-2.ensures.written _
    (ap₂ (λ cells lines. done c.go-end.result.ran (tag_kept c.go-end.result.kept) (lent c.go-end.new.stack cells) lines)
    (search rules) (search rules)
    ∙ (rw c.room.ensures at c.go-end.ensures.done))

pub returns-clause-rules : goal.returns-clause-rules
returns-clause-rules c = promised _ _ c.args.cache.words (search rules) _ _ _ _ _ (returns-clause-left c)
