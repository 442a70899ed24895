-- `plain::execute` meets its contract: refused, nothing is written; accepted, the loop's run is the machine's.
-- Assumes nothing.
use Rattle.std.proofs.Common.{Ok}
use Rattle.std.proofs.lemmas.Result.{err_from_is_err_and}
use native.Mathlib.Omega.{arith}
use mathlib.Core.Path.{◌≡◌, ◌∙◌, ap₂}
use Rattle.word.specs.Field.{Bytes}
use Rattle.program.specs.Decode.{check_answer}
use Rattle.machine.specs.Rule.{standard, fixed}
use Rattle.step.specs.Lent.{cells, lent}
use Rattle.engine.specs.Memory.{Memory, output, memory}
use Rattle.engine.specs.Loop.{done}
use Rattle.engine.specs.Start.{none_own}
use Rattle.engine.proofs.Accepted.{answer, refused-is}
use Rattle.plain.specs.Plain.{plain}
use Rattle.plain.proofs.Running.{loop_needs, run_is}
use borrow.Author.Rules.{rules}
use Rattle.plain.proofs.execute.Goals as goal
use Rattle.plain.proofs.execute.Goals.{In_ok-count}

-- the lent runs as they came, and a count of commands, which the start answered
abbrev came : In_ok-count → Memory
came c =
    let a = c.args in
    memory a.program.now (lent a.stack.now (cells a.values.now a.labels.now))
    (output a.numbers.now a.line_labels.now a.kinds.now a.pages.now)

checked : (c : In_ok-count)
    → Ok c.in_ok-count.count ≡ check_answer (answer c.args.sheet.now c.args.clearances (came c) c.args.fuel none_own)
checked c = rw c.none.ensures at c.in_ok-count.ensures

pub go-ran-requires : goal.go-ran-requires
go-ran-requires c =
    let bytes : Bytes c.args.sheet.now = λ i. omega (arith, c.type_inv.sheet i) in
    let i : In_ok-count = (goal.at.go-ran-requires c).In_ok-count in
    loop_needs _ _ (came i) _ _ bytes (checked i) _ c.write.auto.space

pub returns-in_err-count : goal.returns-in_err-count
unfolding plain
returns-in_err-count c =
    let a = c.args in
    let p = err_from_is_err_and c.from_residual.result c.from_residual.ensures.1 in
    rw (p.1, p.2)
    (refused-is a.sheet.now a.clearances
    (memory a.program.now (lent a.stack.now (cells a.values.now a.labels.now))
    (output a.numbers.now a.line_labels.now a.kinds.now a.pages.now))
    a.fuel none_own (fixed standard) tt _
    (rw c.none.ensures at c.in_err-count.ensures))

pub returns : goal.returns
returns c =
    let bytes : Bytes c.args.sheet.now = λ i. omega (arith, c.type_inv.sheet i) in
    run_is _ _ _ _ _ bytes (checked (goal.at.returns c).In_ok-count) _ c.write.ensures _
    (ap₂ (λ cells lines. done c.go-ran.result tt (lent c.go-ran.new.stack cells) lines) (search rules) (search rules)
    ∙ (rw c.room.ensures at c.go-ran.ensures.done))
