-- `tagged::run::go` meets its contract. The loop's invariant: what is left to run, from where it stands, equals the whole run, and the
-- counts are small. The measure is the allowance that is left.
-- Assumes nothing.
use Rattle.std.proofs.Common.{None, Some}
use native.Mathlib.Omega.{arith}
use borrow.Author.Rules.{rules}
use mathlib.Core.Path.{◌≡◌, ◌∙◌, sym, ap₂}
use mathlib.Core.List.{List}
use Prim.Native.Nat.{◌<◌, ◌≤◌}
use lib.IntN.{ℤ}
use Rattle.word.specs.Number.{index_of}
use Rattle.word.proofs.Bits.{index-found}
use Rattle.word.proofs.Signed.{back-ok}
use Rattle.step.specs.Lent.{cells_of, lent, after}
use Rattle.engine.specs.Runs.{words_of, environment_of}
use Rattle.engine.specs.Act.{Acted, acted, act_of}
use Rattle.engine.specs.Loop.{word_at, operand_at}
use Rattle.engine.proofs.Going.{Acting, going_end, going-outside, going-stopped, going_on, going-at}
use Rattle.handler.specs.Kernel.{Result}
use Rattle.handler.specs.Space.{handle_space}
use Rattle.handler.proofs.Effect.{handle_space-steps}
use Rattle.tagging.specs.Consult.{Tag, tag}
use Rattle.tagged.specs.Ruling.{tag_words, tag_kept}
use Rattle.tagged.proofs.Counts.{added, Few, few-more, faults-fit, steps-fit, act-added, act-few}
use Rattle.tagged.proofs.run.go.Goals as goal
use Rattle.tagged.proofs.run.go.Goals.{In-Some, After-act-acted}

-- where the place stands
place : (c : In-Some) → index_of c.loop-steps.m.pc.0 c.args.count ≡ Some c.in-Some.i
place c = sym c.index.ensures ∙ c.in-Some.is

inside : (c : In-Some) → c.in-Some.i < c.args.count
inside c = (index-found _ _ _ (place c)).1

abbrev handles : In-Some → List ℤ → Result
handles c = handle_space c.args.handler.now c.args.size

-- the command there, with a ruler's state
abbrev comes : In-Some → Tag → ℤ → ℤ → Acted Tag
comes c u word operand =
    act_of (tag_words (handles c)) word operand c.loop-steps.m u
    (lent c.loop-steps.stack (cells_of c.loop-steps.cells))

acting : (c : In-Some) → Acting (tag_words (handles c)) c.args.count (environment_of c.args.surroundings) c.args.fuel
    c.args.program.now (tag c.args.memory.words 0 0)
    (lent c.args.stack.now (cells_of c.args.cells.now))
    (words_of c.args.space.now)
    (word_at c.args.program.now c.in-Some.i) (operand_at c.args.program.now c.in-Some.i)
    c.loop-steps.m (tag_kept c.loop-steps.kept)
    (lent c.loop-steps.stack (cells_of c.loop-steps.cells))
    (words_of c.loop-steps.space)
    c.loop-steps.steps
acting c = going-at _ _ _ _ _ _ _ _ _ _ _ _ _ c.loop-steps.invariant.2 c.loop-steps-test.true _ (place c)

module _ (c : After-act-acted) where
  abbrev at : In-Some
  at = (goal.at.After-act-acted c).In-Some

  abbrev adds : Acted Tag
  adds =
      let r = c.act-acted.result in
      acted (after r.stepped (lent c.act-acted.new.stack (cells_of c.act-acted.new.cells))) (tag_kept r.kept)

  -- what the command adds, its counts from zero on
  adds_is : adds
      ≡ comes at (tag c.loop-steps.kept.cache.words 0 0) (word_at c.args.program.now c.in-Some.i) (operand_at c.args.program.now c.in-Some.i)
  adds_is =
      c.act-acted.ensures.acted
      ∙ ap₂ (comes at (tag c.loop-steps.kept.cache.words 0 0))
      (back-ok c.at-word.result c.at-word.type_inv ∙ c.at-word.ensures)
      (back-ok c.at-operand.result c.at-operand.type_inv ∙ c.at-operand.ensures)

  carried_out : acted adds.after (added (tag_kept c.loop-steps.kept) adds.ruler)
      ≡ comes at (tag_kept c.loop-steps.kept) (word_at c.args.program.now c.in-Some.i) (operand_at c.args.program.now c.in-Some.i)
  carried_out = act-added (handles at) _ _ _ _ (tag_kept c.loop-steps.kept) adds adds_is

  few : Few c.args.size 1 (tag_kept c.act-acted.result.kept)
  few = act-few (handles at) _ _ _ _ c.args.size (handle_space-steps c.args.handler.now c.args.size) _ adds adds_is

pub returns-in_default-clause-done : goal.returns-in_default-clause-done
returns-in_default-clause-done c =
    let outside : index_of c.loop-steps.m.pc.0 c.args.count ≡ None = search rules in
    going-outside _ _ _ _ _ _ _ _ _ _ _ _ _ c.loop-steps.invariant.2 c.loop-steps-test.true _ _ c.end_or-w.ensures.closed outside

pub overflow_mul-i : goal.overflow_mul-i
overflow_mul-i c = record { fits = omega (arith, inside (goal.at.overflow_mul-i c).In-Some, c.requires.0) }

pub overflow_mul-i-in-loop-steps : goal.overflow_mul-i-in-loop-steps
overflow_mul-i-in-loop-steps c = record { fits = omega (arith, inside (goal.at.overflow_mul-i-in-loop-steps c).In-Some, c.requires.0) }

pub overflow_add-i : goal.overflow_add-i
overflow_add-i c = record { fits = omega (arith, inside (goal.at.overflow_add-i c).In-Some, c.requires.0) }

pub overflow_add-kept : goal.overflow_add-kept
overflow_add-kept c =
    let taken : c.loop-steps.steps ≤ 1000000 = omega (arith, c.loop-steps-test.true, c.requires.2) in
    record { fits = faults-fit c.loop-steps.invariant.3 (few (goal.at.overflow_add-kept c).After-act-acted) c.requires.1 taken }

pub overflow_add-kept-in-loop-steps : goal.overflow_add-kept-in-loop-steps
overflow_add-kept-in-loop-steps c =
    let taken : c.loop-steps.steps ≤ 1000000 = omega (arith, c.loop-steps-test.true, c.requires.2) in
    record { fits = steps-fit c.loop-steps.invariant.3 (few (goal.at.overflow_add-kept-in-loop-steps c).After-act-acted) c.requires.1 taken }

pub returns-in-Err-clause-done : goal.returns-in-Err-clause-done
returns-in-Err-clause-done c =
    let a = goal.at.returns-in-Err-clause-done c in
    going-stopped _ _ _ _ _ _ _ _ _ _ _ _ _ _ _ (acting a.In-Some) _ (carried_out a.After-act-acted) _ _ c.emit.ensures.emitted _ c.in-Err.is

pub loop-steps-preserved : goal.loop-steps-preserved
loop-steps-preserved c =
    let a = goal.at.loop-steps-preserved c in (
      search rules,
      search rules,
      going_on _ _ _ _ _ _ _ _ _ _ _ _ _ _ _ (acting a.In-Some) _ (carried_out a.After-act-acted) _ _ c.emit.ensures.emitted _ c.in-Ok.is,
      few-more c.loop-steps.invariant.3 (few a.After-act-acted),
    )

pub returns-clause-done : goal.returns-clause-done
returns-clause-done c = going_end _ _ _ _ _ _ _ _ _ _ _ _ _ c.loop-steps.invariant.2 _ _ c.end_or-w-2.ensures.closed c.loop-steps-test.false
