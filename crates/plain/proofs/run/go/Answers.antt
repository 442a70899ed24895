-- `plain::run::go` meets its contract. The loop's invariant: what is left to run, from where it stands, equals the whole run.
-- The measure is the allowance that is left. Assumes nothing.
use Rattle.std.proofs.Common.{None, Some}
use native.Mathlib.Nat.{sub_self}
use native.Mathlib.Omega.{arith}
use borrow.Author.Rules.{rules}
use mathlib.Core.Path.{◌≡◌, ◌∙◌, sym, ap, ap₂}
use Prim.Native.Nat.{◌<◌, ◌≤◌}
use lib.IntN.{ℤ}
use Rattle.word.specs.Number.{index_of}
use Rattle.word.proofs.Bits.{index-found}
use Rattle.word.proofs.Signed.{back-ok}
use Rattle.step.specs.Lent.{cells_of, lent, After, after}
use Rattle.engine.specs.Runs.{words_of, environment_of}
use Rattle.engine.specs.Act.{acted, act_of}
use Rattle.engine.proofs.Going.{going_start, going_end, going-outside, going-stopped, going_on}
use Rattle.plain.specs.Ruler.{standard_ruler}
use Rattle.plain.specs.Next.{ready}
use Rattle.plain.proofs.Next.{one_less, Chose, going_next}
use Rattle.plain.proofs.run.go.Goals as goal
use Rattle.plain.proofs.run.go.Goals.{In-Some, After-next-n, After-emit}

-- where the place stands
place : (c : In-Some) → index_of c.loop-left.m.pc.0 c.args.count ≡ Some c.in-Some.i
place c = sym c.place_in.ensures ∙ c.in-Some.is

-- the command that is carried out next
chosen : (c : After-next-n) → Chose c.args.count (environment_of c.args.surroundings) c.args.fuel c.args.program.now
    (lent c.args.stack.now (cells_of c.args.cells.now))
    (words_of c.args.space.now)
    (lent c.loop-left.stack (cells_of c.loop-left.cells))
    (words_of c.loop-left.space)
    c.loop-left.left (ready c.next-n.result c.next-n.new.stack)
chosen c =
    rw c.next-n.ensures
    (going_next _ _ _ _ _ _ _ _ _ _ c.loop-left.invariant.2 c.loop-left.invariant.3 (omega arith) _
    (place (goal.at.After-next-n c).In-Some) c.requires.0)

-- it is carried out, and its allowance was left
carried_out : (c : After-emit) → let n = c.next-n.result in
    acted (after c.act-r.result (lent c.act-r.new.stack (cells_of c.act-r.new.cells))) tt
    ≡ act_of standard_ruler n.word n.operand n.machine tt (lent c.next-n.new.stack (cells_of c.loop-left.cells))
carried_out c =
    let n = c.next-n.result in
    let does : ℤ → ℤ → After =
    λ word operand.
    (act_of standard_ruler word operand n.machine tt
    (lent c.next-n.new.stack (cells_of c.loop-left.cells))).after in
    ap (λ x. acted x tt)
    (c.act-r.ensures.done
    ∙ ap₂ does (back-ok n.word (omega (arith, c.next-n.type_inv))) (back-ok n.operand (omega (arith, c.next-n.type_inv))))

within : (c : After-next-n) → (c.next-n.result.left ≤ c.args.fuel) × (0 < c.next-n.result.left) × (c.next-n.result.left ≤ c.loop-left.left)
within c = let x = chosen c in let i = c.loop-left.invariant.2 in (omega arith, omega arith, omega arith)

pub loop-left-init : goal.loop-left-init
loop-left-init c = rw (c.start-m.ensures, sub_self c.args.fuel) (search rules, search rules, omega arith, going_start _ _ _ _ _ _ _ _)

pub next-n-requires : goal.next-n-requires
next-n-requires c = ((index-found _ _ _ (place (goal.at.next-n-requires c).In-Some)).1, c.requires.0, c.requires.1)

pub returns-in_default-clause-done : goal.returns-in_default-clause-done
returns-in_default-clause-done c =
    let outside : index_of c.loop-left.m.pc.0 c.args.count ≡ None = search rules in
    going-outside _ _ _ _ _ _ _ _ _ _ _ _ _ c.loop-left.invariant.3 (omega arith) _ _ c.end_or-w.ensures.closed outside

pub overflow_sub-result-in-Err : goal.overflow_sub-result-in-Err
overflow_sub-result-in-Err c = (within (goal.at.overflow_sub-result-in-Err c).After-next-n).0

pub returns-in-Err-clause-done : goal.returns-in-Err-clause-done
returns-in-Err-clause-done c =
    let e : After-emit = (goal.at.returns-in-Err-clause-done c).After-emit in
    let x = chosen (goal.at.returns-in-Err-clause-done c).After-next-n in
    going-stopped _ _ _ _ _ _ _ _ _ _ _ _ _ _ _ x.acting _ (carried_out e) _ _ c.emit.ensures.emitted _ c.in-Err.is

pub overflow_sub-left : goal.overflow_sub-left
overflow_sub-left c = (within (goal.at.overflow_sub-left c).After-next-n).1

pub loop-left-smaller : goal.loop-left-smaller
loop-left-smaller c = let w = within (goal.at.loop-left-smaller c).After-next-n in omega arith

pub loop-left-preserved : goal.loop-left-preserved
loop-left-preserved c =
    let w = within (goal.at.loop-left-preserved c).After-next-n in
    let x = chosen (goal.at.loop-left-preserved c).After-next-n in
    let on =
    going_on _ _ _ _ _ _ _ _ _ _ _ _ _ _ _ x.acting _ (carried_out (goal.at.loop-left-preserved c).After-emit) _ _ c.emit.ensures.emitted
    _ c.in-Ok.is in
    (search rules, search rules, omega arith, rw (one_less _ _ w.1 w.0) at on)

pub returns-clause-done : goal.returns-clause-done
returns-clause-done c = going_end _ _ _ _ _ _ _ _ _ _ _ _ _ c.loop-left.invariant.3 _ _ c.end_or-w-2.ensures.closed (omega arith)
