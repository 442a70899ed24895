-- `kernel::choose` meets its contract: the tests that led to an instruction say its code.
-- Assumes nothing.
use Rattle.std.proofs.Common.{rules, pos, ℕ, ◌≡◌, ap}
use native.Mathlib.Omega.{arith}
use Rattle.handler.specs.Kernel.{Load, Bnz}
use Rattle.handler.specs.Space.{known, code_of}
use Rattle.kernel.proofs.Acting.{acts, acts-on, acts_none, fold-known, below-known, after-sub-known, after-bnz-known, past-known}
use Rattle.kernel.proofs.choose.Goals as goal

pub returns-then-code-lt-ADD-clause-acts : goal.returns-then-code-lt-ADD-clause-acts
returns-then-code-lt-ADD-clause-acts c = search (rules, acts_none, below-known)

pub returns-then-code-le-SUB-clause-acts : goal.returns-then-code-le-SUB-clause-acts
returns-then-code-le-SUB-clause-acts c = search (rules, acts, fold-known)

pub returns-then-code-eq-LOAD-clause-acts : goal.returns-then-code-eq-LOAD-clause-acts
unfolding known
returns-then-code-eq-LOAD-clause-acts c =
    acts-on _ _ _ _ Load _ _ _ (ap (λ (k : ℕ). known (pos k) c.args.operand) c.if-code-eq-LOAD.true) (c.load.ensures c.args.stack.now)

pub returns-then-code-lt-STORE-clause-acts : goal.returns-then-code-lt-STORE-clause-acts
returns-then-code-lt-STORE-clause-acts c = search (rules, acts_none, after-sub-known)

pub returns-then-code-eq-STORE-clause-acts : goal.returns-then-code-eq-STORE-clause-acts
unfolding known
returns-then-code-eq-STORE-clause-acts c = search (rules, acts-on)

pub returns-then-code-le-BNZ-clause-acts : goal.returns-then-code-le-BNZ-clause-acts
unfolding known
returns-then-code-le-BNZ-clause-acts c =
    let e : c.args.code ≡ code_of (Bnz c.args.operand) = omega (
      arith,
      c.if-code-lt-STORE.false,
      c.if-code-le-BNZ.true,
      c.if-code-eq-STORE.false,
      c.if-code-eq-JUMP.false,
    ) in
    search (rules, acts)

pub returns-then-code-lt-OR-clause-acts : goal.returns-then-code-lt-OR-clause-acts
returns-then-code-lt-OR-clause-acts c = search (rules, acts_none, after-bnz-known)

pub returns-clause-acts : goal.returns-clause-acts
returns-clause-acts c = search (rules, acts_none, past-known)
