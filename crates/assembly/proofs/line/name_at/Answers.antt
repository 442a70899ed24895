-- `assembly::line::name_at` meets its contract.
-- Assumes nothing.
use mathlib.Core.Path.{◌≡◌}
use native.Mathlib.Omega.{arith}
use lib.ListN.{length}
use borrow.Author.Rules.{rules}
use Rattle.assembly.proofs.Keeping.{reads_end, reads-blank, reads-long, reads_more}
use Rattle.assembly.proofs.line.name_at.Goals as goal

pub returns-then-byte-le32 : goal.returns-then-byte-le32
returns-then-byte-le32 c = reads-blank _ _ _ _ c.loop-i.invariant (search rules) (search rules)

pub returns-then-word-ge-FULL : goal.returns-then-word-ge-FULL
returns-then-word-ge-FULL c = reads-long _ _ _ _ c.loop-i.invariant (search rules) (search rules) (search rules)

pub loop-i-preserved : goal.loop-i-preserved
loop-i-preserved c = reads_more _ _ _ _ c.loop-i.invariant (search rules) (search rules) (search rules)

pub returns : goal.returns
returns c =
    let e : c.loop-i.i ≡ length c.args.text.now = omega arith in
    rw (← e) (reads_end _ _ _ _ c.loop-i.invariant (search rules))
