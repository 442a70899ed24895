-- `report::print::line` meets its contract: its parts are written one after the other.
-- Assumes nothing.
use Rattle.std.proofs.Common.{ℕ, ◌+◌, ◌^◌, ◌<◌, ◌≤◌, length, arith, rules}
use lib.Signed.{mag}
use Rattle.word.proofs.Signed.{back-ok}
use Rattle.engine.specs.Layout.{line_from}
use Rattle.report.specs.Lines.{page_text, head_text, line_text}
use Rattle.report.specs.Written.{Written}
use Rattle.report.proofs.Texts.{written-room, page-short, head-short, line-short, hexadecimal-length, written-line}
use Rattle.report.proofs.print.line.Goals as goal
use Rattle.report.proofs.print.line.Goals.{After-page-start, After-head-first, After-bytes-gap}

bound : (c : After-page-start) → mag c.args.x.number < 2 ^ 63
bound c = search rules

paged : (c : After-page-start) → Written (page_text c.args.x.page) c.args.out.now c.args.at c.page-start.result c.page-start.new.out
paged c = rw (back-ok c.args.x.page (search rules)) at c.page-start.ensures

after-page : (c : After-page-start) (k : ℕ) → 3 + k ≤ 33 → c.page-start.result + k ≤ length c.page-start.new.out
after-page c k h = written-room 3 k (page-short c.args.x.page c.requires.1) (omega (arith, c.requires.0)) (paged c)

headed : (c : After-head-first)
    → Written (head_text c.args.x.kind c.args.x.number) c.page-start.new.out c.page-start.result c.head-first.result c.head-first.new.out
headed c = rw (back-ok c.args.x.number (bound (goal.at.After-head-first c).After-page-start)) at c.head-first.ensures

after-head : (c : After-head-first) (k : ℕ) → 23 + k ≤ 33 → c.head-first.result + k ≤ length c.head-first.new.out
after-head c k h =
    let d = (goal.at.After-head-first c).After-page-start in
    written-room 20 k (head-short c.args.x.kind c.args.x.number (bound d)) (after-page d (20 + k) (omega arith)) (headed c)

after-gap : (c : After-bytes-gap) (k : ℕ) → 24 + k ≤ 33 → c.bytes-gap.result + k ≤ length c.bytes-gap.new.out
after-gap c k h = written-room 1 k (omega arith) (after-head (goal.at.After-bytes-gap c).After-head-first (1 + k) (omega arith)) c.bytes-gap.ensures

pub head-first-requires : goal.head-first-requires
head-first-requires c = after-page (goal.at.head-first-requires c).After-page-start 20 (omega arith)

pub bytes-gap-requires : goal.bytes-gap-requires
bytes-gap-requires c = after-head (goal.at.bytes-gap-requires c).After-head-first 1 (omega arith)

pub digits-second-requires : goal.digits-second-requires
digits-second-requires c = after-gap (goal.at.digits-second-requires c).After-bytes-gap 8 (omega arith)

pub bytes-requires : goal.bytes-requires
bytes-requires c =
    written-room 8 1 (omega (arith, hexadecimal-length c.args.x.label.0)) (after-gap (goal.at.bytes-requires c).After-bytes-gap 9 (omega arith))
    c.digits-second.ensures

pub returns : goal.returns
returns c =
    let d = (goal.at.returns c).After-page-start in
    let x = line_from c.args.x in
    let text : Written (line_text x) c.args.out.now c.args.at c.bytes.result c.bytes.new.out =
    written-line x _ _ _ _ _ _ _ _ _ _ _ _ c.requires.1 (bound d) c.requires.0
    (paged d) (headed (goal.at.returns c).After-head-first) c.bytes-gap.ensures c.digits-second.ensures c.bytes.ensures in
    let near = line-short x c.requires.1 (bound d) in
    let e = text.end in
    record { text = text; short = omega arith }
