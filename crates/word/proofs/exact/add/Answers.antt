-- `word::exact::add` meets its contract: neither a test nor the sum passes an end of the words.
-- Assumes nothing.
use Rattle.std.proofs.Common.{◌+ℤ◌}
use Rattle.word.proofs.Laws.Exact.{sum-negative, sum-natural, answer-outside, answer-fits, answer-number}
use Rattle.word.proofs.exact.add.Goals as goal

pub overflow_sub-b : goal.overflow_sub-b
overflow_sub-b c = let f = c.ranges in record { sfits = (sum-negative f.a f.b c.if-b-lt0.true).fits }

pub returns-then-a-b : goal.returns-then-a-b
returns-then-a-b c =
    let f = c.ranges in
    answer-outside f.a f.b ◌+ℤ◌ (sum-negative f.a f.b c.if-b-lt0.true) c.if-a-b.true

pub overflow_add-result : goal.overflow_add-result
overflow_add-result c =
    let f = c.ranges in
    answer-fits f.a f.b ◌+ℤ◌ (sum-negative f.a f.b c.if-b-lt0.true) c.if-a-b.false

pub returns-then-b-lt0 : goal.returns-then-b-lt0
returns-then-b-lt0 c =
    let f = c.ranges in
    answer-number f.a f.b ◌+ℤ◌ (sum-negative f.a f.b c.if-b-lt0.true) c.if-a-b.false

pub overflow_sub-b-2 : goal.overflow_sub-b-2
overflow_sub-b-2 c = let f = c.ranges in record { sfits = (sum-natural f.a f.b c.if-b-lt0.false).fits }

pub returns-then-b-a : goal.returns-then-b-a
returns-then-b-a c =
    let f = c.ranges in
    answer-outside f.a f.b ◌+ℤ◌ (sum-natural f.a f.b c.if-b-lt0.false) c.if-b-a.true

pub overflow_add-result-2 : goal.overflow_add-result-2
overflow_add-result-2 c =
    let f = c.ranges in
    answer-fits f.a f.b ◌+ℤ◌ (sum-natural f.a f.b c.if-b-lt0.false) c.if-b-a.false

pub returns : goal.returns
returns c =
    let f = c.ranges in
    answer-number f.a f.b ◌+ℤ◌ (sum-natural f.a f.b c.if-b-lt0.false) c.if-b-a.false
