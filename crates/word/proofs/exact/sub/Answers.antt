-- `word::exact::sub` meets its contract: neither a test nor the difference passes an end of the words.
-- Assumes nothing.
use Rattle.std.proofs.Common.{◌-ℤ◌}
use Rattle.word.proofs.Laws.Exact.{difference-negative, difference-natural, answer-outside, answer-fits, answer-number}
use Rattle.word.proofs.exact.sub.Goals as goal

pub overflow_add-b : goal.overflow_add-b
overflow_add-b c = let f = c.ranges in record { sfits = (difference-negative f.a f.b c.if-b-lt0.true).fits }

pub returns-then-b-a : goal.returns-then-b-a
returns-then-b-a c =
    let f = c.ranges in
    answer-outside f.a f.b ◌-ℤ◌ (difference-negative f.a f.b c.if-b-lt0.true) c.if-b-a.true

pub overflow_sub-result : goal.overflow_sub-result
overflow_sub-result c =
    let f = c.ranges in
    answer-fits f.a f.b ◌-ℤ◌ (difference-negative f.a f.b c.if-b-lt0.true) c.if-b-a.false

pub returns-then-b-lt0 : goal.returns-then-b-lt0
returns-then-b-lt0 c =
    let f = c.ranges in
    answer-number f.a f.b ◌-ℤ◌ (difference-negative f.a f.b c.if-b-lt0.true) c.if-b-a.false

pub overflow_add-b-2 : goal.overflow_add-b-2
overflow_add-b-2 c = let f = c.ranges in record { sfits = (difference-natural f.a f.b c.if-b-lt0.false).fits }

pub returns-then-a-b : goal.returns-then-a-b
returns-then-a-b c =
    let f = c.ranges in
    answer-outside f.a f.b ◌-ℤ◌ (difference-natural f.a f.b c.if-b-lt0.false) c.if-a-b.true

pub overflow_sub-result-2 : goal.overflow_sub-result-2
overflow_sub-result-2 c =
    let f = c.ranges in
    answer-fits f.a f.b ◌-ℤ◌ (difference-natural f.a f.b c.if-b-lt0.false) c.if-a-b.false

pub returns : goal.returns
returns c =
    let f = c.ranges in
    answer-number f.a f.b ◌-ℤ◌ (difference-natural f.a f.b c.if-b-lt0.false) c.if-a-b.false
