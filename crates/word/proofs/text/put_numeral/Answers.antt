-- `word::text::put_numeral` meets its contract: the test of the room decides.
-- Assumes nothing.
use Rattle.std.proofs.Common.{◌≡◌, ◌-◌, length, take, drop, ◌∙◌, arith, length-drop, length-take-le}
use Rattle.word.specs.Text.{numeral}
use Rattle.word.proofs.Clauses.{both}
use Rattle.word.proofs.Laws.Numeral.{numeral-length}
use Rattle.word.proofs.Laws.Text.{put-part, put-short}
use Rattle.word.proofs.text.put_numeral.Goals as goal

pub returns-in_err-next : goal.returns-in_err-next
returns-in_err-next c =
    let a = c.args in
    let text = numeral a.base a.count a.n in
    rw c.from_residual.ensures (both (put-short a.at _ text a.out.now (numeral-length a.base a.count a.n) c.in_err-next.ensures))

pub returns : goal.returns
returns c =
    let a = c.args in
    let there = c.in_ok-next.ensures in
    let long = length-drop a.at a.out.now in
    let part = take (c.in_ok-next.next - a.at) (drop a.at a.out.now) in
    let count : length part ≡ a.count =
    length-take-le (c.in_ok-next.next - a.at) (drop a.at a.out.now) (omega (arith, there, long)) ∙ omega (arith, there) in
    let text = numeral a.base a.count a.n in
    rw (c.fill_digits.ensures, count) (both (put-part a.at _ _ text a.out.now (numeral-length a.base a.count a.n) there))
