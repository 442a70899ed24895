-- `word::numeral::leading` meets its contract. The loop's invariant: what is left of the digits, after what is kept, comes to what all of
-- them come to. The measure is what is left of the text. Assumes nothing.
use Rattle.std.proofs.Common.{◌-◌, length}
use Rattle.word.proofs.Laws.Reading.{Keeps}
use Rattle.word.proofs.numeral.leading.Given as goal

abbrev pub invariant-loop-next : goal.invariant-loop-next
invariant-loop-next l = Keeps l.s l.at l.value l.next

abbrev pub decreases-loop-next : goal.decreases-loop-next
decreases-loop-next l = length l.s - l.next
