-- `assembly::listing::put_letters` meets its contract. The loop's invariant: what is left to write, laid on what is written, is all of them
-- laid on what was there. Assumes nothing.
use mathlib.Core.Path.{◌≡◌}
use mathlib.Core.List.{reverse}
use Rattle.word.specs.Digits.{digits_of}
use Rattle.word.specs.Lay.{laid_at}
use Rattle.assembly.proofs.listing.put_letters.Given as goal

abbrev pub invariant-loop-i : goal.invariant-loop-i
invariant-loop-i l = laid_at l.at (reverse (digits_of 256 l.i l.rest)) l.out ≡ laid_at l.at (reverse (digits_of 256 l.count l.word)) l.initial.out
