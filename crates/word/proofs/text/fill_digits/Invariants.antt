-- `word::text::fill_digits` meets its contract. The loop's invariant: what is left to write, laid on what is written, is the whole numeral.
-- Assumes nothing.
use Rattle.std.proofs.Common.{◌≡◌, length}
use Rattle.word.specs.Lay.{laid}
use Rattle.word.specs.Text.{numeral}
use Rattle.word.proofs.text.fill_digits.Given as goal

abbrev pub invariant-loop-i : goal.invariant-loop-i
invariant-loop-i l = laid (numeral l.base l.i l.rest) l.digits ≡ numeral l.base (length l.initial.digits) l.n
