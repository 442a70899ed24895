-- `word::field::bits` meets its contract. The loop's invariant: the number is that of the bytes from `i` on.
-- Assumes nothing.
use Rattle.std.proofs.Common.{◌≡◌, drop}
use Rattle.word.specs.Digits.{value_of}
use Rattle.word.proofs.field.bits.Given as goal

abbrev pub invariant-loop-i : goal.invariant-loop-i
invariant-loop-i l = l.number ≡ value_of 256 (drop l.i l.field)
