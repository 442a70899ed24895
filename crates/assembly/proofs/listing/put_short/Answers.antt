-- `assembly::listing::put_short` meets its contract: three to six letters by their ends.
-- Assumes nothing.
use mathlib.Core.Path.{ap, ◌∙◌}
use mathlib.Core.List.{reverse}
use Prim.Native.Nat.{◌+◌, ◌-◌}
use Rattle.word.specs.Digits.{digits_of}
use Rattle.word.specs.Lay.{laid_at}
use Rattle.assembly.proofs.Keeping.{name-both}
use Rattle.assembly.proofs.listing.put_short.Goals as goal

pub returns : goal.returns
returns c =
    let last = c.put_three-2.ensures in
    let three = c.first_three.ensures in
    let a = c.args in
    let ys = reverse (digits_of 256 3 a.word) in
    last
    ∙ ap (laid_at (a.at + (a.count - 3)) ys)
    (c.put_three.ensures ∙ ap (λ w. laid_at a.at (reverse (digits_of 256 3 w)) a.out.now) three)
    ∙ name-both a.word a.count a.at a.out.now c.requires.0 c.requires.1 c.requires.2
