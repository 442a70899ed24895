-- `label::Label::join` meets its contract: the union is the bitwise or.
-- Assumes nothing.
use Rattle.label.proofs.Laws.{join-bit_or}
use Rattle.label.proofs.Label.join.Goals as goal

pub returns : goal.returns
returns c =
    let a = c.args in
    join-bit_or a.self.0 a.other.0 c.struct_known-1.given.0.fits c.struct_known-2-1.given.0.fits
