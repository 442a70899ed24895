-- `label::Label::flows` meets its contract: a set is a subset of another exactly where the other is their union.
-- Assumes nothing.
use mathlib.Core.Path.{◌∙◌, sym, ap}
use Prim.Native.Nat.{ℕ}
use lib.Dec.{eqb}
use Rattle.label.proofs.Laws.{join-bit_or, flows-is-join}
use Rattle.label.proofs.Label.flows.Goals as goal

pub returns : goal.returns
returns c =
    let a = c.args in
    let h = c.struct_known-2-1.given.0.fits in
    ap (λ (u : ℕ). eqb u a.other.0) (join-bit_or a.self.0 a.other.0 c.struct_known-1.given.0.fits h)
    ∙ sym (flows-is-join a.self.0 a.other.0 h)
