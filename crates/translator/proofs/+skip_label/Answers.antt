-- `translator::skip_label` meets its contract: by the first byte.
-- Assumes nothing.
use mathlib.Core.Path.{◌∙◌, sym, ap}
use Prim.Native.Nat.{◌-◌}
use Rattle.translator.specs.Emit.{Piece, label_code}
use Rattle.translator.proofs.Pieces.{label-deep, label-none, label-join, label-ends}
use Rattle.translator.proofs.+skip_label.Goals as goal

pub returns-then-depth-eq0 : goal.returns-then-depth-eq0
returns-then-depth-eq0 t c =
    let a = c.args in
    sym (ap (λ (p : Piece). p.next) (label-deep a.depth a.bytes.now a.at c.if-depth-eq0.true))

pub returns-in_default : goal.returns-in_default
returns-in_default t c =
    let a = c.args in
    sym (ap (λ (p : Piece). p.next) (label-none a.depth a.bytes.now a.at c.if-depth-eq0.false _ c.in_default.ensures))

pub returns-in-Empty : goal.returns-in-Empty
returns-in-Empty t c =
    let a = c.args in
    label-ends a.depth a.bytes.now a.at c.if-depth-eq0.false _ _ c.in-Ok.ensures c.in-Empty.is

pub returns-in-Join : goal.returns-in-Join
returns-in-Join t c =
    let a = c.args in
    let read = label_code (a.depth - 1) a.bytes.now in
    c.skip_label.ensures
    ∙ ap (λ n. (read n).next) c.skip_label-second.ensures
    ∙ sym (ap (λ (p : Piece). p.next) (label-join a.depth a.bytes.now a.at c.if-depth-eq0.false _ _ c.in-Ok.ensures c.in-Join.is))
