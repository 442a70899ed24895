-- `report::print::refused` meets its contract: its parts are written one after the other.
-- Assumes nothing.
use native.Mathlib.Omega.{arith}
use Rattle.report.proofs.Texts.{written-room, natural-short, written-refused}
use Rattle.report.proofs.print.refused.Goals as goal

pub bytes-gap-requires : goal.bytes-gap-requires
bytes-gap-requires c =
    written-room 20 1 (natural-short _)
    (written-room 8 21 (omega arith) (omega (arith, c.requires)) c.bytes-word.ensures)
    c.number-code.ensures

pub number-place-requires : goal.number-place-requires
number-place-requires c =
    written-room 1 20 (omega arith)
    (written-room 20 21 (natural-short _)
    (written-room 8 41 (omega arith) (omega (arith, c.requires)) c.bytes-word.ensures)
    c.number-code.ensures)
    c.bytes-gap.ensures

pub bytes-requires : goal.bytes-requires
bytes-requires c =
    written-room 20 1 (natural-short _)
    (written-room 1 21 (omega arith)
    (written-room 20 22 (natural-short _)
    (written-room 8 42 (omega arith) (omega (arith, c.requires)) c.bytes-word.ensures)
    c.number-code.ensures)
    c.bytes-gap.ensures)
    c.number-place.ensures

pub returns : goal.returns
returns c =
    written-refused _ _ _ _ _ _ _ _ _ _ _ _ _ c.requires
    c.bytes-word.ensures
    c.number-code.ensures
    c.bytes-gap.ensures
    c.number-place.ensures
    c.bytes.ensures
