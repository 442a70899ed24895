-- `report::print::bad_job` meets its contract: its parts are written one after the other.
-- Assumes nothing.
use native.Mathlib.Omega.{arith}
use Rattle.report.proofs.Texts.{written-room, natural-short, written-job}
use Rattle.report.proofs.print.bad_job.Goals as goal

pub bytes-requires : goal.bytes-requires
bytes-requires c =
    written-room 20 1 (natural-short _)
    (written-room 4 21 (omega arith) (omega (arith, c.requires)) c.bytes-word.ensures)
    c.number-last.ensures

pub returns : goal.returns
returns c =
    written-job _ _ _ _ _ _ _ _ c.requires c.bytes-word.ensures c.number-last.ensures
    c.bytes.ensures
