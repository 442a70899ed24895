-- `assembly::through` meets its contract: what was read is handed over.
-- Assumes nothing.
use Rattle.std.proofs.lemmas.List.{length-replicate}
use Rattle.assembly.proofs.Handing.{handed}
use Rattle.assembly.proofs.through.Goals as goal

pub read-requires : goal.read-requires
read-requires g c = rw length-replicate c.requires.roomy

pub returns-clause-written : goal.returns-clause-written
returns-clause-written g c =
    handed _ _ _ _ c.args.out.now _ c.in_ok-size.ensures.answer c.in_ok-size.ensures.written c.if-out-size.false c.copy_from_slice.ensures.after
