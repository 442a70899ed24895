-- `plain::run::place_in` meets its contract: the bits of a place are its index where they lie below the number of commands.
-- Assumes nothing.
use native.Mathlib.Omega.{arith}
use mathlib.Core.Path.{◌≡◌, ◌∙◌, ap}
use Rattle.word.specs.Wrap.{residue, Signed}
use Rattle.word.proofs.Signed.{back-ok}
use Rattle.word.proofs.Bits.{bits_below, bits_above}
use Rattle.plain.proofs.run.place_in.Goals as goal

pub returns-then-bits-count : goal.returns-then-bits-count
returns-then-bits-count c =
    let fits : Signed 64 c.args.pc.0 = omega (arith, c.struct_told-1.given) in
    let bits : c.to_bits-bits.result ≡ residue 64 c.args.pc.0 = c.to_bits-bits.ensures ∙ ap (residue 64) (back-ok _ fits) in
    rw (bits) (bits_below _ _ (fits) (omega (arith, c.requires)) (rw (bits) at c.if-bits-count.true))

pub returns-else-bits-count : goal.returns-else-bits-count
returns-else-bits-count c =
    let fits : Signed 64 c.args.pc.0 = omega (arith, c.struct_told-1.given) in
    let bits : c.to_bits-bits.result ≡ residue 64 c.args.pc.0 = c.to_bits-bits.ensures ∙ ap (residue 64) (back-ok _ fits) in
    bits_above _ _ (fits) (rw (bits) at c.if-bits-count.false)
