-- The plain engine's ruler on words answers as the standard policy does.
-- Assumes nothing.
use mathlib.Core.Path.{◌≡◌, refl}
use Prim.Native.Nat.{ℕ}
use Rattle.program.specs.Command.{Opcode, add, sub, pop, output, push, load, store, jump, bnz, call, ret, output_to, call_n, ret_v}
use Rattle.program.specs.Command.{code_of}
use Rattle.program.proofs.Codes.{code-residue}
use Rattle.machine.specs.Rule.{rule, standard, fixed}
use Rattle.engine.proofs.Act.{Follows}
use Rattle.plain.specs.Ruler.{standard_by, standard_ruler}

rule-is : (o : Opcode) (p l1 l2 l3 : ℕ) → standard_by (code_of o) p l1 l2 l3 ≡ rule o p l1 l2 l3
unfolding standard_by
rule-is add p l1 l2 l3 = refl
rule-is sub p l1 l2 l3 = refl
rule-is pop p l1 l2 l3 = refl
rule-is output p l1 l2 l3 = refl
rule-is push p l1 l2 l3 = refl
rule-is load p l1 l2 l3 = refl
rule-is store p l1 l2 l3 = refl
rule-is jump p l1 l2 l3 = refl
rule-is bnz p l1 l2 l3 = refl
rule-is call p l1 l2 l3 = refl
rule-is ret p l1 l2 l3 = refl
rule-is output_to p l1 l2 l3 = refl
rule-is call_n p l1 l2 l3 = refl
rule-is ret_v p l1 l2 l3 = refl

pub standard-follows : Follows standard_ruler (fixed standard)
unfolding standard
standard-follows u k marked = rw (code-residue k.opcode, rule-is k.opcode)
