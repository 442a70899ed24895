-- One command of the plain engine that its rule allows.
-- Assumes nothing.
use Rattle.std.proofs.Common.{Ok}
use mathlib.Core.Path.{◌≡◌, sym, ap, ◌∙◌}
use Prim.Native.Nat.{ℕ}
use lib.IntN.{ℤ}
use Rattle.word.specs.Wrap.{residue}
use Rattle.machine.specs.Rule.{allowed}
use Rattle.stack.specs.declared.Machine.{Machine}
use Rattle.step.specs.declared.find.Inputs.{Inputs}
use Rattle.step.specs.Lent.{Lent, After}
use Rattle.step.specs.Find.{Found, find_of}
use Rattle.step.specs.Effect.{effect_of}
use Rattle.engine.specs.Act.{ruled, act_found, act_of}
use Rattle.plain.specs.Ruler.{standard_by, standard_ruler}

-- it does what it does under the two labels of the rule
pub act-allowed : (word operand : ℤ) (m : Machine) (l : Lent) (i : Inputs) → Ok i ≡ find_of (residue 64 word) operand m l → (p r : ℕ)
    → standard_by (residue 64 word) m.label.0 i.input1.0 i.input2.0 i.input3.0 ≡ allowed p r
    → (a : After) → a ≡ effect_of p r m (residue 64 word) operand l → a ≡ (act_of standard_ruler word operand m tt l).after
unfolding act_of
act-allowed word operand m l i found p r v a e =
    e ∙ ap (ruled standard_ruler word operand m tt l) (sym v)
    ∙ ap (λ (f : Found). (act_found standard_ruler word operand m tt l f).after) found
