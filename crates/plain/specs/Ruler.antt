-- The plain engine's ruler on words: the standard rules by a command's code, as the code of this crate chooses them.
use Rattle.std.specs.Prelude.{ℕ, ◌≡◌, ◌⊎◌, ℤ, pos, ltb, eqb}
use Rattle.word.specs.Choose.{choose}
use Rattle.word.specs.Wrap.{residue}
use Rattle.label.specs.Label.{bottom, join, flows}
use Rattle.program.specs.Command.{arguments_of, results_of}
use Rattle.machine.specs.Rule.{Verdict, allowed, allowed_if}
use Rattle.step.specs.Effect.{frame_kind}
use Rattle.engine.specs.Act.{WordRuler}

unfoldable pub standard_by : ℕ → (p l1 l2 l3 : ℕ) → Verdict
standard_by code p l1 l2 l3 =
    choose (ltb code 6)
    (choose (ltb code 3)
    (allowed p (join l1 l2))
    (choose (ltb code 5) (choose (eqb code 3) (allowed p bottom) (allowed p (join l1 p))) (allowed p bottom)))
    (choose (ltb code 8)
    (choose (eqb code 6) (allowed p (join l1 l2)) (allowed_if (flows (join l1 p) l3) p (join (join l1 l2) p)))
    (choose (ltb code 10)
    (allowed (join l1 p) bottom)
    (choose (ltb code 12)
    (choose (eqb code 10) (allowed (join l1 p) p) (allowed l1 bottom))
    (choose (ltb code 14)
    (choose (eqb code 12) (allowed p (join l1 p)) (allowed (join l1 p) p))
    (allowed l2 (join l1 p))))))

-- it keeps nothing
abbrev pub standard_ruler : WordRuler Unit
standard_ruler u a =
    record {
      verdict = standard_by (residue 64 a.code) a.pc a.inputs.input1.0 a.inputs.input2.0 a.inputs.input3.0;
      ruler = u;
    }

-- the codes that write a line, and on which page: Output on page 0, OutputTo on that of its operand
abbrev pub PrintsTo : ℕ → ℤ → ℤ → Type 0
PrintsTo code operand page = ((code ≡ 4) × (page ≡ pos 0)) ⊎ ((code ≡ 12) × (page ≡ operand))

-- the codes that call, with how many arguments and a frame of which kind: Call with one and no result due, CallN by its operand
abbrev pub CallsWith : ℕ → ℤ → ℕ → ℤ → Type 0
CallsWith code operand arguments kind =
    ((code ≡ 10) × (arguments ≡ 1) × (kind ≡ pos 1))
    ⊎ ((code ≡ 13) × (arguments ≡ arguments_of operand) × (kind ≡ frame_kind (results_of operand)))
