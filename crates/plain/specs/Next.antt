-- The command that the loop carries out next: a Push is carried out with the command after it.
use Rattle.std.specs.Prelude.{ℕ, ◌+◌, ◌-◌, List, ℤ, pos, ltb, eqb}
use Rattle.word.specs.Choose.{choose}
use Rattle.word.specs.Wrap.{residue}
use Rattle.label.specs.Label.{bottom}
use Rattle.stack.specs.declared.Machine.{Machine}
use Rattle.stack.specs.Words.{pushed, pushed_stack, following}
use Rattle.engine.specs.Loop.{word_at, operand_at}
use Rattle.plain.specs.declared.run.Chosen.{Chosen}

-- the command to be carried out next, the run as far as it with the allowance that is left then, and the stack
pub record Ready : Type 0 where
  pub next : Chosen
  pub stack : List ℤ

abbrev pub ready : Chosen → List ℤ → Ready
ready n stack = record { next = n; stack = stack }

abbrev pub chosen : Machine → ℤ → ℤ → ℕ → Chosen
chosen m word operand left = record { machine = m; word = word; operand = operand; left = left }

-- the command at an index; and where that is a Push with room, and a command and an allowance for it follow, that one, with the Push done
unfoldable pub next_of : (count : ℕ) → List ℤ → ℕ → Machine → ℕ → List ℤ → Ready
next_of count program i m left stack =
    let here = ready (chosen m (word_at program i) (operand_at program i) left) stack in
    let over = following (pushed m) m.label.0 in
    choose (ltb m.depth 256)
    (choose (eqb (residue 64 (word_at program i)) 5)
    (choose (ltb 1 left)
    (choose (ltb (i + 1) count)
    (ready
    (chosen over (word_at program (i + 1)) (operand_at program (i + 1)) (left - 1))
    (pushed_stack m stack (pos 0) (operand_at program i) bottom))
    here)
    here)
    here)
    here
