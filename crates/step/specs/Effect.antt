-- What a command does on lent words, with the new place label p and the result label r of a ruling.
use Rattle.std.specs.Prelude.{ℕ, List, ℤ, pos, ◌+ℤ◌, ◌-ℤ◌, ltb, eqb, Err, None, Option, Some}
use Rattle.word.specs.Choose.{choose}
use Rattle.word.specs.Number.{is_zero}
use Rattle.word.specs.Wrap.{add_wrap}
use Rattle.word.specs.Exact.{exactly}
use Rattle.program.specs.Command.{arguments_of, results_of}
use Rattle.machine.specs.declared.Stop.TheVariants.{AddressOutside, Overflow, StackFull}
use Rattle.stack.specs.declared.Machine.{Machine}
use Rattle.stack.specs.Words.{pushed, pushed_stack, refilled_stack, inserted_stack, dropped, gone, following}
use Rattle.stack.specs.Words.{Stepping, carried, printing}
use Rattle.step.specs.Lent.{Cells, Lent, After, after, OnStack, on_stack, with_stack, OnCells, on_cells, with_cells}
use Rattle.step.specs.Cell.{cell_at, is_cell, number_of, written}
use Rattle.step.specs.Find.{first, second}

-- the word that the whole-number sum or difference is; Add has code 1, Sub 2
unfoldable pub sum_of : ℕ → ℤ → ℤ → Option ℤ
sum_of code a b = choose (eqb code 1) (exactly (a +ℤ b)) (exactly (a -ℤ b))

-- Bnz's target: a place and an operand of a sheet, whose sum does not wrap
unfoldable pub branch_of : ℤ → ℤ → ℤ → ℤ
branch_of number pc operand = choose (is_zero number) (add_wrap pc (pos 1)) (add_wrap pc operand)

-- the kind word of a frame: 2 where a result is due, else 1
abbrev pub frame_kind : ℕ → ℤ
frame_kind results = choose (ltb 0 results) (pos 2) (pos 1)

-- a value in place of one that m just dropped
abbrev pub refilling : Machine → List ℤ → ℤ → ℕ → ℕ → OnStack
refilling m stack number label p = on_stack (carried (following (pushed m) p)) (refilled_stack m stack number label)

module _ (p r : ℕ) (m : Machine) where
  abbrev pub arith_from : List ℤ → Option ℤ → OnStack
  arith_from stack None = on_stack (Err Overflow) stack
  arith_from stack (Some number) = refilling (dropped (dropped m)) stack number r p

  unfoldable pub arith_effect : ℕ → List ℤ → OnStack
  arith_effect code stack = arith_from stack (sum_of code (first m stack).number (second m stack).number)

  -- Output writes to page 0, OutputTo to its operand
  unfoldable pub output_effect : ℤ → List ℤ → Stepping
  output_effect page stack = printing (following (dropped m) p) page (first m stack).number r

  -- with room on the stack
  unfoldable pub push_effect : ℤ → List ℤ → OnStack
  push_effect operand stack =
      choose (ltb m.depth 256)
      (on_stack (carried (following (pushed m) p)) (pushed_stack m stack (pos 0) operand r))
      (on_stack (Err StackFull) stack)

  abbrev pub load_from : List ℤ → Option ℤ → OnStack
  load_from stack None = on_stack (Err AddressOutside) stack
  load_from stack (Some number) = refilling (dropped m) stack number r p

  unfoldable pub load_effect : List ℤ → List ℤ → OnStack
  load_effect stack values = load_from stack (number_of values (cell_at (first m stack).number values))

  unfoldable pub store_effect : List ℤ → Cells → OnCells
  store_effect stack c =
      let cell = cell_at (first m stack).number c.values in
      on_cells
      (choose (is_cell cell) (carried (following (dropped (dropped m)) p)) (Err AddressOutside))
      (written (second m stack).number r c cell)

  -- a frame of a kind under so many arguments
  unfoldable pub call_effect : ℕ → ℤ → List ℤ → OnStack
  call_effect n kind stack =
      on_stack
      (carried (gone m (first m stack).number p))
      (inserted_stack m n stack kind (add_wrap m.pc.0 (pos 1)) r)

  -- to the frame's place; the value stands where the frame stood
  unfoldable pub return_effect : List ℤ → OnStack
  return_effect stack =
      let under = dropped (dropped m) in
      on_stack
      (carried (gone (pushed under) (second m stack).number p))
      (pushed_stack under stack (pos 0) (first m stack).number r)

-- those without a result
module _ (p : ℕ) (m : Machine) where
  unfoldable pub pop_effect : Stepping
  pop_effect = carried (following (dropped m) p)

  -- Jump and Ret go to the number on top
  unfoldable pub jump_effect : List ℤ → Stepping
  jump_effect stack = carried (gone (dropped m) (first m stack).number p)

  unfoldable pub bnz_effect : ℤ → List ℤ → Stepping
  bnz_effect operand stack = carried (gone (dropped m) (branch_of (first m stack).number m.pc.0 operand) p)

-- by the code of the command, as the code of this crate chooses
unfoldable pub effect_of : (p r : ℕ) → Machine → ℕ → ℤ → Lent → After
effect_of p r m code operand l =
    choose (ltb code 6)
    (choose (ltb code 3)
    (with_stack l (arith_effect p r m code l.stack))
    (choose (ltb code 5)
    (choose (eqb code 3) (after (pop_effect p m) l) (after (output_effect p r m (pos 0) l.stack) l))
    (with_stack l (push_effect p r m operand l.stack))))
    (choose (ltb code 8)
    (choose (eqb code 6)
    (with_stack l (load_effect p r m l.stack l.cells.values))
    (with_cells l (store_effect p r m l.stack l.cells)))
    (choose (ltb code 10)
    (choose (eqb code 8) (after (jump_effect p m l.stack) l) (after (bnz_effect p m operand l.stack) l))
    (choose (ltb code 12)
    (choose (eqb code 10) (with_stack l (call_effect p r m 1 (pos 1) l.stack)) (after (jump_effect p m l.stack) l))
    (choose (ltb code 14)
    (choose (eqb code 12)
    (after (output_effect p r m operand l.stack) l)
    (with_stack l (call_effect p r m (arguments_of operand) (frame_kind (results_of operand)) l.stack)))
    (with_stack l (return_effect p r m l.stack))))))
