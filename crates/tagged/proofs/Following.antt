-- The ruler on words follows the tag engine's ruler where the handler space holds the handler: a key's inputs are found on words as its
-- command supplies them.
-- Assumes nothing.
use mathlib.Core.Path.{◌≡◌, refl, fun_ext}
use mathlib.Core.Bool.{Bool, true, false}
use mathlib.Core.List.{List}
use Prim.Native.Nat.{ℕ, ◌≤◌}
use native.Mathlib.Omega.{arith}
use lib.IntN.{ℤ, pos}
use lib.Dec.{leb}
use borrow.Author.Tests.{leb-true, leb-false}
use Rattle.program.specs.Command.{code_of, supplies}
use Rattle.machine.specs.Rule.{Input, present, missing, input_word}
use Rattle.machine.specs.Holds.{Marked}
use Rattle.engine.specs.Act.{Asked}
use Rattle.engine.proofs.Link.Looks.{finding, asked_for}
use Rattle.engine.proofs.Act.{Follows}
use Rattle.handler.specs.Kernel.{Instruction, Result, handle}
use Rattle.tagging.specs.Consult.{words, five_of, tag_ruler}
use Rattle.tagged.specs.Ruling.{five_for, tag_words}

marked-present : (b : Bool) (l : ℕ) → Marked b (present l) → b ≡ true
marked-present true l h = refl
marked-present false l h = absurd h

marked-missing : (b : Bool) → Marked b missing → b ≡ false
marked-missing true h = absurd h
marked-missing false h = refl

-- no input is supplied after one that is not
gap : (i j n l : ℕ) → i ≤ j → Marked (leb i n) missing → Marked (leb j n) (present l) → ⊥
gap i j n l h f g =
    let a = leb-false i n (marked-missing (leb i n) f) in
    let b = leb-true j n (marked-present (leb j n) l g) in
    omega arith

module _ (code : ℤ) (pc n : ℕ) where
  abbrev asks : Input → Input → Input → Asked
  asks a b d = record { code = code; pc = pc; inputs = finding a b d }

  five-for : (a b d : Input) → Marked (leb 1 n) a → Marked (leb 2 n) b → Marked (leb 3 n) d
      → five_for (asks a b d) ≡ words code (pos pc) (input_word a) (input_word b) (input_word d)
  five-for (present a) (present b) (present d) f g h = refl
  five-for (present a) (present b) missing f g h = refl
  five-for (present a) missing (present d) f g h = absurd (gap 2 3 n d (omega arith) g h)
  five-for (present a) missing missing f g h = refl
  five-for missing (present b) d f g h = absurd (gap 1 2 n b (omega arith) f g)
  five-for missing missing (present d) f g h = absurd (gap 1 3 n d (omega arith) f h)
  five-for missing missing missing f g h = refl

-- for a handler that handles rows as the instructions do
pub tag-follows : (handler : List ℤ → Result) (code : List Instruction) → ((row : List ℤ) → handler row ≡ handle code row)
    → Follows (tag_words handler) (tag_ruler code)
tag-follows handler code same u k m =
    let five : five_for (asked_for k) ≡ five_of k =
    five-for (pos (code_of k.opcode)) k.pc (supplies k.opcode) k.input1 k.input2 k.input3
    m.input1 m.input2 m.input3 in
    rw (fun_ext same, five)
