-- The rule memory in front of the handler: how a command is ruled on, as document 01's tag engine has it.
use Rattle.std.specs.Prelude.{ℕ, ◌+◌, Bool, true, false, ◌&&◌, List, [], ◌∷◌, ℤ, pos, negsuc}
use Rattle.word.specs.Number.{same_word}
use Rattle.label.specs.Word.{low_label}
use Rattle.program.specs.Command.{code_of}
use Rattle.machine.specs.Rule.{Key, input_word, Verdict, denied, allowed, Ruler}
use Rattle.policy.specs.Row.{word}
use Rattle.handler.specs.Kernel.{Instruction, Outcome, returned, failed, Result, handle}
use Rattle.handler.specs.Kernel as Kernel

-- what the tag engine has beside the machine's state: the rule memory, the commands that did not match, the kernel steps
pub record Tag : Type 0 where
  pub row : List ℤ
  pub faults : ℕ
  pub kernel_steps : ℕ

abbrev pub tag : List ℤ → ℕ → ℕ → Tag
tag row faults kernel_steps = record { row = row; faults = faults; kernel_steps = kernel_steps }

-- a command about to run, as the five words: code, P, L1, L2, L3; missing inputs are −1
pub record Five : Type 0 where
  pub code : ℤ
  pub pc : ℤ
  pub input1 : ℤ
  pub input2 : ℤ
  pub input3 : ℤ

abbrev pub words : ℤ → ℤ → ℤ → ℤ → ℤ → Five
words code pc input1 input2 input3 = record { code = code; pc = pc; input1 = input1; input2 = input2; input3 = input3 }

abbrev pub five_of : Key → Five
five_of k = words (pos (code_of k.opcode)) (pos k.pc) (input_word k.input1) (input_word k.input2) (input_word k.input3)

-- the first five words of the rule memory match
unfoldable pub matches : Five → List ℤ → Bool
matches f ws =
    same_word f.code (word ws 0)
    && (same_word f.pc (word ws 1)
    && (same_word f.input1 (word ws 2) && (same_word f.input2 (word ws 3) && same_word f.input3 (word ws 4))))

-- otherwise the five are written and the last two become −1
abbrev pub missed : Five → List ℤ
missed f = f.code ∷ f.pc ∷ f.input1 ∷ f.input2 ∷ f.input3 ∷ negsuc 0 ∷ negsuc 0 ∷ []

-- the last two words, the new place label and the result label
abbrev pub ruled : List ℤ → Verdict
ruled ws = allowed (low_label (word ws 5)) (low_label (word ws 6))

-- what consulting the rule memory gives: the verdict, the rule memory after it, a fault or none, and the handler's kernel steps
pub record Consulted : Type 0 where
  pub verdict : Verdict
  pub row : List ℤ
  pub faults : ℕ
  pub kernel_steps : ℕ

abbrev pub ruled_if : Bool → List ℤ → Verdict
ruled_if true ws = ruled ws
ruled_if false ws = denied

-- the handler returns and the command starts again, or it jumps to −1, which is stop 6. A handler that left its rules, or a row that
-- does not match again, allows nothing: a translated handler does neither
abbrev pub again : Five → Outcome → List ℤ → Verdict
again f returned ws = ruled_if (matches f ws) ws
again f Kernel.denied ws = denied
again f failed ws = denied

abbrev pub faulted : Five → Result → Consulted
faulted f x = record { verdict = again f x.outcome x.row; row = x.row; faults = 1; kernel_steps = x.steps }

abbrev pub consult_if : Bool → (List ℤ → Result) → Five → List ℤ → Consulted
consult_if true handler f ws = record { verdict = ruled ws; row = ws; faults = 0; kernel_steps = 0 }
consult_if false handler f ws = faulted f (handler (missed f))

-- where the first five words match, the last two are used; otherwise the handler runs
unfoldable pub consult : (handler : List ℤ → Result) → Five → List ℤ → Consulted
consult handler f ws = consult_if (matches f ws) handler f ws

-- the counts go on
abbrev pub counted : Tag → Consulted → Tag
counted t c = tag c.row (t.faults + c.faults) (t.kernel_steps + c.kernel_steps)

-- the tag engine's ruler, with a handler: it keeps the rule memory and the counts
abbrev pub tag_ruler : List Instruction → Ruler Tag
tag_ruler handler u k =
    let c : Consulted = consult (handle handler) (five_of k) u.row in
    record { verdict = c.verdict; ruler = counted u c }
