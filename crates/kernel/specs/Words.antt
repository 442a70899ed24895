-- The kernel on words, as the code has it: the topmost entry of the stack is a register, the others lie in words, bottom first.
use Rattle.std.specs.Prelude.{ℕ, zero, suc, ◌+◌, ◌-◌, ◌*◌, ◌^◌, ◌<◌, ◌≤◌, ◌≡◌, ◌&&◌, List, [], ◌∷◌, ℤ, pos, negsuc, length, get_or, ltb, eqb, Option, Result, Ok, Err}
use Rattle.word.specs.Choose.{choose}
use Rattle.word.specs.Wrap.{add_wrap, sub_wrap}
use Rattle.kernel.specs.declared.Registers.{Registers}
use Rattle.kernel.specs.declared.Outcome as Ended
use Rattle.kernel.specs.declared.Outcome.TheVariants as End
use Rattle.kernel.specs.declared.Handled.{Handled}
use Rattle.handler.specs.Kernel.{Instruction, Add, Sub, Or, Outcome, returned, denied, failed, or_word}
use Rattle.handler.specs.Kernel.{Effect, ends, goes, effect, effect_at, Kernel}
use Rattle.handler.specs.Kernel as Handler
use Rattle.handler.specs.Space.{code_of}

-- so many entries that lie in words, top first: the bottom one in word 1; word 0 counts for nothing
unfoldable pub lying : List ℤ → ℕ → List ℤ
lying words zero = []
lying words (suc n) = get_or words (suc n) (pos 0) ∷ lying words n

-- the stack of so many entries, the topmost of which is in a register
abbrev pub topped : ℤ → ℕ → List ℤ → List ℤ
topped top zero words = []
topped top (suc n) words = top ∷ lying words n

unfoldable pub stack_of : Registers → List ℤ → List ℤ
stack_of s words = topped s.top s.depth words

abbrev pub registers : (place depth : ℕ) → ℤ → Registers
registers place depth top = record { place = place; depth = depth; top = top }

-- without its topmost entry
abbrev pub below : Registers → List ℤ → Registers
below s words = registers s.place (s.depth - 1) (get_or words (s.depth - 1) (pos 0))

-- the stack is in the 64 words, and a place more can be counted
pub record Room (s : Registers) (words : List ℤ) : Type 0 where
  pub place : s.place < 2 ^ 63
  pub depth : s.depth ≤ 64
  pub size : length words ≡ 64

-- ════════════════════════════════════════════════════════════════════════════════════════════
-- What an instruction hands back
-- ════════════════════════════════════════════════════════════════════════════════════════════

-- going on, or an end
abbrev pub Step : Type 0
Step = Result Registers Ended.Outcome

abbrev pub going : Registers → Step
going s = Ok s

abbrev pub outcome_of : Ended.Outcome → Outcome
outcome_of End.Returned = returned
outcome_of End.Denied = denied
outcome_of End.Failed = failed

-- what it stands for, beside the stack's words and the row
abbrev pub effect_of : Step → List ℤ → List ℤ → Effect
effect_of (Ok s) words row = goes s.place (stack_of s words) row
effect_of (Err o) words row = ends (outcome_of o)

-- an instruction was carried out, from these registers on a row, which it left as another
unfoldable pub DoesOn : List ℤ → Instruction → Registers → List ℤ → Step → List ℤ → List ℤ → Type 0
DoesOn row i s before r row' after = effect_of r after row' ≡ effect i s.place (stack_of s before) row

-- and on any row, which it left as it was
unfoldable pub Does : Instruction → Registers → List ℤ → Step → List ℤ → Type 0
Does i s before r after = (row : List ℤ) → DoesOn row i s before r row after

-- the kernel's state that the words stand for, after so many steps
abbrev pub state : Registers → List ℤ → List ℤ → ℕ → Kernel
state s words row steps = record { place = s.place; stack = stack_of s words; row = row; steps = steps }

-- the instruction, if there is one, on a row, which it left as another
unfoldable pub Acts : List ℤ → Option Instruction → Registers → List ℤ → Step → List ℤ → List ℤ → Type 0
Acts row o s before r row' after = effect_of r after row' ≡ effect_at o (state s before row 0)

-- ════════════════════════════════════════════════════════════════════════════════════════════
-- Parts of instructions
-- ════════════════════════════════════════════════════════════════════════════════════════════

-- Add and Sub have their codes; the third is Or
abbrev pub folding : ℕ → Instruction
folding code = choose (eqb code (code_of Add)) Add (choose (eqb code (code_of Sub)) Sub Or)

abbrev pub combined : ℕ → ℤ → ℤ → ℤ
combined code a b = choose (eqb code (code_of Add)) (add_wrap a b) (choose (eqb code (code_of Sub)) (sub_wrap a b) (or_word a b))

-- at another place
abbrev pub moved : Registers → ℕ → Registers
moved s place = registers place s.depth s.top

-- a jump by a word from a base: forward, or to −1
abbrev pub jumping_from : ℕ → ℤ → Registers → Step
jumping_from base (pos n) s = choose (ltb s.place (base + n)) (going (moved s (base + n))) (Err End.Failed)
jumping_from base (negsuc n) s = choose (eqb n base) (Err End.Denied) (Err End.Failed)

-- ════════════════════════════════════════════════════════════════════════════════════════════
-- What a handler leaves
-- ════════════════════════════════════════════════════════════════════════════════════════════

-- of the places below a count, those below a limit have both of their words
unfoldable pub Held : (words count limit : ℕ) → Type 0
Held words count limit = (place : ℕ) → ltb place limit ≡ (ltb place count && ltb (2 * place + 1) words)

abbrev pub result_of : Handled → Handler.Result
result_of r = record { outcome = outcome_of r.outcome; row = r.cache.words; steps = r.steps }
