-- The kernel of document 01: the commands of a fault handler (kernel instructions), and how they run over the seven words of the rule
-- memory (the row). They act as on sheets, without labels, but that sums and differences wrap.
use Rattle.std.specs.Prelude.{ℕ, zero, suc, Bool, true, false, List, [], ◌∷◌, ℤ, pos, negsuc, length, set, ltb, None, Option, Some, slice_get}
use Rattle.std.specs.Int.Bits.{bit_or}
use Rattle.word.specs.Wrap.{residue, signed, add_wrap, sub_wrap}
use Rattle.machine.specs.Step.{branch}

pub data Instruction : Type 0 where
  Add Sub Or Load Store Dup Swap Jump Ret : Instruction
  Push Bnz : ℤ → Instruction

-- the largest number of stack entries
abbrev pub stack_limit : ℕ
stack_limit = 64

-- the bitwise or of two words of 64 bits
unfoldable pub or_word : ℤ → ℤ → ℤ
or_word a b = signed 64 (bit_or (residue 64 a) (residue 64 b))

-- how a handler ends: by Ret, by a jump to −1 (not allowed), or by leaving its rules: no instruction at the place, no value where one is
-- needed, an address outside the row, the 65th stack entry, a jump that is neither forward nor to −1, more steps than it was given
pub data Outcome : Type 0 where
  returned denied failed : Outcome

-- what an instruction does: it ends the handler, or goes on at a place with a stack and a row
pub data Effect : Type 0 where
  ends : Outcome → Effect
  goes : ℕ → List ℤ → List ℤ → Effect

-- ════════════════════════════════════════════════════════════════════════════════════════════
-- What an instruction needs
-- ════════════════════════════════════════════════════════════════════════════════════════════

-- a value on top
abbrev pub with_value : List ℤ → (ℤ → List ℤ → Effect) → Effect
with_value [] k = ends failed
with_value (a ∷ rest) k = k a rest

-- two values on top
abbrev pub with_values : List ℤ → (ℤ → ℤ → List ℤ → Effect) → Effect
with_values s k = with_value s (λ top below. with_value below (λ next rest. k top next rest))

-- a word of the row at an address
abbrev pub with_element : Option ℤ → (ℤ → Effect) → Effect
with_element None k = ends failed
with_element (Some a) k = k a

abbrev pub with_word : List ℤ → ℤ → (ℕ → ℤ → Effect) → Effect
with_word row (pos i) k = with_element (slice_get row i) (k i)
with_word row (negsuc i) k = ends failed

-- room on the stack; a jump that goes forward
abbrev pub provided : Bool → Effect → Effect
provided true e = e
provided false e = ends failed

-- ════════════════════════════════════════════════════════════════════════════════════════════
-- What it does
-- ════════════════════════════════════════════════════════════════════════════════════════════

-- one entry more, at the next place
abbrev pub pushing : ℕ → ℤ → List ℤ → List ℤ → Effect
pushing place a s row = provided (ltb (length s) stack_limit) (goes (suc place) (a ∷ s) row)

-- a jump: forward, or to −1
abbrev pub jumping : ℕ → ℤ → List ℤ → List ℤ → Effect
jumping place (pos target) s row = provided (ltb place target) (goes target s row)
jumping place (negsuc zero) s row = ends denied
jumping place (negsuc (suc n)) s row = ends failed

-- the target of a Bnz that is not taken is the next place
unfoldable pub effect : Instruction → ℕ → List ℤ → List ℤ → Effect
effect Add place s row = with_values s (λ a b rest. goes (suc place) (add_wrap a b ∷ rest) row)
effect Sub place s row = with_values s (λ a b rest. goes (suc place) (sub_wrap a b ∷ rest) row)
effect Or place s row = with_values s (λ a b rest. goes (suc place) (or_word a b ∷ rest) row)
effect Load place s row = with_value s (λ a rest. with_word row a (λ i word. goes (suc place) (word ∷ rest) row))
effect Store place s row = with_values s (λ a b rest. with_word row a (λ i word. goes (suc place) rest (set row i b)))
effect Dup place s row = with_value s (λ a rest. pushing place a s row)
effect Swap place s row = with_values s (λ a b rest. goes (suc place) (b ∷ a ∷ rest) row)
effect Jump place s row = with_value s (λ a rest. jumping place a rest row)
effect Ret place s row = ends returned
effect (Push n) place s row = pushing place n s row
effect (Bnz n) place s row = with_value s (λ a rest. jumping place (branch a (pos place) n) rest row)

-- ════════════════════════════════════════════════════════════════════════════════════════════
-- A run
-- ════════════════════════════════════════════════════════════════════════════════════════════

pub record Kernel : Type 0 where
  pub place : ℕ
  pub stack : List ℤ
  pub row : List ℤ
  pub steps : ℕ

-- from instruction 0 on an empty stack
abbrev pub start : List ℤ → Kernel
start row = record { place = 0; stack = []; row = row; steps = 0 }

-- how the handler ended, the row that it left, and how many instructions were carried out (kernel steps)
pub record Result : Type 0 where
  pub outcome : Outcome
  pub row : List ℤ
  pub steps : ℕ

-- Ret and the jump to −1 count as steps, what fails does not
abbrev pub ended : Outcome → Kernel → Result
ended returned x = record { outcome = returned; row = x.row; steps = suc x.steps }
ended denied x = record { outcome = denied; row = x.row; steps = suc x.steps }
ended failed x = record { outcome = failed; row = x.row; steps = x.steps }

abbrev pub effect_at : Option Instruction → Kernel → Effect
effect_at None x = ends failed
effect_at (Some i) x = effect i x.place x.stack x.row

-- instructions by their places
abbrev pub Code : Type 0
Code = ℕ → Option Instruction

-- what the instruction at the place does
unfoldable pub step : Code → Kernel → Effect
step code x = effect_at (code x.place) x

abbrev pub after : Effect → Kernel → (Kernel → Result) → Result
after (ends o) x k = ended o x
after (goes p s w) x k = k (record { place = p; stack = s; row = w; steps = suc x.steps })

-- at most `fuel` instructions are carried out
unfoldable pub run : Code → ℕ → Kernel → Result
run code zero x = ended failed x
run code (suc fuel) x = after (step code x) x (λ y. run code fuel y)

-- a handler on a row: it may take as many steps as it has instructions
unfoldable pub handle : List Instruction → List ℤ → Result
handle code row = run (slice_get code) (length code) (start row)
