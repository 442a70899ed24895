-- What document 01 asks of the handler of a rule table, which is left to the translator; proofs/Sound.antt shows it of every table that can
-- be written (TableWritable of the policy crate), as every accepted one can. The contracts over rule tables promise it.
use Rattle.std.specs.Prelude.{ℕ, suc, ◌+◌, ◌<◌, ◌≤◌, ◌≡◌, List, [], ◌∷◌, ◌++◌, ℤ, pos, negsuc, length, slice_get}
use Rattle.program.specs.Command.{Opcode, code_of}
use Rattle.machine.specs.Rule.{Key, Verdict, denied, allowed}
use Rattle.machine.specs.Holds.{WellMarked}
use Rattle.policy.specs.Expression.{Table}
use Rattle.policy.specs.Evaluate.{evaluate}
use Rattle.policy.specs.Read.{ReadTable, refused, table}
use Rattle.policy.specs.Row.{key_row, fault_row}
use Rattle.handler.specs.Kernel.{Instruction, Add, Sub, Or, Load, Store, Dup, Swap, Jump, Ret, Push, Bnz}
use Rattle.handler.specs.Kernel.{Outcome, returned, ends, goes, Code, Kernel, start, step, Result, handle}
use Rattle.handler.specs.Kernel as Kernel
use Rattle.handler.specs.Translate.{dispatch, translate}

-- what a verdict comes to: Ret or the jump to −1
abbrev pub outcome_of : Verdict → Outcome
outcome_of denied = Kernel.denied
outcome_of (allowed p r) = returned

-- and the row: both labels written, or the −1 pair as the fault wrote it
abbrev pub row_of : Key → Verdict → List ℤ
row_of k denied = fault_row k
row_of k (allowed p r) = key_row k (pos p) (pos r)

-- kernel steps from one state to another: each goes on at a later place, on a stack of at most 64 entries
pub data Way (code : Code) : Kernel → Kernel → Type 0 where
  here : {x : Kernel} → Way code x x
  next : {x z : Kernel} {p : ℕ} {s w : List ℤ} → step code x ≡ goes p s w → x.place < p → length s ≤ 64
      → Way code (record { place = p; stack = s; row = w; steps = suc x.steps }) z → Way code x z

-- one fault for a key, none of whose kernel steps fails: they lead to a Ret, and both labels of the table are written, or to a jump to −1,
-- and the row is as the fault wrote it. With that last one they are no more than the handler has instructions
pub record Handled (t : Table) (k : Key) (code : List Instruction) (x : Result) : Type 0 where
  pub last : Kernel
  pub way : Way (slice_get code) (start (fault_row k)) last
  pub ending : step (slice_get code) last ≡ ends (outcome_of (evaluate t k))
  pub outcome : x.outcome ≡ outcome_of (evaluate t k)
  pub row : x.row ≡ row_of k (evaluate t k)
  pub left : x.row ≡ last.row
  pub counted : x.steps ≡ suc last.steps
  pub steps : x.steps ≤ length code

-- neither Jump nor Bnz
abbrev pub Straight : Instruction → Type 0
Straight Add = Unit
Straight Sub = Unit
Straight Or = Unit
Straight Load = Unit
Straight Store = Unit
Straight Dup = Unit
Straight Swap = Unit
Straight Jump = ⊥
Straight Ret = Unit
Straight (Push n) = Unit
Straight (Bnz n) = ⊥

-- every jump is forward, not past the end, or to −1, as the instructions are written
pub data Forward : List Instruction → Type 0 where
  none : Forward []
  straight : {i : Instruction} {rest : List Instruction} → Straight i → Forward rest → Forward (i ∷ rest)
  branch : {d : ℕ} {rest : List Instruction} → d ≤ length rest → Forward rest → Forward (Bnz (pos (suc d)) ∷ rest)
  deny : {rest : List Instruction} → Forward rest → Forward (Push (negsuc 0) ∷ Jump ∷ rest)

-- and so is the computed jump of the dispatch, for every command: from instruction 5 to 5 + code, which is within the handler
pub record Jumps (code : List Instruction) : Type 0 where
  pub rest : List Instruction
  pub dispatched : code ≡ dispatch ++ rest
  pub written : Forward rest
  pub computed : (o : Opcode) → (5 < 5 + code_of o) × (5 + code_of o < length code)

-- what is asked of the handler of a table
pub record Sound (t : Table) (code : List Instruction) : Type 0 where
  pub least : 1 ≤ length code
  pub most : length code ≤ 8192
  pub jumps : Jumps code
  pub faults : (k : Key) → WellMarked k → Handled t k code (handle code (fault_row k))

-- of bytes that were read, where they are a table: its handler is as asked, and something holds of both
abbrev pub Handles : ReadTable → (Table → List Instruction → Type 0) → Type 0
Handles (refused r) P = Unit
Handles (table t) P = Sound t (translate t) × P t (translate t)
