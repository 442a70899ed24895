-- Rules: whether a command is allowed, the new place label and the result label. A policy gives these for every key.
use Rattle.std.specs.Prelude.{ℕ, Bool, true, false, ℤ, pos, negsuc}
use Rattle.label.specs.Label.{bottom, join, flows}
use Rattle.program.specs.Command.{Opcode, add, sub, pop, output, push, load, store, jump, bnz, call, ret, output_to, call_n, ret_v}

-- an input of a command: its label, or the mark of a missing input
pub data Input : Type 0 where
  present : ℕ → Input
  missing : Input

-- its word in the rule memory: −1 stands for a missing input
abbrev pub input_word : Input → ℤ
input_word (present l) = pos l
input_word missing = negsuc 0

-- what a rule is asked with: the command, the place label P and the labels L1 to L3 of the inputs
pub record Key : Type 0 where
  pub opcode : Opcode
  pub pc : ℕ
  pub input1 : Input
  pub input2 : Input
  pub input3 : Input

-- what a rule answers: not allowed, or allowed with the new place label and the result label
pub data Verdict : Type 0 where
  denied : Verdict
  allowed : ℕ → ℕ → Verdict

abbrev pub Policy : Type 0
Policy = Key → Verdict

-- a ruler is asked the same and may keep a state of its own: what it answers in a state, and the state that it is in then
pub record Ruling (R : Type 0) : Type 0 where
  pub verdict : Verdict
  pub ruler : R

abbrev pub Ruler : Type 0 → Type 0
Ruler R = R → Key → Ruling R

-- the policy that it is in a state
abbrev pub rules : {R : Type 0} → Ruler R → R → Policy
rules ρ u k = (ρ u k).verdict

-- a policy is a ruler that keeps nothing
abbrev pub fixed : Policy → Ruler Unit
fixed π u k = record { verdict = π k; ruler = u }

-- the label of an input that the command supplies
abbrev pub label_of : Input → ℕ
label_of (present l) = l
label_of missing = bottom

abbrev pub allowed_if : Bool → ℕ → ℕ → Verdict
allowed_if true p r = allowed p r
allowed_if false p r = denied

-- the standard table, as document 01 writes it: P, then L1 to L3; OutputTo is under Output's rule, CallN under Call's
abbrev pub rule : Opcode → ℕ → ℕ → ℕ → ℕ → Verdict
rule add p l1 l2 l3 = allowed p (join l1 l2)
rule sub p l1 l2 l3 = allowed p (join l1 l2)
rule pop p l1 l2 l3 = allowed p bottom
rule output p l1 l2 l3 = allowed p (join l1 p)
rule push p l1 l2 l3 = allowed p bottom
rule load p l1 l2 l3 = allowed p (join l1 l2)
rule store p l1 l2 l3 = allowed_if (flows (join l1 p) l3) p (join (join l1 l2) p)
rule jump p l1 l2 l3 = allowed (join l1 p) bottom
rule bnz p l1 l2 l3 = allowed (join l1 p) bottom
rule call p l1 l2 l3 = allowed (join l1 p) p
rule ret p l1 l2 l3 = allowed l1 bottom
rule output_to p l1 l2 l3 = allowed p (join l1 p)
rule call_n p l1 l2 l3 = allowed (join l1 p) p
rule ret_v p l1 l2 l3 = allowed l2 (join l1 p)

unfoldable pub standard : Policy
standard k = rule k.opcode k.pc (label_of k.input1) (label_of k.input2) (label_of k.input3)
