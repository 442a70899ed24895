-- What a reader sees of a state, its view, and the machine on views: each command does to a view what it does to a
-- state, as far as that is seen.
-- Assumes nothing.
use Rattle.std.proofs.Common.{None, Option, Some}
use mathlib.Core.List.{List, [], ◌∷◌, ◌++◌, map}
use Prim.Native.Nat.{ℕ, zero, suc}
use lib.IntN.{ℤ, pos, negsuc, ◌+ℤ◌, ◌-ℤ◌}
use lib.ListN.{length, set}
use lib.Dec.{ltb}
use mathlib.Core.Bool.{Bool, true, false}
use Rattle.word.specs.Choose.{choose}
use Rattle.label.specs.Label.{bottom}
use Rattle.program.specs.declared.Command.{Command}
use Rattle.program.specs.Command.{arguments_of, results_of}
use Rattle.program.specs.declared.Command.TheVariants.{Add, Sub, Pop, Output, Push, Load, Store, Jump, Bnz, Call, Ret, OutputTo, CallN, RetV}
use Rattle.machine.specs.Atom.{Atom, Entry, value, frame, Line, number_line, end_line}
use Rattle.machine.specs.State.{State}
use Rattle.machine.specs.Step.{atom, branch}
use Rattle.machine.specs.Run.{at_end, command_at}
use Rattle.machine.specs.Claim.{view}
use Rattle.machine.proofs.Privacy.Seen.{Seen, shown, unseen, see, one, both}

-- a stack entry: a value, or a return frame, of which it is seen whether a result is due
pub data Slot : Type 0 where
  holds : Seen → Slot
  returns : Bool → Seen → Slot

pub record View : Type 0 where
  pub pc : Seen
  pub stack : List Slot
  pub memory : List Seen
  pub lines : List Line

abbrev pub slot : ℕ → Entry → Slot
slot S (value a) = holds (see S a)
slot S (frame owes a) = returns owes (see S a)

-- what a reader of S sees of a state, entry for entry and cell for cell
abbrev pub erase : ℕ → State → View
erase S s =
    record { pc = see S s.pc; stack = map (slot S) s.stack; memory = map (see S) s.memory; lines = view S s.lines }

-- ════════════════════════════════════════════════════════════════════════════════════════════
-- The commands on a view. Where a command lacks something the view stays
-- ════════════════════════════════════════════════════════════════════════════════════════════

-- a value on top
abbrev pub pull : View → List Slot → (Seen → List Slot → View) → View
pull v [] k = v
pull v (holds x ∷ rest) k = k x rest
pull v (returns owes x ∷ rest) k = v

-- two values on top
abbrev pub pulls : View → List Slot → (Seen → Seen → List Slot → View) → View
pulls v es k = pull v es (λ x below. pull v below (λ y rest. k x y rest))

-- so many values on top
abbrev pub grab : View → ℕ → List Slot → (List Slot → List Slot → View) → View
grab v zero es k = k [] es
grab v (suc n) es k = pull v es (λ x below. grab v n below (λ arguments rest. k (holds x ∷ arguments) rest))

-- a frame on top that owes what is returned
abbrev pub agreeing : View → (gives owes : Bool) → View → View
agreeing v true true w = w
agreeing v true false w = v
agreeing v false true w = v
agreeing v false false w = w

abbrev pub unwind : View → (gives : Bool) → List Slot → (Seen → List Slot → View) → View
unwind v gives [] k = v
unwind v gives (holds x ∷ rest) k = v
unwind v gives (returns owes x ∷ rest) k = agreeing v gives owes (k x rest)

-- the cell at an address, if the address is seen
abbrev pub element : List Seen → ℕ → Seen
element [] i = unseen
element (x ∷ cells) zero = x
element (x ∷ cells) (suc i) = element cells i

abbrev pub cell_at : List Seen → ℤ → Seen
cell_at cells (pos i) = element cells i
cell_at cells (negsuc i) = unseen

abbrev pub cell : List Seen → Seen → Seen
cell cells (shown a) = cell_at cells a.number
cell cells unseen = unseen

-- the cells after a Store at an address; at one that is not seen nothing seen changes
abbrev pub changed_at : List Seen → ℤ → Seen → List Seen
changed_at cells (pos i) x = set cells i x
changed_at cells (negsuc i) x = cells

abbrev pub changed : List Seen → Seen → Seen → List Seen
changed cells (shown a) x = changed_at cells a.number x
changed cells unseen x = cells

-- the line that is written, if it is seen: of an atom that is dropped for a page, and of the place at the end
abbrev pub line_of : ℤ → Atom → Line
line_of page a = number_line page a.number a.label

abbrev pub end_of : Atom → Line
end_of p = end_line p.label

abbrev pub written : (Atom → Line) → Seen → List Line
written line (shown a) = line a ∷ []
written line unseen = []

abbrev pub first : ℤ → ℤ → ℤ
first m n = m

abbrev pub second : ℤ → ℤ → ℤ
second m n = n

abbrev pub increment : ℤ → ℤ
increment n = n +ℤ pos 1

-- the next place
abbrev pub following : Seen → Seen
following p = one increment p

-- another place and stack
abbrev pub move_to : View → Seen → List Slot → View
move_to v p stack = record { pc = p; stack = stack; memory = v.memory; lines = v.lines }

abbrev pub onward : View → List Slot → View
onward v stack = move_to v (following v.pc) stack

-- Store's effect, with the address and what it stores; Output's and OutputTo's, with the page and the line
abbrev pub store_to : View → List Slot → Seen → Seen → View
store_to v stack x y = record { pc = following v.pc; stack = stack; memory = changed v.memory x y; lines = v.lines }

abbrev pub print : View → ℤ → List Slot → Seen → View
print v page stack x = record { pc = following v.pc; stack = stack; memory = v.memory; lines = v.lines ++ written (line_of page) x }

abbrev pub prints : View → ℤ → View
prints v page = pull v v.stack (λ x rest. print v page rest (both first x v.pc))

-- Add's and Sub's: the whole number made of the two values on top
abbrev pub make : View → (ℤ → ℤ → ℤ) → View
make v f = pulls v v.stack (λ x y rest. onward v (holds (both f x y) ∷ rest))

-- Call's and CallN's: the frame stands under the arguments
abbrev pub enter : View → (arguments results : ℕ) → View
enter v n results =
    pull v v.stack (λ x below. grab v n below (λ arguments rest.
    move_to v (both first x v.pc) (arguments ++ (returns (ltb 0 results) (following v.pc) ∷ rest))))

unfoldable pub act : Command → View → View
act Add v = make v ◌+ℤ◌
act Sub v = make v ◌-ℤ◌
act Pop v = pull v v.stack (λ x rest. onward v rest)
act Output v = prints v (pos 0)
act (Push n) v = onward v (holds (shown (atom n bottom)) ∷ v.stack)
act Load v = pull v v.stack (λ x rest. onward v (holds (both second x (cell v.memory x)) ∷ rest))
act Store v =
    pulls v v.stack (λ x y rest. store_to v rest (both first x v.pc) (both first (both second x y) v.pc))
act Jump v = pull v v.stack (λ x rest. move_to v (both first x v.pc) rest)
act (Bnz n) v = pull v v.stack (λ x rest. move_to v (both (λ m place. branch m place n) x v.pc) rest)
act Call v = enter v 1 0
act Ret v = unwind v false v.stack (λ x rest. move_to v x rest)
act (OutputTo page) v = prints v page
act (CallN z) v = enter v (arguments_of z) (results_of z)
act RetV v = pull v v.stack (λ y below. unwind v true below (λ x rest. move_to v x (holds (both first y v.pc) ∷ rest)))

-- ════════════════════════════════════════════════════════════════════════════════════════════
-- Runs on views. While the place is not seen, neither is the stack above the topmost frame that is seen
-- ════════════════════════════════════════════════════════════════════════════════════════════

abbrev pub cut : List Slot → List Slot
cut [] = []
cut (holds x ∷ rest) = cut rest
cut (returns owes (shown a) ∷ rest) = returns owes (shown a) ∷ rest
cut (returns owes unseen ∷ rest) = cut rest

abbrev pub cut_at : Seen → List Slot → List Slot
cut_at (shown p) es = es
cut_at unseen es = cut es

abbrev pub trim : View → View
trim v = record { pc = v.pc; stack = cut_at v.pc v.stack; memory = v.memory; lines = v.lines }

abbrev pub act_some : Option Command → View → View
act_some None v = v
act_some (Some c) v = act c v

-- the end line
abbrev pub close : View → View
close v = record { pc = v.pc; stack = v.stack; memory = v.memory; lines = v.lines ++ written end_of v.pc }

abbrev pub act_at : List Command → ℤ → View → View
act_at cs z v = choose (at_end (length cs) z) (close v) (act_some (command_at cs z) v)

-- what a return from a place that is not seen leaves on the stack: the frame decides, for only a return that gives what it owes is carried
-- out (stop 11); a result has the place's label and is not seen
abbrev pub left : (owes : Bool) → List Slot → List Slot
left true rest = holds unseen ∷ rest
left false rest = rest

abbrev pub back : View → List Slot → View
back v [] = v
back v (holds x ∷ rest) = v
back v (returns owes x ∷ rest) = move_to v x (left owes rest)

-- the command at a place that is seen, or the end; otherwise all that can be seen is the return to a frame
abbrev pub act_here : List Command → Seen → View → View
act_here cs (shown p) v = act_at cs p.number v
act_here cs unseen v = back v v.stack

unfoldable pub move : List Command → View → View
move cs v = trim (act_here cs v.pc v)

abbrev pub moves : List Command → ℕ → View → View
moves cs zero v = v
moves cs (suc n) v = moves cs n (move cs v)
