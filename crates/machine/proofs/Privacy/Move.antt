-- The machine on views: while the place is not seen, a command leaves the trimmed view or returns to the frame on top of
-- it; and moves only add lines.
-- Assumes nothing.
use Rattle.std.proofs.Common.{None, Option, Some}
use mathlib.Core.Path.{◌≡◌, refl, ◌∙◌}
use mathlib.Core.Logic.{◌⊎◌, inl, inr}
use mathlib.Core.Bool.{Bool, true, false}
use mathlib.Core.List.{List, [], ◌∷◌, ◌++◌, append-nil, append_assoc}
use Prim.Native.Nat.{ℕ, zero, suc}
use lib.Seq.{take-append_seam}
use lib.IntN.{ℤ, pos}
use lib.ListN.{length}
use Rattle.word.specs.Choose.{choose}
use Rattle.program.specs.declared.Command.{Command}
use Rattle.program.specs.Command.{arguments_of, results_of}
use Rattle.program.specs.declared.Command.TheVariants.{Add, Sub, Pop, Output, Push, Load, Store, Jump, Bnz, Call, Ret, OutputTo, CallN, RetV}
use Rattle.machine.specs.Atom.{Atom, Line}
use Rattle.machine.specs.Claim.{Start, OneStartsOther}
use Rattle.machine.specs.Run.{at_end, command_at}
use Rattle.machine.proofs.Privacy.Seen.{Seen, shown, unseen, show_if, both}
use Rattle.machine.proofs.Privacy.Erasure.{View, Slot, holds, returns, pull, pulls, grab, unwind, first, line_of, end_of, written}
use Rattle.machine.proofs.Privacy.Erasure.{prints, enter, act, cut, trim, act_some, close, act_at, back, act_here, move, moves}

-- what a command does with the values on top, which stand above every frame
pull-all : (P : View → Type 0) (v : View) (es : List Slot) (k : Seen → List Slot → View)
    → P v → ((x : Seen) (rest : List Slot) → cut es ≡ cut rest → P (k x rest)) → P (pull v es k)
pull-all P v [] k h f = h
pull-all P v (holds x ∷ rest) k h f = f x rest refl
pull-all P v (returns owes x ∷ rest) k h f = h

pulls-all : (P : View → Type 0) (v : View) (es : List Slot) (k : Seen → Seen → List Slot → View)
    → P v → ((x y : Seen) (rest : List Slot) → cut es ≡ cut rest → P (k x y rest)) → P (pulls v es k)
pulls-all P v es k h f = pull-all P v es _ h (λ x below e. pull-all P v below _ h (λ y rest g. f x y rest (e ∙ g)))

-- values stand above every frame, however many
grab-all : (P : View → Type 0) (v : View) (n : ℕ) (es : List Slot) (k : List Slot → List Slot → View) → P v
    → ((arguments rest : List Slot) → ((es : List Slot) → cut (arguments ++ es) ≡ cut es) → cut es ≡ cut rest → P (k arguments rest))
    → P (grab v n es k)
grab-all P v zero es k h f = f [] es (λ es. refl) refl
grab-all P v (suc n) es k h f =
    pull-all P v es _ h (λ x below e. grab-all P v n below _ h (λ arguments rest above g. f (holds x ∷ arguments) rest above (e ∙ g)))

-- ════════════════════════════════════════════════════════════════════════════════════════════
-- A place that is not seen
-- ════════════════════════════════════════════════════════════════════════════════════════════

abbrev within : List Slot → List Seen → List Line → View
within es cells ls = record { pc = unseen; stack = es; memory = cells; lines = ls }

-- a command leaves what is seen, or is seen as a return
abbrev pub Quiet : View → View → Type 0
Quiet v w = (trim w ≡ trim v) ⊎ (trim w ≡ trim (back (trim v) (trim v).stack))

-- a return to a frame that is seen is the one that this frame owes; to one that is not it stays unseen
module _ (cells : List Seen) (ls : List Line) where
  ret-quiet : (es : List Slot) → Quiet (within es cells ls) (act Ret (within es cells ls))
  unfolding act
  ret-quiet [] = inl refl
  ret-quiet (holds x ∷ rest) = inl refl
  ret-quiet (returns true x ∷ rest) = inl refl
  ret-quiet (returns false (shown a) ∷ rest) = inr refl
  ret-quiet (returns false unseen ∷ rest) = inl refl

  ret_v-quiet : (es : List Slot) → Quiet (within es cells ls) (act RetV (within es cells ls))
  unfolding act
  ret_v-quiet [] = inl refl
  ret_v-quiet (returns owes x ∷ rest) = inl refl
  ret_v-quiet (holds y ∷ []) = inl refl
  ret_v-quiet (holds y ∷ holds x ∷ rest) = inl refl
  ret_v-quiet (holds y ∷ returns false x ∷ rest) = inl refl
  ret_v-quiet (holds y ∷ returns true (shown a) ∷ rest) = inr refl
  ret_v-quiet (holds y ∷ returns true unseen ∷ rest) = inl refl

module _ (es : List Slot) (cells : List Seen) (ls : List Line) where
  abbrev before : View
  before = within es cells ls

  pull-quiet : (k : Seen → List Slot → View)
      → ((x : Seen) (rest : List Slot) → cut es ≡ cut rest → trim (k x rest) ≡ trim before)
      → Quiet before (pull before es k)
  pull-quiet k f = pull-all (Quiet before) before es k (inl refl) (λ x rest e. inl (f x rest e))

  pulls-quiet : (k : Seen → Seen → List Slot → View)
      → ((x y : Seen) (rest : List Slot) → cut es ≡ cut rest → trim (k x y rest) ≡ trim before)
      → Quiet before (pulls before es k)
  pulls-quiet k f = pulls-all (Quiet before) before es k (inl refl) (λ x y rest e. inl (f x y rest e))

  enter-quiet : (n results : ℕ) → Quiet before (enter before n results)
  enter-quiet n results =
      pull-all (Quiet before) before es _ (inl refl) (λ x below e.
      grab-all (Quiet before) before n below _ (inl refl) (λ arguments rest above g. inl (rw (above, e, g))))

  act-quiet : (c : Command) → Quiet before (act c before)
  unfolding act
  act-quiet Add = pulls-quiet _ (λ x y rest e. rw e)
  act-quiet Sub = pulls-quiet _ (λ x y rest e. rw e)
  act-quiet Pop = pull-quiet _ (λ x rest e. rw e)
  act-quiet Output = pull-quiet _ (λ x rest e. rw (e, append-nil))
  act-quiet (Push n) = inl refl
  act-quiet Load = pull-quiet _ (λ x rest e. rw e)
  act-quiet Store = pulls-quiet _ (λ x y rest e. rw e)
  act-quiet Jump = pull-quiet _ (λ x rest e. rw e)
  act-quiet (Bnz n) = pull-quiet _ (λ x rest e. rw e)
  act-quiet Call = enter-quiet 1 0
  act-quiet Ret = ret-quiet cells ls es
  act-quiet (OutputTo page) = pull-quiet _ (λ x rest e. rw (e, append-nil))
  act-quiet (CallN z) = enter-quiet (arguments_of z) (results_of z)
  act-quiet RetV = ret_v-quiet cells ls es

-- what holds of a view and of what each command and the end make of it holds of what the place makes of it
module _ (P : View → Type 0) (v : View) (stays : P v) (closes : P (close v)) (acts : (c : Command) → P (act c v)) where
  some-all : (o : Option Command) → P (act_some o v)
  some-all None = stays
  some-all (Some c) = acts c

  at_all : (cs : List Command) (z : ℤ) → P (act_at cs z v)
  at_all cs z = go (at_end (length cs) z)
    where
      go : (b : Bool) → P (choose b (close v) (act_some (command_at cs z) v))
      go true = closes
      go false = some-all (command_at cs z)

  here-all : P (back v v.stack) → (cs : List Command) (p : Seen) → P (act_here cs p v)
  here-all returned cs (shown p) = at_all cs p.number
  here-all returned cs unseen = returned

-- the command at a place, seen or not, leaves the trimmed view or moves it
abbrev pub Moves : List Command → View → View → Type 0
Moves cs v w = (trim w ≡ trim v) ⊎ (trim w ≡ move cs (trim v))

pub at-moves : (cs : List Command) (b : Bool) (p : Atom) (es : List Slot) (cells : List Seen) (ls : List Line)
    → let v : View = record { pc = show_if b p; stack = es; memory = cells; lines = ls } in Moves cs v (act_at cs p.number v)
unfolding move
at-moves cs true p es cells ls = inr refl
at-moves cs false p es cells ls =
    at_all (Quiet (within es cells ls)) (within es cells ls) (inl refl) (inl (rw append-nil)) (act-quiet es cells ls) cs p.number

-- ════════════════════════════════════════════════════════════════════════════════════════════
-- Lines are only added
-- ════════════════════════════════════════════════════════════════════════════════════════════

-- the second list is the first with more lines after it
abbrev Adds : List Line → List Line → Type 0
Adds ls ms = (more : List Line) × (ms ≡ ls ++ more)

adds_none : (ls ms : List Line) → ms ≡ ls → Adds ls ms
adds_none ls ms e = ([], rw append-nil e)

module _ (v : View) where
  abbrev Grown : View → Type 0
  Grown w = Adds v.lines w.lines

  kept : (w : View) → w.lines ≡ v.lines → Grown w
  kept w e = adds_none v.lines w.lines e

  pull-adds : (k : Seen → List Slot → View) → ((x : Seen) (rest : List Slot) → Grown (k x rest)) → Grown (pull v v.stack k)
  pull-adds k f = pull-all Grown v v.stack k (kept v refl) (λ x rest e. f x rest)

  pulls-adds : (k : Seen → Seen → List Slot → View) → ((x y : Seen) (rest : List Slot) → (k x y rest).lines ≡ v.lines)
      → Grown (pulls v v.stack k)
  pulls-adds k f = pulls-all Grown v v.stack k (kept v refl) (λ x y rest e. kept (k x y rest) (f x y rest))

  unwind-adds : (gives : Bool) (es : List Slot) (k : Seen → List Slot → View) → ((x : Seen) (rest : List Slot) → (k x rest).lines ≡ v.lines)
      → Grown (unwind v gives es k)
  unwind-adds gives [] k f = kept v refl
  unwind-adds gives (holds x ∷ rest) k f = kept v refl
  unwind-adds true (returns true x ∷ rest) k f = kept (k x rest) (f x rest)
  unwind-adds true (returns false x ∷ rest) k f = kept v refl
  unwind-adds false (returns true x ∷ rest) k f = kept v refl
  unwind-adds false (returns false x ∷ rest) k f = kept (k x rest) (f x rest)

  back-adds : (es : List Slot) → Grown (back v es)
  back-adds [] = kept v refl
  back-adds (holds x ∷ rest) = kept v refl
  back-adds (returns owes x ∷ rest) = adds_none v.lines _ refl

  enter-adds : (n results : ℕ) → Grown (enter v n results)
  enter-adds n results =
      pull-adds _ (λ x below. grab-all Grown v n below _ (kept v refl) (λ arguments rest above e. adds_none v.lines _ refl))

  prints-adds : (page : ℤ) → Grown (prints v page)
  prints-adds page = pull-adds _ (λ x rest. (written (line_of page) (both first x v.pc), refl))

  act-adds : (c : Command) → Grown (act c v)
  unfolding act
  act-adds Add = pulls-adds _ (λ x y rest. refl)
  act-adds Sub = pulls-adds _ (λ x y rest. refl)
  act-adds Pop = pull-adds _ (λ x rest. adds_none v.lines _ refl)
  act-adds Output = prints-adds (pos 0)
  act-adds (Push n) = adds_none v.lines _ refl
  act-adds Load = pull-adds _ (λ x rest. adds_none v.lines _ refl)
  act-adds Store = pulls-adds _ (λ x y rest. refl)
  act-adds Jump = pull-adds _ (λ x rest. adds_none v.lines _ refl)
  act-adds (Bnz n) = pull-adds _ (λ x rest. adds_none v.lines _ refl)
  act-adds Call = enter-adds 1 0
  act-adds Ret = unwind-adds false v.stack _ (λ x rest. refl)
  act-adds (OutputTo page) = prints-adds page
  act-adds (CallN z) = enter-adds (arguments_of z) (results_of z)
  act-adds RetV = pull-adds _ (λ y below. unwind-adds true below _ (λ x rest. refl))

  move-adds : (cs : List Command) → Grown (move cs v)
  unfolding move
  move-adds cs = here-all Grown v (kept v refl) (written end_of v.pc, refl) act-adds (back-adds v.stack) cs v.pc

moves-adds : (cs : List Command) (n : ℕ) (v : View) → Adds v.lines (moves cs n v).lines
moves-adds cs zero v = adds_none _ _ refl
moves-adds cs (suc n) v =
    let (ls, e) = move-adds v cs in
    let (ms, f) = moves-adds cs n (move cs v) in
    (ls ++ ms, rw (f, e, append_assoc))

adds-start : (ls ms : List Line) → Adds ls ms → Start ls ms
adds-start ls ms (more, e) = rw (e, take-append_seam)

-- of the lines after any two numbers of moves one list is the start of the other
pub moves-start : (cs : List Command) (n m : ℕ) (v : View) → OneStartsOther (moves cs n v).lines (moves cs m v).lines
moves-start cs zero m v = inl (adds-start _ _ (moves-adds cs m v))
moves-start cs (suc n) zero v = inr (adds-start _ _ (moves-adds cs (suc n) v))
moves-start cs (suc n) (suc m) v = moves-start cs n m (move cs v)

-- one more move, at the end
pub moves-suc : (cs : List Command) (n : ℕ) (v : View) → moves cs (suc n) v ≡ move cs (moves cs n v)
moves-suc cs zero v = refl
moves-suc cs (suc n) v = moves-suc cs n (move cs v)
