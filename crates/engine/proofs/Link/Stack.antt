-- The words of the lent stack against the machine's list of entries: what is read at the top and below it, and what an
-- entry written above them makes of the list.
-- Assumes nothing.
use mathlib.Core.Path.{◌≡◌, refl, ap, ap₂, ◌∙◌}
use mathlib.Core.Bool.{Bool, true, false}
use mathlib.Core.List.{List, [], ◌∷◌, ◌++◌, append_assoc}
use Prim.Native.Nat.{ℕ, zero, suc, ◌+◌, ◌-◌, ◌*◌, ◌^◌, ◌<◌, ◌≤◌, zero-le}
use native.Mathlib.Nat.{mod-eq_of_lt, add-zero}
use native.Mathlib.Omega.{arith}
use native.Mathlib.Numerals.{add-one}
use lib.IntN.{ℤ, pos}
use lib.ListN.{length, get_or, drop, length-append}
use lib.Seq.{get_or-append-add}
use borrow.Author.Tests.{le-leb, lt-leb, lt-ltb, le-ltb, leb-true, leb-false}
use lib.Dec.{leb}
use Rattle.word.specs.Choose.{choose}
use Rattle.word.specs.Lay.{laid}
use Rattle.word.specs.Wrap.{residue}
use Rattle.word.proofs.Lay.{length-laid}
use Rattle.label.specs.Label.{InRange}
use Rattle.label.specs.Word.{low_label}
use Rattle.machine.specs.Atom.{Atom, Entry, value, frame}
use Rattle.machine.specs.Holds.{Each, EntryHas}
use Rattle.stack.specs.declared.Kind.{Kind}
use Rattle.stack.specs.declared.Kind.TheVariants.{Value, Frame, Owing}
use Rattle.stack.specs.declared.Slot.{Slot}
use Rattle.stack.specs.Words.{machine, slot_of, no_slot, kind_of, entry_at, slot_at, set_entry, pushed_stack, refilled_stack}
use Rattle.stack.specs.Words.{raised, lifted, inserted_stack}
use Rattle.step.specs.Find.{is_value, top_values}
use Rattle.machine.proofs.Request.{Values, none, more}
use Rattle.machine.proofs.Call.{values_length}
use Rattle.engine.specs.Layout.{frame_word, entry_words, stack_words}
use Rattle.stack.proofs.Entry.{slot-entry, refill-push}
use Rattle.engine.proofs.Link.Laid.{laid-again, laid-prefix, laid-over, laid-set}

pub low_label-id : (n : ℕ) → InRange n → low_label (pos n) ≡ n
unfolding low_label residue
low_label-id n h = rw (mod-eq_of_lt {n = n} {m = 2 ^ 64} (omega arith), mod-eq_of_lt h)

entry_words-length : (e : Entry) → length (entry_words e) ≡ 3
entry_words-length (value a) = refl
entry_words-length (frame owes a) = refl

pub stack_words-length : (es : List Entry) → length (stack_words es) ≡ 3 * length es
unfolding stack_words
stack_words-length [] = refl
stack_words-length (e ∷ es) = rw (length-append, entry_words-length e, stack_words-length es) (omega arith)

-- the words st hold the entries es at their start
abbrev pub Held : List Entry → List ℤ → Type 0
Held es st = st ≡ laid (stack_words es) st

-- one entry fewer is held too
pub held-tail : (e : Entry) (es : List Entry) {st : List ℤ} → Held (e ∷ es) st → Held es st
unfolding stack_words
held-tail e es h = laid-prefix (stack_words es) (entry_words e) h

-- ════════════════════════════════════════════════════════════════════════════════════════════
-- Reading
-- ════════════════════════════════════════════════════════════════════════════════════════════

-- three words after others, read
entry_read : (words : List ℤ) (k n : ℤ) (label i : ℕ) {st : List ℤ} → length words ≡ 3 * i → InRange label
    → st ≡ laid (words ++ (k ∷ n ∷ pos label ∷ [])) st → entry_at st i ≡ slot_of (kind_of k) n label
unfolding entry_at laid
entry_read words k n label i {st} l h e = rw (rw add-zero at (read 0), read 1, read 2, low_label-id label h)
  where
    entry : List ℤ
    entry = k ∷ n ∷ pos label ∷ []

    rest : List ℤ
    rest = drop (length (words ++ entry)) st

    read : (j : ℕ) → get_or st (3 * i + j) (pos 0) ≡ get_or (entry ++ rest) j (pos 0)
    read j =
        ap (λ (x : List ℤ). get_or x (3 * i + j) (pos 0)) e
        ∙ rw (append_assoc words entry rest, ← l) (get_or-append-add words (entry ++ rest) j (pos 0))

-- what stands on top
abbrev pub top_slot : List Entry → Slot
top_slot [] = no_slot
top_slot (value a ∷ es) = slot_of Value a.number a.label
top_slot (frame owes a ∷ es) = slot_of (choose owes Owing Frame) a.number a.label

-- the entries below the top
abbrev pub below : List Entry → List Entry
below [] = []
below (e ∷ es) = es

abbrev pub Labelled : List Entry → Type 0
Labelled es = Each (EntryHas (λ n. Unit) InRange) es

entry_top : (e : Entry) (es : List Entry) {st : List ℤ} → Held (e ∷ es) st → Labelled (e ∷ es)
    → entry_at st (length es) ≡ top_slot (e ∷ es)
unfolding stack_words
entry_top (value a) es h r = entry_read (stack_words es) (pos 0) a.number a.label (length es) (stack_words-length es) r.0.1 h
entry_top (frame owes a) es {st} h r =
    entry_read (stack_words es) (frame_word owes) a.number a.label (length es) (stack_words-length es) r.0.1 h
    ∙ ap (λ (k : Kind). slot_of k a.number a.label) (by owes)
  where
    by : (b : Bool) → kind_of (frame_word b) ≡ choose b Owing Frame
    by true = refl
    by false = refl

pub slot-top : (es : List Entry) {st : List ℤ} → Held es st → Labelled es → length es ≤ 256 → 768 ≤ length st
    → slot_at st (length es) 0 ≡ top_slot es
unfolding slot_at
slot-top [] h r fits space = refl
slot-top (e ∷ es) {st} h r fits space =
    slot-entry st (suc (length es)) 0 (length es) (omega arith) fits space (omega arith) ∙ entry_top e es h r

pub slot-below : (es : List Entry) {st : List ℤ} → Held es st → Labelled es → length es ≤ 256 → 768 ≤ length st
    → slot_at st (length es) 1 ≡ top_slot (below es)
unfolding slot_at
slot-below [] h r fits space = refl
slot-below (e ∷ []) h r fits space = refl
slot-below (d ∷ e ∷ es) {st} h r fits space =
    slot-entry st (suc (suc (length es))) 1 (length es) (omega arith) fits space (omega arith)
    ∙ entry_top e es (held-tail d (e ∷ es) h) r.1

leb-suc : (a b : ℕ) → leb (suc a) (suc b) ≡ leb a b
leb-suc a b = by (leb a b) refl
  where
    by : (t : Bool) → leb a b ≡ t → leb (suc a) (suc b) ≡ t
    by true e = le-leb (suc a) (suc b) (omega (arith, leb-true a b e))
    by false e = lt-leb (suc a) (suc b) (omega (arith, leb-false a b e))

-- one entry fewer, looked at one higher
slot-lower : (st : List ℤ) (depth below : ℕ) → suc depth ≤ 256 → slot_at st (suc depth) (suc below) ≡ slot_at st depth below
unfolding slot_at
slot-lower st depth below h =
    let i : suc depth - suc below - 1 ≡ depth - below - 1 = omega arith in
    rw (leb-suc depth below, le-ltb 256 (suc depth) h, le-ltb 256 depth (omega arith), i)

-- the topmost entries are values where the top is one, and those below it are
pub top-values : (st : List ℤ) (depth n : ℕ) → suc depth ≤ 256
    → top_values st (suc depth) (suc n) ≡ choose (is_value (slot_at st (suc depth) 0)) (top_values st depth n) false
unfolding top_values
top-values st depth zero h = refl
top-values st depth (suc n) h =
    ap₂ (λ (s : Slot) (b : Bool). choose (is_value s) b false) (slot-lower st depth n h) (top-values st depth n h)
    ∙ swapped (is_value (slot_at st depth n)) (is_value (slot_at st (suc depth) 0)) (top_values st depth n)
  where
    swapped : (a b c : Bool) → choose a (choose b c false) false ≡ choose b (choose a c false) false
    swapped true true c = refl
    swapped true false c = refl
    swapped false true c = refl
    swapped false false c = refl

pub no-values : (st : List ℤ) (n : ℕ) → top_values st 0 (suc n) ≡ false
unfolding top_values slot_at
no-values st n = rw (le-leb 0 n zero-le)

-- ════════════════════════════════════════════════════════════════════════════════════════════
-- Writing
-- ════════════════════════════════════════════════════════════════════════════════════════════

-- three words written after others
entry-written : (words old : List ℤ) (k n : ℤ) (label i : ℕ) {st : List ℤ} → length words ≡ 3 * i → 3 * suc i ≤ length old
    → st ≡ laid words old → set_entry st i k n label ≡ laid (words ++ (k ∷ n ∷ pos label ∷ [])) old
unfolding set_entry
entry-written words old k n label i {st} l h e =
    let first : length (words ++ (k ∷ [])) ≡ 3 * i + 1 = rw length-append (omega arith) in
    let second : length (words ++ (k ∷ []) ++ (n ∷ [])) ≡ 3 * i + 2 = rw (length-append, length-append) (omega arith) in
    rw (
      e,
      laid-set words k old (3 * i) l (omega arith),
      laid-set (words ++ (k ∷ [])) n old (3 * i + 1) first (omega arith),
      laid-set (words ++ (k ∷ []) ++ (n ∷ [])) (pos label) old (3 * i + 2) second (omega arith),
    ) (simp append_assoc)

-- an entry's kind word, and its atom
abbrev pub kind_word : Entry → ℤ
kind_word (value a) = pos 0
kind_word (frame owes a) = frame_word owes

abbrev pub atom_of : Entry → Atom
atom_of (value a) = a
atom_of (frame owes a) = a

-- an entry written above entries that are laid over `old`
entry-laid : (e : Entry) (es : List Entry) (old : List ℤ) {st : List ℤ} → 3 * suc (length es) ≤ length old
    → st ≡ laid (stack_words es) old
    → set_entry st (length es) (kind_word e) (atom_of e).number (atom_of e).label ≡ laid (stack_words (e ∷ es)) old
unfolding stack_words
entry-laid (value a) es old h g = entry-written (stack_words es) old (pos 0) a.number a.label (length es) (stack_words-length es) h g
entry-laid (frame owes a) es old h g =
    entry-written (stack_words es) old (frame_word owes) a.number a.label (length es) (stack_words-length es) h g

pub stack-pushed : (pc : ℤ) (label lines : ℕ) (e : Entry) (es : List Entry) (old : List ℤ) {st : List ℤ}
    → length es < 256 → 768 ≤ length old → st ≡ laid (stack_words es) old
    → pushed_stack (machine pc label (length es) lines) st (kind_word e) (atom_of e).number (atom_of e).label
    ≡ laid (stack_words (e ∷ es)) old
unfolding pushed_stack
stack-pushed pc label lines e es old {st} h room g =
    let fits : length (stack_words es) ≤ length old = rw (stack_words-length es) (omega arith) in
    let same : length st ≡ length old = rw g (length-laid (stack_words es) old fits) in
    rw (lt-ltb (length es) 256 h, le-leb 768 (length st) (omega arith)) (entry-laid e es old (omega arith) g)

-- a value written in place of one that stood above them
pub stack-refilled : (pc : ℤ) (label lines : ℕ) (n : ℤ) (p depth below : ℕ) (es : List Entry) {st : List ℤ}
    → length es < 256 → 768 ≤ length st → st ≡ laid (stack_words es) st
    → length es ≡ depth - below - 1 → (slot_at st depth below).kind ≡ Value
    → refilled_stack (machine pc label (length es) lines) st n p ≡ laid (stack_words (value (record { number = n; label = p }) ∷ es)) st
stack-refilled pc label lines n p depth below es {st} h room held e kind =
    refill-push (machine pc label (length es) lines) st depth below n p e kind
    ∙ stack-pushed pc label lines (value (record { number = n; label = p })) es st h room held

-- ════════════════════════════════════════════════════════════════════════════════════════════
-- A frame under values
-- ════════════════════════════════════════════════════════════════════════════════════════════

-- a value that is raised stands twice
value-raised : (a : Atom) (es : List Entry) {st : List ℤ} → 3 * suc (suc (length es)) ≤ length st → Held (value a ∷ es) st
    → Labelled (value a ∷ es) → raised st (length es) ≡ laid (stack_words (value a ∷ value a ∷ es)) st
unfolding raised
value-raised a es h held labels =
    rw (entry_top (value a) es held labels, add-one) (entry-laid (value a) (value a ∷ es) _ h held)

-- an entry put under values that are lifted; the top falls out
entry_inserted : (t f : Entry) {n : ℕ} (arguments rest : List Entry) {st : List ℤ} → Values n arguments
    → 3 * suc (length (arguments ++ rest)) ≤ length st → Held (t ∷ arguments ++ rest) st → Labelled (arguments ++ rest)
    → set_entry (lifted st (length rest) n) (length rest) (kind_word f) (atom_of f).number (atom_of f).label
    ≡ laid (stack_words (arguments ++ (f ∷ rest))) st
unfolding lifted stack_words
entry_inserted t f [] rest none h held labels = entry-laid f rest _ h (held-tail t rest held)
entry_inserted t f {n = suc n} (value a ∷ arguments) rest {st} (more v) h held labels =
    let es = arguments ++ rest in
    let under : Held (value a ∷ es) st = held-tail t (value a ∷ es) held in
    let place : length rest + n ≡ length es = rw length-append (omega (arith, values_length v)) in
    let above : raised st (length rest + n) ≡ laid (stack_words (value a ∷ value a ∷ es)) st =
    rw place (value-raised a es (omega arith) under labels) in
    let fits : length (stack_words (value a ∷ value a ∷ es)) ≤ length st = rw (stack_words-length (value a ∷ value a ∷ es)) (omega arith) in
    let same : length (raised st (length rest + n)) ≡ length st = rw above (length-laid (stack_words (value a ∷ value a ∷ es)) st fits) in
    let next : Held (value a ∷ es) (raised st (length rest + n)) =
    held-tail (value a) (value a ∷ es) (laid-again (stack_words (value a ∷ value a ∷ es)) st above) in
    let size : length (stack_words (arguments ++ (f ∷ rest))) ≡ length (stack_words (value a ∷ es)) =
    rw (stack_words-length, stack_words-length, length-append, length-append) (omega arith) in
    entry_inserted (value a) f arguments rest v (omega arith) next labels.1
    ∙ ap (laid (stack_words (arguments ++ (f ∷ rest)))) above
    ∙ laid-over (stack_words (arguments ++ (f ∷ rest))) (stack_words (value a ∷ es)) (entry_words (value a)) st size
entry_inserted t f {n = zero} (_ ∷ arguments) rest {st = st} x6 h held labels = elim x6 [ ]
entry_inserted t f {n = suc n} (frame _ _ ∷ arguments) rest {st = st} x10 h held labels = elim x10 [ ]

pub stack-inserted : (pc : ℤ) (label lines : ℕ) (t f : Entry) {n : ℕ} (arguments rest : List Entry) {st : List ℤ} → Values n arguments
    → length (t ∷ arguments ++ rest) ≤ 256 → 768 ≤ length st → Held (t ∷ arguments ++ rest) st → Labelled (arguments ++ rest)
    → inserted_stack (machine pc label (length (t ∷ arguments ++ rest)) lines) n st (kind_word f) (atom_of f).number (atom_of f).label
    ≡ laid (stack_words (arguments ++ (f ∷ rest))) st
unfolding inserted_stack
stack-inserted pc label lines t f {n = n} arguments rest {st} v depth room held labels =
    let size : length (arguments ++ rest) ≡ n + length rest = rw (length-append, values_length v) in
    let i : suc (length (arguments ++ rest)) - n - 1 ≡ length rest = omega arith in
    rw (lt-ltb n (suc (length (arguments ++ rest))) (omega arith), le-leb _ 256 depth, le-leb 768 (length st) room, i)
    (entry_inserted t f arguments rest v (omega arith) held labels)
