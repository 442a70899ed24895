-- The machine record and the lent stack, word by word: what the methods of this crate do, for all arguments.
use Rattle.std.specs.Prelude.{ℕ, zero, suc, ◌+◌, ◌-◌, ◌*◌, ◌<◌, ◌≤◌, List, ℤ, pos, negsuc, length, get_or, set, ltb, leb, eqb, None, Ok, Result, Some}
use Rattle.word.specs.Choose.{choose}
use Rattle.word.specs.Wrap.{add_wrap}
use Rattle.label.specs.Word.{low_label}
use Rattle.machine.specs.declared.Stop.{Stop}
use Rattle.stack.specs.declared.Machine.{Machine}
use Rattle.stack.specs.declared.Stepped.{Stepped}
use Rattle.stack.specs.declared.Kind.{Kind}
use Rattle.stack.specs.declared.Kind.TheVariants.{Value, Frame, Owing, Nothing}
use Rattle.stack.specs.declared.Slot.{Slot}

abbrev pub machine : ℤ → ℕ → ℕ → ℕ → Machine
machine pc label depth lines = record { pc = record { 0 = pc }; label = record { 0 = label }; depth = depth; lines = lines }

abbrev pub started : Machine
started = machine (pos 0) 0 0 0

-- one entry more, up to 256
unfoldable pub pushed : Machine → Machine
pushed m = choose (ltb m.depth 256) (machine m.pc.0 m.label.0 (m.depth + 1) m.lines) m

-- three words an entry: kind, number, label
unfoldable pub set_entry : List ℤ → ℕ → ℤ → ℤ → ℕ → List ℤ
set_entry stack i kind number label = set (set (set stack (3 * i) kind) (3 * i + 1) number) (3 * i + 2) (pos label)

-- the space has room for 256 entries, and for one more above so many
abbrev pub if_room : ℕ → List ℤ → List ℤ → List ℤ
if_room depth stack on = choose (ltb depth 256) (choose (leb 768 (length stack)) on stack) stack

unfoldable pub pushed_stack : Machine → List ℤ → ℤ → ℤ → ℕ → List ℤ
pushed_stack m stack kind number label = if_room m.depth stack (set_entry stack m.depth kind number label)

-- the kind stays
unfoldable pub refilled_stack : Machine → List ℤ → ℤ → ℕ → List ℤ
refilled_stack m stack number label =
    if_room m.depth stack (set (set stack (3 * m.depth + 1) number) (3 * m.depth + 2) (pos label))

unfoldable pub dropped : Machine → Machine
dropped m = choose (ltb 0 m.depth) (machine m.pc.0 m.label.0 (m.depth - 1) m.lines) m

unfoldable pub gone : Machine → ℤ → ℕ → Machine
gone m pc label = machine pc label m.depth m.lines

unfoldable pub following : Machine → ℕ → Machine
following m label = gone m (add_wrap m.pc.0 (pos 1)) label

unfoldable pub printed : Machine → ℕ → Machine
printed m room = choose (ltb m.lines room) (machine m.pc.0 m.label.0 m.depth (m.lines + 1)) m

-- what a command came to: carried out, with its line or none, or its stop
abbrev pub Stepping : Type 0
Stepping = Result Stepped Stop

abbrev pub carried : Machine → Stepping
carried m = Ok (record { machine = m; line = None })

abbrev pub printing : Machine → ℤ → ℤ → ℕ → Stepping
printing m page number label = Ok (record { machine = m; line = Some (record { page = page; number = number; label = record { 0 = label } }) })

abbrev pub slot_of : Kind → ℤ → ℕ → Slot
slot_of kind number label = record { kind = kind; number = number; label = record { 0 = label } }

-- where no entry is
abbrev pub no_slot : Slot
no_slot = slot_of Nothing (pos 0) 0

abbrev pub by_kind : {A : Type 0} → Kind → (value frame owing nothing : A) → A
by_kind Value a b c d = a
by_kind Frame a b c d = b
by_kind Owing a b c d = c
by_kind Nothing a b c d = d

-- a stored kind word: 0 is a value's, 2 that of a frame that owes a result, any other that of a frame that owes none
abbrev pub kind_of : ℤ → Kind
kind_of (pos n) = choose (eqb n 0) Value (choose (eqb n 2) Owing Frame)
kind_of (negsuc n) = Frame

-- entry i of the stack, counted from the bottom
unfoldable pub entry_at : List ℤ → ℕ → Slot
entry_at stack i = slot_of (kind_of (get_or stack (3 * i) (pos 0))) (get_or stack (3 * i + 1) (pos 0)) (low_label (get_or stack (3 * i + 2) (pos 0)))

-- an entry of a space for all 256 of them
abbrev pub Entry : List ℤ → ℕ → Type 0
Entry stack i = (i < 256) × (768 ≤ length stack)

-- the value of entry i, stored in the one above it
unfoldable pub raised : List ℤ → ℕ → List ℤ
raised stack i = set_entry stack (i + 1) (pos 0) (entry_at stack i).number (entry_at stack i).label.0

-- so many values from entry i on, each one higher, the uppermost first
unfoldable pub lifted : List ℤ → ℕ → ℕ → List ℤ
lifted stack i zero = stack
lifted stack i (suc n) = lifted (raised stack (i + n)) i n

-- an entry in place of the top, but under the n values below that, which go one higher
unfoldable pub inserted_stack : Machine → ℕ → List ℤ → ℤ → ℤ → ℕ → List ℤ
inserted_stack m n stack kind number label =
    let i = m.depth - n - 1 in
    choose (ltb n m.depth)
    (choose (leb m.depth 256)
    (choose (leb 768 (length stack)) (set_entry (lifted stack i n) i kind number label) stack)
    stack)
    stack

-- the entry so many below the top of a stack of `depth` entries; nothing where these are over 256, or in a space for less
unfoldable pub slot_at : List ℤ → ℕ → ℕ → Slot
slot_at stack depth below =
    choose (leb depth below) no_slot
    (choose (ltb 256 depth) no_slot (choose (ltb (length stack) 768) no_slot (entry_at stack (depth - below - 1))))
