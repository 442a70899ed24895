-- Reading a job, as document 01's page program does: each command from the left.
use Rattle.std.specs.Prelude.{ℕ, zero, suc, ◌+◌, List, [], ◌∷◌, ◌++◌, ℤ, pos, nat_abs, length, drop, get_or, ltb, leb, eqb, Err, None, Ok, Option, Result, Some}
use Rattle.word.specs.Field.{unsigned_at, signed_at}
use Rattle.word.specs.Choose.{choose}
use Rattle.report.specs.declared.job.Item.{Item}
use Rattle.report.specs.declared.job.Item.TheVariants.{Cell, Allowance, Reader, Sheet}
use Rattle.report.specs.declared.job.Said.{Said}

-- ════════════════════════════════════════════════════════════════════════════════════════════
-- One command of a job
-- ════════════════════════════════════════════════════════════════════════════════════════════

-- the 4-byte fields unsigned
abbrev pub unsigned : Option ℤ → Option ℕ
unsigned (Some z) = Some (nat_abs z)
unsigned None = None

unfoldable pub four_at : List ℕ → ℕ → Option ℕ
four_at s at = unsigned (unsigned_at 4 s at)

-- 40 cell: 8-byte number, 4-byte label
abbrev pub labelled : ℤ → Option ℕ → Option Item
labelled z (Some l) = Some (Cell z (record { 0 = l }))
labelled z None = None

abbrev pub cell : Option ℤ → Option ℕ → Option Item
cell (Some z) l = labelled z l
cell None l = None

-- 41 allowance (4)
abbrev pub allowance : Option ℕ → Option Item
allowance (Some n) = Some (Allowance n)
allowance None = None

-- 42 reader's set (4)
abbrev pub reader_set : Option ℕ → Option Item
reader_set (Some l) = Some (Reader (record { 0 = l }))
reader_set None = None

-- the command at an offset, its operands after its byte: 40, 41, 42, or 43 sheet; an unknown byte and a cut operand are none
unfoldable pub item_at : List ℕ → ℕ → Option Item
item_at s at =
    choose (eqb (get_or s at 0) 0x40) (cell (signed_at 8 s (at + 1)) (four_at s (at + 9)))
    (choose (eqb (get_or s at 0) 0x41) (allowance (four_at s (at + 1)))
    (choose (eqb (get_or s at 0) 0x42) (reader_set (four_at s (at + 1))) (choose (eqb (get_or s at 0) 0x43) (Some Sheet) None)))

-- ════════════════════════════════════════════════════════════════════════════════════════════
-- The whole job
-- ════════════════════════════════════════════════════════════════════════════════════════════

-- what a job has said so far: its cells as two runs of words, cell 0 first, and what the last 41 and 42 hold
pub record Heard : Type 0 where
  pub values : List ℤ
  pub labels : List ℤ
  pub allowance : ℕ
  pub reader : ℕ

-- missing, they are 1,000,000 and 0
abbrev pub silence : Heard
silence = record { values = []; labels = []; allowance = 1000000; reader = 0 }

abbrev pub with_cell : Heard → ℤ → ℕ → Heard
with_cell h z l =
    record {
      values = h.values ++ (z ∷ []);
      labels = h.labels ++ (pos l ∷ []);
      allowance = h.allowance;
      reader = h.reader;
    }

abbrev pub with_allowance : Heard → ℕ → Heard
with_allowance h n = record { values = h.values; labels = h.labels; allowance = n; reader = h.reader }

abbrev pub with_reader : Heard → ℕ → Heard
with_reader h l = record { values = h.values; labels = h.labels; allowance = h.allowance; reader = l }

-- a job is bad at an offset, or its sheet is the rest from an offset on
pub data Ending : Type 0 where
  bad : ℕ → Ending
  sheet : ℕ → Ending

pub record Reading : Type 0 where
  pub heard : Heard
  pub ending : Ending

abbrev pub reading : Heard → Ending → Reading
reading h e = record { heard = h; ending = e }

-- the 1,025th cell is bad
abbrev pub follow : Option Item → ℕ → Heard → (ℕ → Heard → Reading) → Reading
follow (Some (Cell z l)) at h on = choose (ltb (length h.values) 1024) (on (at + 13) (with_cell h z l.0)) (reading h (bad at))
follow (Some (Allowance n)) at h on = on (at + 5) (with_allowance h n)
follow (Some (Reader l)) at h on = on (at + 5) (with_reader h l.0)
follow (Some Sheet) at h on = reading h (sheet (at + 1))
follow None at h on = reading h (bad at)

-- from an offset on, at most so many commands; with no 43 the offset is the job's length
unfoldable pub read_from : ℕ → List ℕ → ℕ → Heard → Reading
read_from zero s at h = reading h (bad (length s))
read_from (suc n) s at h =
    choose (ltb at (length s)) (follow (item_at s at) at h (λ at' h'. read_from n s at' h')) (reading h (bad (length s)))

-- the length is tested first; a job of n bytes has at most n commands
unfoldable pub read_job : List ℕ → Reading
read_job s = choose (leb (length s) 65536) (read_from (length s) s 0 silence) (reading silence (bad 65536))

-- the sheet is the rest after 43; a bad job has none
abbrev pub sheet_from : List ℕ → Ending → List ℕ
sheet_from job (bad offset) = []
sheet_from job (sheet start) = drop start job

abbrev pub sheet_of : List ℕ → List ℕ
sheet_of job = sheet_from job (read_job job).ending

-- ════════════════════════════════════════════════════════════════════════════════════════════
-- What the job reader answers, and what it leaves in the runs that it is lent for the cells
-- ════════════════════════════════════════════════════════════════════════════════════════════

abbrev pub answer_of : Heard → Ending → Result Said ℕ
answer_of h (bad at) = Err at
answer_of h (sheet at) =
    Ok (record { cells = length h.values; allowance = h.allowance; reader = record { 0 = h.reader }; sheet = at })

abbrev pub job_answer : Reading → Result Said ℕ
job_answer r = answer_of r.heard r.ending

-- `new` from the start on, as far as there is room, and the rest as it came
unfoldable pub fitted : List ℤ → List ℤ → List ℤ
fitted [] old = old
fitted (x ∷ new) [] = []
fitted (x ∷ new) (y ∷ old) = x ∷ fitted new old
