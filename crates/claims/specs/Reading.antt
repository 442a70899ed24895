-- Document 01's twelve starred readings, R1 to R12, with request U1's end lines, U2's stop 9, U4's pages and U5's clearances, and what
-- they leave open: what is asked of the engines and of the page, and what each must give. proofs/Readings.antt computes them.
use Rattle.std.specs.Prelude.{ℕ, ◌+◌, ◌^◌, ◌*◌, ◌-◌, List, [], ◌∷◌, ◌++◌, map, ℤ, pos, negsuc, replicate, set, Err, Ok, Result}
use Rattle.program.specs.declared.Command.{Command}
use Rattle.program.specs.declared.Command.TheVariants.{Add, Sub, Output, Push, Load, Store, Jump, Bnz, Call, Ret, OutputTo, CallN, RetV}
use Rattle.program.specs.declared.Refusal.{Refusal}
use Rattle.program.specs.Encode.{encode}
use Rattle.machine.specs.Atom.{Atom, Line, number_line, end_line}
use Rattle.machine.specs.State.{stop_number}
use Rattle.machine.specs.Step.{atom}
use Rattle.step.specs.Lent.{cells}
use Rattle.engine.specs.declared.Clearances.{Clearances}
use Rattle.engine.specs.declared.Ran.{Ran}
use Rattle.engine.specs.Memory.{output, all_cleared, Memory}
use Rattle.engine.specs.Memory as Lent
use Rattle.engine.specs.Ended.{Ended}
use Rattle.plain.specs.Plain.{plain}
use Rattle.policy.specs.Standard.{standard_bytes}
use Rattle.tagging.specs.Consult.{Tag}
use Rattle.tagged.specs.Tagged.{tagged}
use Rattle.report.specs.Page.{zeros, lent_for, handler_space, page_of}
use Rattle.claims.specs.Privacy.{cells_in, lines_in}

-- ════════════════════════════════════════════════════════════════════════════════════════════
-- What is asked, and what is answered
-- ════════════════════════════════════════════════════════════════════════════════════════════

-- a program, the number in C1, the rule memory, the clearances, how many lines fit, and the allowance
pub record Setting : Type 0 where
  pub program : List Command
  pub c1 : ℤ
  pub row : List ℤ
  pub clearances : Clearances
  pub room : ℕ
  pub fuel : ℕ

-- a start of the tag engine, and of the plain engine; the cells and the rule memory that the tag engine's run leaves; a job's page
pub data Question : Type 0 where
  start_of : Setting → Question
  plain_start : Setting → Question
  cells_after : Setting → Question
  row_after : Setting → Question
  page_for : List ℕ → Question

-- a refusal's number and place; a run's stop by its number, its steps and its lines; the cells; the seven words; the bytes
pub data Given : Type 0 where
  refused : (number place : ℕ) → Given
  run : (stop steps : ℕ) → List Line → Given
  memory : List Atom → Given
  words : List ℤ → Given
  page : List ℕ → Given

-- what is lent: C0 = 7 label 0 and C1 with label 1, and the page program's spaces but for its lines
abbrev pub lent_to : Setting → Memory
lent_to s =
    let m : Memory = lent_for (cells (pos 7 ∷ s.c1 ∷ []) (pos 0 ∷ pos 1 ∷ [])) in
    let lines = zeros s.room in
    Lent.memory m.program m.lent (output lines lines lines lines)

-- the tag engine on the sheet's bytes and the standard table
abbrev pub execute : Setting → Ended Tag
execute s = (tagged (encode s.program) standard_bytes s.row s.clearances (lent_to s) handler_space s.fuel).ended

abbrev pub ending : Result Ran Refusal → Memory → Given
ending (Err r) m = refused r.code r.position
ending (Ok x) m = run (stop_number x.stop) x.steps (lines_in x m)

unfoldable pub given : Question → Given
given (start_of s) = let e : Ended Tag = execute s in ending e.answer e.memory
given (plain_start s) = let e : Ended Unit = plain (encode s.program) s.clearances (lent_to s) s.fuel in ending e.answer e.memory
given (cells_after s) = memory (cells_in (execute s).memory)
given (row_after s) = words (execute s).ruler.row
given (page_for job) = page (page_of job)

-- one thing that a reading says
pub record Fact : Type 0 where
  pub asked : Question
  pub said : Given

-- what the facts of a reading come to, and what they say
abbrev pub computed : List Fact → List Given
computed facts = map (λ (f : Fact). given f.asked) facts

abbrev pub expected : List Fact → List Given
expected facts = map (λ (f : Fact). f.said) facts

-- ════════════════════════════════════════════════════════════════════════════════════════════
-- Short names for the table
-- ════════════════════════════════════════════════════════════════════════════════════════════

abbrev pub fact : Question → Given → Fact
fact q g = record { asked = q; said = g }

-- a line on page 0
abbrev pub line : ℤ → ℕ → Line
line n l = number_line (pos 0) n l

-- the end line alone, with the label of the place
abbrev pub ends : ℕ → List Line
ends p = end_line p ∷ []

-- an empty rule memory, every page cleared for all, and output space and an allowance that suffice
abbrev pub sufficing : List Command → ℤ → Setting
sufficing program c1 =
    record { program = program; c1 = c1; row = zeros 7; clearances = all_cleared; room = 16; fuel = 1_000_000 }

-- C1 = 5
abbrev pub usual : List Command → Setting
usual program = sufficing program (pos 5)

-- an allowance; room for so many lines; clearances; a rule memory, on the empty sheet
abbrev pub clearing : Clearances → (room fuel : ℕ) → List Command → Setting
clearing c room fuel program = record { program = program; c1 = pos 5; row = zeros 7; clearances = c; room = room; fuel = fuel }

abbrev pub narrow : (room fuel : ℕ) → List Command → Setting
narrow room fuel program = clearing all_cleared room fuel program

abbrev pub paid : ℕ → List Command → Setting
paid fuel program = narrow 16 fuel program

abbrev pub from : List ℤ → Setting
from row = record { program = []; c1 = pos 5; row = row; clearances = all_cleared; room = 16; fuel = 1_000_000 }

-- a start of the tag engine alone, for its rule memory
abbrev pub only : Setting → Given → List Fact
only s g = fact (start_of s) g ∷ []

-- a run that every engine has
abbrev pub each : Setting → Given → List Fact
each s g = fact (start_of s) g ∷ fact (plain_start s) g ∷ []

-- two numbers, the second on top, and what is made of them is written; it is the one line, or it is stop 9 after the two Pushes
abbrev pub made : (next top : ℤ) → Command → List Command
made next top c = Push next ∷ Push top ∷ c ∷ Output ∷ []

abbrev pub makes : (next top : ℤ) → Command → ℤ → List Fact
makes next top c n = each (usual (made next top c)) (run 0 4 (line n 0 ∷ ends 0))

abbrev pub overflows : (next top : ℤ) → Command → List Fact
overflows next top c = each (usual (made next top c)) (run 9 2 [])

-- the least number of 64 bits, and the largest (`negsuc n` is −(n + 1))
abbrev pub least : ℤ
least = negsuc (2 ^ 63 - 1)

abbrev pub largest : ℤ
largest = pos (2 ^ 63 - 1)

-- R1 as a job, and the lines of its pages:
-- an 8-byte number and a 4-byte field, below 256
abbrev pub eight : ℕ → List ℕ
eight n = n ∷ 0 ∷ 0 ∷ 0 ∷ 0 ∷ 0 ∷ 0 ∷ 0 ∷ []

abbrev pub four : ℕ → List ℕ
four n = n ∷ 0 ∷ 0 ∷ 0 ∷ []

abbrev pub push : ℕ → List ℕ
push n = 0x05 ∷ eight n

-- Push 1, Load, Push 0, Load, Add, Output, Push 0, Load, Output
abbrev pub sheet_r1 : List ℕ
sheet_r1 =
    push 1 ++ (0x06 ∷ []) ++ push 0 ++ (0x06 ∷ 0x01 ∷ 0x04 ∷ []) ++ push 0 ++ (0x06 ∷ 0x04 ∷ [])

-- C0 = 7 label 0, C1 = 5 label 1; then what is said of the reader, and the sheet
abbrev pub job_of : List ℕ → List ℕ → List ℕ
job_of sheet reader = (0x40 ∷ eight 7) ++ four 0 ++ (0x40 ∷ eight 5) ++ four 1 ++ reader ++ (0x43 ∷ sheet)

abbrev pub job_r1 : List ℕ → List ℕ
job_r1 reader = job_of sheet_r1 reader

abbrev pub reader : ℕ → List ℕ
reader set = 0x42 ∷ four set

-- `0 7 00000000`
abbrev pub line_seven : List ℕ
line_seven = 0x30 ∷ 0x20 ∷ 0x37 ∷ 0x20 ∷ 0x30 ∷ 0x30 ∷ 0x30 ∷ 0x30 ∷ 0x30 ∷ 0x30 ∷ 0x30 ∷ 0x30 ∷ 0x0a ∷ []

-- `0 12 00000001`
abbrev pub line_twelve : List ℕ
line_twelve = 0x30 ∷ 0x20 ∷ 0x31 ∷ 0x32 ∷ 0x20 ∷ 0x30 ∷ 0x30 ∷ 0x30 ∷ 0x30 ∷ 0x30 ∷ 0x30 ∷ 0x30 ∷ 0x31 ∷ 0x0a ∷ []

-- `0 end 00000000`
abbrev pub line_end : List ℕ
line_end = 0x30 ∷ 0x20 ∷ 0x65 ∷ 0x6e ∷ 0x64 ∷ 0x20 ∷ 0x30 ∷ 0x30 ∷ 0x30 ∷ 0x30 ∷ 0x30 ∷ 0x30 ∷ 0x30 ∷ 0x30 ∷ 0x0a ∷ []

-- ════════════════════════════════════════════════════════════════════════════════════════════
-- The table
-- ════════════════════════════════════════════════════════════════════════════════════════════

-- a branch on a cell of label 1, and a Store after such a branch
abbrev pub branching : List Command
branching = Push (pos 1) ∷ Load ∷ Bnz (pos 3) ∷ Push (pos 0) ∷ Output ∷ Push (pos 9) ∷ Output ∷ []

abbrev pub storing : Setting
storing = usual (Push (pos 1) ∷ Load ∷ Bnz (pos 1) ∷ Push (pos 7) ∷ Push (pos 0) ∷ Store ∷ [])

abbrev pub readings : List (List Fact)
readings =
    -- R1: a sum of a cell of label 1 and one of label 0 has label 1; for reader 1 the page has both lines, for reader 0 the second only;
    -- both end in `end`
    (each
    (usual (Push (pos 1) ∷ Load ∷ Push (pos 0) ∷ Load ∷ Add ∷ Output ∷ Push (pos 0) ∷ Load ∷ Output ∷ []))
    (run 0 9 (line (pos 12) 1 ∷ line (pos 7) 0 ∷ ends 0))
    ++ (fact (page_for (job_r1 (reader 1))) (page (line_twelve ++ line_seven ++ line_end))
    ∷ fact (page_for (job_r1 (reader 0))) (page (line_seven ++ line_end))
    ∷ []))
    -- R2, R3: what is written after a branch on a cell of label 1 has label 1, taken or not, and so has the end line
    ∷ each (usual branching) (run 0 5 (line (pos 9) 1 ∷ ends 1))
    ∷ each (sufficing branching (pos 0)) (run 0 7 (line (pos 0) 1 ∷ line (pos 9) 1 ∷ ends 1))
    -- R4: after such a branch a cell of label 0 may not be written
    ∷ (each storing (run 6 5 [])
    ++ (fact (row_after storing) (words (pos 7 ∷ pos 1 ∷ pos 0 ∷ pos 0 ∷ pos 0 ∷ negsuc 0 ∷ negsuc 0 ∷ [])) ∷ []))
    -- R5: after a return the place has the label that it had at the call
    ∷ each
    (usual (Push (pos 1) ∷ Load ∷ Push (pos 8) ∷ Call ∷ Push (pos 8) ∷ Output ∷ Push (pos 10) ∷ Jump ∷ Bnz (pos 1) ∷ Ret ∷ []))
    (run 0 10 (line (pos 8) 0 ∷ ends 0))
    -- R6: 2^63 − 1 plus 1 is stop 9 in every engine, once the rule is asked: the rule memory has Add's row
    ∷ (overflows (pos 1) largest Add
    ++ (fact
    (row_after (usual (made (pos 1) largest Add)))
    (words (pos 1 ∷ pos 0 ∷ pos 0 ∷ pos 0 ∷ negsuc 0 ∷ pos 0 ∷ pos 0 ∷ []))
    ∷ []))
    -- R7, R8: the empty sheet with allowance 0 has ended; with allowance 0 no command is carried out
    ∷ each (paid 0 []) (run 0 0 (ends 0))
    ∷ each (paid 0 (Push (pos 1) ∷ [])) (run 1 0 [])
    -- R9, R10: no frame on top; an address outside the cells
    ∷ each (usual (Ret ∷ [])) (run 4 0 [])
    ∷ each (usual (Push (pos 2) ∷ Load ∷ [])) (run 5 1 [])
    -- R11, R12: Add at place label 0 of two labels 1: the result's label is 1 and not 0
    ∷ only (from (pos 1 ∷ pos 0 ∷ pos 1 ∷ pos 1 ∷ negsuc 0 ∷ pos 0 ∷ pos 1 ∷ [])) (run 0 0 (ends 0))
    ∷ only (from (pos 1 ∷ pos 0 ∷ pos 1 ∷ pos 1 ∷ negsuc 0 ∷ pos 0 ∷ pos 0 ∷ [])) (refused 7 0)
    ∷ []

-- C1 on page 15, then C0 on page 0
abbrev pub paging : List Command
paging = Push (pos 1) ∷ Load ∷ OutputTo (pos 15) ∷ Push (pos 0) ∷ Load ∷ Output ∷ []

-- `15 5 00000001`
abbrev pub line_five : List ℕ
line_five = 0x31 ∷ 0x35 ∷ 0x20 ∷ 0x35 ∷ 0x20 ∷ 0x30 ∷ 0x30 ∷ 0x30 ∷ 0x30 ∷ 0x30 ∷ 0x30 ∷ 0x30 ∷ 0x31 ∷ 0x0a ∷ []

-- a row of Output's rule, for the command with a code: the value's label is 2, the place's 1
abbrev pub output_row : ℕ → List ℤ
output_row code = pos code ∷ pos 1 ∷ pos 2 ∷ negsuc 0 ∷ negsuc 0 ∷ pos 1 ∷ pos 3 ∷ []

-- every page is cleared for all but this one, which has this clearance word; and so many words
abbrev pub closing : (at : ℕ) → ℤ → Clearances
closing at word = record { words = set all_cleared.words at word; count = 16 }

abbrev pub numbering : ℕ → Clearances
numbering count = record { words = all_cleared.words; count = count }

abbrev pub closed : (at : ℕ) → ℤ → List Command → Setting
closed at word program = clearing (closing at word) 16 1_000_000 program

-- a branch on C1, and then the end, where the place has label 1
abbrev pub hidden_end : List Command
hidden_end = Push (pos 1) ∷ Load ∷ Bnz (pos 1) ∷ []

-- C0 on page 0, and then C1 on page 1
abbrev pub printing : List Command
printing = Push (pos 0) ∷ Load ∷ Output ∷ Push (pos 1) ∷ Load ∷ OutputTo (pos 1) ∷ []

-- CallN's operand word for so many arguments and results
abbrev pub calls : ℕ → ℕ → ℤ
calls arguments results = pos (16 * arguments + results)

-- from command 2 on a function that is given a number and returns C0 less it; it is called with C1
abbrev pub correcting : List Command
correcting =
    Push (pos 6) ∷ Jump ∷ Push (pos 0) ∷ Load ∷ Sub ∷ RetV
    ∷ Push (pos 1) ∷ Load ∷ Push (pos 2) ∷ CallN (calls 1 1) ∷ Output ∷ []

-- from command 2 on a function that branches on what it is given and returns 9; it is called with C1
abbrev pub hiding : List Command
hiding = Push (pos 5) ∷ Jump ∷ Bnz (pos 1) ∷ Push (pos 9) ∷ RetV ∷ Push (pos 1) ∷ Load ∷ Push (pos 2) ∷ CallN (calls 1 1) ∷ Output ∷ []

-- a Ret to a frame that owes a result, and a RetV
abbrev pub owing : List Command
owing = Push (pos 2) ∷ CallN (calls 0 1) ∷ Ret ∷ []

abbrev pub returning : List Command
returning = Push (pos 2) ∷ CallN (calls 0 1) ∷ Push (pos 5) ∷ RetV ∷ []

-- a row of Call's rule, for the command with a code: the target's label is 2, the place's 1; a row of RetV's rule with a result label: the
-- value's label is 2, the frame's 4, the place's 1
abbrev pub call_row : ℕ → List ℤ
call_row code = pos code ∷ pos 1 ∷ pos 2 ∷ negsuc 0 ∷ negsuc 0 ∷ pos 3 ∷ pos 1 ∷ []

abbrev pub return_row : ℕ → List ℤ
return_row result = pos 14 ∷ pos 1 ∷ pos 2 ∷ pos 4 ∷ negsuc 0 ∷ pos 4 ∷ pos result ∷ []

-- what they leave open
abbrev pub storing_loaded : Setting
storing_loaded = usual (Push (pos 1) ∷ Load ∷ Push (pos 0) ∷ Store ∷ [])

abbrev pub others : List (List Fact)
others =
    -- R1's page where nothing is said of the reader: that for reader 0
    (fact (page_for (job_r1 [])) (page (line_seven ++ line_end)) ∷ [])
    -- 5 − 1: top − next
    ∷ makes (pos 1) (pos 5) Sub (pos 4)
    -- both sides of both ends: 2^63 − 1 + 0, −2^63 − 0 and −1 − (2^63 − 1); −2^63 − 1, 0 − (−2^63) and −2^63 + −1
    ∷ makes (pos 0) largest Add largest
    ∷ makes (pos 0) least Sub least
    ∷ makes largest (negsuc 0) Sub least
    ∷ overflows (pos 1) least Sub
    ∷ overflows least (pos 0) Sub
    ∷ overflows (negsuc 0) least Add
    -- a line before stop 9 stays, and no end line comes
    ∷ each (usual (Push (pos 7) ∷ Output ∷ made (pos 1) largest Add)) (run 9 4 (line (pos 7) 0 ∷ []))
    -- a Store that is carried out: top is the address, next the number, and the cell has its label
    ∷ (each storing_loaded (run 0 4 (ends 0))
    ++ (fact (cells_after storing_loaded) (memory (atom (pos 5) 1 ∷ atom (pos 5) 1 ∷ [])) ∷ []))
    -- stop 2: a place outside; stop 3: Add does not reach past a frame
    ∷ each (usual (Push (pos 9) ∷ Jump ∷ [])) (run 2 2 [])
    ∷ each (usual (Push (pos 1) ∷ Push (pos 3) ∷ Call ∷ Add ∷ [])) (run 3 3 [])
    -- 256 Pushes end; stop 7: the 257th
    ∷ each (usual (replicate 256 (Push (pos 0)))) (run 0 256 (ends 0))
    ∷ each (usual (replicate 257 (Push (pos 0)))) (run 7 256 [])
    -- stop 8: a second line, where one fits
    ∷ each (narrow 1 1_000_000 (Push (pos 1) ∷ Output ∷ Push (pos 2) ∷ Output ∷ [])) (run 8 3 (line (pos 1) 0 ∷ []))
    -- the end line needs no allowance, but space: else stop 8 after the last command, with allowance left and without
    ∷ each (paid 1 (Push (pos 1) ∷ [])) (run 0 1 (ends 0))
    ∷ each (narrow 1 1_000_000 (Push (pos 1) ∷ Output ∷ [])) (run 8 2 (line (pos 1) 0 ∷ []))
    ∷ each (narrow 0 1 (Push (pos 1) ∷ [])) (run 8 1 [])
    -- OutputTo writes to its page, Output and the end line to page 0; for reader 0 the page has page 0's lines only
    ∷ (each (usual paging) (run 0 6 (number_line (pos 15) (pos 5) 1 ∷ line (pos 7) 0 ∷ ends 0))
    ++ (fact (page_for (job_of (encode paging) (reader 1))) (page (line_five ++ line_seven ++ line_end))
    ∷ fact (page_for (job_of (encode paging) (reader 0))) (page (line_seven ++ line_end))
    ∷ []))
    -- it is under Output's rule, with its own code in the rule memory; no command has the code 15
    ∷ (fact
    (row_after (usual (Push (pos 1) ∷ OutputTo (pos 0) ∷ [])))
    (words (pos 12 ∷ pos 0 ∷ pos 0 ∷ negsuc 0 ∷ negsuc 0 ∷ pos 0 ∷ pos 0 ∷ []))
    ∷ only (from (output_row 4)) (run 0 0 (ends 0)))
    ∷ only (from (output_row 12)) (run 0 0 (ends 0))
    ∷ only (from (output_row 15)) (refused 7 0)
    -- its stops: no value, no space
    ∷ each (usual (OutputTo (pos 1) ∷ [])) (run 3 0 [])
    ∷ each (narrow 0 1_000_000 (Push (pos 1) ∷ OutputTo (pos 1) ∷ [])) (run 8 1 [])
    -- page 16 is refused, at the command's offset
    ∷ each (usual (Ret ∷ OutputTo (pos 16) ∷ [])) (refused 12 1)
    -- stop 10: a page that is closed to owner 0 gets no line of label 1, and the lines before stay; the rule was asked
    ∷ (each (closed 1 (pos 2) printing) (run 10 5 (line (pos 7) 0 ∷ []))
    ++ (fact
    (row_after (closed 1 (pos 2) printing))
    (words (pos 12 ∷ pos 0 ∷ pos 1 ∷ negsuc 0 ∷ negsuc 0 ∷ pos 0 ∷ pos 1 ∷ []))
    ∷ []))
    -- a page that is cleared for owner 0, or for more, gets it, whatever the others are cleared for
    ∷ each (closed 1 (pos 1) printing) (run 0 6 (line (pos 7) 0 ∷ number_line (pos 1) (pos 5) 1 ∷ ends 0))
    ∷ each (closed 1 (pos 3) printing) (run 0 6 (line (pos 7) 0 ∷ number_line (pos 1) (pos 5) 1 ∷ ends 0))
    ∷ each (closed 0 (pos 0) printing) (run 0 6 (line (pos 7) 0 ∷ number_line (pos 1) (pos 5) 1 ∷ ends 0))
    -- it comes before stop 8
    ∷ each (clearing (closing 1 (pos 2)) 1 1_000_000 printing) (run 10 5 (line (pos 7) 0 ∷ []))
    -- the end line needs page 0's clearance, before space and with no allowance left too
    ∷ each (closed 0 (pos 0) hidden_end) (run 10 3 [])
    ∷ each (clearing (closing 0 (pos 0)) 0 3 hidden_end) (run 10 3 [])
    ∷ each (closed 0 (pos 1) hidden_end) (run 0 3 (ends 1))
    ∷ each (closed 1 (pos 0) hidden_end) (run 0 3 (ends 1))
    -- a clearance word outside 0 to 2^32 − 1 is refused, at its page; another number of words than sixteen at 16, first
    ∷ each (closed 15 (pos (2 ^ 32 - 1)) []) (run 0 0 (ends 0))
    ∷ each (closed 15 (pos (2 ^ 32)) []) (refused 13 15)
    ∷ each (closed 0 (negsuc 0) []) (refused 13 0)
    ∷ each (clearing (numbering 15) 16 1_000_001 []) (refused 13 16)
    ∷ each (clearing (numbering 17) 16 1_000_000 []) (refused 13 16)
    -- a height corrected by a called function that returns it: C0 − C1, which has label 1; the place has the label that it had at the call
    ∷ each (usual correcting) (run 0 11 (line (pos 2) 1 ∷ ends 0))
    -- what is returned from a place of label 1 has label 1, and the place has the frame's label again
    ∷ each (usual hiding) (run 0 10 (line (pos 9) 1 ∷ ends 0))
    -- arguments stay in their order above the frame, up to fifteen
    ∷ each
    (usual (Push (pos 1) ∷ Push (pos 2) ∷ Push (pos 3) ∷ Push (pos 5) ∷ CallN (calls 3 0) ∷ Output ∷ Output ∷ Output ∷ Ret ∷ []))
    (run 3 9 (line (pos 3) 0 ∷ line (pos 2) 0 ∷ line (pos 1) 0 ∷ []))
    ∷ each (usual (replicate 15 (Push (pos 0)) ++ (Push (pos 17) ∷ CallN (calls 15 0) ∷ []))) (run 0 17 (ends 0))
    -- stop 3: an argument is missing, or a frame; RetV finds nothing, or a frame
    ∷ each (usual (Push (pos 2) ∷ CallN (calls 1 0) ∷ [])) (run 3 1 [])
    ∷ each (usual (Push (pos 2) ∷ CallN (calls 0 0) ∷ Push (pos 4) ∷ CallN (calls 1 0) ∷ [])) (run 3 3 [])
    ∷ each (usual (RetV ∷ [])) (run 3 0 [])
    ∷ each (usual (Push (pos 2) ∷ CallN (calls 0 1) ∷ RetV ∷ [])) (run 3 2 [])
    -- stop 4: RetV finds no frame under its value
    ∷ each (usual (Push (pos 1) ∷ RetV ∷ [])) (run 4 1 [])
    ∷ each (usual (Push (pos 1) ∷ Push (pos 1) ∷ RetV ∷ [])) (run 4 2 [])
    -- stop 11: Ret on a frame that owes a result, RetV on one that owes none; nobody is asked
    ∷ (each (usual owing) (run 11 2 [])
    ++ (fact (row_after (usual owing)) (words (pos 13 ∷ pos 0 ∷ pos 0 ∷ negsuc 0 ∷ negsuc 0 ∷ pos 0 ∷ pos 0 ∷ [])) ∷ []))
    ∷ each (usual (Push (pos 2) ∷ CallN (calls 0 0) ∷ Push (pos 1) ∷ RetV ∷ [])) (run 11 3 [])
    ∷ each (usual (Push (pos 0) ∷ Push (pos 3) ∷ Call ∷ Push (pos 1) ∷ RetV ∷ [])) (run 4 4 [])
    -- CallN is under Call's rule and RetV under its own, each with its own code in the rule memory
    ∷ only (from (call_row 10)) (run 0 0 (ends 0))
    ∷ only (from (call_row 13)) (run 0 0 (ends 0))
    ∷ only (from (return_row 3)) (run 0 0 (ends 0))
    ∷ only (from (return_row 2)) (refused 7 0)
    ∷ (fact (row_after (paid 4 returning)) (words (pos 14 ∷ pos 0 ∷ pos 0 ∷ pos 0 ∷ negsuc 0 ∷ pos 0 ∷ pos 0 ∷ [])) ∷ [])
    -- sixteen arguments are refused, and two results, at the command's offset
    ∷ each (usual (Ret ∷ CallN (calls 16 0) ∷ [])) (refused 14 1)
    ∷ each (usual (Ret ∷ CallN (calls 0 2) ∷ [])) (refused 14 1)
    ∷ []
