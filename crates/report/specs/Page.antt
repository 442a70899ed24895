-- The page of a job: the bytes that document 01's page program prints.
use Rattle.std.specs.Prelude.{ℕ, ◌*◌, List, [], ℤ, pos, length, take, drop, replicate, ltb, Err, None, Ok, Option, Result, Some}
use Rattle.word.specs.Choose.{choose}
use Rattle.word.specs.Lay.{laid}
use Rattle.step.specs.Lent.{Cells, cells, lent}
use Rattle.engine.specs.Memory.{all_cleared, Output, output, Memory, memory}
use Rattle.engine.specs.Layout.{lines_of}
use Rattle.engine.specs.Ended.{Ended}
use Rattle.policy.specs.Standard.{standard_bytes}
use Rattle.tagging.specs.Consult.{Tag}
use Rattle.tagged.specs.Tagged.{Left, tagged}
use Rattle.report.specs.Job.{Heard, Ending, bad, sheet, read_job}
use Rattle.report.specs.Lines.{job_text, refused_text, lines_text}
use Rattle.program.specs.declared.Refusal.{Refusal}
use Rattle.engine.specs.declared.Ran.{Ran}

abbrev pub zeros : ℕ → List ℤ
zeros n = replicate n (pos 0)

-- the memory that it lends: working space for as many commands as a sheet may have and for 256 stack entries, the job's cells, and
-- 1,024 lines of space
abbrev pub lent_for : Cells → Memory
lent_for c = memory (zeros (2 * 4096)) (lent (zeros (3 * 256)) c) (output (zeros 1024) (zeros 1024) (zeros 1024) (zeros 1024))

-- and space for the standard table's handler, which has 166 commands of two words
abbrev pub handler_space : List ℤ
handler_space = zeros (2 * 166)

-- the tag engine, standard table and empty rule memory
abbrev pub end_for : Cells → (allowance : ℕ) → List ℕ → Left
end_for c allowance bytes = tagged bytes standard_bytes (zeros 7) all_cleared (lent_for c) handler_space allowance

-- a refusal prints only itself; else the lines written that the reader may see
abbrev pub answer_text : (reader : ℕ) → Result Ran Refusal → Output → List ℕ
answer_text reader (Err r) o = refused_text r.code r.position
answer_text reader (Ok ran) o = lines_text reader (lines_of ran.machine.lines o)

abbrev pub ended_text : (reader : ℕ) → Ended Tag → List ℕ
ended_text reader e = answer_text reader e.answer e.memory.output

unfoldable pub run_text : Cells → (allowance reader : ℕ) → List ℕ → List ℕ
run_text c allowance reader bytes = ended_text reader (end_for c allowance bytes).ended

abbrev pub reading_text : List ℕ → Heard → Ending → List ℕ
reading_text job h (bad offset) = job_text offset
reading_text job h (sheet start) = run_text (cells h.values h.labels) h.allowance h.reader (drop start job)

unfoldable pub page_of : List ℕ → List ℕ
page_of job = reading_text job (read_job job).heard (read_job job).ending

-- 1,024 lines of at most 33 bytes: 2 for the page, a space, 20 for the number or `end`, a space, 8 for the label, a newline
abbrev pub page_limit : ℕ
page_limit = 33792

-- a space shorter than that is left as it came; else the page stands at its start
abbrev pub page_answer : (job out : List ℕ) → Option ℕ
page_answer job out = choose (ltb (length out) page_limit) None (Some (length (page_of job)))

abbrev pub page_out : (job out : List ℕ) → List ℕ
page_out job out = choose (ltb (length out) page_limit) out (laid (page_of job) out)

-- of that space the page is printed, or nothing
abbrev pub printed_of : Option ℕ → List ℕ → List ℕ
printed_of (Some n) out = take n out
printed_of None out = []
