-- The engines' answers as the ten words of `luvrodan_result`; the page's, and those of texts and listings.
use Rattle.std.specs.Prelude.{ℕ, pos, Err, None, Ok, Option, Result, Some}
use Rattle.program.specs.declared.Refusal.{Refusal}
use Rattle.machine.specs.declared.Stop.{Stop}
use Rattle.machine.specs.State.{stop_number}
use Rattle.stack.specs.declared.Machine.{Machine}
use Rattle.report.specs.Page.{page_limit}
use Rattle.exports.specs.declared.result.LuvrodanResult.{LuvrodanResult}
use Rattle.exports.specs.declared.result.LuvrodanPageResult.{LuvrodanPageResult}
use Rattle.exports.specs.declared.result.LuvrodanWritten.{LuvrodanWritten}
use Rattle.engine.specs.declared.Ran.{Ran}

-- refused: the refusal's number and place, and zeros
abbrev pub refused_result : Refusal → LuvrodanResult
refused_result r =
    record {
      refusal = r.code;
      position = r.position;
      stop = 0;
      steps = 0;
      pc = pos 0;
      label = 0;
      depth = 0;
      lines = 0;
      faults = 0;
      kernel = 0;
    }

-- stopped: two zeros, and where the run ended
abbrev pub stopped_result : Machine → Stop → (steps faults kernel : ℕ) → LuvrodanResult
stopped_result m stop steps faults kernel =
    record {
      refusal = 0;
      position = 0;
      stop = stop_number stop;
      steps = steps;
      pc = m.pc.0;
      label = m.label.0;
      depth = m.depth;
      lines = m.lines;
      faults = faults;
      kernel = kernel;
    }

-- an engine's answer, with the faults and the kernel steps of its run
abbrev pub result_of : Result Ran Refusal → (faults kernel : ℕ) → LuvrodanResult
result_of (Err r) faults kernel = refused_result r
result_of (Ok x) faults kernel = stopped_result x.machine x.stop x.steps faults kernel

-- a page and its length; or a buffer that is too short, and how long it has to be
abbrev pub page_result : Option ℕ → LuvrodanPageResult
page_result (Some n) = record { status = 0; length = n }
page_result None = record { status = 1; length = page_limit }

-- the length of what was written; or the refusal's number and place, and 0
abbrev pub written_result : Result ℕ Refusal → LuvrodanWritten
written_result (Ok n) = record { refusal = 0; position = 0; length = n }
written_result (Err r) = record { refusal = r.code; position = r.position; length = 0 }
