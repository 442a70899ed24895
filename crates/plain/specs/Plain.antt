-- The plain engine: what it answers and what every lent run holds at exit, for all arguments.
use Rattle.std.specs.Prelude.{ℕ, List}
use Rattle.machine.specs.Rule.{standard}
use Rattle.engine.specs.declared.Clearances.{Clearances}
use Rattle.engine.specs.Memory.{Memory}
use Rattle.engine.specs.Ended.{Ended, directly}

-- the standard rules, hard-wired; of the sheet, the clearances, the lent runs and the allowance
unfoldable pub plain : List ℕ → Clearances → Memory → ℕ → Ended Unit
plain sheet c m fuel = directly standard sheet c m fuel
