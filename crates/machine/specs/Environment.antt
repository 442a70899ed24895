-- What a run is given beside its program, its cells and its allowance: how many lines fit, and what each page is cleared for.
use Rattle.std.specs.Prelude.{ℕ, Bool, ℤ, ltb, None, Option, Some}
use Rattle.word.specs.Choose.{choose}
use Rattle.label.specs.Label.{flows}
use Rattle.machine.specs.Atom.{Line}
use Rattle.machine.specs.declared.Stop.{Stop}
use Rattle.machine.specs.declared.Stop.TheVariants.{NotCleared, OutputFull}

pub record Environment : Type 0 where
  -- how many lines fit in the output space
  pub room : ℕ
  -- request U5: each page's clearance, a set of owners
  pub clearance : ℤ → ℕ

-- a line goes out only if its label flows to its page's clearance
abbrev pub cleared : Environment → Line → Bool
cleared env l = flows l.label (env.clearance l.page)

-- the stop that holds a line back after so many lines: it is not cleared for its page, else there is no room for it
unfoldable pub barrier : Environment → ℕ → Line → Option Stop
barrier env written l = choose (cleared env l) (choose (ltb written env.room) None (Some OutputFull)) (Some NotCleared)
