-- One command on words that finds its inputs: the rule memory's ruling is carried out.
-- Assumes nothing.
use Rattle.std.proofs.Common.{Ok}
use mathlib.Core.Path.{◌≡◌, ap, ◌∙◌}
use mathlib.Core.List.{List}
use native.Mathlib.Nat.{zero-add}
use lib.IntN.{ℤ}
use Rattle.word.specs.Wrap.{residue}
use Rattle.machine.specs.Rule.{Verdict}
use Rattle.stack.specs.declared.Machine.{Machine}
use Rattle.step.specs.declared.find.Inputs.{Inputs}
use Rattle.step.specs.Lent.{Lent, After}
use Rattle.step.specs.Find.{Found, find_of}
use Rattle.engine.specs.Act.{Acted, acted, ruled, act_found, act_of}
use Rattle.handler.specs.Kernel.{Result}
use Rattle.tagging.specs.Consult.{Tag, tag, consult, counted}
use Rattle.tagged.specs.declared.consult.Ruling.{Ruling}
use Rattle.tagged.specs.Ruling.{five_for, tag_words, tag_kept, verdict_of, ruling_of}

module _ (handler : List ℤ → Result) (word operand : ℤ) (m : Machine) (l : Lent) (row : List ℤ) where
  abbrev u : Tag
  u = tag row 0 0

  abbrev acts : Acted Tag
  acts = act_of (tag_words handler) word operand m u l

  -- what a verdict does
  abbrev does : Verdict → After
  does v = ruled (tag_words handler) word operand m u l v

  pub act_ruled : (i : Inputs) → Ok i ≡ find_of (residue 64 word) operand m l
      → (r : Ruling) → ruling_of r ≡ consult handler (five_for (record { code = word; pc = m.label.0; inputs = i })) row
      → (a : After) → a ≡ does (verdict_of r.verdict) → acted a (tag_kept r.kept) ≡ acts
  unfolding act_of
  act_ruled i found r rules a e =
      let x : acted (does (ruling_of r).verdict) (counted u (ruling_of r)) ≡ acts =
      ap (λ c. acted (does c.verdict) (counted u c)) rules
      ∙ ap (λ (f : Found). act_found (tag_words handler) word operand m u l f) found in
      rw e (rw (zero-add r.kept.faults, zero-add r.kept.kernel) at x)
