-- The tag engine's ruler on words, and a ruling as the code hands it back.
use Rattle.std.specs.Prelude.{ℕ, Bool, true, false, List, ℤ, pos, negsuc, leb, None, Option, Some}
use Rattle.machine.specs.Rule.{Verdict, denied, allowed}
use Rattle.engine.specs.Act.{Asked, WordRuler}
use Rattle.tables.specs.declared.Allowed.{Allowed}
use Rattle.handler.specs.Kernel.{Result}
use Rattle.tagging.specs.Consult.{Tag, tag, Five, words, Consulted, ruled_if, consult, counted}
use Rattle.tagged.specs.declared.consult.Ruling.{Ruling}
use Rattle.tagged.specs.declared.consult.Five as Code
use Rattle.tagged.specs.declared.run.Kept.{Kept}

-- the word of an input: its label where it is supplied, else −1
abbrev pub input_word : (supplied : Bool) → ℕ → ℤ
input_word true l = pos l
input_word false l = negsuc 0

-- the five words that a command asks with
abbrev pub five_for : Asked → Five
five_for a =
    let n = a.inputs.count in
    words a.code (pos a.pc) (input_word (leb 1 n) a.inputs.input1.0) (input_word (leb 2 n) a.inputs.input2.0)
    (input_word (leb 3 n) a.inputs.input3.0)

-- with a handler on rows: the rule memory and the counts are kept
abbrev pub tag_words : (List ℤ → Result) → WordRuler Tag
tag_words handler u a =
    let c : Consulted = consult handler (five_for a) u.row in
    record { verdict = c.verdict; ruler = counted u c }

-- in code
abbrev pub five_of : Code.Five → Five
five_of f = words f.code f.pc f.input1 f.input2 f.input3

abbrev pub tag_kept : Kept → Tag
tag_kept k = tag k.cache.words k.faults k.kernel

abbrev pub verdict_of : Option Allowed → Verdict
verdict_of None = denied
verdict_of (Some a) = allowed a.place.0 a.result.0

abbrev pub ruling_of : Ruling → Consulted
ruling_of r =
    record {
      verdict = verdict_of r.verdict;
      row = r.kept.cache.words;
      faults = r.kept.faults;
      kernel_steps = r.kept.kernel;
    }

-- the last two words are used, or nothing is allowed
abbrev pub ruling : Bool → List ℤ → ℕ → ℕ → Consulted
ruling b ws faults steps = record { verdict = ruled_if b ws; row = ws; faults = faults; kernel_steps = steps }
