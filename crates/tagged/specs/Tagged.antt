-- The tag engine: what it answers and what every lent run and the rule memory hold at exit, for all arguments; and what it promises of
-- the table that it is given.
use Rattle.std.specs.Prelude.{ℕ, ◌≡◌, List, ℤ, length, Ok}
use Rattle.word.specs.Lay.{laid}
use Rattle.program.specs.Decode.{Decoded, refused, accepted}
use Rattle.engine.specs.declared.Clearances.{Clearances}
use Rattle.engine.specs.declared.Ran.{Ran}
use Rattle.engine.specs.Memory.{Memory}
use Rattle.engine.specs.Start.{given, start_of}
use Rattle.engine.specs.Ended.{Ended, ended, engine_of, directly, SameEnd}
use Rattle.policy.specs.Evaluate.{evaluate}
use Rattle.policy.specs.Read.{ReadTable, read_table}
use Rattle.handler.specs.Space.{kernel_words}
use Rattle.handler.specs.Translate.{handler_of}
use Rattle.handler.specs.Claim.{Handles}
use Rattle.tagging.specs.Consult.{Tag, tag, tag_ruler}
use Rattle.tagged.specs.declared.Tagged.{Tagged}
use Rattle.tagged.specs.Start.{own_of}

-- what every engine leaves, with the rule memory and the counts, and the handler space
pub record Left : Type 0 where
  pub ended : Ended Tag
  pub handler : List ℤ

abbrev pub left : Ended Tag → List ℤ → Left
left e handler = record { ended = e; handler = handler }

-- what the code hands back, with the lent runs
abbrev pub ended_by : Tagged → Memory → Ended Tag
ended_by r m = ended r.answer (tag r.cache.words r.faults r.kernel) m

-- a run starts with the rule memory as it was given, no faults and no kernel steps
abbrev pub tag_of : List ℤ → Tag
tag_of row = tag row 0 0

-- the handler is laid in its space where the start is accepted
abbrev pub handler_after : Decoded → ReadTable → List ℤ → List ℤ
handler_after (refused r) rules space = space
handler_after (accepted cs) rules space = laid (kernel_words (handler_of rules)) space

-- what the start comes to
abbrev pub start_tagged : List ℕ → ReadTable → List ℤ → Clearances → Memory → List ℤ → ℕ → Decoded
start_tagged sheet rules row c m handler fuel =
    start_of sheet m.lent.cells.labels c (given m fuel) (own_of rules row (length handler))

abbrev pub tagged_of : Decoded → ReadTable → List ℤ → Clearances → Memory → List ℤ → ℕ → Left
tagged_of d rules row c m handler fuel =
    left (engine_of (tag_ruler (handler_of rules)) d (tag_of row) c m fuel) (handler_after d rules handler)

-- of the sheet, the table's bytes, the rule memory, the clearances, the lent runs, the handler space and the allowance
unfoldable pub tagged : List ℕ → List ℕ → List ℤ → Clearances → Memory → List ℤ → ℕ → Left
tagged sheet bytes row c m handler fuel =
    let rules : ReadTable = read_table bytes in tagged_of (start_tagged sheet rules row c m handler fuel) rules row c m handler fuel

-- what is promised where the bytes are a table: its handler is as asked (Sound of the handler crate), and after a run it lies in its space;
-- and demand 2, answer and lent runs are those of reading the table directly
abbrev pub Promises : List ℕ → List ℕ → Clearances → Memory → List ℤ → ℕ → Left → Type 0
Promises sheet bytes c m handler fuel x =
    Handles (read_table bytes) (λ t code. (r : Ran) → x.ended.answer ≡ Ok r
    → (x.handler ≡ laid (kernel_words code) handler) × SameEnd x.ended (directly (evaluate t) sheet c m fuel))
