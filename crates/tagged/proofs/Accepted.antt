-- From an accepted start to the whole run: the table, the rule memory and the handler space are as the limits say, the handler lies in its
-- space, and what the loop leaves is the definition's.
-- Assumes nothing.
use Rattle.std.proofs.Common.{Err, Ok}
use mathlib.Core.Path.{◌≡◌, refl, sym, ap, ap₂, ◌∙◌}
use mathlib.Core.Bool.{true}
use mathlib.Core.List.{List}
use Prim.Native.Nat.{ℕ, ◌*◌, ◌≤◌}
use lib.IntN.{ℤ}
use lib.ListN.{length}
use borrow.Author.Tests.{leb-true}
use Rattle.word.specs.Field.{Bytes}
use Rattle.word.specs.Lay.{laid}
use Rattle.word.proofs.Bool.{never}
use Rattle.program.specs.declared.Command.{Command}
use Rattle.program.specs.declared.Refusal.{Refusal}
use Rattle.program.specs.Decode.{Decoded, refused, accepted, check_answer}
use Rattle.program.specs.Space.{program_words, write_space}
use Rattle.program.proofs.Loading.{written-accepted}
use Rattle.stack.specs.Words.{started}
use Rattle.engine.specs.declared.Clearances.{Clearances}
use Rattle.engine.specs.declared.start.Own.{Own}
use Rattle.engine.specs.Memory.{Memory, memory, surroundings}
use Rattle.engine.specs.Loop.{Done, loop_of}
use Rattle.engine.specs.Ended.{ended}
use Rattle.engine.proofs.Accepted.{test-kept, answer, Fine, start_fine, taken, few, refused-is, loop-whole}
use Rattle.policy.specs.Expression.{Table}
use Rattle.policy.specs.Read.{ReadTable, table, read_table}
use Rattle.policy.specs.Read as Read
use Rattle.policy.specs.Row.{accepted_row}
use Rattle.policy.proofs.Writable.{read-writable}
use Rattle.handler.specs.Kernel.{handle}
use Rattle.handler.specs.Space.{kernel_words, handle_space}
use Rattle.handler.specs.Translate.{translate, handler_of}
use Rattle.handler.proofs.Shape.{handler-length}
use Rattle.handler.proofs.Space.{handle_space-laid}
use Rattle.translator.specs.Emit.{table_code, put_code}
use Rattle.translator.proofs.Translating.{written-table}
use Rattle.tagging.specs.Consult.{Tag, tag_ruler}
use Rattle.tagging.proofs.Ruled.{rules-range}
use Rattle.tagged.specs.Ruling.{tag_words}
use Rattle.tagged.specs.Start.{rules_limit, own_of}
use Rattle.tagged.specs.Tagged.{left, tag_of, handler_after, tagged_of, tagged}
use Rattle.tagged.proofs.Following.{tag-follows}

-- a table that is kept
table_kept : (q : ReadTable) → rules_limit q ≡ Ok tt → (t : Table) × (q ≡ table t)
table_kept (Read.refused r) e = never (cc)
table_kept (table t) e = (t, refl)

-- its handler is short
pub handler-few : (bytes : List ℕ) (t : Table) → read_table bytes ≡ table t → length (translate t) ≤ 8192
handler-few bytes t q = handler-length t (read-writable bytes t q)

module _ (sheet bytes : List ℕ) (row : List ℤ) (c : Clearances) (m : Memory) (handler : List ℤ) (fuel : ℕ) where
  abbrev own : Own
  own = own_of (read_table bytes) row (length handler)

  abbrev began : Decoded
  began = answer sheet c m fuel own

  -- ══════════════════════════════════════════════════════════════════════════════════════════
  -- An accepted start
  -- ══════════════════════════════════════════════════════════════════════════════════════════

  -- what is known of it
  pub record Ready (cs : List Command) (t : Table) : Type 0 where
    pub fine : Fine sheet c m fuel own cs
    pub rules : read_table bytes ≡ table t
    pub kept_row : accepted_row t row ≡ true
    pub fits : 2 * length (translate t) ≤ length handler

  pub start-ready : (cs : List Command) → began ≡ accepted cs → (t : Table) × Ready cs t
  start-ready cs e =
      let f = start_fine sheet c m fuel own cs e in
      let (t, q) = table_kept (read_table bytes) f.rules in
      let w = f.row in
      let h = f.handler in (
        t,
        record {
          fine = f;
          rules = q;
          kept_row = test-kept _ _ (rw q at w);
          fits = leb-true _ _ (test-kept _ _ (rw q at h));
        },
      )

  -- ══════════════════════════════════════════════════════════════════════════════════════════
  -- The whole
  -- ══════════════════════════════════════════════════════════════════════════════════════════

  pub execute-refused : (r : Refusal) → Err r ≡ check_answer began
      → left (ended (Err r) (tag_of row) m) handler ≡ tagged sheet bytes row c m handler fuel
  unfolding tagged
  execute-refused r e = ap₂ left (refused-is sheet c m fuel own (tag_ruler (handler_of (read_table bytes))) (tag_of row) r e) (kept began e)
    where
      kept : (d : Decoded) → Err r ≡ check_answer d → handler ≡ handler_after d (read_table bytes) handler
      kept (refused q) e = refl
      kept (accepted cs) e = never (cc)

  module _ (octets : Bytes sheet) (cs : List Command) (is : began ≡ accepted cs) (t : Table) (ready : Ready cs t) where
    -- the loop over the loaded program, with the handler that lies in the handler space
    pub execute-accepted : (count : ℕ) → count ≡ length cs → (program space : List ℤ) (n : ℕ)
        → program ≡ laid (program_words cs) m.program → space ≡ laid (kernel_words (translate t)) handler → n ≡ length (translate t)
        → (d : Done Tag)
        → d ≡ loop_of (tag_words (handle_space space n)) count (surroundings c m.output) program fuel 0 started (tag_of row) m.lent m.output
        → left (ended (Ok d.ran) d.ruler (memory program d.lent d.output)) space
        ≡ tagged sheet bytes row c m handler fuel
    unfolding tagged
    execute-accepted count k program space n p h size d g =
        let handles : (x : List ℤ) → handle_space space n x ≡ handle (translate t) x =
        λ x. ap₂ (λ y z. handle_space y z x) h size ∙ handle_space-laid (translate t) handler x in
        ap₂ left
        (loop-whole sheet c m fuel own octets cs ready.fine (tag_words (handle_space space n)) (tag_ruler (translate t))
        (tag-follows (handle_space space n) (translate t) handles) (rules-range (translate t)) (tag_of row) count k program p d g)
        h
        ∙ sym (ap₂ (λ d q. tagged_of d q row c m handler fuel) is ready.rules)

  -- a start that answered with a count of commands, and the length of the handler
  module _ (octets : Bytes sheet) (count : ℕ) (checked : Ok count ≡ check_answer began)
      (size : ℕ) (sized : size ≡ length (handler_of (read_table bytes))) where
    abbrev commands : List Command
    commands = (taken sheet c m fuel own count checked).0

    accepts : began ≡ accepted commands
    accepts = (taken sheet c m fuel own count checked).1

    counted : count ≡ length commands
    counted = (taken sheet c m fuel own count checked).2

    abbrev rules : Table
    rules = (start-ready commands accepts).0

    ready : Ready commands rules
    ready = (start-ready commands accepts).1

    length_is : size ≡ length (translate rules)
    length_is = sized ∙ ap (λ q. length (handler_of q)) ready.rules

    pub loop_needs : (count ≤ 4096) × (size ≤ 8192) × (fuel ≤ 1000000)
    loop_needs = (
      rw counted (few sheet c m fuel own octets commands ready.fine),
      rw length_is (handler-few bytes rules ready.rules),
      ready.fine.allowance,
    )

    pub run_is : (program space : List ℤ) → program ≡ write_space sheet m.program → space ≡ put_code 0 (table_code bytes) handler
        → (d : Done Tag)
        → d ≡ loop_of (tag_words (handle_space space size)) count (surroundings c m.output) program fuel 0 started (tag_of row) m.lent m.output
        → left (ended (Ok d.ran) d.ruler (memory program d.lent d.output)) space
        ≡ tagged sheet bytes row c m handler fuel
    run_is program space p h =
        execute-accepted octets commands accepts rules ready count counted program space size
        (p ∙ written-accepted sheet commands m.program ready.fine.decoded ready.fine.program)
        (h ∙ written-table bytes rules handler ready.rules ready.fits) length_is
