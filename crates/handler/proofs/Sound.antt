-- The handler of every rule table that can be written is what document 01 asks of it (specs/Claim.antt); so is that of every accepted one.
-- Assumes nothing.
use mathlib.Core.Path.{◌≡◌, refl}
use mathlib.Core.List.{List, ◌++◌, map}
use Prim.Native.Nat.{ℕ}
use native.Mathlib.Omega.{arith}
use lib.ListN.{length-append}
use Rattle.program.specs.Command.{opcodes}
use Rattle.program.proofs.Codes.{code-least, code-most}
use Rattle.policy.specs.Expression.{Table}
use Rattle.policy.specs.Read.{ReadTable, refused, table, read_table}
use Rattle.policy.specs.Write.{TableWritable}
use Rattle.policy.proofs.Writable.{read-writable}
use Rattle.handler.specs.Kernel.{Instruction}
use Rattle.handler.specs.Translate.{compile_rule, concat, slots, translate}
use Rattle.handler.specs.Claim.{Jumps, Sound, Handles}
use Rattle.handler.proofs.Dispatch.{slots_length}
use Rattle.handler.proofs.Handler.{handler-run}
use Rattle.handler.proofs.Shape.{handler-length, bodies-forward, slots-forward}

-- there is a slot for each command
handler-jumps : (t : Table) → Jumps (translate t)
unfolding translate
handler-jumps t =
    let bodies = map compile_rule t in
    record {
      rest = slots bodies opcodes ++ concat bodies;
      dispatched = refl;
      written = slots-forward bodies opcodes (bodies-forward t);
      computed = λ o. (
        omega (arith, code-least o),
        simp (length-append, slots_length) (omega (arith, code-most o)),
      );
    }

pub handler-sound : (t : Table) → TableWritable t → Sound t (translate t)
handler-sound t well =
    record {
      least = unfold translate in omega arith;
      most = handler-length t well;
      jumps = handler-jumps t;
      faults = λ k marked. handler-run t k well marked;
    }

-- of bytes, with what holds of the table that they are
pub read-handles : (bytes : List ℕ) (P : Table → List Instruction → Type 0)
    → ((t : Table) → read_table bytes ≡ table t → P t (translate t)) → Handles (read_table bytes) P
read-handles bytes P h = by (read_table bytes) refl
  where
    by : (q : ReadTable) → read_table bytes ≡ q → Handles q P
    by (refused r) e = tt
    by (table t) e = (handler-sound t (read-writable bytes t e), h t e)
