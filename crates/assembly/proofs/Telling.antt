-- Listing a sheet command by command: what is listed, before what is still to be listed, is the whole sheet's text.
-- Assumes nothing.
use Rattle.std.proofs.Common.{Err, Ok}
use mathlib.Core.Path.{◌≡◌, refl, sym, ap, ◌∙◌}
use mathlib.Core.Bool.{Bool, true, false}
use mathlib.Core.List.{List, [], ◌∷◌, ◌++◌, append-nil}
use Prim.Native.Nat.{ℕ, suc, ◌+◌, ◌-◌, ◌*◌, ◌<◌, ◌≤◌}
use native.Mathlib.Omega.{arith}
use lib.IntN.{ℤ, pos}
use lib.Dec.{ltb}
use lib.ListN.{length, drop, get_or, length-append, drop_of_length-le}
use borrow.Author.Tests.{ltb-true, ltb-false}
use Rattle.word.specs.Lay.{laid, laid_at}
use Rattle.word.specs.Field.{Bytes}
use Rattle.word.proofs.Bool.{never}
use Rattle.word.proofs.Lay.{laid_at-nil, laid_at-zero, length-laid}
use Rattle.program.specs.declared.Command.{Command}
use Rattle.program.specs.declared.Refusal.{Refusal}
use Rattle.program.specs.Command.{Opcode, opcode_of, code_of, operand, command}
use Rattle.program.specs.Decode.{Decoded, refused, accepted, refusal, prepend, decode_from, decode, command_limit, check_answer, permits}
use Rattle.program.specs.Fetch.{fetch_of}
use Rattle.program.proofs.Checking.{remaining, remaining-end, remaining-limit}
use Rattle.program.proofs.Encoding.{decoded-writable}
use Rattle.program.proofs.Codes.{opcode_of-code_of, opcode-command}
use Rattle.program.proofs.Fetching.{Next, fetched-next, decode-unknown, decode-cut, decode-next}
use Rattle.assembly.specs.Assembly.{newline, line_text, listing, denied, given, result_of, listed}
use Rattle.assembly.specs.Space.{Counted, Acceptable, text_in, text_of, Bare, code_text}
use Rattle.assembly.proofs.Bounds.{listing-length}
use Rattle.assembly.proofs.Laying.{bare-line}
use Rattle.assembly.proofs.Progress.{after, after-snoc, length-snoc, laid_more, listing-append, listing-snoc}
use Rattle.program.specs.declared.Fault.{Fault}
use Rattle.program.specs.declared.Fault.TheVariants.{Unknown, Cut}

pub record Told (s : List ℕ) (at size : ℕ) : Type 0 where
  pub done : List Command
  pub few : length done ≤ command_limit
  pub rest : decode s ≡ after done (remaining s at (length done))
  pub sized : size ≡ length (listing done)

pub told-start : (s : List ℕ) → Told s 0 0
unfolding decode listing
told-start s = record { done = []; few = omega arith; rest = refl; sized = refl }

-- the commands of an acceptable sheet begin with those that are listed
prepend-accepted : (c : Command) (d : Decoded) (cs : List Command) → prepend c d ≡ accepted cs
    → (ds : List Command) × (d ≡ accepted ds) × (cs ≡ c ∷ ds)
prepend-accepted c (refused r) cs e = never (cc)
prepend-accepted c (accepted ds) cs e = (ds, refl, cc)

after-whole : (done : List Command) (d : Decoded) (cs : List Command) → after done d ≡ accepted cs
    → (ds : List Command) × (d ≡ accepted ds) × (cs ≡ done ++ ds)
after-whole [] d cs e = (cs, e, refl)
after-whole (c ∷ done) d cs e =
    let p = prepend-accepted c (after done d) cs e in
    let q = after-whole done d p.0 p.1 in
    (q.0, q.1, p.2 ∙ ap (λ (l : List Command). c ∷ l) q.2)

accepted-same : {cs ds : List Command} → accepted cs ≡ accepted ds → cs ≡ ds
accepted-same e = cc

refusal-not : {A : Type 0} (r : Refusal) (ds : List Command) → refused r ≡ accepted ds → A
refusal-not r ds e = never (cc)

-- the line of a command that was fetched
line-fetched : (code : ℕ) (o : Opcode) (z : ℤ) → code_of o ≡ code → operand (command o z) ≡ z
    → code_text (opcode_of code) z ≡ line_text (command o z) ++ newline ∷ []
line-fetched code o z e f = rw (sym e, opcode_of-code_of o, opcode-command o z, f)

text-is : (s : List ℕ) (acc : Acceptable s) → text_of s ≡ listing acc.0
text-is s acc = ap text_in acc.1

module _ {s : List ℕ} (acc : Acceptable s) {at size : ℕ} (t : Told s at size) where
  left_over : (ds : List Command) × (remaining s at (length t.done) ≡ accepted ds) × (acc.0 ≡ t.done ++ ds)
  left_over = after-whole t.done (remaining s at (length t.done)) acc.0 (sym t.rest ∙ acc.1)

  -- all is listed
  pub told-end : length s ≤ at → text_of s ≡ listing t.done
  told-end h =
      let e : remaining s at (length t.done) ≡ accepted [] =
      ap (decode_from (command_limit - length t.done) at) (drop_of_length-le s h) ∙ remaining-end (command_limit - length t.done) at in
      let none : left_over.0 ≡ [] = accepted-same (sym left_over.1 ∙ e) in
      text-is s acc ∙ ap listing (left_over.2 ∙ ap (λ (l : List Command). t.done ++ l) none ∙ append-nil t.done)

  module _ (h : at < length s) where
    left : ℕ
    left = command_limit - (length t.done + 1)

    -- one command more may follow, as the sheet is acceptable
    one : command_limit - length t.done ≡ suc left
    unfolding left
    one = by (ltb (length t.done) command_limit) refl
      where
        by : (b : Bool) → ltb (length t.done) command_limit ≡ b
            → command_limit - length t.done ≡ suc (command_limit - (length t.done + 1))
        by true f = omega (arith, ltb-true (length t.done) command_limit f)
        by false f =
            let z : command_limit - length t.done ≡ 0 = omega (arith, ltb-false (length t.done) command_limit f) in
            refusal-not (refusal 1 at) left_over.0
            (sym (remaining-limit s at h) ∙ ap (λ (n : ℕ). decode_from n at (drop at s)) (sym z) ∙ left_over.1)

    step : decode_from (suc left) at (drop at s) ≡ accepted left_over.0
    step = ap (λ (n : ℕ). decode_from n at (drop at s)) (sym one) ∙ left_over.1

    pub told-whole : {A : Type 0} (f : Fault) → fetch_of s at ≡ Err f → A
    told-whole Unknown e = refusal-not (refusal 2 at) left_over.0 (sym (decode-unknown s at h left e) ∙ step)
    told-whole Cut e = refusal-not (refusal 3 at) left_over.0 (sym (decode-cut s at h left e) ∙ step)

    module _ {z : ℤ} {next : ℕ} (e : fetch_of s at ≡ Ok (z, next)) where
      n : Next s at z next
      n = fetched-next s at h z next e

      c : Command
      c = command n.opcode z

      line : code_text (opcode_of (get_or s at 0)) z ≡ line_text c ++ newline ∷ []
      unfolding c
      line = line-fetched (get_or s at 0) n.opcode z n.code n.operand-is

      listed_more : listing (t.done ++ (c ∷ [])) ≡ listing t.done ++ code_text (opcode_of (get_or s at 0)) z
      listed_more = listing-snoc t.done c ∙ ap (λ (l : List ℕ). listing t.done ++ l) (sym line)

      grown : size + length (code_text (opcode_of (get_or s at 0)) z) ≡ length (listing (t.done ++ (c ∷ [])))
      grown =
          let k = ap length listed_more ∙ length-append (listing t.done) (code_text (opcode_of (get_or s at 0)) z) in
          omega (arith, k, t.sized)

      pub told-forward : at < next
      told-forward = n.forward

      -- it has no operand where the next one follows at once
      pub told-bare : next ≡ at + 1 → Bare (opcode_of (get_or s at 0))
      told-bare k = (n.opcode, sym (ap opcode_of n.code) ∙ opcode_of-code_of n.opcode, omega (arith, n.next-is))

      -- it may have its operand, as the sheet is acceptable
      allowed : permits c ≡ true
      unfolding c
      allowed = by (permits c) refl
        where
          by : (b : Bool) → permits c ≡ b → permits c ≡ true
          by true f = f
          by false f = refusal-not _ left_over.0 (sym (decode-next s at h left n false f) ∙ step)

      pub told-next : Told s next (size + length (code_text (opcode_of (get_or s at 0)) z))
      unfolding c left
      told-next =
          record {
            done = t.done ++ (c ∷ []);
            few = omega (arith, length-snoc t.done c, one);
            rest =
                t.rest
                ∙ ap (after t.done) (ap (λ (k : ℕ). decode_from k at (drop at s)) one ∙ decode-next s at h left n true allowed)
                ∙ sym (after-snoc t.done c (decode_from left next (drop next s)))
                ∙ ap (λ (k : ℕ). after (t.done ++ (c ∷ [])) (decode_from (command_limit - k) next (drop next s))) (sym (length-snoc t.done c));
            sized = grown;
          }

      -- its line has room in the text
      pub told-room : size + length (code_text (opcode_of (get_or s at 0)) z) ≤ length (text_of s)
      unfolding told-next
      told-room =
          let w = after-whole (t.done ++ (c ∷ [])) _ acc.0 (sym told-next.rest ∙ acc.1) in
          let k = ap length (text-is s acc ∙ ap listing w.2 ∙ listing-append (t.done ++ (c ∷ [])) w.0) in
          omega (arith, grown, k, length-append (listing (t.done ++ (c ∷ []))) (listing w.0))

      -- and is laid after what is laid
      told-laid : (old new : List ℕ) → length (text_of s) ≤ length old → new ≡ laid (listing t.done) old
          → laid_at size (code_text (opcode_of (get_or s at 0)) z) new ≡ laid (listing told-next.done) old
      unfolding told-next
      told-laid old new r l =
          laid_more (listing t.done) (code_text (opcode_of (get_or s at 0)) z) old new size t.sized l (omega (arith, told-room, t.sized))
          ∙ ap (λ (x : List ℕ). laid x old) (sym listed_more)

-- ════════════════════════════════════════════════════════════════════════════════════════════
-- In lent memory
-- ════════════════════════════════════════════════════════════════════════════════════════════

pub record Laid (s : List ℕ) (at size : ℕ) (old new : List ℕ) : Type 0 where
  pub told : Told s at size
  pub held : new ≡ laid (listing told.done) old

pub laid-start : (s old : List ℕ) → Laid s 0 0 old old
unfolding told-start listing
laid-start s old = record { told = told-start s; held = sym (sym (laid_at-zero [] old) ∙ laid_at-nil 0 old) }

module _ {s : List ℕ} (acc : Acceptable s) {at size : ℕ} {old new : List ℕ} (i : Laid s at size old new) where
  pub laid-length : length (text_of s) ≤ length old → length new ≡ length old
  laid-length h =
      let w = left_over acc i.told in
      let k = ap length (text-is s acc ∙ ap listing w.2 ∙ listing-append i.told.done w.0) in
      ap length i.held
      ∙ length-laid (listing i.told.done) old (omega (arith, k, length-append (listing i.told.done) (listing w.0)))

  pub laid_end : length s ≤ at → (size ≡ length (text_of s)) × (new ≡ laid (text_of s) old)
  laid_end h =
      let e = told-end acc i.told h in
      (i.told.sized ∙ sym (ap length e), i.held ∙ ap (λ (x : List ℕ). laid x old) (sym e))

  pub laid_next : (h : at < length s) {z : ℤ} {next : ℕ} → fetch_of s at ≡ Ok (z, next) → length (text_of s) ≤ length old
      → {size' : ℕ} {new' : List ℕ} → size' ≡ size + length (code_text (opcode_of (get_or s at 0)) z)
      → new' ≡ laid_at size (code_text (opcode_of (get_or s at 0)) z) new → Laid s next size' old new'
  laid_next h e r f g =
      rw (f, g) (record { told = told-next acc i.told h e; held = told-laid acc i.told h e old new r i.held })

  module _ (h : at < length s) {z : ℤ} {next : ℕ} (e : fetch_of s at ≡ Ok (z, next)) (r : length (text_of s) ≤ length old) where
    -- there is room for its line, and for that of a command without an operand
    pub laid-room : size + length (code_text (opcode_of (get_or s at 0)) z) ≤ length new
    laid-room = omega (arith, told-room acc i.told h e, laid-length r, r)

    pub laid-bare : next ≡ at + 1 → Bare (opcode_of (get_or s at 0)) × (size + length (code_text (opcode_of (get_or s at 0)) (pos 0)) ≤ length new)
    laid-bare k = let b = told-bare acc i.told h e k in (b, rw (bare-line (opcode_of (get_or s at 0)) b z) laid-room)

    -- which is written as with any
    pub laid_next_bare : next ≡ at + 1 → {size' : ℕ} {new' : List ℕ} → size' ≡ size + length (code_text (opcode_of (get_or s at 0)) (pos 0))
        → new' ≡ laid_at size (code_text (opcode_of (get_or s at 0)) (pos 0)) new → Laid s next size' old new'
    laid_next_bare k f g =
        let l = bare-line (opcode_of (get_or s at 0)) (told-bare acc i.told h e k) z in
        laid_next h e r (rw l at f) (rw l at g)

-- ════════════════════════════════════════════════════════════════════════════════════════════
-- How long the text is
-- ════════════════════════════════════════════════════════════════════════════════════════════

pub counted-acceptable : (s : List ℕ) (count : ℕ) → Counted s count → Acceptable s
counted-acceptable s count k = by (decode s) refl k
  where
    by : (d : Decoded) → decode s ≡ d → check_answer d ≡ Ok count → Acceptable s
    by (refused r) e k = never (cc)
    by (accepted cs) e k = (cs, e)

counted-length : (s : List ℕ) (count : ℕ) (cs : List Command) → decode s ≡ accepted cs → Counted s count → count ≡ length cs
counted-length s count cs e k = let f = sym k ∙ ap check_answer e in cc

module _ (s : List ℕ) (count : ℕ) (k : Counted s count) (b : Bytes s) where
  acc : Acceptable s
  acc = counted-acceptable s count k

  pub counted-few : count ≤ command_limit
  counted-few = omega (arith, counted-length s count acc.0 acc.1 k, (decoded-writable s acc.0 b acc.1).0)

  pub counted-most : length (text_of s) ≤ 26 * count
  counted-most =
      omega (
        arith,
        counted-length s count acc.0 acc.1 k,
        ap length (text-is s acc),
        listing-length acc.0 (decoded-writable s acc.0 b acc.1).1,
      )

pub text-most : (s : List ℕ) → Bytes s → (acc : Acceptable s) → length (text_of s) ≤ 26 * command_limit
text-most s b acc =
    let w = decoded-writable s acc.0 b acc.1 in
    omega (arith, ap length (text-is s acc), listing-length acc.0 w.1, w.0)

-- ════════════════════════════════════════════════════════════════════════════════════════════
-- What the check answers decides
-- ════════════════════════════════════════════════════════════════════════════════════════════

pub listed-refused : (s : List ℕ) (r : Refusal) → check_answer (decode s) ≡ Err r → listed s ≡ denied r
unfolding listed
listed-refused s r k = by (decode s) k
  where
    by : (d : Decoded) → check_answer d ≡ Err r → result_of listing d ≡ denied r
    by (refused q) k = cc
    by (accepted cs) k = never (cc)

pub listed-counted : (s : List ℕ) (count : ℕ) → Counted s count → listed s ≡ given (text_of s)
unfolding listed
listed-counted s count k =
    let acc = counted-acceptable s count k in
    ap (result_of listing) acc.1 ∙ ap given (sym (text-is s acc))
