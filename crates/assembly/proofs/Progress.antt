-- Commands that were read, before what is still to be read.
-- Assumes nothing.
use mathlib.Core.Path.{◌≡◌, refl, sym, ap, ◌∙◌}
use mathlib.Core.List.{List, [], ◌∷◌, ◌++◌, append_assoc, append-nil}
use Prim.Native.Nat.{ℕ, ◌+◌, ◌≤◌}
use native.Mathlib.Nat.{zero-add}
use native.Mathlib.Omega.{arith}
use lib.ListN.{length, length-append}
use Rattle.word.specs.Lay.{laid, laid_at}
use Rattle.word.proofs.Lay.{laid_at-zero, laid_at-append}
use Rattle.program.specs.declared.Command.{Command}
use Rattle.program.specs.declared.Refusal.{Refusal}
use Rattle.program.specs.Decode.{Decoded, refused, accepted, prepend}
use Rattle.program.specs.Encode.{encode_command, encode}
use Rattle.assembly.specs.Assembly.{newline, line_text, listing}

abbrev pub after : List Command → Decoded → Decoded
after [] d = d
after (c ∷ cs) d = prepend c (after cs d)

pub after-snoc : (done : List Command) (c : Command) (d : Decoded) → after (done ++ (c ∷ [])) d ≡ after done (prepend c d)
after-snoc [] c d = refl
after-snoc (b ∷ done) c d = ap (prepend b) (after-snoc done c d)

pub after-refused : (done : List Command) (r : Refusal) → after done (refused r) ≡ refused r
after-refused [] r = refl
after-refused (c ∷ done) r = ap (prepend c) (after-refused done r)

pub after-accepted : (done cs : List Command) → after done (accepted cs) ≡ accepted (done ++ cs)
after-accepted [] cs = refl
after-accepted (c ∷ done) cs = ap (prepend c) (after-accepted done cs)

pub length-snoc : {A : Type 0} (xs : List A) (x : A) → length (xs ++ (x ∷ [])) ≡ length xs + 1
length-snoc xs x = length-append xs (x ∷ [])

-- what is laid after what is laid
pub laid_more : (xs ys old new : List ℕ) (n : ℕ) → n ≡ length xs → new ≡ laid xs old → length xs ≤ length old
    → laid_at n ys new ≡ laid (xs ++ ys) old
laid_more xs ys old new n e f h =
    rw (e, f)
    (ap (laid_at (length xs) ys) (sym (laid_at-zero xs old))
    ∙ sym (laid_at-append 0 xs ys old (omega arith) ∙ ap (λ (k : ℕ). laid_at k ys (laid_at 0 xs old)) (zero-add (length xs)))
    ∙ laid_at-zero (xs ++ ys) old)

-- one command more
pub encode_snoc : (done : List Command) (c : Command) → encode (done ++ (c ∷ [])) ≡ encode done ++ encode_command c
unfolding encode
encode_snoc [] c = simp append-nil
encode_snoc (b ∷ done) c = ap (λ (t : List ℕ). encode_command b ++ t) (encode_snoc done c) ∙ sym (append_assoc (encode_command b) (encode done) (encode_command c))

pub listing-append : (done cs : List Command) → listing (done ++ cs) ≡ listing done ++ listing cs
unfolding listing
listing-append [] cs = refl
listing-append (b ∷ done) cs =
    ap (λ (t : List ℕ). line_text b ++ newline ∷ t) (listing-append done cs)
    ∙ sym (append_assoc (line_text b) (newline ∷ listing done) (listing cs))

pub listing-snoc : (done : List Command) (c : Command) → listing (done ++ (c ∷ [])) ≡ listing done ++ (line_text c ++ newline ∷ [])
unfolding listing
listing-snoc done c = listing-append done (c ∷ [])
