-- Writing one command as bytes, as the code does it: its code, then the bytes of its operand's field.
-- Assumes nothing.
use Rattle.std.proofs.Common.{None, Option, Some}
use mathlib.Core.Path.{◌≡◌, sym, ap₂, ◌∙◌}
use mathlib.Core.List.{List, ◌∷◌}
use Prim.Native.Nat.{ℕ, ◌+◌, ◌<◌, ◌≤◌}
use native.Mathlib.Omega.{arith}
use lib.IntN.{ℤ}
use lib.ListN.{length, set}
use Rattle.word.specs.Field.{bytes_of}
use Rattle.word.specs.Text.{put_answer, put_out}
use Rattle.word.proofs.Laws.Field.{bytes-length}
use Rattle.word.proofs.Laws.Text.{put-none, put-cons}
use Rattle.program.specs.declared.Shape.{Shape}
use Rattle.program.specs.Command.{opcode_of, width}
use Rattle.program.specs.Encode.{encode_code}
use Rattle.program.specs.Fetch.{shape_of, field_of}
use Rattle.program.proofs.Encoding.{put-bare}
use Rattle.program.proofs.Fetching.{Shaped, shaped, width-nothing, encode-shaped}

-- a text is put: what is answered, and what is written
abbrev pub Puts : (at : ℕ) (text old : List ℕ) → Option ℕ → List ℕ → Type 0
Puts at text old r out = record { answer : r ≡ put_answer at text old; written : out ≡ put_out at text old }

-- a code with an operand, whose field is y, of k bytes
module _ (code : ℕ) (shape : Shape) (i : Some shape ≡ shape_of (opcode_of code)) (z y : ℤ) (d : y ≡ field_of shape.operand z)
    (k : ℕ) (e : k ≡ width shape.operand) (at : ℕ) (old : List ℕ) where
  s : Shaped code shape.operand
  s = shaped code shape (sym i)

  encoded : encode_code (opcode_of code) z ≡ code ∷ bytes_of k y
  encoded = encode-shaped code shape.operand s z ∙ ap₂ (λ n y. code ∷ bytes_of n y) (sym e) (sym d)

  pub puts-none : length old ≤ at + k → Puts at (encode_code (opcode_of code) z) old None old
  puts-none h =
      let put = put-none at (k + 1) (code ∷ bytes_of k y) old (omega (arith, bytes-length k y)) (omega arith) in
      rw encoded (record { answer = sym put.0; written = sym put.1 })

  pub puts-field : at + k < length old → (n : ℕ) → k ≡ n → {r : Option ℕ} {out : List ℕ} → Puts (at + 1) (bytes_of n y) (set old at code) r out
      → Puts at (encode_code (opcode_of code) z) old r out
  puts-field h n f p =
      let put = put-cons at k code (bytes_of k y) old (bytes-length k y) (omega arith) in
      let q = rw (sym f) at p in
      rw encoded (record { answer = q.answer ∙ put.0; written = q.written ∙ put.1 })

  pub puts-bare : at < length old → (k ≡ 8 → ⊥) → (k ≡ 2 → ⊥) → (k ≡ 1 → ⊥)
      → Puts at (encode_code (opcode_of code) z) old (Some (at + 1)) (set old at code)
  puts-bare h f g n =
      let none = width-nothing code shape.operand s (λ w. f (e ∙ w)) (λ w. g (e ∙ w)) (λ w. n (e ∙ w)) in
      let put = put-bare at code y old h in
      rw (encoded, e, none) (record { answer = put.0; written = put.1 })
