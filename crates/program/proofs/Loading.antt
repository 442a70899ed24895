-- Writing a program command by command: what is left to write, laid from the next word on, gives the whole space. And what is written of an
-- accepted program that fits is the program.
-- Assumes nothing.
use Rattle.std.proofs.Common.{Err, Ok}
use mathlib.Core.Path.{◌≡◌, refl, sym, ap, ◌∙◌}
use mathlib.Core.Bool.{Bool, true, false}
use mathlib.Core.List.{List, [], ◌∷◌}
use Prim.Native.Nat.{ℕ, zero, suc, ◌+◌, ◌-◌, ◌*◌, ◌/◌, ◌<◌, ◌≤◌}
use native.Mathlib.Numerals.{add-one, add-two}
use native.Mathlib.Omega.{arith}
use lib.IntN.{ℤ, pos}
use lib.ListN.{length, drop, get_or, set, length-set, drop_of_length-le}
use Rattle.word.specs.Lay.{laid, laid_at}
use Rattle.word.proofs.Lay.{laid_at-nil, laid_at-zero, laid_at-cons}
use Rattle.program.specs.declared.Command.{Command}
use Rattle.program.specs.declared.Refusal.{Refusal}
use Rattle.program.specs.Command.{opcode_of}
use Rattle.program.specs.Decode.{First, unknown, cut, whole, first_opcode, Decoded, refused, accepted, refusal, prepend, permits}
use Rattle.program.specs.Decode.{decode_if, decode_first, decode_from, decode, command_limit}
use Rattle.program.specs.Fetch.{fetch_of}
use Rattle.program.specs.Space.{program_words, take_first, readable, write_space}
use Rattle.program.proofs.Codes.{opcode-command}
use Rattle.program.proofs.Fetching.{Next, fetched-next, readable-unknown, readable-cut, readable-next}
use Rattle.program.specs.declared.Fault.{Fault}
use Rattle.program.specs.declared.Fault.TheVariants.{Unknown, Cut}

-- ════════════════════════════════════════════════════════════════════════════════════════════
-- Command by command
-- ════════════════════════════════════════════════════════════════════════════════════════════

-- the space `space`, into which the commands before `at` are written, i words of it; so many more have room
pub record Writing (s : List ℕ) (old space : List ℤ) (at i : ℕ) : Type 0 where
  pub room : ℕ
  pub fits : i + 2 * room ≤ length space
  pub full : length space < i + 2 * room + 2
  pub same : length space ≡ length old
  pub words : laid_at i (program_words (readable room (drop at s))) space ≡ write_space s old

pub writing_start : (s : List ℕ) (old : List ℤ) → Writing s old old 0 0
unfolding write_space
writing_start s old =
    record {
      room = length old / 2;
      fits = omega arith;
      full = omega arith;
      same = refl;
      words = laid_at-zero (program_words (readable (length old / 2) s)) old;
    }

readable-nil : (n : ℕ) → readable n [] ≡ []
unfolding readable
readable-nil zero = refl
readable-nil (suc n) = refl

readable-zero : (s : List ℕ) → readable 0 s ≡ []
unfolding readable
readable-zero s = refl

module _ (s : List ℕ) (old space : List ℤ) (at i : ℕ) (w : Writing s old space at i) where
  -- nothing more is written
  nothing : readable w.room (drop at s) ≡ [] → space ≡ write_space s old
  unfolding program_words
  nothing e = sym (laid_at-nil i space) ∙ ap (λ cs. laid_at i (program_words cs) space) (sym e) ∙ w.words

  pub writing-end : length s ≤ at → space ≡ write_space s old
  writing-end h = nothing (ap (readable w.room) (drop_of_length-le s h) ∙ readable-nil w.room)

  pub writing-full : length space - i < 2 → space ≡ write_space s old
  writing-full h =
      let f = w.fits in
      let e : w.room ≡ 0 = omega arith in
      nothing (ap (λ n. readable n (drop at s)) e ∙ readable-zero (drop at s))

  module _ (h : at < length s) (free : 2 ≤ length space - i) where
    left : ℕ
    left = w.room - 1

    left-suc : w.room ≡ suc left
    unfolding left
    left-suc = let f = w.full in omega arith

    pub writing-unknown : fetch_of s at ≡ Err Unknown → space ≡ write_space s old
    writing-unknown e = nothing (ap (λ n. readable n (drop at s)) left-suc ∙ readable-unknown s at h left e)

    pub writing-cut : fetch_of s at ≡ Err Cut → space ≡ write_space s old
    writing-cut e = nothing (ap (λ n. readable n (drop at s)) left-suc ∙ readable-cut s at h left e)

    pub writing-fault : (fault : Fault) → fetch_of s at ≡ Err fault → space ≡ write_space s old
    writing-fault Unknown e = writing-unknown e
    writing-fault Cut e = writing-cut e

    module _ (z : ℤ) (next : ℕ) (e : fetch_of s at ≡ Ok (z, next)) where
      now : Next s at z next
      now = fetched-next s at h z next e

      pub writing-forward : (at < next) × (next ≤ length s)
      writing-forward = (now.forward, now.within)

      -- the two words of the command
      abbrev after : List ℤ
      after = set (set space i (pos (get_or s at 0))) (i + 1) z

      abbrev rest : List Command
      rest = readable left (drop next s)

      words-next : laid_at i (program_words (readable w.room (drop at s))) space ≡ laid_at (i + 2) (program_words rest) after
      unfolding program_words
      words-next =
          ap (λ cs. laid_at i (program_words cs) space) (ap (λ n. readable n (drop at s)) left-suc ∙ readable-next s at h left now)
          ∙ rw (
            opcode-command now.opcode z,
            now.operand-is,
            now.code,
            laid_at-cons i (pos (get_or s at 0)) (z ∷ program_words rest) space (omega arith),
            laid_at-cons (suc i) z (program_words rest) (set space i (pos (get_or s at 0))) (let k = length-set space i (pos (get_or s at 0)) in
                omega arith),
            add-one i,
            add-two i,
          )

      pub writing-next : Writing s old after next (i + 2)
      writing-next =
          record {
            room = left;
            fits = let f = w.fits in let k = left-suc in simp length-set (omega arith);
            full = let f = w.full in let k = left-suc in simp length-set (omega arith);
            same = simp length-set w.same;
            words = sym words-next ∙ w.words;
          }

-- ════════════════════════════════════════════════════════════════════════════════════════════
-- An accepted program
-- ════════════════════════════════════════════════════════════════════════════════════════════

never : {A : Type 0} (d : Decoded) {r : Refusal} {cs : List Command} → d ≡ refused r → d ≡ accepted cs → A
never d e f = absurd (let z : ◌≡◌ {A = ℕ} 0 1 = cc in omega arith)

prepend-accepted : (c : Command) (d : Decoded) (cs : List Command) → prepend c d ≡ accepted cs
    → (rest : List Command) × (d ≡ accepted rest) × (cs ≡ c ∷ rest)
prepend-accepted c (refused r) cs e = never (refused r) refl e
prepend-accepted c (accepted rest) cs e = (rest, refl, cc)

pub decoded-accepted : (b : Bool) (c : Command) (at : ℕ) (d : Decoded) (cs : List Command) → decode_if b c at d ≡ accepted cs
    → (rest : List Command) × (d ≡ accepted rest) × (cs ≡ c ∷ rest)
decoded-accepted true c at d cs e = prepend-accepted c d cs e
decoded-accepted false c at d cs e = never (decode_if false c at d) refl e

module _ (at : ℕ) (rest : ℕ → Decoded) (cs : List Command) where
  first_some : (x : First) → decode_first x at rest ≡ accepted cs → 1 ≤ length cs
  first_some unknown e = never (refused (refusal 2 at)) refl e
  first_some cut e = never (refused (refusal 3 at)) refl e
  first_some (whole c w) e = let k = ap length (decoded-accepted (permits c) c at (rest w) cs e).2 in omega arith

  first-readable : (x : First) (n : ℕ) (more : ℕ → List Command)
      → ((w : ℕ) (ds : List Command) → rest w ≡ accepted ds → length ds ≤ n → more w ≡ ds)
      → decode_first x at rest ≡ accepted cs → length cs ≤ suc n → take_first x more ≡ cs
  first-readable unknown n more f e h = never (refused (refusal 2 at)) refl e
  first-readable cut n more f e h = never (refused (refusal 3 at)) refl e
  first-readable (whole c w) n more f e h =
      let (ds, d, k) = decoded-accepted (permits c) c at (rest w) cs e in
      let l = ap length k in
      ap (λ l. c ∷ l) (f w ds d (omega arith)) ∙ sym k

-- with room for its commands, all of them are read
readable-accepted : (left at : ℕ) (s : List ℕ) (cs : List Command) (n : ℕ) → decode_from left at s ≡ accepted cs → length cs ≤ n
    → readable n s ≡ cs
unfolding decode_from readable
readable-accepted zero at [] cs n e h = let k : [] ≡ cs = cc in readable-nil n ∙ k
readable-accepted zero at (b ∷ s) cs n e h = never (refused (refusal 1 at)) refl e
readable-accepted (suc left) at [] cs n e h = let k : [] ≡ cs = cc in readable-nil n ∙ k
readable-accepted (suc left) at (b ∷ s) cs zero e h =
    absurd (omega (arith, first_some at (λ w. decode_from left (at + suc w) (drop w s)) cs (first_opcode (opcode_of b) s) e))
readable-accepted (suc left) at (b ∷ s) cs (suc n) e h =
    first-readable at (λ w. decode_from left (at + suc w) (drop w s)) cs (first_opcode (opcode_of b) s) n (λ w. readable n (drop w s))
    (λ w ds d l. readable-accepted left (at + suc w) (drop w s) ds n d l) e h

-- of an accepted program whose words fit, what is written is the program
pub written-accepted : (s : List ℕ) (cs : List Command) (old : List ℤ) → decode s ≡ accepted cs → 2 * length cs ≤ length old
    → write_space s old ≡ laid (program_words cs) old
unfolding decode write_space
written-accepted s cs old e h = ap (λ l. laid (program_words l) old) (readable-accepted command_limit 0 s cs (length old / 2) e (omega arith))
