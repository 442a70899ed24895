-- Whether a whole number is a signed one of k bits: what the test says; the word that it is; and how the code finds it out of two words,
-- by tests that pass no end.
-- Assumes nothing.
use Rattle.std.proofs.Common.{◌≡◌, ℕ, ◌+◌, ◌-◌, ◌^◌, ◌≤◌, Bool, true, false, ℤ, pos, negsuc, ◌+ℤ◌, ◌-ℤ◌, sym, refl, subst, ap, ◌∙◌, arith, w64, SFits, to_z, of_z, ltb-false, ltb-true, lt-ltb, Option, None, Some}
use Rattle.std.specs.Option.{SomeIff}
use lib.Signed.{mag, lt_z}
use Rattle.word.specs.Wrap.{Signed}
use Rattle.word.specs.Exact.{is_signed, exactly}
use Rattle.word.proofs.Signed.{back, back-ok}
use Rattle.word.proofs.Laws.Parts.{up, down, sum-parts, difference-parts, less-parts, least-parts, parts-signed, signed_parts, Apart}

module _ (k : ℕ) (z : ℤ) where
  pub signed_test : Signed k z → is_signed k z ≡ true
  signed_test h = lt-ltb (mag z) (2 ^ (k - 1)) h

  pub unsigned-test : (Signed k z → ⊥) → is_signed k z ≡ false
  unsigned-test h = by (is_signed k z) refl
    where
      by : (t : Bool) → is_signed k z ≡ t → t ≡ false
      by true e = absurd (h (ltb-true (mag z) (2 ^ (k - 1)) e))
      by false e = refl

  pub test-signed : is_signed k z ≡ true → Signed k z
  test-signed e = ltb-true (mag z) (2 ^ (k - 1)) e

  pub test-unsigned : is_signed k z ≡ false → Signed k z → ⊥
  test-unsigned e h = omega (arith, ltb-false (mag z) (2 ^ (k - 1)) e)

pub exactly-number : (z : ℤ) → Signed 64 z → Some z ≡ exactly z
unfolding exactly
exactly-number z h = rw (signed_test 64 z h)

pub exactly-outside : (z : ℤ) → (Signed 64 z → ⊥) → None ≡ exactly z
unfolding exactly
exactly-outside z h = rw (unsigned-test 64 z h)

-- the kit's checked sums and differences answer so
pub exactly-if : (r : Option ℤ) (z : ℤ) → SomeIff r (SFits w64 z) z → r ≡ exactly z
exactly-if (Some x) z h = ap Some h.1 ∙ exactly-number z h.0.sfits
exactly-if None z h = exactly-outside z (λ s. h (record { sfits = s }))

-- ════════════════════════════════════════════════════════════════════════════════════════════
-- A number s made of two words a and b, found outside by comparing a with a bound t that is a word, too
-- ════════════════════════════════════════════════════════════════════════════════════════════

-- the least word and the largest
abbrev pub low : ℤ
low = negsuc (2 ^ 63 - 1)

abbrev pub high : ℤ
high = pos (2 ^ 63 - 1)

-- the bound t has 64 bits, and the outcome of comparing a with it says whether s has
pub record Tested (s t : ℤ) (beyond : Bool) : Type 0 where
  pub fits : Signed 64 t
  pub outside : beyond ≡ true → Signed 64 s → ⊥
  pub inside : beyond ≡ false → Signed 64 s

-- a lies as far from t as s from the end that s may pass; from a to s is at most 2^63, downwards or upwards
module _ (a s t : ℤ) (h : Signed 64 a) where
  pub at_low : Apart a t s low → up s + down a ≤ up a + down s → up a + down s ≤ 2 ^ 63 + (up s + down a) → Tested s t (lt_z a t)
  at_low e near far =
      let u = signed_parts 64 a h in
      record {
        fits = parts-signed 64 t (omega arith) (omega arith);
        outside = λ p g. omega (arith, less-parts a t p, signed_parts 64 s g);
        inside = λ p. let w = least-parts a t p in parts-signed 64 s (omega arith) (omega arith);
      }

  pub at_high : Apart a t s high → up a + down s ≤ up s + down a → up s + down a ≤ 2 ^ 63 + (up a + down s) → Tested s t (lt_z t a)
  at_high e near far =
      let u = signed_parts 64 a h in
      record {
        fits = parts-signed 64 t (omega arith) (omega arith);
        outside = λ p g. omega (arith, less-parts t a p, signed_parts 64 s g);
        inside = λ p. let w = least-parts t a p in parts-signed 64 s (omega arith) (omega arith);
      }

-- a number as the code has it, by way of its bits
abbrev word : ℤ → ℤ
word z = to_z w64 (of_z w64 z)

word-signed : {z : ℤ} → SFits w64 z → Signed 64 (word z)
word-signed f = rw (back f) f.sfits

-- the bound comes by way of its bits, too
worded : (s t : ℤ) (test : ℤ → Bool) → Tested s t (test t) → Tested s t (test (word t))
worded s t test x = subst (λ z. Tested s t (test z)) (sym (back-ok t x.fits)) x

module _ {a b : ℤ} (fa : SFits w64 a) (fb : SFits w64 b) where
  -- the four tests: of the sum and of the difference, for a negative b and for another
  pub sum-negative : lt_z (word b) (pos 0) ≡ true
      → Tested (word a +ℤ word b) (low -ℤ word b) (lt_z (word a) (word (low -ℤ word b)))
  sum-negative e =
      let f = sum-parts (word a) (word b) in
      let g = difference-parts low (word b) in
      let k = less-parts (word b) (pos 0) e in
      let v = signed_parts 64 (word b) (word-signed fb) in
      worded _ _ (λ t. lt_z (word a) t) (at_low (word a) _ _ (word-signed fa) (omega arith) (omega arith) (omega arith))

  pub sum-natural : lt_z (word b) (pos 0) ≡ false
      → Tested (word a +ℤ word b) (high -ℤ word b) (lt_z (word (high -ℤ word b)) (word a))
  sum-natural e =
      let f = sum-parts (word a) (word b) in
      let g = difference-parts high (word b) in
      let k = least-parts (word b) (pos 0) e in
      let v = signed_parts 64 (word b) (word-signed fb) in
      worded _ _ (λ t. lt_z t (word a)) (at_high (word a) _ _ (word-signed fa) (omega arith) (omega arith) (omega arith))

  pub difference-negative : lt_z (word b) (pos 0) ≡ true
      → Tested (word a -ℤ word b) (high +ℤ word b) (lt_z (word (high +ℤ word b)) (word a))
  difference-negative e =
      let f = difference-parts (word a) (word b) in
      let g = sum-parts high (word b) in
      let k = less-parts (word b) (pos 0) e in
      let v = signed_parts 64 (word b) (word-signed fb) in
      worded _ _ (λ t. lt_z t (word a)) (at_high (word a) _ _ (word-signed fa) (omega arith) (omega arith) (omega arith))

  pub difference-natural : lt_z (word b) (pos 0) ≡ false
      → Tested (word a -ℤ word b) (low +ℤ word b) (lt_z (word a) (word (low +ℤ word b)))
  difference-natural e =
      let f = difference-parts (word a) (word b) in
      let g = sum-parts low (word b) in
      let k = least-parts (word b) (pos 0) e in
      let v = signed_parts 64 (word b) (word-signed fb) in
      worded _ _ (λ t. lt_z (word a) t) (at_low (word a) _ _ (word-signed fa) (omega arith) (omega arith) (omega arith))

  -- what is answered then, of the number that `make` makes of a and b
  module _ (make : ℤ → ℤ → ℤ) {t : ℤ} {beyond : Bool} (x : Tested (make (word a) (word b)) t beyond) where
    pub answer-outside : beyond ≡ true → None ≡ exactly (make a b)
    answer-outside e = rw (back fa, back fb) at (exactly-outside (make (word a) (word b)) (x.outside e))

    pub answer-fits : beyond ≡ false → SFits w64 (make (word a) (word b))
    answer-fits e = record { sfits = x.inside e }

    pub answer-number : beyond ≡ false → Some (word (make (word a) (word b))) ≡ exactly (make a b)
    answer-number e =
        let n = make (word a) (word b) in
        let h : Signed 64 (make a b) = rw (back fa, back fb) at (x.inside e) in
        let g : Some n ≡ exactly (make a b) = rw (back fa, back fb) (exactly-number (make a b) h) in
        rw (back-ok n (x.inside e)) g
