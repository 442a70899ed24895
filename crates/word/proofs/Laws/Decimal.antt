-- The texts of words and labels: read back they give the number, so that two numbers have two texts; they have no leading
-- zero; how long they are.
-- Assumes nothing.
use Rattle.std.proofs.Common.{◌≡◌, ℕ, suc, ◌-◌, ◌/◌, ◌%◌, ◌^◌, ◌<◌, ◌≤◌, List, length, get_or, drop, ℤ, pos, negsuc, sym, ap, ◌∙◌, mod-eq_of_lt, div-lt_iff_lt-mul, le-div_iff_mul-le, arith}
use native.Mathlib.Nat.{one-le-pow, pow-succ'}
use Rattle.word.specs.Wrap.{Signed}
use Rattle.word.specs.Text.{digit_char, digit_value, numeral_value, digit_count, natural, decimal, hexadecimal}
use Rattle.word.proofs.Laws.Numeral.{digit_char-value, digit_char-ge, numeral-length, numeral-value, numeral-cons}
use Rattle.word.proofs.Laws.Numeral.{digit_count-pos, digit_count-suffices, digit_count-within, digit_count-least}

-- ════════════════════════════════════════════════════════════════════════════════════════════
-- Natural numbers
-- ════════════════════════════════════════════════════════════════════════════════════════════

pub natural-length : (n : ℕ) → length (natural n) ≡ digit_count 10 19 n
unfolding natural
natural-length n = numeral-length 10 (digit_count 10 19 n) n

pub natural-value : (n : ℕ) → n < 10 ^ 20 → numeral_value 10 (natural n) ≡ n
unfolding natural
natural-value n h = numeral-value 10 (digit_count 10 19 n) n (digit_count-suffices 10 19 n (omega arith) h)

pub natural-injective : (m n : ℕ) → m < 10 ^ 20 → n < 10 ^ 20 → natural m ≡ natural n → m ≡ n
natural-injective m n h k e = sym (natural-value m h) ∙ ap (numeral_value 10) e ∙ natural-value n k

-- the first of k + 1 digits
natural-first : (n k : ℕ) → digit_count 10 19 n ≡ suc k → get_or (natural n) 0 0 ≡ digit_char (n / 10 ^ k % 10)
unfolding natural
natural-first n k e = rw (e, numeral-cons 10 k n)

lead : (n k : ℕ) → n < 10 ^ suc k → 10 ^ k ≤ n → digit_char (n / 10 ^ k % 10) ≡ 48 → ⊥
unfolding digit_value
lead n k h l e =
    let pow : 0 < 10 ^ k = one-le-pow k 10 (omega arith) in
    let low : n / 10 ^ k < 10 = (div-lt_iff_lt-mul pow).1 (rw (pow-succ' 10 k) at h) in
    let high : 1 ≤ n / 10 ^ k = (le-div_iff_mul-le pow).1 (omega arith) in
    let none : n / 10 ^ k % 10 ≡ 0 = sym (digit_char-value (n / 10 ^ k % 10)) ∙ ap digit_value e in
    omega (arith, mod-eq_of_lt low)

-- no leading zero, unless the number is 0
pub natural-lead : (n : ℕ) → 0 < n → n < 10 ^ 20 → get_or (natural n) 0 0 ≡ 48 → ⊥
natural-lead n p h e =
    let k = digit_count 10 19 n - 1 in
    let s : digit_count 10 19 n ≡ suc k = omega (arith, digit_count-pos 10 19 n) in
    lead n k
    (rw s at (digit_count-suffices 10 19 n (omega arith) h))
    (digit_count-least 10 19 k n (omega arith) p s)
    (sym (natural-first n k s) ∙ e)

-- ════════════════════════════════════════════════════════════════════════════════════════════
-- Words
-- ════════════════════════════════════════════════════════════════════════════════════════════

-- no digit is the minus sign
natural-sign : (n : ℕ) → get_or (natural n) 0 0 ≡ 45 → ⊥
natural-sign n e =
    let k = digit_count 10 19 n - 1 in
    let s : digit_count 10 19 n ≡ suc k = omega (arith, digit_count-pos 10 19 n) in
    omega (arith, natural-first n k s, digit_char-ge (n / 10 ^ k % 10))

pub decimal_injective : (y z : ℤ) → Signed 64 y → Signed 64 z → decimal y ≡ decimal z → y ≡ z
unfolding decimal
decimal_injective (pos m) (pos n) h k e = ap pos (natural-injective m n (omega arith) (omega arith) e)
decimal_injective (pos m) (negsuc n) h k e = absurd (natural-sign m (ap (λ (text : List ℕ). get_or text 0 0) e))
decimal_injective (negsuc m) (pos n) h k e = absurd (natural-sign n (ap (λ (text : List ℕ). get_or text 0 0) (sym e)))
decimal_injective (negsuc m) (negsuc n) h k e =
    let s : suc m ≡ suc n = natural-injective (suc m) (suc n) (omega arith) (omega arith) (ap (drop 1) e) in
    ap negsuc (omega arith)

pub decimal-length : (z : ℤ) → Signed 64 z → length (decimal z) ≤ 20
unfolding decimal
decimal-length (pos n) h = omega (arith, natural-length n, digit_count-within 10 19 18 n (omega arith))
decimal-length (negsuc n) h = omega (arith, natural-length (suc n), digit_count-within 10 19 18 (suc n) (omega arith))

-- ════════════════════════════════════════════════════════════════════════════════════════════
-- Labels
-- ════════════════════════════════════════════════════════════════════════════════════════════

pub hexadecimal-length : (n : ℕ) → length (hexadecimal n) ≡ 8
unfolding hexadecimal
hexadecimal-length n = numeral-length 16 8 n

pub hexadecimal-value : (n : ℕ) → n < 2 ^ 32 → numeral_value 16 (hexadecimal n) ≡ n
unfolding hexadecimal
hexadecimal-value n h = numeral-value 16 8 n h
