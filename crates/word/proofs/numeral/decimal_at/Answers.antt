-- `word::numeral::decimal_at` meets its contract: the test for a minus decides.
-- Assumes nothing.
use Rattle.std.proofs.Common.{◌≡◌, ℕ, ◌+◌, Bor, true, false, drop, get_or, eqb, sym, refl, ap, ◌∙◌, arith, Option, None, Some}
use Rattle.std.specs.Option.{option_eq, option_map, unwrap_or}
use Rattle.word.specs.Numeral.{leading_digits, decimal_at, capped_decimal}
use Rattle.word.proofs.Laws.Reading.{decimal-kept}
use Rattle.word.proofs.numeral.decimal_at.Goals as goal

-- the test of what `get` lends is that of the byte, which is 0 where there is none
lent-eq : (o : Option (Bor ℕ)) (b : Bor ℕ) (x : ℕ) → b.now ≡ 45 → unwrap_or (option_map (λ (y : Bor ℕ). y.now) o) 0 ≡ x
    → option_eq (λ (y z : Bor ℕ). eqb y.now z.now) o (Some b) ≡ eqb x 45
lent-eq None b x m e = ap (λ (y : ℕ). eqb y 45) e
lent-eq (Some y) b x m e = rw (e, m)

pub returns-then-eq : goal.returns-then-eq
unfolding decimal_at
returns-then-eq c =
    let a = c.args in
    let e = lent-eq c.get.result _ (get_or a.s.now a.at 0) refl (c.get.ensures.lookup.4 (omega arith) 0) in
    rw (sym e ∙ sym c.eq.ensures ∙ c.if-eq.true)
    (c.signed_digits.ensures
    ∙ ap (λ x. capped_decimal true (a.at + 1) x.value x.next) c.leading.ensures
    ∙ decimal-kept true (a.at + 1) (leading_digits (drop (a.at + 1) a.s.now)))

pub returns-else-eq : goal.returns-else-eq
unfolding decimal_at
returns-else-eq c =
    let a = c.args in
    let e = lent-eq c.get.result _ (get_or a.s.now a.at 0) refl (c.get.ensures.lookup.4 (omega arith) 0) in
    rw (sym e ∙ sym c.eq.ensures ∙ c.if-eq.false)
    (c.signed_digits-else-eq.ensures
    ∙ ap (λ x. capped_decimal false a.at x.value x.next) c.leading-else-eq.ensures
    ∙ decimal-kept false a.at (leading_digits (drop a.at a.s.now)))
