-- What Add and Sub give is exact or stop 9, and every number that a step leaves has its origin (specs/Exact.antt).
-- Assumes nothing.
use mathlib.Core.Path.{◌≡◌, refl, ◌∙◌, ap, subst}
use mathlib.Core.Bool.{Bool}
use mathlib.Core.List.{List, ◌∷◌}
use Prim.Native.Nat.{ℕ}
use lib.IntN.{ℤ}
use Rattle.word.specs.Exact.{is_signed}
use Rattle.word.proofs.Laws.Exact.{signed_test, unsigned-test}
use Rattle.program.specs.declared.Command.{Command}
use Rattle.machine.specs.Atom.{Atom, Entry, value}
use Rattle.machine.specs.Rule.{missing, Verdict, denied, allowed, Policy}
use Rattle.machine.specs.Environment.{Environment}
use Rattle.machine.specs.State.{State}
use Rattle.machine.specs.declared.Stop.TheVariants.{Overflow}
use Rattle.machine.specs.Step.{Outcome, provided, of, atom, next, key_of, decide, making, request, execute}
use Rattle.machine.specs.Run.{step}
use Rattle.machine.specs.Stopped.{Makes, sum, difference, number}
use Rattle.machine.specs.Holds.{Holds}
use Rattle.machine.specs.Exact.{Brings, Sums, Origins}
use Rattle.machine.proofs.Step.{gives-stepped, step-at}
use Rattle.machine.proofs.Holds.{step-holds}

makes-request : (env : Environment) (c : Command) (s : State) (make : ℤ → ℤ → ℤ) → Makes c make → request env c s ≡ making s make
unfolding request
makes-request env c s make sum = refl
makes-request env c s make difference = refl

-- what such a command comes to, by its rule
made-asked : (π : Policy) (env : Environment) (c : Command) (s : State) (make : ℤ → ℤ → ℤ) (a b : Atom) (rest : List Entry) (v : Verdict)
    → Makes c make → s.stack ≡ value a ∷ value b ∷ rest → π (key_of c s (of a) (of b) missing) ≡ v
    → let n = make a.number b.number in
    execute π env c s ≡ decide v (λ p r. provided (is_signed 64 n) Overflow (next s p (value (atom n r) ∷ rest)))
unfolding execute
made-asked π env c s make a b rest v makes found e = rw (makes-request env c s make makes, found, e)

pub sums-exact : Sums
sums-exact π env cs s c m at =
    let n = number m in
    let key = key_of c s (of m.top) (of m.next) missing in
    let k : ℕ → ℕ → Bool → Outcome = λ p r b. provided b Overflow (next s p (value (atom n r) ∷ m.rest)) in
    let asked : (v : Verdict) → π key ≡ v → step π env cs s ≡ decide v (λ p r. k p r (is_signed 64 n)) =
    λ v e. step-at env s cs c at π ∙ made-asked π env c s m.make m.top m.next m.rest v m.makes m.found e in
    record {
      refused = λ e. asked denied e;
      inside = λ p r e h. asked (allowed p r) e ∙ ap (k p r) (signed_test 64 n h);
      outside = λ p r e h. asked (allowed p r) e ∙ ap (k p r) (unsigned-test 64 n h);
    }

pub origins : Origins
origins N π env cs s t c at e h new =
    gives-stepped (Holds N (λ l. Unit)) e
    (step-holds N (λ l. Unit) cs π (λ k p r g e. (tt, tt)) env s
    (λ d there. let same : c ≡ d = cc in subst (λ x. Brings N x s) same new) h)
