-- Laws of lent memory: nothing written changes nothing, one element more is one store more, and the length stays.
-- Assumes nothing.
use Rattle.std.proofs.Common.{◌≡◌, ℕ, suc, ◌+◌, ◌-◌, ◌<◌, ◌≤◌, List, [], ◌∷◌, ◌++◌, length, take, drop, set, sym, ap, ◌∙◌, append_assoc, append-nil, add-zero, add-suc, suc-add, zero-add, arith, length-append, length-drop, length-set, take-append-drop, length-take-le, drop-cons, get_or-set_same, take-take, drop-drop, take-suc-set, drop-set-lt, lt-length-set}
use lib.Seq.{take-append_seam, take-append-le, drop-append-add}
use lib.Seq.{take-set-le}
use Rattle.word.specs.Lay.{laid, laid_at}

module _ {A : Type 0} where
  pub laid_at-nil : (at : ℕ) (old : List A) → laid_at at [] old ≡ old
  unfolding laid_at
  laid_at-nil at old = rw (add-zero at, append-nil) (take-append-drop at old)

  pub laid_at-zero : (new old : List A) → laid_at 0 new old ≡ laid new old
  unfolding laid laid_at
  laid_at-zero new old = rw (zero-add (length new))

  -- what is laid from `at` on is its first element stored there, and the others laid from the next position on
  pub laid_at-cons : (at : ℕ) (x : A) (xs old : List A) → at < length old → laid_at at (x ∷ xs) old ≡ laid_at (suc at) xs (set old at x)
  unfolding laid_at
  laid_at-cons at x xs old h =
      rw (
        take-suc-set old at x h,
        drop-set-lt (suc at + length xs) old at x (omega arith),
        add-suc at (length xs),
        suc-add at (length xs),
      ) (simp append_assoc)

  -- or its last element stored, and the others laid before it
  pub laid_at-snoc : (at : ℕ) (xs : List A) (x : A) (old : List A) → at + length xs < length old
      → laid_at at (xs ++ (x ∷ [])) old ≡ laid_at at xs (set old (at + length xs) x)
  unfolding laid_at
  laid_at-snoc at xs x old h =
      let j = at + length xs in
      let e : drop j (set old j x) ≡ x ∷ drop (suc j) old =
      drop-cons (set old j x) j x (lt-length-set old j x h)
      ∙ rw (get_or-set_same old j x x h, drop-set-lt (suc j) old j x (omega arith)) in
      let n : at + length (xs ++ (x ∷ [])) ≡ suc j = simp length-append (omega arith) in
      rw (e, n, take-set-le at old j x (omega arith)) (simp append_assoc)

  -- what is laid in two parts
  pub laid_at-append : (at : ℕ) (xs ys old : List A) → at + length xs ≤ length old
      → laid_at at (xs ++ ys) old ≡ laid_at (at + length xs) ys (laid_at at xs old)
  laid_at-append at [] ys old h = rw (laid_at-nil at old, add-zero at)
  laid_at-append at (x ∷ xs) ys old h =
      let n : suc at + length xs ≡ at + length (x ∷ xs) = omega arith in
      laid_at-cons at x (xs ++ ys) old (omega arith)
      ∙ laid_at-append (suc at) xs ys (set old at x) (rw (length-set old at x) (omega arith))
      ∙ ap (λ (l : List A). laid_at (suc at + length xs) ys l) (sym (laid_at-cons at x xs old (omega arith)))
      ∙ ap (λ (k : ℕ). laid_at k ys (laid_at at (x ∷ xs) old)) n

  pub length-laid_at : (at : ℕ) (new old : List A) → at + length new ≤ length old → length (laid_at at new old) ≡ length old
  unfolding laid_at
  length-laid_at at new old h = simp (length-append, length-take-le at old (omega arith), length-drop) (omega arith)

  -- what is laid over no more than itself
  pub laid_at-over : (at : ℕ) (xs ys old : List A) → length xs ≤ length ys → at + length ys ≤ length old
      → laid_at at ys (laid_at at xs old) ≡ laid_at at ys old
  unfolding laid_at
  laid_at-over at xs ys old h k =
      let p = take at old ++ xs in
      let r = drop (at + length xs) old in
      let t : length (take at old) ≡ at = length-take-le at old (omega arith) in
      let n : length p ≡ at + length xs = length-append (take at old) xs ∙ ap (λ (i : ℕ). i + length xs) t in
      let e : at + length ys ≡ length p + (length ys - length xs) = omega (arith, n) in
      let f : at + length xs + (length ys - length xs) ≡ at + length ys = omega arith in
      let before : take at (p ++ r) ≡ take at old =
      take-append-le at p r (omega (arith, n)) ∙ take-append-le at (take at old) xs (omega (arith, t)) ∙ take-take at at old (omega arith) in
      let after : drop (at + length ys) (p ++ r) ≡ drop (at + length ys) old =
      ap (λ (i : ℕ). drop i (p ++ r)) e ∙ drop-append-add p r (length ys - length xs)
      ∙ drop-drop (length ys - length xs) (at + length xs) old ∙ ap (λ (i : ℕ). drop i old) f in
      rw (before, after)

  -- a list by its start and its end, which may have some of it in common
  pub laid_at-both : (at : ℕ) (xs rest front ys old : List A) → xs ++ rest ≡ front ++ ys → length front ≤ length xs
      → at + length (front ++ ys) ≤ length old → length xs ≤ length (front ++ ys)
      → laid_at (at + length front) ys (laid_at at xs old) ≡ laid_at at (front ++ ys) old
  laid_at-both at xs rest front ys old e h k l =
      let n = length front in
      let a = length-append front ys in
      let d = drop n xs in
      let start : front ≡ take n xs = sym (take-append_seam front ys) ∙ ap (take n) (sym e) ∙ take-append-le n xs rest h in
      let whole : front ++ d ≡ xs = ap (λ (t : List A). t ++ d) start ∙ take-append-drop n xs in
      let m = length-drop n xs in
      let mid = laid_at at front old in
      ap (λ (t : List A). laid_at (at + n) ys (laid_at at t old)) (sym whole)
      ∙ ap (laid_at (at + n) ys) (laid_at-append at front d old (omega (arith, a)))
      ∙ laid_at-over (at + n) d ys mid (omega (arith, a, m)) (omega (arith, a, length-laid_at at front old (omega (arith, a))))
      ∙ sym (laid_at-append at front ys old (omega (arith, a)))

  pub length-laid : (new old : List A) → length new ≤ length old → length (laid new old) ≡ length old
  unfolding laid
  length-laid new old h = simp (length-append, length-drop) (omega arith)
