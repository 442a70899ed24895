-- Each instruction before the rest of a handler, where it has what it needs.
-- Assumes nothing.
use Rattle.std.proofs.Common.{Some, slice_get}
use mathlib.Core.Path.{◌≡◌, refl, ◌∙◌}
use mathlib.Core.List.{List, ◌∷◌, ◌++◌}
use Prim.Native.Nat.{ℕ, suc, ◌+◌, ◌-◌, ◌<◌}
use native.Mathlib.Omega.{arith}
use lib.IntN.{ℤ, pos, negsuc}
use lib.ListN.{length, set}
use lib.Seq.{drop-append_seam}
use borrow.Author.Tests.{lt-ltb}
use Rattle.word.specs.Wrap.{add_wrap, sub_wrap}
use Rattle.handler.specs.Kernel.{Instruction, Add, Sub, Or, Load, Store, Dup, Jump, Ret, Push, Bnz}
use Rattle.handler.specs.Kernel.{returned, denied, goes, effect, or_word, stack_limit}
use Rattle.handler.specs.Translate.{read}
use Rattle.handler.proofs.Exec.{exec, exec-skip, ending}

-- passing over an instruction, over a block
pub exec-pass : (n : ℕ) (i : Instruction) (rest : List Instruction) (skip : ℕ) (s w : List ℤ)
    → exec n (i ∷ rest) (suc skip) s w ≡ exec n rest skip s w
unfolding exec
exec-pass n i rest skip s w = refl

pub exec-over : (n : ℕ) (block rest : List Instruction) (s w : List ℤ) → exec n (block ++ rest) (length block) s w ≡ exec n rest 0 s w
exec-over n block rest s w = exec-skip n (block ++ rest) (length block) s w ∙ rw (drop-append_seam block rest)

module _ (n : ℕ) (rest : List Instruction) (s w : List ℤ) where
  exec_goes : (i : Instruction) (q t v : List ℤ) (skip : ℕ) → ((place : ℕ) → effect i place q w ≡ goes (suc place + skip) t v)
      → exec n (i ∷ rest) 0 q w ≡ exec n rest skip t v
  unfolding exec
  exec_goes i q t v skip h =
      let e : suc (n - suc (length rest)) + skip - suc (n - suc (length rest)) ≡ skip = omega arith in
      rw (h (n - suc (length rest)), e)

  exec-next : (i : Instruction) (q t v : List ℤ) → ((place : ℕ) → effect i place q w ≡ goes (suc place) t v)
      → exec n (i ∷ rest) 0 q w ≡ exec n rest 0 t v
  exec-next i q t v h = exec_goes i q t v 0 (λ place. let e : suc place + 0 ≡ suc place = omega arith in rw e (h place))

  pub exec-push : (z : ℤ) → length s < stack_limit → exec n (Push z ∷ rest) 0 s w ≡ exec n rest 0 (z ∷ s) w
  unfolding effect
  exec-push z h = exec-next (Push z) s (z ∷ s) w (λ place. rw (lt-ltb (length s) stack_limit h))

  pub exec-dup : (z : ℤ) → suc (length s) < stack_limit → exec n (Dup ∷ rest) 0 (z ∷ s) w ≡ exec n rest 0 (z ∷ z ∷ s) w
  unfolding effect
  exec-dup z h = exec-next Dup (z ∷ s) (z ∷ z ∷ s) w (λ place. rw (lt-ltb (suc (length s)) stack_limit h))

  pub exec-or : (a b : ℤ) → exec n (Or ∷ rest) 0 (a ∷ b ∷ s) w ≡ exec n rest 0 (or_word a b ∷ s) w
  unfolding effect
  exec-or a b = exec-next Or (a ∷ b ∷ s) (or_word a b ∷ s) w (λ place. refl)

  pub exec-sub : (a b : ℤ) → exec n (Sub ∷ rest) 0 (a ∷ b ∷ s) w ≡ exec n rest 0 (sub_wrap a b ∷ s) w
  unfolding effect
  exec-sub a b = exec-next Sub (a ∷ b ∷ s) (sub_wrap a b ∷ s) w (λ place. refl)

  pub exec-add : (a b : ℤ) → exec n (Add ∷ rest) 0 (a ∷ b ∷ s) w ≡ exec n rest 0 (add_wrap a b ∷ s) w
  unfolding effect
  exec-add a b = exec-next Add (a ∷ b ∷ s) (add_wrap a b ∷ s) w (λ place. refl)

  pub exec_load : (i : ℕ) (a : ℤ) → slice_get w i ≡ Some a → exec n (Load ∷ rest) 0 (pos i ∷ s) w ≡ exec n rest 0 (a ∷ s) w
  unfolding effect
  exec_load i a e = exec-next Load (pos i ∷ s) (a ∷ s) w (λ place. rw e)

  pub exec-store : (i : ℕ) (a b : ℤ) → slice_get w i ≡ Some a
      → exec n (Store ∷ rest) 0 (pos i ∷ b ∷ s) w ≡ exec n rest 0 s (set w i b)
  unfolding effect
  exec-store i a b e = exec-next Store (pos i ∷ b ∷ s) s (set w i b) (λ place. rw e)

  -- a branch that is not taken, and one that is
  pub exec-bnz-zero : (z : ℤ) → exec n (Bnz z ∷ rest) 0 (pos 0 ∷ s) w ≡ exec n rest 0 s w
  unfolding effect
  exec-bnz-zero z =
      exec-next (Bnz z) (pos 0 ∷ s) s w
      (λ place. let e : place + 1 ≡ suc place = omega arith in rw (e, lt-ltb place (suc place) (omega arith)))

  pub exec-bnz : (c skip : ℕ) → exec n (Bnz (pos (suc skip)) ∷ rest) 0 (pos (suc c) ∷ s) w ≡ exec n rest skip s w
  unfolding effect
  exec-bnz c skip =
      exec_goes (Bnz (pos (suc skip))) (pos (suc c) ∷ s) s w skip
      (λ place. let e : place + suc skip ≡ suc place + skip = omega arith in rw (e, lt-ltb place (suc place + skip) (omega arith)))

  -- a jump forward, from its place
  pub exec-jump : (place skip : ℕ) → n ≡ suc place + length rest
      → exec n (Jump ∷ rest) 0 (pos (suc place + skip) ∷ s) w ≡ exec n rest skip s w
  unfolding exec effect
  exec-jump place skip e =
      let at : n - suc (length rest) ≡ place = omega arith in
      let over : suc place + skip - suc place ≡ skip = omega arith in
      rw (at, lt-ltb place (suc place + skip) (omega arith), over)

  pub exec-ret : exec n (Ret ∷ rest) 0 s w ≡ ending returned w
  unfolding exec effect
  exec-ret = refl

  exec-deny : exec n (Jump ∷ rest) 0 (negsuc 0 ∷ s) w ≡ ending denied w
  unfolding exec effect
  exec-deny = refl

pub exec-read : (n : ℕ) (rest : List Instruction) (s w : List ℤ) (i : ℕ) (a : ℤ) → slice_get w i ≡ Some a → length s < stack_limit
    → exec n (read i ++ rest) 0 s w ≡ exec n rest 0 (a ∷ s) w
exec-read n rest s w i a e h = exec-push n (Load ∷ rest) s w (pos i) h ∙ exec_load n rest s w i a e

-- Push −1, Jump
pub exec-denied : (n : ℕ) (rest : List Instruction) (s w : List ℤ) → length s < stack_limit
    → exec n (Push (negsuc 0) ∷ Jump ∷ rest) 0 s w ≡ ending denied w
exec-denied n rest s w h = exec-push n (Jump ∷ rest) s w (negsuc 0) h ∙ exec-deny n rest s w
