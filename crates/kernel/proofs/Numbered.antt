-- The call that words stand for, by its number. Assumes nothing.
use mathlib.Core.Path.{◌≡◌, sym, ap, ◌∙◌}
use mathlib.Core.Logic.{◌≢◌}
use mathlib.Core.List.{List}
use Prim.Native.Nat.{ℕ, ◌+◌, ◌≤◌, ◌<◌}
use native.Mathlib.Omega.{arith}
use borrow.Author.Tests.{le-leb}
use lib.ListN.{get_or}
use Rattle.rules.specs.Row.{Answer}
use Rattle.rules.specs.Call.{Call, dispatch, resume}
use Rattle.rules.specs.Replay.{call_of}
use Rattle.rules.specs.Editions.{answer, after}
use Rattle.contexts.specs.Registers.{notifying}
use Rattle.kernel.specs.Sequence.{numbered, context_call, five, eight, call_at}

-- what a call answers and leaves is what the same call under another name does
pub same-call : (m : List ℕ) {c d : Call} {x : Answer} {m' : List ℕ} → c ≡ d → (x ≡ answer m c) × (m' ≡ after m c) → (x ≡ answer m d) × (m' ≡ after m d)
same-call m e p = (p.0 ∙ ap (λ (c : Call). answer m c) e, p.1 ∙ ap (λ (c : Call). after m c) e)

-- the number that is left where the others were ruled out
pub fourteen : {n k : ℕ} → n ≡ k → k ≤ 15 → k ≢ 15 → 12 < n → n ≢ 13 → n ≡ 14
fourteen e h p l q = omega arith

module _ (ws : List ℕ) (i : ℕ) {n : ℕ} (e : n ≡ get_or ws i 0) where
  -- format or one of the twelve: the five words behind the number are its arguments
  pub call-of : {a : List ℕ} → a ≡ five ws i → n ≤ 12 → numbered n (λ j. get_or a j 0) ≡ call_at ws i
  unfolding numbered call_of
  call-of f h = rw (← e, f, le-leb n 12 h)

  pub is-notify : {a rs : List ℕ} → a ≡ five ws i → rs ≡ eight ws i → n ≡ 13 → notifying (get_or a 0 0) (get_or a 1 0) (get_or a 2 0) rs ≡ call_at ws i
  unfolding numbered context_call
  is-notify f g h = rw (f, g, sym e ∙ h)

  pub is-dispatch : {a : List ℕ} → a ≡ five ws i → n ≡ 14 → dispatch (get_or a 0 0) ≡ call_at ws i
  unfolding numbered context_call
  is-dispatch f h = rw (f, sym e ∙ h)

  pub is-resume : {t s : ℕ} → t ≡ get_or ws (i + 1) 0 → s ≡ get_or ws (i + 2) 0 → n ≡ 15 → resume t s ≡ call_at ws i
  unfolding numbered context_call
  is-resume p q h = rw (p, q, sym e ∙ h)
