-- How many places the answer of a call takes: a resume's twelve, any other's one. Assumes nothing.
use mathlib.Core.Path.{◌≡◌, refl}
use mathlib.Core.Bool.{Bool, true, false, cond}
use mathlib.Core.List.{List}
use mathlib.Core.Option.{Option, none, some}
use Prim.Native.Nat.{ℕ, zero, suc, ◌≤◌, ◌<◌}
use native.Mathlib.Omega.{arith}
use borrow.Author.Tests.{eq-eqb, eqb-true, eqb-false, leb-false}
use lib.Dec.{leb, eqb}
use lib.ListN.{length}
use Rattle.common.proofs.Places
use Rattle.memory.specs.Edition.{width}
use Rattle.memory.specs.Words.{tabulate}
use Rattle.memory.specs.Contexts.{valid, saved_in}
use Rattle.rules.specs.Row.{pass}
use Rattle.rules.specs.Call.{Call, resumption}
use Rattle.rules.specs.Conditions.{target}
use Rattle.rules.specs.Refusals.{refusal}
use Rattle.rules.specs.Calls as C
use Rattle.rules.specs.Calls.{no_context}
use Rattle.rules.specs.Replay.{call_of}
use Rattle.rules.specs.Editions.{after, context}
use Rattle.kernel.specs.Sequence.{numbered, context_call}
use Rattle.kernel.specs.Room.{reply_of, replies, places_by, places, places_all}

-- ---- by the call's number

one : (t : Bool) (x y : Call) → places x ≡ 1 → places y ≡ 1 → places (cond t x y) ≡ 1
one true x y p q = p
one false x y p q = q

call-places : (n : ℕ) (a : ℕ → ℕ) → places (call_of n a) ≡ 1
unfolding call_of resumption
call-places n a =
    one (eqb n 1) _ _ refl (one (eqb n 2) _ _ refl (one (eqb n 3) _ _ refl (one (eqb n 4) _ _ refl (one (eqb n 5) _ _ refl (one (eqb n 6) _ _ refl
    (one (eqb n 7) _ _ refl (one (eqb n 8) _ _ refl (one (eqb n 9) _ _ refl (one (eqb n 10) _ _ refl (one (eqb n 11) _ _ refl refl))))))))))

-- 13 or 14
context-places : (n : ℕ) (a : ℕ → ℕ) → 12 < n → n < 15 → places (context_call n a) ≡ 1
unfolding context_call resumption
context-places n a h k = pick (eqb n 13) refl
  where
    pick : (t : Bool) → eqb n 13 ≡ t → places (context_call n a) ≡ 1
    pick true e = rw e refl
    pick false e = rw (e, eq-eqb n 14 (omega (arith, eqb-false n 13 e))) refl

pub single-places : (n : ℕ) (a : ℕ → ℕ) → n < 15 → places (numbered n a) ≡ 1
unfolding numbered resumption
single-places n a h = one (eqb n 0) _ _ refl (pick (leb n 12) refl)
  where
    pick : (t : Bool) → leb n 12 ≡ t → places (cond t (call_of n a) (context_call n a)) ≡ 1
    pick true e = call-places n a
    pick false e = context-places n a (leb-false n 12 e) h

pub resume-places : (n : ℕ) (a : ℕ → ℕ) → n ≡ 15 → places (numbered n a) ≡ 12
unfolding numbered context_call resumption
resume-places n a e = rw e refl

-- ---- by the words that are answered beside

module _ (b : ℕ) (m : List ℕ) where
  beside : (n : ℕ) (r : Option (ℕ × ℕ)) → suc (length (C.resumed b m n r)) ≡ places_by r
  unfolding C.resumed pass tabulate
  beside n none = refl
  beside zero (some (t, s)) = pick (valid b m (target b m t) s)
    where
      pick : (v : Bool) → suc (length (cond v (saved_in b m (target b m t) s) no_context)) ≡ 12
      pick true = refl
      pick false = refl
  beside (suc n) (some (t, s)) = refl

pub reply-places : (m : List ℕ) (c : Call) → length (reply_of m c) ≡ places c
unfolding context C.context
reply-places m c = beside (width m) m (refusal (width m) m c) (resumption c)

pub replies-places : (m : List ℕ) (cs : List Call) → length (replies m cs) ≡ places_all cs
replies-places = Places.replies-places places after reply_of reply-places
