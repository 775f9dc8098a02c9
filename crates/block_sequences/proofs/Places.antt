-- How many places the answer of a call takes: seven where it tells a block, else one. Assumes nothing.
use mathlib.Core.Path.{◌≡◌, refl, ◌∙◌}
use mathlib.Core.Bool.{Bool, true, false, cond, ◌||◌}
use mathlib.Core.List.{List, []}
use mathlib.Core.Option.{Option, none, some}
use Prim.Native.Nat.{ℕ, zero, suc, ◌≤◌}
use native.Mathlib.Omega.{arith}
use borrow.Author.Tests.{eqb-true}
use lib.Dec.{eqb}
use lib.ListN.{length}
use Rattle.common.specs.Row.{pass}
use Rattle.block_memory.specs.Partition.{current}
use Rattle.block_rules.specs.Call.{Service, Call, format_all, serve, create, delete, prepare, collect, add, remove, cut, merge, enable, read_enabled, find, enter}
use Rattle.block_rules.specs.Call.{leave}
use Rattle.block_rules.specs.Refusals.{refusal}
use Rattle.block_rules.specs.Calls.{tells, told_of, told}
use Rattle.block_sequences.specs.Numbers.{service_of, numbered, tells_block}
use Rattle.block_sequences.specs.Replies.{reply_of, places_by, places}

-- ---- by the call's number

one : (t : Bool) (x y : Service) → places (serve x) ≡ 1 → places (serve y) ≡ 1 → places (serve (cond t x y)) ≡ 1
one true x y p q = p
one false x y p q = q

other : (t : Bool) (x y : Service) → t ≡ false → places (serve y) ≡ 1 → places (serve (cond t x y)) ≡ 1
other t x y e q = rw e q

service_places : (n : ℕ) (a : ℕ → ℕ) → eqb n 10 ≡ false → eqb n 11 ≡ false → places (serve (service_of n a)) ≡ 1
unfolding service_of tells
service_places n a e f =
    one (eqb n 1) _ _ refl (one (eqb n 2) _ _ refl (one (eqb n 3) _ _ refl (one (eqb n 4) _ _ refl (one (eqb n 5) _ _ refl (one (eqb n 6) _ _ refl
    (one (eqb n 7) _ _ refl (one (eqb n 8) _ _ refl (one (eqb n 9) _ _ refl (other (eqb n 10) _ _ e (other (eqb n 11) _ _ f
    (one (eqb n 12) _ _ refl refl)))))))))))

pub number-places : (n : ℕ) (a : ℕ → ℕ) → places (numbered n a) ≡ cond (tells_block n) 7 1
unfolding numbered service_of tells
number-places n a = pick (eqb n 10) (eqb n 11) refl refl
  where
    format_or : (t : Bool) (s : Service) → places (serve s) ≡ 1 → places (cond t format_all (serve s)) ≡ 1
    format_or true s p = refl
    format_or false s p = p

    pick : (s t : Bool) → eqb n 10 ≡ s → eqb n 11 ≡ t → places (numbered n a) ≡ cond (s || t) 7 1
    pick true t e f = rw (eqb-true n 10 e) refl
    pick false true e f = rw (eqb-true n 11 f) refl
    pick false false e f = format_or (eqb n 0) (service_of n a) (service_places n a e f)

-- ---- by the words that are told beside: whether a block is told goes neither by the memory nor by the caller

tells_alike : (m : List ℕ) (d : ℕ) (s : Service) → places_by (tells m d s) ≡ places_by (tells [] 0 s)
unfolding tells
tells_alike m d (create b) = refl
tells_alike m d (delete c) = refl
tells_alike m d (prepare p b) = refl
tells_alike m d (collect p) = refl
tells_alike m d (add c b r) = refl
tells_alike m d (remove c b) = refl
tells_alike m d (cut b x) = refl
tells_alike m d (merge a b) = refl
tells_alike m d (enable p b on) = refl
tells_alike m d (read_enabled p e) = refl
tells_alike m d (find p x) = refl
tells_alike m d (enter c) = refl
tells_alike m d leave = refl

beside : (m : List ℕ) (n : ℕ) (o : Option (ℕ × ℕ)) → suc (length (told_of m n o)) ≡ places_by o
unfolding told_of pass
beside m n none = refl
beside m zero (some (t, b)) = refl
beside m (suc n) (some (t, b)) = refl

pub reply-places : (m : List ℕ) (c : Call) → length (reply_of m c) ≡ places c
unfolding told
reply-places m format_all = refl
reply-places m (serve s) = beside m (refusal m (serve s)) (tells m (current m) s) ∙ tells_alike m (current m) s
