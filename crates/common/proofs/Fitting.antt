-- The calls that are left from word i on, as many as there is room for. Assumes nothing.
use mathlib.Core.Path.{◌≡◌, refl}
use mathlib.Core.Logic.{◌≢◌}
use mathlib.Core.Bool.{Bool, true, false, cond, ◌&&◌}
use mathlib.Core.List.{List, [], ◌∷◌}
use Prim.Native.Nat.{ℕ, zero, suc, ◌-◌, ◌≤◌, ◌<◌}
use native.Mathlib.Omega.{arith}
use borrow.Author.Tests.{leb-true}
use lib.Dec.{leb}
use lib.ListN.{length}
use Rattle.common.specs.Sequence.{call_at, end_at, whole, calls_from}
use Rattle.common.specs.Room.{fitting, next_at}
use Rattle.common.proofs.Chains.{both}
use Rattle.common.proofs.Standing.{whole_parts}

module _ {C : Type 0} (counts : List ℕ) (most : ℕ) (numbered : ℕ → (ℕ → ℕ) → C) (places : C → ℕ) (ws : List ℕ) (i r : ℕ) where
  -- a whole call stands at word i; the call; where it ends; where the next begins
  abbrev stands : Bool
  stands = whole counts most ws i

  abbrev here : C
  here = call_at numbered ws i

  abbrev end : ℕ
  end = end_at counts ws i

  abbrev next : ℕ
  next = next_at counts most numbered places ws i r

  -- its answer fits
  abbrev room : Bool
  room = leb (places here) r

  -- ---- what an end that was found gives

  ended : (t : Bool) {e : ℕ} → e ≡ cond t end 0 → e ≡ 0 → t ≡ false
  ended true p q = absurd (omega arith)
  ended false p q = refl

  found : (t : Bool) {e : ℕ} → e ≡ cond t end 0 → e ≢ 0 → (t ≡ true) × (e ≡ end)
  found true p q = (refl, p)
  found false p q = absurd (q p)

  -- no end was found: no call is left
  pub no_more : {e : ℕ} → e ≡ next → e ≡ 0 → (k : ℕ) → fitting places r (calls_from counts most numbered k ws i) ≡ []
  unfolding calls_from fitting
  no_more p q zero = refl
  no_more p q (suc k) = none stands (ended (stands && room) p q)
    where
      none : (t : Bool) → (t && room) ≡ false → fitting places r (cond t (here ∷ calls_from counts most numbered k ws end) []) ≡ []
      none true e = rw e refl
      none false e = refl

  -- an end was found: the call at word i is whole and its answer fits, and the others follow
  module _ {e : ℕ} (p : e ≡ next) (q : e ≢ 0) where
    pub found-whole : stands ≡ true
    found-whole = (both stands room (found (stands && room) p q).0).0

    found-room : room ≡ true
    found-room = (both stands room (found (stands && room) p q).0).1

    pub room_within : places here ≤ r
    room_within = leb-true (places here) r found-room

    pub end-above : i < e
    end-above = omega (arith, (found (stands && room) p q).1)

    pub end-within : e ≤ length ws
    end-within = omega (arith, (found (stands && room) p q).1, (whole_parts counts most ws i found-whole).1)

    pub one_more : (k : ℕ)
        → fitting places r (calls_from counts most numbered (suc k) ws i) ≡ here ∷ fitting places (r - places here) (calls_from counts most numbered k ws e)
    unfolding calls_from fitting
    one_more k = rw (found-whole, found-room, ← (found (stands && room) p q).1) refl
