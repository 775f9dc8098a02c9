-- The numbers of the answers of a sequence take as many places as are counted. Assumes nothing.
use mathlib.Core.Path.{◌≡◌, refl, ap₂, ◌∙◌}
use mathlib.Core.List.{List, [], ◌∷◌}
use Prim.Native.Nat.{ℕ, ◌+◌}
use lib.ListN.{length, length-append}
use Rattle.common.specs.Room.{replies, places_all}

module _ {C : Type 0} (places : C → ℕ) (after : List ℕ → C → List ℕ) (reply_of : List ℕ → C → List ℕ) where
  module _ (reply-places : (m : List ℕ) (c : C) → length (reply_of m c) ≡ places c) where
    pub replies-places : (m : List ℕ) (cs : List C) → length (replies after reply_of m cs) ≡ places_all places cs
    unfolding replies places_all
    replies-places m [] = refl
    replies-places m (c ∷ cs) =
        length-append (reply_of m c) (replies after reply_of (after m c) cs) ∙ ap₂ (λ (x y : ℕ). x + y) (reply-places m c) (replies-places (after m c) cs)
