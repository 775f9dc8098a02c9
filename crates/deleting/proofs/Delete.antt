-- delete_partition, in the terms of the functions that it calls. Assumes nothing.
use mathlib.Core.Path.{◌≡◌, refl, sym, ap, ap₂, ◌∙◌}
use mathlib.Core.List.{List, [], ◌∷◌, ◌++◌}
use mathlib.Core.Bool.{true}
use Prim.Native.Nat.{ℕ, zero, suc, ◌+◌, ◌-◌, ◌*◌, ◌≤◌, ◌<◌}
use native.Mathlib.Nat.{not-suc-le-zero, le_of_suc-le-suc}
use native.Mathlib.Omega.{arith}
use lib.ListN.{length, get_or, take, drop, drop_of_length-le}
use Rattle.memory.specs.Geometry.{page_words}
use Rattle.memory.specs.Words.{page, word, overwrite}
use Rattle.memory.specs.Partition.{current, list, set_lent}
use Rattle.rules.specs.Call.{delete_partition}
use Rattle.rules.specs.Moves.{return_page, return_all}
use Rattle.rules.specs.Conditions.{child}
use Rattle.rules.specs.Effects.{evens, release_all, delete, effect}
use Rattle.moves.proofs.Parts.{head_copy}

-- ---- the first word of each pair

evens-more : (ws : List ℕ) (i : ℕ) → i < length ws → evens (drop i ws) ≡ get_or ws i 0 ∷ evens (drop (i + 2) ws)
evens-more [] i h = absurd (not-suc-le-zero h)
evens-more (v ∷ []) zero h = refl
evens-more (v ∷ a ∷ ws) zero h = refl
evens-more (v ∷ ws) (suc i) h =
    let e : suc (i + 2) ≡ suc i + 2 = omega arith in
    evens-more ws i (le_of_suc-le-suc h) ∙ ap (λ (j : ℕ). get_or ws i 0 ∷ evens (drop j (v ∷ ws))) e

module _ (b : ℕ) (m : List ℕ) (d : ℕ) (ws : List ℕ) (i : ℕ) where
  pub return_evens_more : i < length ws → return_all b m d (evens (drop i ws)) ≡ return_all b (return_page b true m d (get_or ws i 0)) d (evens (drop (i + 2) ws))
  return_evens_more h = ap (λ (l : List ℕ). return_all b m d l) (evens-more ws i h)

  pub return_evens_end : length ws ≤ i → return_all b m d (evens (drop i ws)) ≡ m
  return_evens_end h = rw (drop_of_length-le ws h)

return_all_append : (b : ℕ) (m : List ℕ) (d : ℕ) (us vs : List ℕ) → return_all b m d (us ++ vs) ≡ return_all b (return_all b m d us) d vs
return_all_append b m d [] vs = refl
return_all_append b m d (u ∷ us) vs = return_all_append b (return_page b true m d u) d us vs

-- ---- the effect

-- r words were saved at the start of the buffer t, and they are lent on
pub saved-part : (s t ws : List ℕ) (r : ℕ) → t ≡ overwrite s 0 ws → r ≡ length ws → r ≤ length s → take (r - 0) t ≡ ws
saved-part s t ws r e k h =
    let z : r - 0 ≡ length ws = omega arith in
    let y : length ws ≤ length s = omega arith in
    ap₂ (λ (i : ℕ) (l : List ℕ). take i l) z e ∙ head_copy s ws y

module _ (b : ℕ) (m : List ℕ) (c : ℕ) {d k l n : ℕ} {xs ys m₁ m₂ m₃ m₄ : List ℕ} where
  pub effect_is : d ≡ current b m → k ≡ child b m c → l ≡ list b m k → n ≡ word b m l 0 - 1
      → xs ≡ take 10 (drop 0 (page b m k)) → ys ≡ take n (drop 1 (page b m l))
      → m₁ ≡ release_all b (page_words b * page_words b) 0 m d c → m₂ ≡ set_lent b m₁ d c 0
      → m₃ ≡ return_all b m₂ d (evens xs) → m₄ ≡ return_all b m₃ d (evens ys) → m₄ ≡ effect b m (delete_partition c)
  unfolding effect delete
  effect_is hd hk hl hn hx hy h₁ h₂ h₃ h₄ =
      h₄ ∙ ap (λ (x : List ℕ). return_all b x d (evens ys)) h₃ ∙ sym (return_all_append b m₂ d (evens xs) (evens ys))
      ∙ rw (hx, hy, hn, h₂, h₁, hl, hk, hd)
