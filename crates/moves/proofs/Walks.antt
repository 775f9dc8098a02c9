-- The walk up the ancestors, turn by turn, in the terms of the functions that a turn calls. Assumes nothing.
use mathlib.Core.Path.{◌≡◌, sym, ap, ap₂, ◌∙◌}
use mathlib.Core.Logic.{◌≢◌}
use mathlib.Core.List.{List}
use Prim.Native.Nat.{ℕ, suc, ◌+◌, ◌-◌, ◌≤◌, ◌<◌}
use native.Mathlib.Omega.{arith}
use borrow.Author.Tests.{eq-eqb, ne_eqb}
use Rattle.memory.specs.Geometry.{page_of}
use Rattle.memory.specs.Entry.{entry, rights}
use Rattle.memory.specs.Partition.{parent, above, mapping, set_mapping}
use Rattle.rules.specs.Moves.{mark, depth}
use Rattle.rules.proofs.Turns.{marking, mark-none, mark-root, mark-up}

-- ---- accessible set or cleared

module _ (b bit : ℕ) (m m' : List ℕ) (d v w r e par n : ℕ) (hw : w ≡ mapping b m d v) (hr : r ≡ rights w) (he : e ≡ entry b (page_of b w) bit r)
    (hm : m' ≡ set_mapping b m d v e) (hp : par ≡ parent b m d) (some : 0 < n) where
  marked-is : m' ≡ marking b bit m d v
  marked-is = hm ∙ ap (λ (x : ℕ). set_mapping b m d v x) (he ∙ ap (λ (x : ℕ). entry b (page_of b w) bit x) hr ∙ ap (λ (x : ℕ). entry b (page_of b x) bit (rights x)) hw)

  pub turn-root : par ≡ 0 → m' ≡ mark b n bit m d v
  turn-root z = marked-is ∙ sym (mark-root b bit m d v n some (sym hp ∙ z))

  pub turn_up : (up : ℕ) → up ≡ above b m d v → par ≢ 0 → mark b (n - 1) bit m' par up ≡ mark b n bit m d v
  turn_up up hu z =
      ap₂ (λ (x : List ℕ) (y : ℕ). mark b (n - 1) bit x y up) marked-is hp
      ∙ ap (λ (x : ℕ). mark b (n - 1) bit (marking b bit m d v) (parent b m d) x) hu
      ∙ sym (mark-up b bit m d v n some (λ q. z (hp ∙ q)))

pub turn-none : (b bit : ℕ) (m : List ℕ) (d v n : ℕ) → n ≡ 0 → m ≡ mark b n bit m d v
turn-none b bit m d v n e = sym (mark-none b bit m d v) ∙ ap (λ (k : ℕ). mark b k bit m d v) (sym e)

-- ---- the depth

module _ (b : ℕ) (m : List ℕ) (d n k : ℕ) where
  pub depth-root : k < n → parent b m d ≡ 0 → depth b (n - k) m d ≡ 0
  unfolding depth
  depth-root h e =
      let q : n - k ≡ suc (n - (k + 1)) = omega arith in
      ap (λ (x : ℕ). depth b x m d) q ∙ simp (eq-eqb _ _ e)

  pub depth-up : k < n → parent b m d ≢ 0 → k + depth b (n - k) m d ≡ k + 1 + depth b (n - (k + 1)) m (parent b m d)
  unfolding depth
  depth-up h ne =
      let q : n - k ≡ suc (n - (k + 1)) = omega arith in
      ap (λ (x : ℕ). k + depth b x m d) q ∙ simp (ne_eqb _ _ ne) (omega arith)

  pub depth-end : n ≤ k → depth b (n - k) m d ≡ 0
  unfolding depth
  depth-end h =
      let q : n - k ≡ 0 = omega arith in
      ap (λ (x : ℕ). depth b x m d) q
