-- Sound memory: each byte of the starting block is in exactly one block that isn't lent. Assumes nothing.
use mathlib.Core.Path.{◌≡◌, refl, sym, ap, ap₂, ◌∙◌, subst}
use mathlib.Core.List.{List}
use mathlib.Core.Logic.{◌≢◌}
use Prim.Native.Nat.{ℕ, zero, suc, ◌+◌, ◌-◌, ◌*◌, ◌≤◌, ◌<◌}
use native.Mathlib.Omega.{arith}
use native.Mathlib.Decide.{ℕ_discrete, dec_le, dec_lt}
use lib.ListN.{length}
use Rattle.block_memory.specs.Geometry.{table_words, first_byte}
use Rattle.block_memory.specs.Partition.{root, Partition, parent, level, start, end, used, child, link, source, next, place}
use Rattle.block_memory.specs.Bytes.{Live, HasByte, Keeps}
use Rattle.block_memory.specs.Sound.{Sound, source_end}
use Rattle.block_soundness.proofs.Sources.{root-start, root-end}
use Rattle.block_soundness.proofs.Blocks.{block, first_in_root, long, after, same_end, Apart, equal, below, above, apart}
use Rattle.block_soundness.proofs.Up.{root-level, other, top-root, up, up_byte, one-child}
use Rattle.block_soundness.proofs.Child.{lends}

module _ (m : List ℕ) (s : Sound m) where
  -- ---- blocks of equal level

  one-source : {d n o x : ℕ} → HasByte m d n x → HasByte m d o x → source m d n ≡ source m d o → n ≡ o
  one-source {d} {n} {o} {x} a b e = go (apart m s (suc (start m d n + start m d o)) d n o a.live b.live e (omega arith))
    where
      go : Apart m s d n o → n ≡ o
      go (equal w) = w
      go (below w) = absurd (omega (arith, a.from, a.up_to, b.from, b.up_to))
      go (above w) = absurd (omega (arith, a.from, a.up_to, b.from, b.up_to))

  in_one : {d e n o x : ℕ} → HasByte m d n x → HasByte m e o x → d ≡ e → source m d n ≡ source m e o → (d ≡ e) × (n ≡ o)
  in_one {d} {e} {n} {o} {x} a b q w = (q, one-source a (subst (λ (t : ℕ). HasByte m t o x) (sym q) b) (w ∙ ap (λ (t : ℕ). source m t o) (sym q)))

  root-source : {d n : ℕ} → Live m d n → d ≡ root m → source m d n ≡ 0
  root-source {d} {n} l e = ap (λ (t : ℕ). source m t n) e ∙ ((block m s l).sources.of_root e).no_source

  pub equal-level : (k d e n o x : ℕ) → level m d ≡ k → level m e ≡ k → HasByte m d n x → HasByte m e o x → (d ≡ e) × (n ≡ o)
  equal-level zero d e n o x i j a b =
      let p = top-root m s d a.live.partition i in
      let q = top-root m s e b.live.partition j in
      in_one a b (p ∙ sym q) (root-source a.live p ∙ sym (root-source b.live q))
  equal-level (suc k) d e n o x i j a b =
      let h = other m s d (omega arith) in
      let g = other m s e (omega arith) in
      let u = up m s a.live h in
      let v = up m s b.live g in
      let (p, q) = equal-level k (parent m d) (parent m e) (source m d n) (source m e o) x
      (omega (arith, u.step)) (omega (arith, v.step)) (up_byte m s a h) (up_byte m s b g) in
      in_one a b (one-child m s d e n o a.live b.live h g p q) q

  -- a block that isn't lent has no byte with one at its level or deeper
  pub deeper : (k d e n o x : ℕ) → level m d + k ≡ level m e → HasByte m d n x → HasByte m e o x → used m d n ≢ 2 → (d ≡ e) × (n ≡ o)
  deeper zero d e n o x h a b z = equal-level (level m e) d e n o x (omega arith) refl a b
  deeper (suc k) d e n o x h a b z =
      let g = other m s e (omega arith) in
      let u = up m s b.live g in
      let (p, q) = deeper k d (parent m e) n (source m e o) x (omega (arith, u.step)) a (up_byte m s b g) z in
      absurd (z (ap₂ (λ (y w : ℕ). used m y w) p q ∙ u.lent))

  pub once : (d e n o x : ℕ) → Keeps m d n x → Keeps m e o x → (d ≡ e) × (n ≡ o)
  once d e n o x a b = elim (dec_le (level m d) (level m e)) [
    | yes h ↦ deeper (level m e - level m d) d e n o x (omega arith) a.has b.has a.not_lent
    | no h ↦ let (p, q) = deeper (level m d - level m e) e d o n x (omega arith) b.has a.has b.not_lent in (sym p, sym q)
  ]

  -- ---- every byte of the starting block is in a block

  -- along the pieces of one source, from one that starts at x or before
  along : (k d n x : ℕ) → Live m d n → start m d n ≤ x → x < source_end m d n → x < end m d n + k → (o : ℕ) × HasByte m d o x
  along zero d n x l a b c = (n, record { live = l; from = a; up_to = omega arith })
  along (suc k) d n x l a b c = go (along k d (next m d n) x) (dec_lt x (end m d n)) (ℕ_discrete (next m d n) 0)
    where
      go : (Live m d (next m d n) → start m d (next m d n) ≤ x → x < source_end m d (next m d n) → x < end m d (next m d n) + k → (o : ℕ) × HasByte m d o x)
          → Dec (x < end m d n) → Dec (next m d n ≡ 0) → (o : ℕ) × HasByte m d o x
      go ih (yes h) z = (n, record { live = l; from = a; up_to = h })
      go ih (no h) (yes z) = absurd (omega (arith, (block m s l).pieces.last z))
      go ih (no h) (no z) =
          let f = (block m s l).pieces.more z in
          let t = after m s l z in
          ih t (omega (arith, f.adjoins)) (omega (arith, same_end m s d (next m d n) n f.same_source)) (omega (arith, long m s t, f.adjoins))

  in-root : (x : ℕ) → first_byte (length m) ≤ x → x < 4 * length m → (o : ℕ) × HasByte m (root m) o x
  in-root x a b =
      let l = first_in_root m s in
      let f = (block m s l).pieces.first ((s.structures (root m) s.table.root_listed).of_root refl).first in
      along (suc x) (root m) 8 x l (omega (arith, f.0, root-start m (root m) 8 refl)) (omega (arith, root-end m (root m) 8 refl)) (omega arith)

  -- a byte of a block that is lent is in a block of the child
  down : {d n x : ℕ} → HasByte m d n x → used m d n ≡ 2 → (e : ℕ) × (o : ℕ) × HasByte m e o x × (level m e ≡ level m d + 1)
  down {d} {n} {x} b z =
      let h = lends m s b.live z in
      let t = place m d (child m d n) in
      let (o, k) = along (suc x) t (link m d n) x h.first (omega (arith, h.starts, b.from)) (omega (arith, h.ends, b.up_to)) (omega arith) in
      (t, o, k, h.kid.below)

  level-few : (d : ℕ) → Partition m d → level m d < suc (table_words (length m))
  level-few d p = elim (ℕ_discrete d (root m)) [ yes e ↦ omega (arith, root-level m s d e) | no n ↦ omega (arith, ((s.descriptors d p).of_other n).few) ]

  sink : (k d n x : ℕ) → table_words (length m) < level m d + k → HasByte m d n x → (e : ℕ) × (o : ℕ) × Keeps m e o x
  sink zero d n x h b = absurd (omega (arith, level-few d b.live.partition))
  sink (suc k) d n x h b = elim (ℕ_discrete (used m d n) 2) [
    | yes z ↦ let (e, o, c, q) = down b z in sink k e o x (omega (arith, q)) c
    | no z ↦ (d, n, record { has = b; not_lent = z })
  ]

  somewhere : (x : ℕ) → first_byte (length m) ≤ x → x < 4 * length m → (d : ℕ) × (n : ℕ) × Keeps m d n x
  somewhere x a b = let (o, h) = in-root x a b in sink (suc (table_words (length m))) (root m) o x (omega arith) h

  -- the theorem
  pub one-block : (x : ℕ) → first_byte (length m) ≤ x → x < 4 * length m → (d : ℕ) × (n : ℕ) × Keeps m d n x × ((e o : ℕ) → Keeps m e o x → (e ≡ d) × (o ≡ n))
  one-block x a b = let (d, n, k) = somewhere x a b in (d, n, k, λ e o h. once e d o n x h k)

  -- two children of one parent share no byte
  pub siblings : (d e n o x : ℕ) → d ≢ root m → e ≢ root m → parent m d ≡ parent m e → d ≢ e → HasByte m d n x → HasByte m e o x → ⊥
  siblings d e n o x h g p q a b =
      let u = up m s a.live h in
      let v = up m s b.live g in
      q (equal-level (level m d) d e n o x refl (omega (arith, u.step, v.step, ap (λ (y : ℕ). level m y) p)) a b).0
