-- Sound memory: records share no word with one another, nor with the header and the table, nor with a block in hand. Assumes nothing.
use mathlib.Core.Path.{◌≡◌, sym, ap₂, ◌∙◌, subst}
use mathlib.Core.List.{List}
use mathlib.Core.Logic.{◌≢◌}
use Prim.Native.Nat.{ℕ, ◌+◌, ◌*◌, ◌≤◌, ◌<◌}
use native.Mathlib.Omega.{arith}
use lib.ListN.{length}
use Rattle.block_memory.specs.Geometry.{descriptor_words, structure_words}
use Rattle.block_memory.specs.Partition.{root, used}
use Rattle.block_memory.specs.Bytes.{HasByte, Keeps}
use Rattle.block_memory.specs.Sound.{Sound}
use Rattle.block_soundness.proofs.Ranges.{permitted-now}
use Rattle.block_soundness.proofs.Blocks.{block}
use Rattle.block_soundness.proofs.Up.{above-first}
use Rattle.block_soundness.proofs.Once.{once}
use Rattle.block_soundness.proofs.Records.{Record, desc, struct, words, base, Valid, standing, Home, first, second, held, home}
use Rattle.block_soundness.proofs.Records.{in_bytes, root-first, held_high}

pub record Layout (m : List ℕ) : Type 0 where
  pub inside : (r : Record) → Valid m r → base m r + words r ≤ length m
  pub low : (r : Record) → Valid m r → root m ≤ base m r
  pub distinct : (r q : Record) (i j : ℕ) → Valid m r → Valid m q → i < words r → j < words q → base m r + i ≡ base m q + j → r ≡ q

module _ (m : List ℕ) (s : Sound m) where
  -- the kernel's own part lies below
  abbrev Low : Record → Type 0
  Low r = base m r + words r ≤ root m + descriptor_words + structure_words

  own-low : (r q : Record) → r ≡ q → Low q → Low r
  own-low r q e h = subst Low (sym e) h

  pub low : (r : Record) → Valid m r → root m ≤ base m r
  low r v = go (home m s r v)
    where
      go : Home m r → root m ≤ base m r
      go (first e) = subst (λ (x : Record). root m ≤ base m x) (sym e) (omega arith)
      go (second e) = subst (λ (x : Record). root m ≤ base m x) (sym e) (omega (arith, root-first m s))
      go (held h n b) = omega (arith, held_high m s b)

  pub inside : (r : Record) → Valid m r → base m r + words r ≤ length m
  inside r v = go (home m s r v)
    where
      large : root m + descriptor_words + structure_words ≤ length m
      large = let p = permitted-now m s in omega (arith, p.whole, p.least)

      go : Home m r → base m r + words r ≤ length m
      go (first e) = omega (arith, large, own-low r (desc (root m)) e (omega arith))
      go (second e) = omega (arith, large, own-low r (struct (root m) 1) e (omega (arith, root-first m s)))
      go (held h n b) = omega (arith, b.room, (block m s b.alive).form.inside)

  distinct : (r q : Record) (i j : ℕ) → Valid m r → Valid m q → i < words r → j < words q → base m r + i ≡ base m q + j → r ≡ q
  distinct r q i j v w a b e = go (home m s r v) (home m s q w)
    where
      -- the root's descriptor ends where its first structure begins
      at-root : (x y : Record) → x ≡ desc (root m) → y ≡ struct (root m) 1 → base m x + words x ≤ base m y
      at-root x y f g =
          subst (λ (z : Record). base m z + words z ≤ base m y) (sym f) (subst (λ (z : Record). root m + descriptor_words ≤ base m z) (sym g)
          (omega (arith, root-first m s)))

      go : Home m r → Home m q → r ≡ q
      go (first f) (first g) = f ∙ sym g
      go (first f) (second g) = absurd (omega (arith, at-root r q f g))
      go (first f) (held h n c) = absurd (omega (arith, own-low r (desc (root m)) f (omega arith), held_high m s c))
      go (second f) (first g) = absurd (omega (arith, at-root q r g f))
      go (second f) (second g) = f ∙ sym g
      go (second f) (held h n c) = absurd (omega (arith, own-low r (struct (root m) 1) f (omega (arith, root-first m s)), held_high m s c))
      go (held h n c) (first g) = absurd (omega (arith, own-low q (desc (root m)) g (omega arith), held_high m s c))
      go (held h n c) (second g) = absurd (omega (arith, own-low q (struct (root m) 1) g (omega (arith, root-first m s)), held_high m s c))
      go (held h n c) (held k o d) =
          let (x, y) = once m s h k n o (4 * (base m r + i)) (in_bytes m s c i a) (subst (λ (z : ℕ). Keeps m k o (4 * z)) (sym e) (in_bytes m s d j b)) in
          sym c.is ∙ ap₂ (λ (u t : ℕ). standing m u t) x y ∙ d.is

  pub layout : Layout m
  layout = record { inside = inside; low = low; distinct = distinct }

  -- no record has a word in a block in hand
  pub not-in-hand : (r : Record) → Valid m r → (i : ℕ) → i < words r → (d n : ℕ) → HasByte m d n (4 * (base m r + i)) → used m d n ≢ 1
  not-in-hand r v i a d n b z = go (home m s r v)
    where
      hand : Keeps m d n (4 * (base m r + i))
      hand = record { has = b; not_lent = λ w. omega (arith, w, z) }

      go : Home m r → ⊥
      go (first e) = omega (arith, above-first m s b.live, b.from, own-low r (desc (root m)) e (omega arith))
      go (second e) = omega (arith, above-first m s b.live, b.from, own-low r (struct (root m) 1) e (omega (arith, root-first m s)))
      go (held h o c) =
          let (x, y) = once m s d h n o (4 * (base m r + i)) hand (in_bytes m s c i a) in
          c.not_hand (sym (ap₂ (λ (u t : ℕ). used m u t) x y) ∙ z)
