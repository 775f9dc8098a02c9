-- Remove keeps memory sound: what was lent is one piece in the child's hand, which is disabled and wiped, and the block is given back. Assumes nothing.
use mathlib.Core.Path.{◌≡◌, refl, sym, ap, ap₂, ◌∙◌, subst}
use mathlib.Core.List.{List, [], ◌∷◌}
use mathlib.Core.Logic.{◌≢◌}
use Prim.Native.Nat.{ℕ, suc, ◌+◌, ◌≤◌, ◌<◌}
use native.Mathlib.Omega.{arith}
use native.Mathlib.Decide.{ℕ_discrete}
use lib.ListN.{get_or}
use Rattle.block_memory.specs.Partition.{root, Partition, parent, entry, Has, field, start, end, used, child, link, source, previous, next, place}
use Rattle.block_memory.specs.Bytes.{Live}
use Rattle.block_memory.specs.Sound.{Sound, Slot}
use Rattle.block_soundness.proofs.Blocks.{used_as, block, field-has, number-some, before, after, long, Apart, equal, below, above, apart, starts_in, ends_in}
use Rattle.block_soundness.proofs.Up.{up, one-child}
use Rattle.block_soundness.proofs.Sources.{source-start, source-end}
use Rattle.block_soundness.proofs.Child.{ChildOf, child-of}
use Rattle.block_rules.specs.Effects.{disable, give_back, free_slot, remove_from}
use Rattle.block_rules.proofs.Frame.{Placed, Frame}
use Rattle.block_rules.proofs.Trail.{trail, Wrote, wrote}
use Rattle.block_rules.proofs.Stays.{Same, SameButUse, FirstStays, later-from, SourceStays, Beside}
use Rattle.block_rules.proofs.Keep.{this_or, wiped-slot}
use Rattle.block_rules.proofs.SlotStays.{given_back}
use Rattle.block_rules.proofs.Grown.{KernelStays, words8}
use Rattle.block_rules.proofs.Framed.{placed, grown, framed}
use Rattle.block_rules.proofs.Kept.{first_piece, unwritten_stays, entries-off}
use Rattle.block_rules.proofs.Freed.{Freed, free}

module _ (m : List ℕ) (s : Sound m) (d c b : ℕ) (p : Partition m d) (stands : used m d c ≡ 3) (lends : used m d b ≡ 2) (to-c : child m d b ≡ c)
    (merged : end m (place m d c) (link m d b) ≡ end m d b) (hand : used m (place m d c) (link m d b) ≡ 1) where
  abbrev t : ℕ
  t = place m d c

  abbrev n : ℕ
  n = link m d b

  abbrev back : List ℕ
  back = 1 ∷ 0 ∷ 0 ∷ []

  abbrev m₁ : List ℕ
  m₁ = free_slot (disable m t n) t n

  abbrev now : List ℕ
  now = give_back m₁ d b

  q : Placed m
  q = placed m s

  kid : ChildOf m d c t
  kid = child-of m s d c p stands

  live-b : Live m d b
  live-b = used_as p lends

  live-n : Live m t n
  live-n = used_as kid.listed hand

  -- ---- the words afterwards

  freed : Freed m m m₁ t n
  freed = free q (trail m q) kid.listed (field-has m t n 3 live-n.block)

  given : Wrote m m₁ d b 3 back
  given = wrote q freed.trail p (omega arith)

  frame : Frame m now
  frame = given.trail.frame

  others : (u o g : ℕ) → Partition m u → g < 9 → ¬ ((u ≡ t) × (o ≡ n)) → ¬ ((u ≡ d) × (o ≡ b) × (3 ≤ g) × (g < 6)) → Same m now u o g
  others u o g v i a₁ a₂ = given.others u o g v i a₂ ∙ freed.others u o g v i a₁

  wiped : (g : ℕ) → g < 9 → field now t n g ≡ 0
  wiped g i = given.others t n g kid.listed i (λ (y, z, h, k). kid.not_self y) ∙ freed.wiped g i

  is-back : (g : ℕ) → g < 3 → field now d b (3 + g) ≡ get_or back g 0
  is-back = given.at (field-has m d b 3 live-b.block)

  -- the child's block is no longer enabled
  not-enabled : (e : ℕ) → entry now t e ≢ 0 → entry now t e ≢ n
  not-enabled e z w = let k = given.entries t e kid.listed in freed.off e (λ y. z (k ∙ y)) (sym k ∙ w)

  -- ---- b has one piece, n

  at-t : place m d (child m d b) ≡ t
  at-t = ap (place m d) to-c

  source-n : source m t n ≡ b
  source-n = ap (λ (x : ℕ). source m x n) (sym at-t) ∙ ((block m s live-b).uses.use2 lends).from_this

  first-n : previous m t n ≡ 0
  first-n = ap (λ (x : ℕ). previous m x n) (sym at-t) ∙ ((block m s live-b).uses.use2 lends).first

  -- the source of a block of t that came from b
  piece_end : (o : ℕ) → Live m t o → source m t o ≡ b → end m t o ≤ end m d b
  piece_end o l e = omega (arith, ends_in m s l, source-end m t o kid.not_root, ap₂ (λ (x y : ℕ). end m x y) kid.parent_word e)

  piece_start : (o : ℕ) → Live m t o → source m t o ≡ b → start m d b ≤ start m t o
  piece_start o l e = omega (arith, starts_in m s l, source-start m t o kid.not_root, ap₂ (λ (x y : ℕ). start m x y) kid.parent_word e)

  start-n : start m t n ≡ start m d b
  start-n = ((block m s live-n).pieces.first first-n).0 ∙ source-start m t n kid.not_root ∙ ap₂ (λ (x y : ℕ). start m x y) kid.parent_word source-n

  last-n : next m t n ≡ 0
  last-n = elim (ℕ_discrete (next m t n) 0) [
    | yes z ↦ z
    | no z ↦ absurd (let x = (block m s live-n).pieces.more z in let a = after m s live-n z in
        omega (arith, long m s a, x.adjoins, merged, piece_end (next m t n) a (x.same_source ∙ source-n)))
  ]

  -- n is the only piece of b
  only : (o : ℕ) → Live m t o → source m t o ≡ b → o ≡ n
  only o l e = go (apart m s (suc (start m t o + start m t n)) t o n l live-n (e ∙ sym source-n) (omega arith))
    where
      go : Apart m s t o n → o ≡ n
      go (equal w) = w
      go (below w) = absurd (omega (arith, long m s l, piece_start o l e, start-n))
      go (above w) = absurd (omega (arith, long m s l, piece_end o l e, merged))

  -- ---- what stays

  b-not-n : ¬ ((d ≡ t) × (b ≡ n))
  b-not-n (y, z) = kid.not_self (sym y)

  same : (u o : ℕ) → Partition m u → ¬ ((u ≡ t) × (o ≡ n)) → SameButUse m now u o
  same u o v a g i h = others u o g v i a (λ (y, z, w, k). h (w, k))

  kernel : KernelStays m now
  kernel u o g l h i = others u o g l.partition (omega arith)
      (λ (y, z). omega (arith, hand, ap₂ (λ (x w : ℕ). used m x w) y z))
      (λ (y, z, w, k). omega (arith, lends, ap₂ (λ (x w : ℕ). used m x w) y z))

  -- what a block names
  first : (u o : ℕ) → Live m u o → ¬ ((u ≡ d) × (o ≡ b)) → FirstStays m now u o
  first u o l a e =
      let f = first_piece m s u o l e in
      let h = (block m s l).uses.use2 e in
      let x = child-of m s u (child m u o) l.partition h.to_child in
      let away : ¬ ((place m u (child m u o) ≡ t) × (link m u o ≡ n)) = λ (y, z).
      a (sym x.parent_word ∙ ap (parent m) y ∙ kid.parent_word, sym h.from_this ∙ ap₂ (λ (i j : ℕ). source m i j) y z ∙ source-n) in
      (same _ _ f.partition away 6 (omega arith) (omega arith), same _ _ f.partition away 7 (omega arith) (omega arith))

  -- a block that came from b is n
  from-b : (u o : ℕ) (l : Live m u o) → u ≢ root m → parent m u ≡ d → source m u o ≡ b → (u ≡ t) × (o ≡ n)
  from-b u o l e y z =
      let w : u ≡ t = one-child m s u t o n l live-n e kid.not_root (y ∙ sym kid.parent_word) (z ∙ sym source-n) in
      (w, only o (subst (λ (k : ℕ). Live m k o) w l) (ap (λ (k : ℕ). source m k o) (sym w) ∙ z))

  lent : (u o : ℕ) → Live m u o → ¬ ((u ≡ t) × (o ≡ n)) → SourceStays m now u o
  lent u o l a e g i =
      let x = up m s l e in
      others (parent m u) (source m u o) g x.alive.partition (omega arith)
      (λ (y, z). omega (arith, hand, x.lent, ap₂ (λ (k w : ℕ). used m k w) y z))
      (λ (y, z, w, k). a (from-b u o l e y z))

  beside : (u o : ℕ) (l : Live m u o) → Beside m now u o
  beside u o l = record {
    prior = λ z.
        let e = (before m s l z).forth in
        let a : ¬ ((u ≡ t) × (previous m u o ≡ n)) = λ (y, w). omega (arith, number-some m s l, e, last-n, ap₂ (λ (i j : ℕ). next m i j) y w) in
        same _ _ l.partition a 8 (omega arith) (omega arith);
    later = later-from m now u o (λ z g (i, j, h).
        let e = ((block m s l).pieces.more z).back in
        let a : ¬ ((u ≡ t) × (next m u o ≡ n)) = λ (y, w). omega (arith, number-some m s l, e, first-n, ap₂ (λ (i j : ℕ). previous m i j) y w) in
        same _ _ l.partition a g (omega arith) h);
  }

  -- ---- the slots

  child-slot : Slot now t n
  child-slot = wiped-slot wiped

  back-slot : Slot now d b
  back-slot =
      given_back m now s frame.size live-b (words8 m now s (grown m now s frame) d p) (same d b p b-not-n)
      (is-back 0 (omega arith)) (is-back 1 (omega arith)) (is-back 2 (omega arith)) (lent d b live-b b-not-n) (beside d b live-b)

  slots : (u o : ℕ) → Partition m u → Has m u o → Slot now u o
  slots u o v i = this_or (Slot now) t n u o child-slot (λ an. this_or (Slot now) d b u o back-slot (λ ab.
      unwritten_stays m now s frame kernel u o v i (λ g j. others u o g v j an (λ (y, z, w, x). ab (y, z)))
      (λ l. (first u o l ab, lent u o l an, beside u o l))))

  pub remove-sound : Sound (remove_from m d c b)
  unfolding remove_from
  remove-sound =
      let x = s.table.root_listed in
      let f = (s.structures (root m) x).of_root refl in
      let away : ¬ ((root m ≡ t) × (8 ≡ n)) = λ (y, z). kid.not_root (sym y) in
      framed m now s frame kernel (subst (Partition m) (sym given.trail.now) s.header.current_word)
      (this_or (λ u o. used now u o ≢ 0) d b (root m) 8 (λ z. omega (arith, z, is-back 0 (omega arith)))
      (λ ab z. f.block (sym (others (root m) 8 3 x (omega arith) away (λ (y, e, h, k). ab (y, e))) ∙ z)))
      (same (root m) 8 x away 7 (omega arith) (omega arith) ∙ f.first)
      (entries-off m now s t n live-n given.trail.entries not-enabled (λ u o l e a.
      others u o 3 l.partition (omega arith) a (λ (y, z, h, k). omega (arith, e, lends, ap₂ (λ (i j : ℕ). used m i j) y z)) ∙ e))
      slots
