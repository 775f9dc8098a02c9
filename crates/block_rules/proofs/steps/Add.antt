-- Add keeps memory sound: a free slot of the child is filled, and the caller's block is taken as (2, child, n). Assumes nothing.
use mathlib.Core.Path.{◌≡◌, sym, ap, ap₂, ◌∙◌, subst}
use mathlib.Core.List.{List, [], ◌∷◌}
use mathlib.Core.Logic.{◌≢◌}
use Prim.Native.Nat.{ℕ, ◌+◌, ◌≤◌, ◌<◌}
use native.Mathlib.Omega.{arith}
use lib.Bits.{bit_and, and_le_r}
use lib.ListN.{get_or}
use Rattle.block_memory.specs.Geometry.{word_from}
use Rattle.block_memory.specs.Partition.{root, Partition, parent, Has, field, put_slot, start, end, rights, used, child, source, previous, place, free_number}
use Rattle.block_memory.specs.Bytes.{Live}
use Rattle.block_memory.specs.Sound.{Sound, Slot, Use}
use Rattle.block_memory.proofs.Lowest.{free-number}
use Rattle.block_soundness.proofs.Blocks.{used_as, block, field-has}
use Rattle.block_soundness.proofs.Child.{ChildOf, child-of}
use Rattle.block_soundness.proofs.Sources.{source-start, source-end, source-link}
use Rattle.block_rules.specs.Effects.{take_as, add_to}
use Rattle.block_rules.proofs.Frame.{Placed, Frame, root-same}
use Rattle.block_rules.proofs.Trail.{trail, Wrote, wrote}
use Rattle.block_rules.proofs.Stays.{Same, SameButUse}
use Rattle.block_rules.proofs.Keep.{this_or, block-slot}
use Rattle.block_rules.proofs.Grown.{KernelStays}
use Rattle.block_rules.proofs.Framed.{placed, grown, framed, parent-same, number_same}
use Rattle.block_rules.proofs.Kept.{entries-off}
use Rattle.block_rules.proofs.Uses.{in-hand, is-lent}
use Rattle.block_rules.proofs.Taken.{Taken, take}
use Rattle.block_rules.proofs.Turned as T
use Rattle.block_rules.proofs.Turned.{Turned}

module _ (m : List ℕ) (s : Sound m) (d c b r : ℕ) (p : Partition m d) (stands : used m d c ≡ 3) (hand : used m d b ≡ 1)
    (fewer : bit_and r (rights m d b) ≡ r) (some : free_number m (place m d c) ≢ 0) where
  abbrev t : ℕ
  t = place m d c

  abbrev n : ℕ
  n = free_number m t

  abbrev new : List ℕ
  new = start m d b ∷ end m d b ∷ r ∷ 1 ∷ 0 ∷ 0 ∷ b ∷ 0 ∷ 0 ∷ []

  abbrev m₁ : List ℕ
  m₁ = put_slot m t n 0 new

  abbrev now : List ℕ
  now = take_as m₁ d b 2 c n

  q : Placed m
  q = placed m s

  kid : ChildOf m d c t
  kid = child-of m s d c p stands

  live-b : Live m d b
  live-b = used_as p hand

  added : Wrote m m t n 0 new
  added = wrote q (trail m q) kid.listed (omega arith)

  taken : Taken m m₁ now d b (2 ∷ c ∷ n ∷ [])
  taken = take q added.trail p (field-has m d b 3 live-b.block)

  frame : Frame m now
  frame = taken.trail.frame

  -- ---- the words afterwards

  others : (u o g : ℕ) → Partition m u → g < 9 → ¬ ((u ≡ t) × (o ≡ n)) → ¬ ((u ≡ d) × (o ≡ b) × (3 ≤ g) × (g < 6)) → Same m now u o g
  others u o g v i a₁ a₂ = taken.others u o g v i a₂ ∙ added.others u o g v i (λ (y, z, h, k). a₁ (y, z))

  free : Has m t n × (used m t n ≡ 0)
  free = free-number m t some

  is-new : (g : ℕ) → g < 9 → field now t n (0 + g) ≡ get_or new g 0
  is-new g i = taken.others t n (0 + g) kid.listed (omega arith) (λ (y, z, h, k). kid.not_self y) ∙ added.at free.0 g i

  turns : Turned m now d b
  turns = record {
    hand = hand;
    some = λ z. omega (arith, z, taken.changed 0 (omega arith));
    known = omega (arith, taken.changed 0 (omega arith));
    others = λ u o g l i a. others u o g l.partition i (λ (y, z). l.block (ap₂ (λ (x w : ℕ). used m x w) y z ∙ free.1)) a;
  }

  kernel : KernelStays m now
  kernel = T.kernel m now s (grown m now s frame) d b p turns

  b-same : SameButUse m now d b
  b-same = T.same m now s (grown m now s frame) d b p turns d b live-b

  -- ---- the new block

  parent-now : parent now t ≡ d
  parent-now = parent-same m now s frame t kid.listed ∙ kid.parent_word

  not-root-now : t ≢ root now
  not-root-now z = kid.not_root (z ∙ root-same m now q.permits frame)

  -- words of its source
  of_source : (g : ℕ) → field now (parent now t) (source now t n) g ≡ field now d b g
  of_source g = ap₂ (λ (x y : ℕ). field now x y g) parent-now (is-new 6 (omega arith))

  new-slot : Slot now t n
  new-slot =
      let o = block m s live-b in
      block-slot (λ z. omega (arith, z, is-new 3 (omega arith))) (record {
        form = record {
          long = omega (arith, is-new 0 (omega arith), is-new 1 (omega arith), o.form.long);
          inside = omega (arith, is-new 1 (omega arith), o.form.inside, frame.size);
          few_rights = omega (arith, is-new 2 (omega arith), o.form.few_rights, and_le_r r (rights m d b), fewer);
          known = omega (arith, is-new 3 (omega arith));
        };
        uses = in-hand (is-new 3 (omega arith)) (record { no_child = is-new 4 (omega arith); no_link = is-new 5 (omega arith) });
        sources = record {
          of_root = λ e. absurd (not-root-now e);
          of_other = λ e. record {
            lent = of_source 3 ∙ taken.changed 0 (omega arith);
            to_this = of_source 4 ∙ taken.changed 1 (omega arith) ∙ sym (number_same m now s frame t kid.listed ∙ kid.number_word);
            no_more =
                ap₂ (λ (x y : ℕ). bit_and x y) (is-new 2 (omega arith)) (of_source 2 ∙ b-same 2 (omega arith) (omega arith))
                ∙ fewer ∙ sym (is-new 2 (omega arith));
          };
        };
        pieces = record {
          first = λ e. (
            is-new 0 (omega arith) ∙ sym (source-start now t n not-root-now ∙ of_source 0 ∙ b-same 0 (omega arith) (omega arith)),
            source-link now t n not-root-now ∙ of_source 5 ∙ taken.changed 2 (omega arith),
          );
          later = λ e. absurd (e (is-new 7 (omega arith)));
          last = λ e. is-new 1 (omega arith) ∙ sym (source-end now t n not-root-now ∙ of_source 1 ∙ b-same 1 (omega arith) (omega arith));
          more = λ e. absurd (e (is-new 8 (omega arith)));
        };
      })

  -- ---- the lent block

  uses : Use now d b
  uses =
      let c-same : (g : ℕ) → g < 7 → Same m now d c g = λ g.
      kernel d c g (used_as p stands) (omega (arith, stands)) in
      let at : place now d (child now d b) ≡ t = ap (place now d) (taken.changed 1 (omega arith)) ∙ ap word_from (c-same 0 (omega arith)) in
      is-lent (taken.changed 0 (omega arith)) (record {
        to_child = ap (used now d) (taken.changed 1 (omega arith)) ∙ c-same 3 (omega arith) ∙ stands;
        from_this = ap₂ (λ (x y : ℕ). source now x y) at (taken.changed 2 (omega arith)) ∙ is-new 6 (omega arith);
        first = ap₂ (λ (x y : ℕ). previous now x y) at (taken.changed 2 (omega arith)) ∙ is-new 7 (omega arith);
      })

  -- ---- all of it

  slots : (u o : ℕ) → Partition m u → Has m u o → Slot now u o
  slots u o v i = this_or (Slot now) t n u o new-slot (λ a. T.slot m now s (grown m now s frame) d b p turns uses u o v i (λ z g j.
      others u o g v j a (λ (y, w, h, k). omega (arith, z, hand, ap₂ (λ (x e : ℕ). used m x e) y w))))

  pub add-sound : Sound (add_to m d c b r)
  unfolding add_to
  add-sound = framed m now s frame kernel (subst (Partition m) (sym taken.trail.now) s.header.current_word)
      (T.root-there m now s (grown m now s frame) d b p turns) (T.root-first m now s (grown m now s frame) d b p turns)
      (entries-off m now s d b live-b taken.trail.entries taken.off (λ u o l x a. turns.others u o 3 l (omega arith) (λ (y, z, h, k). a (y, z)) ∙ x))
      slots
