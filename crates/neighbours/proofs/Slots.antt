-- The slot page and the live flag of a partition within B are the same in both memories. Assumes an index width of 6 or more.
use mathlib.Core.Path.{◌≡◌, sym, ap, ap₂, ◌∙◌}
use mathlib.Core.List.{List}
use mathlib.Core.Logic.{◌≢◌, inr}
use mathlib.Core.Bool.{false, cond, not, ◌&&◌}
use Prim.Native.Nat.{ℕ, ◌-◌, ◌<◌}
use native.Mathlib.Omega.{arith}
use borrow.Author.Tests.{eqb-false, not-false, not-true}
use lib.Dec.{eqb}
use Rattle.memory.specs.Geometry
use Rattle.memory.specs.Entry.{present, accessible, holds}
use Rattle.memory.specs.Partition.{flag, directory, table_word, mapping, lent, in_hand}
use Rattle.memory.specs.Contexts.{slots_at, slots_entry, slot_page, no_slots}
use Rattle.memory.proofs.Geometry.{page-address}
use Rattle.soundness.proofs.Whole.{mapped-has}
use Rattle.rules.specs.Reads.{SameSlots}
use Rattle.rules.proofs.model.Words.{W, word, addr, idx, page_of, sixty_one}
use Rattle.rules.proofs.sound.Words.{virtual-addr}
use Rattle.rules.proofs.steps.Checks.{true-and}
use Rattle.rules.proofs.steps.KeepContexts.{slots-fit}
use Rattle.neighbours.specs.Neighbours.{Within, Shown, mapped}
use Rattle.neighbours.proofs.Twin.{Twin, inv₁, maps-up, part-shown, compared_same, mapping-same, lent_same}

module _ {b B : ℕ} {m n : List ℕ} (t : Twin b B m n) {d : ℕ} (w : Within b m B d) where
  open t use {wide, sound₁, count, depth₁}

  -- a page that it maps is seen
  pub mapped-shown : (v : ℕ) → idx b (page_of b v) < W b → mapping b m d v ≢ 0 → Shown b m B (Geometry.page_of b (mapping b m d v))
  unfolding addr page_of
  mapped-shown v f z =
      let u : ℕ = Geometry.address b (Geometry.page_of b v) in
      let e : mapping b m d u ≡ mapping b m d v = ap (table_word b m (directory b m d)) (page-address b (Geometry.page_of b v)) in
      let y : mapping b m d u ≢ 0 = λ x. z (sym e ∙ x) in
      let has = mapped-has b m d u (virtual-addr wide (page_of b v) f) y in
      mapped (maps-up wide B m sound₁ depth₁ w (record { at = u; has = has; present = y; page = ap (Geometry.page_of b) e }))

  pub flag_same : flag b m d ≡ flag b n d
  unfolding word
  flag_same = compared_same t d 12 (inr (part-shown w)) (omega (arith, sixty_one wide))

  -- ---- its slots

  at_same : slots_at b m d ≡ slots_at b n d
  unfolding slots_at
  at_same = ap (λ (p : ℕ). cond (eqb d 1) (Geometry.address b (Geometry.flat_pages b p)) (Geometry.address_end b - Geometry.page_bytes b)) count

  fits : idx b (page_of b (slots_at b m d)) < W b
  fits = slots-fit wide m (inv₁ t) d

  entry-same : slots_entry b m d ≡ slots_entry b n d
  entry-same = mapping-same t w (slots_at b m d) fits ∙ ap (mapping b n d) at_same

  pub slot_page-same : slot_page b m d ≡ slot_page b n d
  slot_page-same = ap (Geometry.page_of b) entry-same

  no_slots-same : no_slots b m d ≡ no_slots b n d
  no_slots-same =
      ap₂ (λ (x y : ℕ). not ((present x && eqb (accessible x) 1 && eqb y 0) && holds 3 x)) entry-same
      (lent_same t w (slots_at b m d) fits ∙ ap (lent b n d) at_same)

  -- where 20 is not given the page is mapped
  slots-there : no_slots b m d ≡ false → slots_entry b m d ≢ 0
  slots-there h =
      let e : ℕ = slots_entry b m d in
      let x = (true-and (in_hand b m d (slots_at b m d)) (holds 3 e) (not-false _ h)).0 in
      let y = (true-and (present e && eqb (accessible e) 1) (eqb (lent b m d (slots_at b m d)) 0) x).0 in
      eqb-false e 0 (not-true _ (true-and (present e) (eqb (accessible e) 1) y).0)

  pub slots-shown : no_slots b m d ≡ false → Shown b m B (slot_page b m d)
  slots-shown h = mapped-shown (slots_at b m d) fits (slots-there h)

  pub same-slots : {e : ℕ} → d ≡ e → SameSlots b m n d e
  unfolding word W
  same-slots q = record {
    no_slots = no_slots-same ∙ ap (no_slots b n) q;
    words = λ h i l.
        compared_same t (slot_page b m d) i (inr (slots-shown h)) l ∙ ap (λ (p : ℕ). word b n p i) (slot_page-same ∙ ap (slot_page b n) q);
  }
