-- notify, dispatch and resume, where they pass: they change live flags, the current partition and words of slot pages, which are in hand. Assumes an index
-- width of 6 or more.
use mathlib.Core.Path.{◌≡◌, ap}
use mathlib.Core.Bool.{Bool, true, false, cond, not, ◌&&◌}
use mathlib.Core.List.{List, [], ◌∷◌}
use Prim.Native.Nat.{ℕ, ◌+◌, ◌-◌, ◌*◌, ◌≤◌, ◌<◌}
use native.Mathlib.Omega.{arith}
use borrow.Author.Tests.{ltb-false, eqb-true, eqb-false, not-false}
use lib.Dec.{ltb, eqb}
use lib.Pow.{pow_pos}
use Rattle.memory.specs.Geometry
use Rattle.memory.specs.Entry.{holds}
use Rattle.memory.specs.Partition
use Rattle.memory.specs.Contexts.{most_slot, slot_words, valid_place, to_child_slot, to_parent_slot, slots_at, slots_entry, slot_page, no_slots}
use Rattle.memory.specs.Contexts.{valid}
use Rattle.memory.proofs.Geometry.{directory_index-lt}
use Rattle.rules.specs.Refusal.{SLOT-PAGE, SLOT, EMPTY-SLOT}
use Rattle.rules.specs.Row.{Check, ◌when◌}
use Rattle.rules.specs.Call.{Registers, notify, dispatch, resume}
use Rattle.rules.specs.Conditions.{bad_slot, at_root, bad_page, no_child, child, target, toward, empty_slot}
use Rattle.rules.specs.Refusals.{refusals, refusal}
use Rattle.rules.specs.Effects.{switch, caller_flag, save, restore, effect}
use Rattle.rules.proofs.Rows.{Passed, passed, split}
use Rattle.rules.proofs.model.Words.{W, word, put, put_l, idx, page_of, acc_of, acc_of-zero, page_of-addr, addr, idx-lt, sixty_one}
use Rattle.rules.proofs.model.Abs.{hand, desc}
use Rattle.rules.proofs.model.Read.{root_page, entry_at}
use Rattle.rules.proofs.model.Names.{good-page}
use Rattle.rules.proofs.model.Inv.{Inv, named, live, pages-is}
use Rattle.rules.proofs.sound.Views.{child-is}
use Rattle.rules.proofs.steps.Checks.{true-and, false_or, a-child, in-hand}
use Rattle.rules.proofs.steps.Keep.{hand-page}
use Rattle.rules.proofs.steps.KeepMove.{parent_live}
use Rattle.rules.proofs.steps.Live.{Live, start, hand_word, hand-words, switched, flag_small}

module _ {b : ℕ} (wide : 6 ≤ b) (m : List ℕ) (i : Inv b m) where
  open named b i use {N, fl, f, A}

  abbrev o : ℕ
  o = Partition.current b m

  -- ---- a slot page

  pub slots-fit : (d : ℕ) → idx b (page_of b (slots_at b m d)) < W b
  unfolding slots_at addr page_of idx W
  slots-fit d = go (eqb d 1)
    where
      last : idx b (page_of b (addr b (Geometry.flat_pages b (Partition.pages b m)))) < W b
      last =
          let n : Geometry.flat_pages b (Partition.pages b m) < 5 * W b = omega (arith, pages-is wide m i, i.most, sixty_one wide) in
          let k : idx b (Geometry.flat_pages b (Partition.pages b m)) < 5 = idx-lt wide 5 _ n in
          rw (page_of-addr wide (Geometry.flat_pages b (Partition.pages b m))) (omega (arith, sixty_one wide))

      go : (u : Bool) → let a = cond u (Geometry.address b (Geometry.flat_pages b (Partition.pages b m))) (Geometry.address_end b - Geometry.page_bytes b) in
          Geometry.directory_index b (Geometry.page_of b a) < Geometry.page_words b
      go true = last
      go false = directory_index-lt b _ (omega (arith, pow_pos (3 * b + 2), pow_pos b))

  slot-page : (d : ℕ) → A.role d ≡ desc → no_slots b m d ≡ false → A.role (slot_page b m d) ≡ hand
  unfolding page_of entry_at root_page
  slot-page d r e =
      let x = true-and (Partition.in_hand b m d (slots_at b m d)) (holds 3 (slots_entry b m d)) (not-false _ e) in
      let y = in-hand b m d (slots_at b m d) (ap not x.0) in
      hand-page wide m i d (page_of b (slots_at b m d)) r (slots-fit d) (λ z. omega (arith, y.0, ap acc_of z, acc_of-zero wide)) y.0

  -- ---- the target

  module _ (t : ℕ) (x : Passed (toward b m t)) where
    target-live : A.role (target b m t) ≡ desc
    unfolding target page_of word entry_at root_page
    target-live = go (eqb t 0) x.1.1.0 x.1.1.1.0 x.1.1.1.1.0
      where
        go : (u : Bool) → not u && bad_page b t ≡ false → not u && no_child b m t ≡ false → u && at_root b m ≡ false
            → A.role (cond u (Partition.parent b m o) (child b m t)) ≡ desc
        go true p q r = parent_live wide m i o (live wide m i) (eqb-false _ _ r)
        go false p q r = (child-is wide N fl f m A i.wf i.words o (page_of b t) (live wide m i) (good-page b t p).fits (a-child b m t q)).0

    -- the old edition has flags of 0 and 1
    one : 1 ≤ Geometry.most_flag b
    one = let e : Geometry.edition_of b ≡ 0 = eqb-true _ _ (not-false _ x.1.0) in omega arith

    caller-small : caller_flag b m t ≤ Geometry.most_flag b
    caller-small = go (eqb t 0)
      where
        go : (u : Bool) → cond u (Partition.flag b m o) 0 ≤ Geometry.most_flag b
        go true = flag_small wide m i o (live wide m i)
        go false = omega arith

  -- ---- the calls

  pub dispatched : (t : ℕ) → refusal b m (dispatch t) ≡ 0 → Live wide m i (effect b m (dispatch t))
  unfolding refusals effect
  dispatched t e =
      let x = passed (refusals b m (dispatch t)) e in
      switched wide m i (start wide m i) o (target b m t) _ 1 (live wide m i) (target-live t x) (caller-small t x) (one t x)

  pub notified : (t p q : ℕ) (r : Registers) → refusal b m (notify t p q r) ≡ 0 → Live wide m i (effect b m (notify t p q r))
  unfolding refusals effect save put_l
  notified t p q r e =
      let x = split (toward b m t) (SLOT-PAGE when no_slots b m o ∷ []) (passed (refusals b m (notify t p q r)) e) in
      let p = slot-page o (live wide m i) x.1.0 in
      switched wide m i
      (hand-words wide m i (start wide m i) (slot_page b m o) (slot_words * cond (eqb t 0) to_parent_slot to_child_slot) _ (fits (eqb t 0)) p)
      o (target b m t) _ 1 (live wide m i) (target-live t x.0) (caller-small t x.0) (one t x.0)
    where
      fits : (u : Bool) → slot_words * cond u to_parent_slot to_child_slot + 12 ≤ W b
      fits true = omega (arith, sixty_one wide)
      fits false = omega (arith, sixty_one wide)

  pub resumed : (t s : ℕ) → refusal b m (resume t s) ≡ 0 → Live wide m i (effect b m (resume t s))
  unfolding refusals effect restore put
  resumed t s e =
      let k = target b m t in
      let rest : List Check = SLOT when bad_slot t s ∷ SLOT-PAGE when no_slots b m k ∷ EMPTY-SLOT when empty_slot b m t s ∷ [] in
      let (x, y) = split (toward b m t) rest (passed (refusals b m (resume t s)) e) in
      let l : s ≤ most_slot = ltb-false most_slot s (false_or (ltb most_slot s) _ y.0).0 in
      let r = target-live t x in
      let n = one t x in
      let h = hand_word wide m i (start wide m i) (slot_page b m k) (slot_words * s + valid_place) 0 (omega (arith, sixty_one wide)) (slot-page k r y.1.0) in
      go (valid b m k s) k r h _ (omega arith) n
    where
      -- f is the target's flag afterwards
      go : (u : Bool) (k : ℕ) → A.role k ≡ desc → {m' : List ℕ} → Live wide m i m' → (f : ℕ) → f ≤ Geometry.most_flag b → 1 ≤ Geometry.most_flag b
          → Live wide m i (cond u (switch b m' o k 0 f) (switch b m o 1 0 1))
      go true k r h f g l = switched wide m i h o k 0 f (live wide m i) r (omega arith) g
      go false k r h f g l = switched wide m i (start wide m i) o 1 0 1 (live wide m i) i.wf.root_live (omega arith) l
