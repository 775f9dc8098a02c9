-- enter, leave and store keep the invariant.
use mathlib.Core.Path.{◌≡◌, refl, ap, ◌∙◌}
use mathlib.Core.Logic.{◌≢◌}
use mathlib.Core.Bool.{false, not, ◌||◌}
use mathlib.Core.List.{List, [], ◌∷◌}
use Prim.Native.Nat.{ℕ, ◌/◌, ◌%◌, ◌≤◌, ◌<◌}
use native.Mathlib.Omega.{arith}
use borrow.Author.Tests.{leb-false, eqb-false}
use lib.Dec.{leb, ltb, eqb}
use Rattle.memory.specs.Geometry.{page_bytes, address_end, place}
use Rattle.memory.specs.Partition.{current}
use Rattle.memory.proofs.Geometry.{directory_index-lt, place-lt}
use Rattle.rules.specs.Call.{enter, leave, store}
use Rattle.rules.specs.Refusals.{refusals, refusal}
use Rattle.rules.specs.Effects.{effect}
use Rattle.rules.proofs.model.Words.{W, addr, word, put, idx, page_of, acc_of, page_of-addr, twelve-lt}
use Rattle.rules.proofs.model.Abs.{pt, desc, Hop, head_p, Good, is_hand, cell}
use Rattle.rules.proofs.model.Read.{root_page, entry_at, kernel-lt}
use Rattle.rules.proofs.model.Walk.{parent-word}
use Rattle.rules.proofs.model.Names.{good-page}
use Rattle.rules.proofs.model.Inv.{fixed, Inv, live}
use Rattle.rules.proofs.steps.Keep.{inv-move, inv-enter, inv-store}
use Rattle.rules.proofs.Rows.{passed}
use Rattle.rules.proofs.steps.Checks.{false_or, a-child, is_mapped}

module _ {b : ℕ} (wide : 6 ≤ b) (m : List ℕ) (i : Inv b m) where
  pub keep-enter : (c : ℕ) → refusal b m (enter c) ≡ 0 → Inv b (effect b m (enter c))
  unfolding refusals effect put addr page_of entry_at root_page
  keep-enter c e =
      let x = passed (refusals b m (enter c)) e in
      inv-enter wide m i (page_of b c) (good-page b c x.1.0).fits (a-child b m c x.1.1.0)

  -- the parent of a partition is the first of its chain
  pub parent_is : (d : ℕ) → i.state.role d ≡ desc → page_of b (word b m d 11) ≡ head_p (i.state.chain d)
  parent_is d l =
      let h : is_hand (i.state.role d) ≡ false = ap is_hand l in
      ap (page_of b) (i.words.says d 11 (kernel-lt wide i.N _ i.state i.wf d h) (twelve-lt wide 11 (omega arith)) h ∙ (rw l (parent-word wide (fixed b i.N) i.state (cell b i.state) d)))
      ∙ page_of-addr wide (head_p (i.state.chain d))

  pub parent_live : (d : ℕ) → i.state.role d ≡ desc → page_of b (word b m d 11) ≢ 0 → i.state.role (page_of b (word b m d 11)) ≡ desc
  parent_live d l n = go (i.state.chain d) refl
    where
      go : (hs : List Hop) → i.state.chain d ≡ hs → i.state.role (page_of b (word b m d 11)) ≡ desc
      go [] e = absurd (n (parent_is d l ∙ ap head_p e))
      go (h ∷ hs) e =
          let g : Good b i.state d (h ∷ hs) = rw e at (i.wf.good d) in
          ap i.state.role (parent_is d l ∙ ap head_p e) ∙ g.0.live

  pub keep-leave : refusal b m leave ≡ 0 → Inv b (effect b m leave)
  unfolding refusals effect put addr page_of word
  keep-leave e =
      let x = passed (refusals b m leave) e in
      inv-move wide m i (page_of b (word b m (current b m) 11)) (parent_live (current b m) (live wide m i) (eqb-false _ _ x.1.0))

  pub keep-store : (a x : ℕ) → refusal b m (store a x) ≡ 0 → Inv b (effect b m (store a x))
  unfolding refusals effect put page_of entry_at root_page acc_of idx W
  keep-store a x e =
      let y = passed (refusals b m (store a x)) e in
      let l : a < address_end b = leb-false (address_end b) a (false_or _ _ (false_or (leb (address_end b) a || ltb a (page_bytes b)) (not (eqb (a % 4) 0)) y.1.0).0).0 in
      let n : acc_of (entry_at b m pt (current b m) (page_of b a)) ≢ 0 = eqb-false _ _ y.1.1.1.0 in
      inv-store wide m i (page_of b a) (place b a / 4) x (directory_index-lt b a l) (omega (arith, place-lt b a)) (is_mapped b m (current b m) a y.1.1.0) (omega arith)
