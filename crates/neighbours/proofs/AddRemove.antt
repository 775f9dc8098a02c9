-- add_vaddr and remove_vaddr in both memories: what they leave agrees again on what B sees. Both write a page table word and a shadow 2 word of a child, then
-- a shadow 1 word of the caller. Assumes an index width of 6 or more.
use mathlib.Core.Path.{◌≡◌, refl, sym, ap, ap₂, ◌∙◌, subst, subst₂}
use mathlib.Core.List.{List, [], ◌∷◌}
use mathlib.Core.Logic.{◌≢◌}
use Prim.Native.Nat.{ℕ, ◌≤◌, ◌<◌}
use native.Mathlib.Omega.{arith}
use borrow.Author.Tests.{eqb-true, eqb-false, not-false}
use Rattle.memory.specs.Geometry
use Rattle.memory.specs.Entry.{entry}
use Rattle.memory.specs.Partition.{current, table_for, mapping, above, set_mapping, set_lent, set_above}
use Rattle.memory.specs.Tree.{Virtual, Child}
use Rattle.memory.proofs.Geometry.{directory_index-lt}
use Rattle.rules.specs.Call.{add_vaddr, remove_vaddr}
use Rattle.rules.specs.Conditions
use Rattle.rules.specs.Refusals.{refusals, refusal}
use Rattle.rules.specs.Effects.{add, remove, effect}
use Rattle.rules.proofs.Rows.{passed}
use Rattle.rules.proofs.steps.Checks.{none_of}
use Rattle.rules.proofs.model.Words.{W, word, put, idx, off, page_of, off-lt, word-put-other}
use Rattle.rules.proofs.model.Abs.{pt, s2, Role, desc, cell}
use Rattle.rules.proofs.model.Abs as Abs
use Rattle.rules.proofs.model.Facts.{differ}
use Rattle.rules.proofs.model.Read.{root_page, table_at, table_page, put_at, slot, put-there, root-page}
use Rattle.rules.proofs.model.Inv.{fixed, Inv, named}
use Rattle.rules.proofs.sound.Words.{virtual-fits}
use Rattle.neighbours.specs.Neighbours.{Within}
use Rattle.neighbours.proofs.Levels.{slot_lt, root-slot, table-role}
use Rattle.neighbours.proofs.Twin.{Twin, inv₁, inv₂, live₁, live₂, forms₁, table_same}
use Rattle.neighbours.proofs.Walk.{above-virtual}
use Rattle.neighbours.proofs.Near.{Near, near-start, near-put, near-lent}
use Rattle.neighbours.proofs.Lookups.{good-virtual, cur-mapping, child-is, child-within, child-there, child-above}
use Rattle.neighbours.proofs.ChildPages.{both-table}

-- ---- one memory

-- two tables of one partition: the word in the page table does not move the shadow 2 table
module _ {b : ℕ} (wide : 6 ≤ b) {m : List ℕ} (i : Inv b m) (k v : ℕ) (l : i.state.role k ≡ desc) (h : idx b v < W b) where
  open named b i use {N, fl, A}

  two-words : (x y : ℕ) → table_at b m pt k v ≢ 0 → table_at b m s2 k v ≢ 0
      → put_at b (put_at b m pt k v x) s2 k v y ≡ put b (put b m (table_page b m pt k v) (off b v) x) (table_page b m s2 k v) (off b v) y
  unfolding table_page
  two-words x y z₁ z₂ =
      ap (λ (w : List ℕ). put_at b w s2 k v y) (put-there b m pt k v x z₁)
      ∙ put-there b m₁ s2 k v y (λ e. z₂ (sym table ∙ e))
      ∙ ap (λ (w : ℕ). put b m₁ (page_of b w) (off b v) y) table
    where
      q : ℕ
      q = table_page b m pt k v

      m₁ : List ℕ
      m₁ = put b m q (off b v) x

      -- a page that is no table keeps its words
      other : (p j : ℕ) (o : Role) → A.role p ≡ o → Abs.tag o ≢ 6 → j < W b → word b m₁ p j ≡ word b m p j
      other p j o e d g =
          word-put-other wide m q (off b v) x p j (off-lt wide v) g (λ f. differ (sym e ∙ ap A.role f.0 ∙ table-role wide i pt k v l h z₁) d)

      root : root_page b m₁ s2 k ≡ root_page b m s2 k
      root = root-slot b m₁ s2 k ∙ ap (page_of b) (other k (slot s2) desc l (omega arith) (slot_lt wide s2)) ∙ sym (root-slot b m s2 k)

      root_role : A.role (root_page b m s2 k) ≡ Abs.root s2 k
      root_role = ap A.role (root-page wide N fl A i.wf (fixed b N) m (cell b A) i.words s2 k l) ∙ i.wf.root_role s2 k l

      table : table_at b m₁ s2 k v ≡ table_at b m s2 k v
      table =
          table-word m₁ ∙ ap (λ (p : ℕ). word b m₁ p (idx b v)) root
          ∙ other (root_page b m s2 k) (idx b v) (Abs.root s2 k) root_role (omega arith) h ∙ sym (table-word m)
        where
          table-word : (w : List ℕ) → table_at b w s2 k v ≡ word b w (root_page b w s2 k) (idx b v)
          table-word w = unfold table_at word idx in refl

-- ---- both

module _ {b B : ℕ} {m n : List ℕ} (t : Twin b B m n) where
  open t use {wide, sound₁, same}

  -- the caller
  abbrev c : ℕ
  c = current b m

  -- words x and y at v of partition k, and z at w of partition d
  abbrev lend : List ℕ → (k v x y d w z : ℕ) → List ℕ
  lend l k v x y d w z = set_lent b (set_above b (set_mapping b l k v x) k v y) d w z

  near-lend : {u k : ℕ} → Child b m c u k → (v x y w z : ℕ) → Virtual b v → Virtual b w → table_for b m k v ≢ 0
      → Near t (lend m k v x y c w z) (lend n k v x y c w z)
  unfolding table_at put_at root_page page_of table_page
  near-lend {u} {k} a v x y w z h g r = near-lent t (subst₂ (Near t) (sym words₁) (sym words₂) written) w z g
    where
      p : ℕ
      p = page_of b v

      o : ℕ
      o = off b p

      f : idx b p < W b
      f = virtual-fits wide v h

      inside : Within b m B k
      inside = child-within t a

      -- where there is a page table, there is a shadow 2 table
      r₂ : table_at b m s2 k p ≢ 0
      r₂ = (((forms₁ t inside).directory (Geometry.directory_index b (Geometry.page_of b v)) (directory_index-lt b v h.1)).there r).1

      q₁ : ℕ
      q₁ = table_page b m pt k p

      q₂ : ℕ
      q₂ = table_page b m s2 k p

      written : Near t (put b (put b m q₁ o x) q₂ o y) (put b (put b n q₁ o x) q₂ o y)
      written =
          let first = near-put t (near-start t) q₁ o x (off-lt wide p) (both-table t a pt p f r) in
          near-put t first q₂ o y (off-lt wide p) (both-table t a s2 p f r₂)

      e₁ : table_at b m pt k p ≡ table_at b n pt k p
      e₁ = table_same t inside pt p f

      e₂ : table_at b m s2 k p ≡ table_at b n s2 k p
      e₂ = table_same t inside s2 p f

      words₁ : put_at b (put_at b m pt k p x) s2 k p y ≡ put b (put b m q₁ o x) q₂ o y
      words₁ = two-words wide (inv₁ t) k p (live₁ t inside) f x y r r₂

      words₂ : put_at b (put_at b n pt k p x) s2 k p y ≡ put b (put b n q₁ o x) q₂ o y
      words₂ =
          two-words wide (inv₂ t) k p (live₂ t inside) f x y (λ s. r (e₁ ∙ s)) (λ s. r₂ (e₂ ∙ s))
          ∙ ap₂ (λ (q q' : ℕ). put b (put b n (page_of b q) o x) (page_of b q') o y) (sym e₁) (sym e₂)

  -- ---- add_vaddr

  pub near_add : (p u v r : ℕ) → refusal b m (add_vaddr p u v r) ≡ 0 → Near t (effect b m (add_vaddr p u v r)) (effect b n (add_vaddr p u v r))
  unfolding refusals effect add
  near_add p u v r e =
      let (whole, (pages, (right, (no_child, (hand, (rights, (no_three, rest))))))) = passed _ e in
      let (gp, (gu, (gv, end))) = none_of (Conditions.bad_page b) (p ∷ u ∷ v ∷ []) pages in
      let hp = good-virtual wide p gp in
      let a = child-is t u (good-virtual wide u gu) (eqb-true _ _ (not-false _ no_child)) in
      let p-same = cur-mapping t p (virtual-fits wide p hp) in
      subst (Near t (effect b m (add_vaddr p u v r)))
      (λ s. lend n (child-there t a s) v (entry b (Geometry.page_of b (p-same s)) 1 r) p (same s) p u)
      (near-lend a v (entry b (Geometry.page_of b (mapping b m c p)) 1 r) p p u (good-virtual wide v gv) hp (eqb-false _ _ no_three))

  -- ---- remove_vaddr

  pub near-remove : (u v : ℕ) → refusal b m (remove_vaddr u v) ≡ 0 → Near t (effect b m (remove_vaddr u v)) (effect b n (remove_vaddr u v))
  unfolding refusals effect remove
  near-remove u v e =
      let (whole, (pages, (no_child, (no_three, rest)))) = passed _ e in
      let (gu, (gv, end)) = none_of (Conditions.bad_page b) (u ∷ v ∷ []) pages in
      let k : ℕ = Conditions.child b m u in
      let a = child-is t u (good-virtual wide u gu) (eqb-true _ _ (not-false _ no_child)) in
      let hv = good-virtual wide v gv in
      let hw = above-virtual wide sound₁ k v (live₁ t (child-within t a)) hv in
      let w-same = child-above t a v (virtual-fits wide v hv) in
      subst (Near t (effect b m (remove_vaddr u v))) (λ s. lend n (child-there t a s) v 0 0 (same s) (w-same s) 0)
      (near-lend a v 0 0 (above b m k v) 0 hv hw (eqb-false _ _ no_three))
