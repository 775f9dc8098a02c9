-- One memory: take and return, in the partitions above B, keep what Levels says, and change no word of a page that B sees. Those partitions may differ
-- between the two memories. Assumes an index width of 6 or more.
use mathlib.Core.Path.{◌≡◌, refl, sym, ap, ap₂, ◌∙◌, subst}
use mathlib.Core.List.{List}
use mathlib.Core.Logic.{◌≢◌, ◌⊎◌, inl, inr}
use Prim.Native.Nat.{ℕ, zero, suc, ◌-◌, ◌≤◌, ◌<◌}
use native.Mathlib.Omega.{arith}
use Rattle.memory.specs.Geometry
use Rattle.memory.specs.Entry
use Rattle.memory.specs.Partition.{parent, shadow2, table_for, mapping, above, set_mapping}
use Rattle.memory.specs.Tree.{Virtual, InTree}
use Rattle.memory.specs.Sound.{Sound}
use Rattle.memory.proofs.Entry.{entry-page}
use Rattle.memory.proofs.Tables.{table_word-absent}
use Rattle.memory.proofs.Geometry.{directory_index-lt}
use Rattle.rules.specs.Moves.{mark}
use Rattle.rules.proofs.Marks.{marked}
use Rattle.rules.proofs.Turns.{marking, mark-root, mark-up}
use Rattle.rules.proofs.model.Base.{eqd}
use Rattle.rules.proofs.model.Words.{W, word, idx, off, page_of, off-lt, twelve-lt, word-put-other}
use Rattle.rules.proofs.model.Abs.{pt, desc, tab}
use Rattle.rules.proofs.model.Facts.{differ}
use Rattle.rules.proofs.model.Read.{root_page, table_at, table_page, entry_at, put_at}
use Rattle.rules.proofs.model.Inv.{Inv}
use Rattle.rules.proofs.sound.Words.{virtual-fits}
use Rattle.rules.proofs.sound.Pages.{zero-virtual}
use Rattle.rules.proofs.sound.Tree.{live_in_tree}
use Rattle.rules.proofs.state.Represented.{sound-inv}
use Rattle.neighbours.proofs.Levels.{deep, Low, Kept, table-deep, table-role, part-kept, put-none, put-at, above_kept, kept-mark}
use Rattle.neighbours.proofs.Pages.{Up, top, on, up}

-- ---- one turn of the walk

marked-page : (b a w : ℕ) → 6 ≤ b → a < 2 → Geometry.page_of b (marked b a w) ≡ Geometry.page_of b w
marked-page b a w wide l = entry-page b (Geometry.page_of b w) a (Entry.rights w) (omega arith) l (omega arith)

module _ (b k a : ℕ) (m : List ℕ) (d v : ℕ) where
  pub mark-top : parent b m d ≡ 0 → mark b (suc k) a m d v ≡ marking b a m d v
  mark-top e = mark-root b a m d v (suc k) (omega arith) e

  pub mark_on : parent b m d ≢ 0 → mark b (suc k) a m d v ≡ mark b k a (marking b a m d v) (parent b m d) (above b m d v)
  mark_on e =
      let f : suc k - 1 ≡ k = omega arith in
      mark-up b a m d v (suc k) (omega arith) e ∙ ap (λ (x : ℕ). mark b x a (marking b a m d v) (parent b m d) (above b m d v)) f

-- ---- the pages that are not shallower than r, and page 0

module _ {b : ℕ} {m : List ℕ} (i : Inv b m) (r : ℕ) where
  abbrev pub Far : ℕ → Type 0
  Far p = (p ≡ 0) ⊎ (r ≤ deep i p)

  -- their words are the same in m₁ and m₂
  abbrev pub FarSame : List ℕ → List ℕ → Type 0
  FarSame m₁ m₂ = (p j : ℕ) → j < W b → Far p → word b m₂ p j ≡ word b m₁ p j

module _ {b : ℕ} (wide : 6 ≤ b) {m : List ℕ} (s : Sound b m) where
  abbrev i : Inv b m
  i = sound-inv wide m s

  -- a shadow 2 word is an address
  pub above-virtual : (e v : ℕ) → i.state.role e ≡ desc → Virtual b v → Virtual b (above b m e v)
  above-virtual e v l h = go (eqd (table_for b m e v) 0)
    where
      k : ℕ
      k = deep i e

      t : InTree b m k e
      t = live_in_tree wide m i e l

      go : Dec (table_for b m e v ≡ 0) → Virtual b (above b m e v)
      go (yes z) =
          let u : ℕ = Geometry.page_of b v in
          let x = (((s.forms k e t).directory (Geometry.directory_index b u) (directory_index-lt b v h.1)).absent z).1 in
          subst (Virtual b) (sym (table_word-absent b m (shadow2 b m e) u x)) (zero-virtual wide m i)
      go (no z) = ((s.forms k e t).tables v (record { virtual = h; table = z })).shadow2_word

  -- ---- one turn at e, which is not deeper than the caller

  module _ {m₁ : List ℕ} (k : Kept i m₁) {e : ℕ} (l : Low i e) where
    pub parent-kept : parent b m₁ e ≡ parent b m e
    unfolding word
    parent-kept = ap (Geometry.page_of b) (part-kept wide i k.unchanged l 11 (twelve-lt wide 11 (omega arith)) (λ y. omega arith))

    module _ (v : ℕ) (h : Virtual b v) where
      abbrev u : ℕ
      u = page_of b v

      pub up_kept : above b m₁ e v ≡ above b m e v
      unfolding entry_at root_page page_of
      up_kept = above_kept wide i k.unchanged l u (virtual-fits wide v h)

      pub mark-kept : (a : ℕ) → a < 2 → Kept i (marking b a m₁ e v)
      unfolding entry_at put_at root_page page_of
      mark-kept a n =
          let w : ℕ = mapping b m₁ e v in
          kept-mark wide i k l u (virtual-fits wide v h) (marked b a w) (marked-page b a w wide n)

      -- pages as deep as r are not written, where e is less deep
      turn-far : (r x : ℕ) → deep i e < r → FarSame i r m₁ (set_mapping b m₁ e v x)
      unfolding put_at root_page page_of
      turn-far r x n p j g f = go (eqd (table_at b m pt e u) 0)
        where
          fits : idx b u < W b
          fits = virtual-fits wide v h

          q : ℕ
          q = table_page b m pt e u

          apart : Far i r p → i.state.role q ≡ tab pt e (idx b u) → p ≢ q
          apart (inl o) z y = differ (sym i.wf.head_role ∙ ap i.state.role (sym o ∙ y) ∙ z) (omega arith)
          apart (inr o) z y = omega (arith, table-deep i pt e (idx b u) q z, ap (deep i) y)

          go : Dec (table_at b m pt e u ≡ 0) → word b (put_at b m₁ pt e u x) p j ≡ word b m₁ p j
          go (yes z) = ap (λ (y : List ℕ). word b y p j) (put-none wide i k.unchanged l pt u fits x z)
          go (no z) =
              let ne : p ≢ q = apart f (table-role wide i pt e u l.live fits z) in
              ap (λ (y : List ℕ). word b y p j) (put-at wide i k.unchanged l pt u fits x z)
              ∙ word-put-other wide m₁ q (off b u) x p j (off-lt wide u) g (λ y. ne y.0)

  -- ---- the whole walk, from a partition e that is less deep than r

  pub mark-far : (n a r : ℕ) → a < 2 → {m₁ : List ℕ} → Kept i m₁ → {e : ℕ} → Low i e → deep i e < r → (v : ℕ) → Virtual b v
      → Kept i (mark b n a m₁ e v) × FarSame i r m₁ (mark b n a m₁ e v)
  unfolding mark
  mark-far zero a r c k l h v f = (k, λ p j g o. refl)
  mark-far (suc n) a r c {m₁} k {e} l h v f =
      go (up wide i e l.live) (λ x y. mark-far n a r c (mark-kept k l v f a c) x y (above b m e v))
    where
      m₂ : List ℕ
      m₂ = marking b a m₁ e v

      -- the memory after the turns that are left
      end : List ℕ
      end = mark b n a m₂ (parent b m e) (above b m e v)

      Goal : List ℕ → Type 0
      Goal y = Kept i y × FarSame i r m₁ y

      same : FarSame i r m₁ m₂
      same = turn-far k l v f r (marked b a (mapping b m₁ e v)) h

      go : Up i e → (Low i (parent b m e) → deep i (parent b m e) < r → Virtual b (above b m e v) → Kept i end × FarSame i r m₂ end)
          → Goal (mark b (suc n) a m₁ e v)
      go (top z) ih = subst Goal (sym (mark-top b n a m₁ e v (parent-kept k l ∙ z))) (mark-kept k l v f a c, same)
      go (on z y d) ih =
          let (kept, far) = ih (record { live = y; small = omega (arith, l.small) }) (omega arith) (above-virtual e v l.live f) in
          let q = mark_on b n a m₁ e v (λ w. z (sym (parent-kept k l) ∙ w)) ∙ ap₂ (mark b n a m₂) (parent-kept k l) (up_kept k l v f) in
          subst Goal (sym q) (kept, λ p j g o. far p j g o ∙ same p j g o)
