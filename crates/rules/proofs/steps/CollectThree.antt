-- collect that passes its checks: the three leaves the list and the roots, its pages come back chained. The invariant stays.
use mathlib.Core.Path.{◌≡◌, refl, sym, ap, ◌∙◌, subst}
use mathlib.Core.Logic.{◌≢◌}
use mathlib.Core.Option.{some}
use mathlib.Core.List.{List, [], ◌∷◌}
use Prim.Native.Nat.{ℕ, ◌+◌, ◌*◌, ◌≤◌, ◌<◌}
use native.Mathlib.Omega.{arith}
use lib.ListN.{length}
use Rattle.memory.specs.Geometry
use Rattle.memory.specs.Words as Mem
use Rattle.memory.specs.Partition
use Rattle.rules.specs.Moves.{return_all}
use Rattle.rules.specs.Call.{collect}
use Rattle.rules.specs.Refusals.{refusal}
use Rattle.rules.specs.Effects.{drop_three, three_place, collect_three, effect}
use Rattle.rules.proofs.model.Base.{upd_other}
use Rattle.rules.proofs.model.Words.{W, addr, word, put, idx, page_of, sixty_one, Sized, put-sized, word-put-same, word-put-other}
use Rattle.rules.proofs.model.Abs.{Kind, pt, s1, s2, hand, blank, desc, Hop, Three, Abs, head_v, three_at, WF, Encodes, cell}
use Rattle.rules.proofs.model.Apart.{pt-s1, pt-s2, s1-s2}
use Rattle.rules.proofs.model.Facts.{differ, in_range}
use Rattle.rules.proofs.model.Read.{root_page, root-page}
use Rattle.rules.proofs.steps.Fill.{First}
use Rattle.rules.proofs.steps.Move.{free-put}
use Rattle.rules.proofs.steps.Collect.{without, CollPre, coll_a, threes-keep, View, off as gone, on as left, view, coll_wf}
use Rattle.rules.proofs.steps.CollWords.{coll_words}
use Rattle.rules.proofs.steps.CollectEffect.{removed, collect-effect}
use Rattle.rules.proofs.model.Inv.{Inv, named, live}
use Rattle.rules.proofs.steps.ChainChecks.{collect-checks}
use Rattle.rules.proofs.steps.ThreePages.{set_three, on-three, off-three, give_three, third-zero}
use Rattle.rules.proofs.steps.SixWords.{address_at}
use Rattle.rules.proofs.steps.ChildPage.{first-mapping}
use Rattle.rules.proofs.steps.CollectPlace.{caller, kid, at, Found, found}

module _ (b : ℕ) where
  -- three pages returned to o, and linked
  linked : List ℕ → ℕ → (v₁ v₂ v₃ q₁ q₂ : ℕ) → List ℕ
  linked m o v₁ v₂ v₃ q₁ q₂ = put b (put b (return_all b m o (v₁ ∷ v₂ ∷ v₃ ∷ [])) q₁ 0 v₂) q₂ 0 v₃

module _ {b : ℕ} (wide : 6 ≤ b) (m : List ℕ) (i : Inv b m) (c t : ℕ) (fd : Found m i c t) where
  open named b i use {N, fl, f, A}

  abbrev wf : WF b N fl A
  wf = i.wf

  abbrev en : Encodes b N f m A
  en = i.words

  abbrev o : ℕ
  o = caller m i c t

  abbrev d : ℕ
  d = kid m i c t

  abbrev x : ℕ
  x = at m i c t

  abbrev th : Three
  th = fd.three

  abbrev pre : CollPre b A d x th
  pre = fd.pre

  lo : A.role o ≡ desc
  lo = live wide m i

  -- the address of a page in the caller
  abbrev pub H : Kind → ℕ
  H k = addr b (head_v (A.chain (th.page k)))

  zero-lt : 0 < W b
  zero-lt = omega (arith, sixty_one wide)

  -- ---- the words without the three

  abbrev B : Abs
  B = coll_a A d x th

  abbrev m₂ : List ℕ
  m₂ = removed b x m (A.rootp pt d) (A.rootp s1 d) (A.rootp s2 d) (A.lstp d) (drop_three (length fd.split.before) (Mem.page b m (A.lstp d)))

  w_b : WF b N fl B
  w_b = coll_wf wide N fl A wf d x th pre

  en_b : Encodes b N f m₂ B
  en_b = coll_words wide N fl f A wf d x th pre m m₂ en (collect-effect wide N fl f m A wf en d x th pre fd.split)

  B-view : (z : ℕ) → View wide N fl A wf d x th pre z
  B-view z = view wide N fl A wf d x th pre z

  B-blank : (k : Kind) → B.role (th.page k) ≡ blank
  B-blank k = go (B-view (th.page k))
    where
      go : View wide N fl A wf d x th pre (th.page k) → B.role (th.page k) ≡ blank
      go (gone k' e r) = r
      go (left n r) = absurd (n k refl)

  -- no partition's descriptor is among them
  not-desc : (z : ℕ) → A.role z ≡ desc → (k : Kind) → z ≢ th.page k
  not-desc z e k y = differ (sym (fd.tables.pages k) ∙ sym (ap A.role y) ∙ e) (omega arith)

  B-desc : (z : ℕ) → A.role z ≡ desc → B.role z ≡ desc
  B-desc z e = go (B-view z)
    where
      go : View wide N fl A wf d x th pre z → B.role z ≡ desc
      go (gone k y r) = absurd (not-desc z e k y)
      go (left n r) = r ∙ e

  B-live : B.role o ≡ desc
  B-live = B-desc o lo

  -- ---- and the pages given back

  abbrev pub collected_a : Abs
  collected_a = set_three B th.page hand

  pub desc-stays : (z : ℕ) → A.role z ≡ desc → collected_a.role z ≡ desc
  desc-stays z e = off-three B th.page hand z (not-desc z e) ∙ B-desc z e

  pub threes-stay : (e j : ℕ) (z : Three) → ¬ ((e ≡ d) × (j ≡ x)) → three_at j (A.threes e) ≡ some z → three_at j (collected_a.threes e) ≡ some z
  threes-stay = threes-keep wide N fl A wf d x th pre

  abbrev m₃ : List ℕ
  m₃ = return_all b m₂ o (H pt ∷ H s1 ∷ H s2 ∷ [])

  vp_is : (k : Kind) → addr b (fd.first k).hop.vp ≡ H k
  vp_is k = ap (λ (hs : List Hop). addr b (head_v hs)) (sym (fd.first k).is)

  B-first : (k : Kind) → First B o (th.page k)
  B-first k = record { hop = (fd.first k).hop; rest = (fd.first k).rest; is = (fd.first k).is; part = (fd.first k).part }

  given : WF b N fl collected_a × Encodes b N f m₃ collected_a
  unfolding B-first
  given =
      let r = give_three wide N fl f B w_b m₂ en_b o B-live th.page fd.one B-blank B-first in
      (r.0, rw (vp_is pt, vp_is s1, vp_is s2) at r.1)

  third-is : word b m₃ (th.page s2) 0 ≡ 0
  unfolding B-first
  third-is = rw (vp_is pt, vp_is s1, vp_is s2) at (third-zero wide N fl f B w_b m₂ en_b o B-live th.page fd.one B-blank B-first 0 zero-lt)

  -- ---- the effect's words

  abbrev w : Kind → ℕ
  w k = word b m (Partition.list b m d) (address_at k + 6 * three_place b m d t)

  effect_is : effect b m (collect c t)
      ≡ linked b (removed b x m (root_page b m pt d) (root_page b m s1 d) (root_page b m s2 d) (Partition.list b m d) (drop_three (three_place b m d t) (Mem.page b m (Partition.list b m d))))
      o (w pt) (w s1) (w s2) (Geometry.page_of b (Partition.mapping b m o (w pt))) (Geometry.page_of b (Partition.mapping b m o (w s1)))
  unfolding effect collect_three linked removed put idx page_of root_page word
  effect_is = refl

  page-is : (k : Kind) → Geometry.page_of b (Partition.mapping b m o (H k)) ≡ th.page k
  page-is k = ap (λ (z : ℕ). Geometry.page_of b (Partition.mapping b m o z)) (sym (vp_is k)) ∙ first-mapping wide N fl f m A wf en o lo (th.page k) (fd.first k)

  root_is : (k : Kind) → root_page b m k d ≡ A.rootp k d
  root_is k = root-page wide N fl A wf f m (cell b A) en k d fd.child.live

  same : effect b m (collect c t) ≡ linked b m₂ o (H pt) (H s1) (H s2) (th.page pt) (th.page s1)
  same = effect_is ∙ cc (root_is pt, root_is s1, root_is s2, fd.list, fd.place, fd.words pt, fd.words s1, fd.words s2, page-is pt, page-is s1)

  C-hand : (k : Kind) → collected_a.role (th.page k) ≡ hand
  C-hand = on-three B th.page hand

  -- the links: word 0 of each of the three pages
  abbrev pub next : Kind → ℕ
  next pt = H s1
  next s1 = H s2
  next s2 = 0

  pub link-words : (k : Kind) → word b (effect b m (collect c t)) (th.page k) 0 ≡ next k
  unfolding linked
  link-words k = ap (λ (z : List ℕ). word b z (th.page k) 0) same ∙ go k
    where
      m₄ : List ℕ
      m₄ = put b m₃ (th.page pt) 0 (H s1)

      sized₃ : Sized b N m₃
      sized₃ = given.1.sized

      lt : (k : Kind) → th.page k < N
      lt k = in_range wide N fl A wf (th.page k) (fd.first k).hop (fd.first k).rest (fd.first k).is

      go : (k : Kind) → word b (put b m₄ (th.page s1) 0 (H s2)) (th.page k) 0 ≡ next k
      go pt = word-put-other wide m₄ (th.page s1) 0 (H s2) (th.page pt) 0 zero-lt zero-lt (λ y. pt-s1 (fd.one pt s1 y.0)) ∙ word-put-same wide N m₃ (th.page pt) 0 (H s1) sized₃ (lt pt) zero-lt
      go s1 = word-put-same wide N m₄ (th.page s1) 0 (H s2) (put-sized wide N m₃ (th.page pt) 0 (H s1) sized₃) (lt s1) zero-lt
      go s2 =
          word-put-other wide m₄ (th.page s1) 0 (H s2) (th.page s2) 0 zero-lt zero-lt (λ y. s1-s2 (sym (fd.one s2 s1 y.0)))
          ∙ word-put-other wide m₃ (th.page pt) 0 (H s1) (th.page s2) 0 zero-lt zero-lt (λ y. pt-s2 (sym (fd.one s2 pt y.0))) ∙ third-is

  pub collected : WF b N fl collected_a × Encodes b N f (effect b m (collect c t)) collected_a
  unfolding linked
  collected =
      let e₁ = free-put wide N fl f m₃ collected_a given.0 given.1 (th.page pt) 0 (H s1) zero-lt (C-hand pt) in
      let e₂ = free-put wide N fl f _ collected_a given.0 e₁ (th.page s1) 0 (H s2) zero-lt (C-hand s1) in
      (given.0, subst (λ (z : List ℕ). Encodes b N f z collected_a) (sym same) e₂)

  pub collected-full : (z : ℕ) → collected_a.role z ≢ blank
  collected-full z e = go (B-view z)
    where
      go : View wide N fl A wf d x th pre z → ⊥
      go (gone k y r) = differ (sym (C-hand k) ∙ sym (ap collected_a.role y) ∙ e) (omega arith)
      go (left n r) = i.full z (sym r ∙ sym (off-three B th.page hand z n) ∙ e)

  unfoldable pub collected-inv : Inv b (effect b m (collect c t))
  collected-inv = record {
    N = N;
    least = i.least;
    most = i.most;
    state = collected_a;
    wf = collected.0;
    full = collected-full;
    root = record { roots = i.root.roots; list = i.root.list; threes = upd_other A.threes d (without x (A.threes d)) 1 fd.child.below ∙ i.root.threes };
    flags = i.flags;
    words = collected.1;
  }

module _ {b : ℕ} (wide : 6 ≤ b) (m : List ℕ) (i : Inv b m) where
  pub keep-collect : (c t : ℕ) → refusal b m (collect c t) ≡ 0 → Inv b (effect b m (collect c t))
  keep-collect c t e = collected-inv wide m i c t (found wide m i c t (collect-checks b m c t e))
