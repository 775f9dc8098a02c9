-- Calls that write to no list, root or descriptor leave a three where it stands: enter, leave, store, add_vaddr, remove_vaddr.
use mathlib.Core.Path.{◌≡◌, refl, sym, ap, ◌∙◌, subst}
use mathlib.Core.Logic.{◌≢◌}
use mathlib.Core.Bool.{not, ◌||◌}
use mathlib.Core.Option.{Option, none, some}
use mathlib.Core.List.{List, [], ◌∷◌}
use Prim.Native.Nat.{ℕ, ◌/◌, ◌%◌, ◌≤◌, ◌<◌}
use native.Mathlib.Omega.{arith}
use borrow.Author.Tests.{leb-false, eqb-false}
use lib.Dec.{leb, ltb, eqb}
use Rattle.memory.specs.Geometry
use Rattle.memory.specs.Partition
use Rattle.memory.specs.Tree.{Virtual, Has}
use Rattle.memory.proofs.Geometry.{directory_index-lt, place-lt}
use Rattle.memory.proofs.Tables.{put_table_word-absent}
use Rattle.rules.specs.Call.{add_vaddr, remove_vaddr, enter, leave, store}
use Rattle.rules.specs.Conditions.{bad_page, child}
use Rattle.rules.specs.Refusals.{refusals, refusal}
use Rattle.rules.specs.Effects.{add, remove, effect}
use Rattle.rules.proofs.model.Words.{W, addr, word, put, idx, page_of, acc_of}
use Rattle.rules.proofs.model.Abs.{Kind, pt, s1, s2, hand, desc, Three, Abs, three_at, WF, Cells, EncodesC, cell, link_word}
use Rattle.rules.proofs.model.Read.{root_page, table_at, entry_at, put_at, table-word}
use Rattle.rules.proofs.model.Cells.{set-cell}
use Rattle.rules.proofs.steps.Move.{set_live, set_cur, free-put, live-wf, cur-words}
use Rattle.rules.proofs.steps.Live.{Live, live_state}
use Rattle.rules.proofs.model.Inv.{Inv, named, live}
use Rattle.rules.proofs.model.Names.{PageAddress, good-page}
use Rattle.rules.proofs.Rows.{passed}
use Rattle.rules.proofs.steps.Checks.{false_or, none_of, a-child}
use Rattle.rules.proofs.steps.Keep.{hand-page}
use Rattle.rules.proofs.steps.KeepMove.{parent_live}
use Rattle.rules.proofs.sound.Words.{virtual-fits, virtual-addr}
use Rattle.rules.proofs.sound.Tree.{live_in_tree}
use Rattle.rules.proofs.sound.All.{inv-sound}
use Rattle.rules.proofs.steps.ChildPage.{child-of}
use Rattle.rules.proofs.steps.ThreeHeld.{Holds, shown, read-holds}
use Rattle.rules.specs.SameChain.{ThreeAt}

put-absent : (b : ℕ) (m : List ℕ) (k : Kind) (e v y : ℕ) → table_at b m k e v ≡ 0 → put_at b m k e v y ≡ m
unfolding put_at table_at
put-absent b m k e v y z = put_table_word-absent b m (root_page b m k e) v y z

module _ {b : ℕ} (wide : 6 ≤ b) (m : List ℕ) (i : Inv b m) where
  open named b i use {N, fl, f, A}

  abbrev o : ℕ
  o = Partition.current b m

  -- the words stand for A, but for those of tables
  abbrev pub Loose : List ℕ → Type 0
  Loose m' = (C : Cells) × EncodesC b N f m' A C

  pub loose : Loose m
  loose = (cell b A, i.words)

  -- a word of a table
  pub loose-put : (m' : List ℕ) (k : Kind) (e v y : ℕ) → A.role e ≡ desc → idx b v < W b → Loose m' → Loose (put_at b m' k e v y)
  unfolding link_word
  loose-put m' k e v y l β (C, en) = go (three_at (idx b v) (A.threes e)) refl
    where
      go : (z : Option Three) → three_at (idx b v) (A.threes e) ≡ z → Loose (put_at b m' k e v y)
      go (some t) q = (_, set-cell wide N fl f A i.wf m' C en k e v t l q y)
      go none q = (C, subst (λ (z : List ℕ). EncodesC b N f z A C) (sym (put-absent b m' k e v y (table-word wide N fl A i.wf f m' C en k e v l β ∙ ap (link_word b k) q))) en)

  -- the shadow 2 word of a virtual page that has tables is an address
  above-fits : (k t : ℕ) → A.role k ≡ desc → PageAddress b t → Partition.table_for b m k t ≢ 0 → idx b (page_of b (Partition.above b m k t)) < W b
  unfolding addr page_of
  above-fits k t l g n =
      let h : Has b m k t = record { virtual = subst (Virtual b) g.is (virtual-addr wide (page_of b t) g.fits); table = n } in
      virtual-fits wide _ (((inv-sound wide m i).forms _ k (live_in_tree wide m i k l)).tables t h).shadow2_word

  -- a three in a memory that stands for another state
  module _ (d x : ℕ) (l : A.role d ≡ desc) {v₁ v₂ v₃ : ℕ} (th : ThreeAt b m d x v₁ v₂ v₃) where
    pub carry : (m' : List ℕ) (B : Abs) {C : Cells} → WF b N fl B → EncodesC b N f m' B C → ((v : Kind → ℕ) → Holds A d x v → Holds B d x v) → ThreeAt b m' d x v₁ v₂ v₃
    carry m' B w_b en h =
        let r = read-holds wide N fl f m A i.wf i.words d x l v₁ v₂ v₃ th in
        let s = shown wide N fl f m' B w_b en d x r.0 (h r.0 r.1) in
        rw (r.2 pt, r.2 s1, r.2 s2) at s

    pub stay : (m' : List ℕ) → Loose m' → ThreeAt b m' d x v₁ v₂ v₃
    stay m' (C, en) = carry m' A i.wf en (λ v h. h)

    -- ---- the caller changes

    move : (e : ℕ) → A.role e ≡ desc → ThreeAt b (put b m 0 4 (addr b e)) d x v₁ v₂ v₃
    move e le =
        carry (put b m 0 4 (addr b e)) (set_cur A e) (live-wf wide N fl f m A i.wf i.words A.vcli e le) (cur-words wide N fl f m A i.wf i.words e)
        (λ v h. record { live = h.live; three = h.three; here = h.here; at = h.at })

    pub stay-enter : (c : ℕ) → refusal b m (enter c) ≡ 0 → ThreeAt b (effect b m (enter c)) d x v₁ v₂ v₃
    unfolding refusals effect put addr
    stay-enter c e =
        let y = passed (refusals b m (enter c)) e in
        move (child b m c) (child-of wide m i c (good-page b c y.1.0) (a-child b m c y.1.1.0)).live

    pub stay-leave : refusal b m leave ≡ 0 → ThreeAt b (effect b m leave) d x v₁ v₂ v₃
    unfolding refusals effect put addr page_of word
    stay-leave e =
        let y = passed (refusals b m leave) e in
        move (Partition.parent b m o) (parent_live wide m i o (live wide m i) (eqb-false _ _ y.1.0))

    pub stay-live : (m' : List ℕ) → Live wide m i m' → ThreeAt b m' d x v₁ v₂ v₃
    stay-live m' h =
        carry m' (set_live A h.vs h.cur) (live_state wide m i h) h.words
        (λ v g. record { live = g.live; three = g.three; here = g.here; at = g.at })

    -- ---- a word of a page in hand

    pub stay-store : (a y : ℕ) → refusal b m (store a y) ≡ 0 → ThreeAt b (effect b m (store a y)) d x v₁ v₂ v₃
    unfolding refusals effect put page_of entry_at root_page acc_of idx W
    stay-store a y e =
        let z = passed (refusals b m (store a y)) e in
        let lt : a < Geometry.address_end b = leb-false (Geometry.address_end b) a (false_or _ _ (false_or (leb (Geometry.address_end b) a || ltb a (Geometry.page_bytes b)) (not (eqb (a % 4) 0)) z.1.0).0).0 in
        let r : A.role (page_of b (entry_at b m pt o (page_of b a))) ≡ hand =
        let n : acc_of (entry_at b m pt o (page_of b a)) ≢ 0 = eqb-false _ _ z.1.1.1.0 in
        hand-page wide m i o (page_of b a) (live wide m i) (directory_index-lt b a lt) (eqb-false _ _ z.1.1.0) (omega arith) in
        stay _ (cell b A, free-put wide N fl f m A i.wf i.words _ (Geometry.place b a / 4) y (omega (arith, place-lt b a)) r)

    -- ---- table words

    pub stay-add : (p c t r : ℕ) → refusal b m (add_vaddr p c t r) ≡ 0 → ThreeAt b (effect b m (add_vaddr p c t r)) d x v₁ v₂ v₃
    unfolding refusals effect add put_at root_page page_of
    stay-add p c t r e =
        let y = passed (refusals b m (add_vaddr p c t r)) e in
        let g = none_of (bad_page b) (p ∷ c ∷ t ∷ []) y.1.0 in
        let k = child b m c in
        let lk : A.role k ≡ desc = (child-of wide m i c (good-page b c g.1.0) (a-child b m c y.1.1.1.0)).live in
        let βt = (good-page b t g.1.1.0).fits in
        stay _ (loose-put _ s1 o (page_of b p) c (live wide m i) (good-page b p g.0).fits (loose-put _ s2 k (page_of b t) p lk βt (loose-put m pt k (page_of b t) _ lk βt loose)))

    pub stay-remove : (c t : ℕ) → refusal b m (remove_vaddr c t) ≡ 0 → ThreeAt b (effect b m (remove_vaddr c t)) d x v₁ v₂ v₃
    unfolding refusals effect remove put_at root_page page_of
    stay-remove c t e =
        let y = passed (refusals b m (remove_vaddr c t)) e in
        let g = none_of (bad_page b) (c ∷ t ∷ []) y.1.0 in
        let k = child b m c in
        let lk : A.role k ≡ desc = (child-of wide m i c (good-page b c g.0) (a-child b m c y.1.1.0)).live in
        let βt = (good-page b t g.1.0).fits in
        stay _ (loose-put _ s1 o (page_of b (Partition.above b m k t)) 0 (live wide m i) (above-fits k t lk (good-page b t g.1.0) (eqb-false _ _ y.1.1.1.0)) (loose-put _ s2 k (page_of b t) 0 lk βt (loose-put m pt k (page_of b t) 0 lk βt loose)))
