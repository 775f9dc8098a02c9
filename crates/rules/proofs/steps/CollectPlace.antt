-- What collect finds: the three of the child at the target's directory index, its place in the list and its pages' addresses.
use mathlib.Core.Path.{◌≡◌, refl, sym, ap, ◌∙◌, subst}
use mathlib.Core.Option.{Option, none, some}
use mathlib.Core.List.{List, [], ◌∷◌, ◌++◌}
use Prim.Native.Nat.{ℕ, suc, ◌+◌, ◌-◌, ◌*◌, ◌≤◌}
use native.Mathlib.Omega.{arith}
use lib.ListN.{length}
use Rattle.memory.specs.Partition
use Rattle.rules.specs.Conditions
use Rattle.rules.specs.Effects.{place_of, three_place}
use Rattle.rules.proofs.model.Words.{addr, word, pte_nz, link, idx, off, off-lt, page_of}
use Rattle.rules.proofs.model.Abs.{Kind, pt, Role, Hop, Three, Abs, parts, head_v, three_at, Owner, WF, Encodes, cell, link_word}
use Rattle.rules.proofs.model.Apart.{cons_head, tab-kind}
use Rattle.rules.proofs.model.Facts.{nil_cons, parts_of}
use Rattle.rules.proofs.model.Read.{entry_at, entry-there, entry-three, three-there, table-word, cell-pt, ThreeIs, three-is}
use Rattle.rules.proofs.model.Names.{table_for-is}
use Rattle.rules.proofs.steps.Fill.{First}
use Rattle.rules.proofs.steps.Collect.{CollPre}
use Rattle.rules.proofs.model.Inv.{Inv, named}
use Rattle.rules.proofs.steps.ChainChecks.{CollectChecks}
use Rattle.rules.proofs.steps.ListPage.{list-page, threes-is}
use Rattle.rules.proofs.steps.ChildPage.{ChildOf, child-of}
use Rattle.rules.proofs.steps.ThreePlace.{Split, split, Shown, place_is}
use Rattle.rules.proofs.steps.SixWords.{address_at, pair-words, address_word}

-- the first mapping of a page is o's
first_in : (A : Abs) (o q : ℕ) (ps : List ℕ) → parts (A.chain q) ≡ o ∷ ps → First A o q
first_in A o q ps e = go (A.chain q) refl
  where
    go : (hs : List Hop) → A.chain q ≡ hs → First A o q
    go [] f = nil_cons (sym (ap parts f) ∙ e)
    go (h ∷ hs) f = record { hop = h; rest = hs; is = f; part = cons_head (sym (ap parts f) ∙ e) }

module _ {b : ℕ} (m : List ℕ) (i : Inv b m) (c t : ℕ) where
  -- the caller, the child, the directory index
  abbrev pub caller : ℕ
  caller = Partition.current b m

  abbrev pub kid : ℕ
  kid = Conditions.child b m c

  abbrev pub at : ℕ
  at = idx b (page_of b t)

  pub record Found : Type 0 where
    pub child : ChildOf i.state caller (page_of b c) kid
    pub three : Three
    pub pre : CollPre b i.state kid at three
    pub tables : ThreeIs b i.state.role kid at three
    pub split : Split at (i.state.threes kid) three
    pub first : (k : Kind) → First i.state caller (three.page k)
    pub one : (k k' : Kind) → three.page k ≡ three.page k' → k ≡ k'
    pub list : Partition.list b m kid ≡ i.state.lstp kid
    pub place : three_place b m kid t ≡ length split.before
    pub words : (k : Kind) → word b m (Partition.list b m kid) (address_at k + 6 * three_place b m kid t) ≡ addr b (head_v (i.state.chain (three.page k)))

module _ {b : ℕ} (wide : 6 ≤ b) (m : List ℕ) (i : Inv b m) (c t : ℕ) (ck : CollectChecks b m c t) where
  open named b i use {N, fl, f, A}

  abbrev wf : WF b N fl A
  wf = i.wf

  abbrev en : Encodes b N f m A
  en = i.words

  -- the caller and the child
  abbrev o : ℕ
  o = Partition.current b m

  abbrev d : ℕ
  d = Conditions.child b m c

  abbrev x : ℕ
  x = idx b (page_of b t)

  chd : ChildOf A o (page_of b c) d
  chd = child-of wide m i c ck.c_at ck.child

  some-three : (th : Three) × (three_at x (A.threes d) ≡ some th)
  some-three = three-there wide N fl A wf f m (cell b A) en pt d (page_of b t) chd.live ck.t_at.fits ck.there

  th : Three
  th = some-three.0

  here : three_at x (A.threes d) ≡ some th
  unfolding th
  here = some-three.1

  is : ThreeIs b A.role d x th
  is = three-is wide A.role d x (A.threes d) th (wf.tabs d chd.live) here

  empty : (v : ℕ) → idx b v ≡ x → A.maps d v ≡ none
  empty v e = go (A.maps d v) refl
    where
      at : three_at (idx b v) (A.threes d) ≡ some th
      at = ap (λ (z : ℕ). three_at z (A.threes d)) e ∙ here

      go : (y : Option ℕ) → A.maps d v ≡ y → A.maps d v ≡ none
      go none y = y
      go (some q) y =
          let r = entry-three wide N fl A wf f m (cell b A) en pt d v th chd.live at in
          let r' = entry-three wide N fl A wf f m (cell b A) en pt d (page_of b t) th chd.live here in
          let s = wf.seen d v q y in
          let z : entry_at b m pt d v ≡ 0 = entry-there b m pt d v r.3 ∙ ap (λ (p : ℕ). word b m p (off b v)) (r.0 ∙ sym r'.0) ∙ ck.empty (off b v) (off-lt wide v) in
          absurd (pte_nz wide q _ s.0.rt (sym (cell-pt wide A d v q s.0 y s.1) ∙ sym r.2 ∙ z))

  pre : CollPre b A d x th
  pre = record { live = chd.live; here = here; empty = empty }

  -- its place in the list
  sp : Split x (A.threes d) th
  sp = split wide A.role d x (A.threes d) th (wf.tabs d chd.live) here

  abbrev xs : List Three
  xs = sp.before

  abbrev ys : List Three
  ys = sp.after

  list_at : Partition.list b m d ≡ A.lstp d
  list_at = list-page wide N fl f m A wf en d chd.live

  table_is : Partition.table_for b m d t - 1 ≡ addr b (th.page pt)
  unfolding link_word link addr
  table_is = ap (λ (z : ℕ). z - 1) (table_for-is b m d t ∙ table-word wide N fl A wf f m (cell b A) en pt d (page_of b t) chd.live ck.t_at.fits ∙ ap (link_word b pt) here) ∙ omega arith

  place_at : three_place b m d t ≡ length xs
  place_at =
      let n : Partition.threes b m d ≡ length (xs ++ th ∷ ys) = threes-is wide N fl f m A wf en d chd.live ∙ ap length sp.is in
      let e : three_place b m d t ≡ place_of b (length (xs ++ th ∷ ys)) 0 m (A.lstp d) (addr b (th.page pt)) = cc (n, list_at, table_is) in
      let s : Shown b A.chain m (A.lstp d) 0 (xs ++ th ∷ ys) = λ y β. (let z : 1 + 6 * 0 + y ≡ suc y = omega arith in ap (word b m (A.lstp d)) z ∙ pair-words wide N fl f m A wf en d chd.live xs th ys sp.is y β) in
      e ∙ place_is wide A.chain m (A.lstp d) 0 xs th ys sp.apart s ∙ omega arith

  -- the address of its page in the caller
  abbrev H : Kind → ℕ
  H k = addr b (head_v (A.chain (th.page k)))

  word_at : (k : Kind) → word b m (Partition.list b m d) (address_at k + 6 * three_place b m d t) ≡ H k
  word_at k = ap (λ (z : ℕ). word b m (Partition.list b m d) (address_at k + 6 * z)) place_at ∙ address_word wide N fl f m A wf en d chd.live xs th ys sp.is k

  first : (k : Kind) → First A o (th.page k)
  first k =
      let e : parts (A.chain (th.page k)) ≡ parts (A.chain d) = wf.kernel (th.page k) d (subst (λ (r : Role). Owner r (th.page k) d) (sym (is.pages k)) refl) in
      let g : parts (A.chain d) ≡ o ∷ parts (A.chain o) = parts_of wide N fl A wf d o chd.first.hop chd.first.rest chd.first.is chd.first.part in
      first_in A o (th.page k) (parts (A.chain o)) (e ∙ g)

  one : (k k' : Kind) → th.page k ≡ th.page k' → k ≡ k'
  one k k' e = tab-kind (sym (is.pages k) ∙ ap A.role e ∙ is.pages k')

  pub found : Found m i c t
  found = record { child = chd; three = th; pre = pre; tables = is; split = sp; first = first; one = one; list = list_at; place = place_at; words = word_at }
