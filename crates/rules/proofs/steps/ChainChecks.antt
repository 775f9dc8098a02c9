-- prepare and collect pass their checks: what the words then say, with virtual pages as numbers.
use mathlib.Core.Path.{◌≡◌, refl, sym, ap, ◌∙◌}
use mathlib.Core.Logic.{◌≢◌}
use mathlib.Core.Bool.{Bool, true, false, not, ◌&&◌, false≢true}
use mathlib.Core.List.{List, [], ◌∷◌, ◌++◌}
use Prim.Native.Nat.{ℕ, zero, suc, ◌<◌}
use borrow.Author.Tests.{eqb-true, eqb-false, leb-false, not-false}
use lib.Dec.{eqb}
use lib.ListN.{get_or}
use lib.Seq.{get_or-take, get_or-drop}
use Rattle.walk.specs.Finite.{any}
use Rattle.memory.specs.Geometry
use Rattle.memory.specs.Words as Mem
use Rattle.memory.specs.Entry.{present, accessible}
use Rattle.memory.specs.Partition
use Rattle.rules.specs.Row.{Check, first}
use Rattle.rules.specs.Call.{prepare, collect}
use Rattle.rules.specs.Conditions
use Rattle.rules.specs.Refusals.{refusals, refusal}
use Rattle.rules.proofs.model.Words.{W, word, page_of, acc_of}
use Rattle.rules.proofs.model.Abs.{Kind, pt, s1, s2}
use Rattle.rules.proofs.model.Read.{table_at, table_page, entry_at, root_page}
use Rattle.rules.proofs.model.Names.{PageAddress, good-page, lent_is, mapping-is, table_for-is}
use Rattle.rules.proofs.steps.Create.{HandW}
use Rattle.rules.proofs.Rows.{clear, passed}
use Rattle.rules.proofs.steps.Checks.{false_or, true-and}

and-false : (s t : Bool) → s ≡ true → (s && t) ≡ false → t ≡ false
and-false true t e f = f
and-false false t e f = absurd (false≢true e)

pub by_kind : (X : Kind → Type 0) → X pt → X s1 → X s2 → (k : Kind) → X k
by_kind X x y z pt = x
by_kind X x y z s1 = y
by_kind X x y z s2 = z

distinct : (f : Kind → ℕ) → f s1 ≢ f pt → f s2 ≢ f pt → f s2 ≢ f s1 → (k k' : Kind) → f k ≡ f k' → k ≡ k'
distinct f a β c pt pt e = refl
distinct f a β c pt s1 e = absurd (a (sym e))
distinct f a β c pt s2 e = absurd (β (sym e))
distinct f a β c s1 pt e = absurd (a e)
distinct f a β c s1 s1 e = refl
distinct f a β c s1 s2 e = absurd (c (sym e))
distinct f a β c s2 pt e = absurd (β e)
distinct f a β c s2 s1 e = absurd (c e)
distinct f a β c s2 s2 e = refl

-- no word of a list is other than 0
none_of : (ws : List ℕ) → any (λ w. not (eqb w 0)) ws ≡ false → (j : ℕ) → get_or ws j 0 ≡ 0
none_of [] e j = refl
none_of (w ∷ ws) e zero = eqb-true w 0 (not-false _ (false_or (not (eqb w 0)) _ e).0)
none_of (w ∷ ws) e (suc j) = none_of ws (false_or (not (eqb w 0)) _ e).1 j

-- ---- a page in hand

module _ (b : ℕ) (m : List ℕ) where
  hand-words : (o v : ℕ) → PageAddress b v → Partition.in_hand b m o v ≡ true → HandW b m o (page_of b v)
  unfolding acc_of
  hand-words o v g e =
      let x = true-and (present (Partition.mapping b m o v) && eqb (accessible (Partition.mapping b m o v)) 1) (eqb (Partition.lent b m o v) 0) e in
      let y = true-and (present (Partition.mapping b m o v)) (eqb (accessible (Partition.mapping b m o v)) 1) x.0 in
      record {
        fits = g.fits;
        acc = ap accessible (sym (mapping-is b m o v)) ∙ eqb-true _ _ y.1;
        unlent = sym (lent_is b m o v) ∙ eqb-true _ _ x.1;
      }

  -- the three pages of a chain
  abbrev pub chained : ℕ → Kind → ℕ
  chained p pt = p
  chained p s1 = Conditions.link b m p
  chained p s2 = Conditions.link b m (Conditions.link b m p)

  pub record PrepareChecks (c t p : ℕ) : Type 0 where
    pub c_good : Conditions.bad_page b c ≡ false
    pub t_good : Conditions.bad_page b t ≡ false
    pub c_at : PageAddress b c
    pub t_at : PageAddress b t
    pub child : entry_at b m s1 (Partition.current b m) (page_of b c) ≡ 1
    pub new : table_at b m pt (Conditions.child b m c) (page_of b t) ≡ 0
    pub room : Partition.threes b m (Conditions.child b m c) < 10
    pub at : (k : Kind) → PageAddress b (chained p k)
    pub hand : (k : Kind) → HandW b m (Partition.current b m) (page_of b (chained p k))
    pub one : (k k' : Kind) → chained p k ≡ chained p k' → k ≡ k'
    pub end : Conditions.link b m (chained p s2) ≡ 0

  -- one page of the chain, and the checks after it
  record Linked (seen : List ℕ) (v : ℕ) (rest : List Check) : Type 0 where
    at : PageAddress b v
    fresh : any (eqb v) seen ≡ false
    hand : HandW b m (Partition.current b m) (page_of b v)
    then : first rest ≡ 0

  linked : (seen : List ℕ) (v : ℕ) (rest : List Check) → first (Conditions.in_chain b m seen v ++ rest) ≡ 0 → Linked seen v rest
  linked seen v rest e =
      let x = clear _ _ _ e in
      let y = clear _ _ _ x.1 in
      let z = clear _ _ _ y.1 in
      let w = false_or (Conditions.bad_page b v) (any (eqb v) seen) x.0 in
      let g : PageAddress b v = good-page b v w.0 in
      record { at = g; fresh = w.1; hand = hand-words (Partition.current b m) v g (not-false _ y.0); then = z.1 }

  new-table : (d v : ℕ) → not (Conditions.no_three b m d v) ≡ false → table_at b m pt d (page_of b v) ≡ 0
  new-table d v e = sym (table_for-is b m d v) ∙ eqb-true _ _ (not-false _ e)

  few : (d v : ℕ) → not (Conditions.no_three b m d v) ≡ false → Conditions.list_full b m d v ≡ false → Partition.threes b m d < 10
  few d v e f = leb-false _ _ (and-false (Conditions.no_three b m d v) _ (not-false _ e) f)

  mark-word : (c : ℕ) → Conditions.no_child b m c ≡ false → entry_at b m s1 (Partition.current b m) (page_of b c) ≡ 1
  mark-word c e = sym (lent_is b m (Partition.current b m) c) ∙ eqb-true _ _ (not-false _ e)

  pub prepare-checks : (c t p : ℕ) → refusal b m (prepare c t p) ≡ 0 → PrepareChecks c t p
  unfolding refusals
  prepare-checks c t p e =
      let e₁ = clear _ _ _ e in
      let e₂ = clear _ _ _ e₁.1 in
      let e₃ = clear _ _ _ e₂.1 in
      let e₄ = clear _ _ _ e₃.1 in
      let e₅ = clear _ _ _ e₄.1 in
      let a = false_or (Conditions.bad_page b c) _ e₂.0 in
      let a' = false_or (Conditions.bad_page b t) _ a.1 in
      let x = linked [] p _ e₅.1 in
      let y = linked (p ∷ []) (Conditions.link b m p) _ x.then in
      let z = linked (p ∷ Conditions.link b m p ∷ []) (Conditions.link b m (Conditions.link b m p)) _ y.then in
      let last = clear _ _ _ z.then in
      let y' = false_or (eqb (Conditions.link b m p) p) _ y.fresh in
      let z' = false_or (eqb (Conditions.link b m (Conditions.link b m p)) p) _ z.fresh in
      let z'' = false_or (eqb (Conditions.link b m (Conditions.link b m p)) (Conditions.link b m p)) _ z'.1 in
      record {
        c_good = a.0;
        t_good = a'.0;
        c_at = good-page b c a.0;
        t_at = good-page b t a'.0;
        child = mark-word c e₃.0;
        new = new-table _ t e₄.0;
        room = few _ t e₄.0 e₅.0;
        at = by_kind (λ k. PageAddress b (chained p k)) x.at y.at z.at;
        hand = by_kind (λ k. HandW b m (Partition.current b m) (page_of b (chained p k))) x.hand y.hand z.hand;
        one = distinct (chained p) (eqb-false _ _ y'.0) (eqb-false _ _ z'.0) (eqb-false _ _ z''.0);
        end = eqb-true _ _ (not-false _ last.0);
      }

  -- ---- collect

  -- the page table at v's directory index has no mapping
  empty-words : (d v : ℕ) → Conditions.any_mapping b m d v ≡ false → (j : ℕ) → j < W b → word b m (table_page b m pt d (page_of b v)) j ≡ 0
  unfolding W word table_page table_at root_page page_of
  empty-words d v e j l =
      let ws = Mem.page b m (Geometry.page_of b (Partition.table_for b m d v)) in
      sym (get_or-take (Geometry.page_words b) _ j 0 l ∙ get_or-drop _ m j 0) ∙ none_of ws e j

  pub record CollectChecks (c t : ℕ) : Type 0 where
    pub c_at : PageAddress b c
    pub t_at : PageAddress b t
    pub child : entry_at b m s1 (Partition.current b m) (page_of b c) ≡ 1
    pub there : table_at b m pt (Conditions.child b m c) (page_of b t) ≢ 0
    pub empty : (j : ℕ) → j < W b → word b m (table_page b m pt (Conditions.child b m c) (page_of b t)) j ≡ 0

  pub collect-checks : (c t : ℕ) → refusal b m (collect c t) ≡ 0 → CollectChecks c t
  unfolding refusals
  collect-checks c t e =
      let y = passed (refusals b m (collect c t)) e in
      let a = false_or (Conditions.bad_page b c) _ y.1.0 in
      let a' = false_or (Conditions.bad_page b t) _ a.1 in
      record {
        c_at = good-page b c a.0;
        t_at = good-page b t a'.0;
        child = mark-word c y.1.1.0;
        there = λ z. eqb-false _ _ y.1.1.1.0 (table_for-is b m _ t ∙ z);
        empty = empty-words _ t y.1.1.1.1.0;
      }
