-- A partition's three at a directory index, in the state and in the words.
use mathlib.Core.Path.{◌≡◌, refl, sym, ap, ◌∙◌, subst}
use mathlib.Core.Option.{Option, some}
use mathlib.Core.List.{List, ◌∷◌}
use Prim.Native.Nat.{ℕ, ◌+◌, ◌*◌, ◌≤◌, ◌<◌}
use native.Mathlib.Omega.{arith}
use lib.ListN.{length, length-append}
use Rattle.memory.specs.Partition
use Rattle.rules.proofs.model.Words.{W, addr, word, link, link_nz, idx, join, idx-join, addr_inj, twelve-lt}
use Rattle.rules.proofs.model.Abs.{Kind, pt, s1, s2, desc, Three, Abs, head_v, three_at, WF, Cells, EncodesC, link_word}
use Rattle.rules.proofs.model.Facts.{some_inj}
use Rattle.rules.proofs.model.Read.{root_page, table_at, table-word, three-there, three-is}
use Rattle.rules.proofs.steps.ListPage.{threes-is}
use Rattle.rules.proofs.steps.ThreePlace.{Split, split}
use Rattle.rules.proofs.steps.SixWords.{address_at, page_at, Place, place, address_word, page-word}
use Rattle.rules.specs.SameChain.{ThreeAt}

abbrev pub triple : ℕ → ℕ → ℕ → Kind → ℕ
triple x y z pt = x
triple x y z s1 = y
triple x y z s2 = z

-- partition d has a three at index i, and its pages' addresses are those of the virtual pages v
pub record Holds (A : Abs) (d i : ℕ) (v : Kind → ℕ) : Type 0 where
  pub live : A.role d ≡ desc
  pub three : Three
  pub here : three_at i (A.threes d) ≡ some three
  pub at : (k : Kind) → head_v (A.chain (three.page k)) ≡ v k

module _ {b : ℕ} (wide : 6 ≤ b) (N : ℕ) (fl : ℕ → Option ℕ) (f m : List ℕ) (A : Abs) (wf : WF b N fl A) {C : Cells} (en : EncodesC b N f m A C) (d i : ℕ) where
  -- the roots' words at the index
  root-word : A.role d ≡ desc → i < W b → (t : Three) → three_at i (A.threes d) ≡ some t → (k : Kind) → word b m (root_page b m k d) i ≡ link b (t.page k)
  unfolding link_word table_at word idx
  root-word l β t e k =
      let z : idx b (join b i 0) ≡ i = idx-join wide i 0 (twelve-lt wide 0 (omega arith)) in
      ap (word b m (root_page b m k d)) (sym z)
      ∙ table-word wide N fl A wf f m C en k d (join b i 0) l (subst (λ (x : ℕ). x < W b) (sym z) β)
      ∙ ap (link_word b k) (ap (λ (x : ℕ). three_at x (A.threes d)) z ∙ e)

  pub shown : (v : Kind → ℕ) → Holds A d i v → ThreeAt b m d i (addr b (v pt)) (addr b (v s1)) (addr b (v s2))
  unfolding word root_page link addr W
  shown v h =
      let t = h.three in
      let sp : Split i (A.threes d) t = split wide A.role d i (A.threes d) t (wf.tabs d h.live) h.here in
      let β : i < W b = (three-is wide A.role d i (A.threes d) t (wf.tabs d h.live) h.here).fits in
      let pages : (k : Kind) → word b m (Partition.list b m d) (page_at k + 6 * length sp.before) ≡ addr b (t.page k) = page-word wide N fl f m A wf en d h.live sp.before t sp.after sp.is in
      let stand : (k : Kind) → word b m (root_page b m k d) i ≡ word b m (Partition.list b m d) (page_at k + 6 * length sp.before) + 1 = λ k. root-word h.live β t h.here k ∙ ap (λ (x : ℕ). x + 1) (sym (pages k)) in
      let address : (k : Kind) → word b m (Partition.list b m d) (address_at k + 6 * length sp.before) ≡ addr b (v k) = λ k. address_word wide N fl f m A wf en d h.live sp.before t sp.after sp.is k ∙ ap (λ (x : ℕ). addr b x) (h.at k) in
      record {
        fits = β;
        place = length sp.before;
        inside = omega (arith, threes-is wide N fl f m A wf en d h.live, ap length sp.is, length-append sp.before (t ∷ sp.after));
        stands = (stand pt, stand s1, stand s2);
        first = address pt;
        second = address s1;
        third = address s2;
      }

  -- and back
  module _ (l : A.role d ≡ desc) (v₁ v₂ v₃ : ℕ) (th : ThreeAt b m d i v₁ v₂ v₃) where
    at : Place (A.threes d) th.place
    at = place (A.threes d) th.place (omega (arith, th.inside, threes-is wide N fl f m A wf en d l))

    stand : (k : Kind) → word b m (root_page b m k d) i ≡ word b m (Partition.list b m d) (page_at k + 6 * th.place) + 1
    unfolding word root_page
    stand pt = th.stands.0
    stand s1 = th.stands.1
    stand s2 = th.stands.2

    root_is : (k : Kind) → word b m (root_page b m k d) i ≡ link b (at.three.page k)
    unfolding link addr
    root_is k =
        stand k
        ∙ ap (λ (x : ℕ). word b m (Partition.list b m d) (page_at k + 6 * x) + 1) (sym at.size)
        ∙ ap (λ (x : ℕ). x + 1) (page-word wide N fl f m A wf en d l at.before at.three at.after at.is k)

    β : i < W b
    unfolding W
    β = th.fits

    here : (t : Three) × (three_at i (A.threes d) ≡ some t)
    unfolding table_at word idx
    here =
        let z : idx b (join b i 0) ≡ i = idx-join wide i 0 (twelve-lt wide 0 (omega arith)) in
        let r = three-there wide N fl A wf f m C en pt d (join b i 0) l (subst (λ (x : ℕ). x < W b) (sym z) β) (λ e. link_nz wide (at.three.page pt) (sym (root_is pt) ∙ sym (ap (word b m (root_page b m pt d)) z) ∙ e)) in
        (r.0, ap (λ (x : ℕ). three_at x (A.threes d)) (sym z) ∙ r.1)

    same-page : (k : Kind) → at.three.page k ≡ here.0.page k
    unfolding link addr
    same-page k = addr_inj wide _ _ (omega (arith, root_is k, root-word l β here.0 here.1 k))

    address : (k : Kind) → word b m (Partition.list b m d) (address_at k + 6 * th.place) ≡ triple v₁ v₂ v₃ k
    unfolding word
    address pt = th.first
    address s1 = th.second
    address s2 = th.third

    -- the addresses are those of the three that the state has there
    pub read-three : (t : Three) → three_at i (A.threes d) ≡ some t → (k : Kind) → addr b (head_v (A.chain (t.page k))) ≡ triple v₁ v₂ v₃ k
    read-three t e k =
        let s : here.0 ≡ t = some_inj (sym here.1 ∙ e) in
        sym (ap (λ (x : ℕ). addr b (head_v (A.chain x))) (same-page k ∙ ap (λ (x : Three). x.page k) s))
        ∙ sym (address_word wide N fl f m A wf en d l at.before at.three at.after at.is k)
        ∙ ap (λ (x : ℕ). word b m (Partition.list b m d) (address_at k + 6 * x)) at.size
        ∙ address k

    pub read-holds : (v : Kind → ℕ) × Holds A d i v × ((k : Kind) → addr b (v k) ≡ triple v₁ v₂ v₃ k)
    read-holds = ((λ k. head_v (A.chain (here.0.page k))), record { live = l; three = here.0; here = here.1; at = λ k. refl }, read-three here.0 here.1)
