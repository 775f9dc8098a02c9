-- The pages of a partition that are neither lent nor accessible are its children's kernel pages exactly where they are as many. Assumes nothing.
use mathlib.Core.Path.{◌≡◌, refl, sym, ap, ◌∙◌, subst}
use mathlib.Core.List.{List, ◌++◌}
use mathlib.Core.Logic.{◌↔◌, inl, inr}
use Prim.Native.Nat.{ℕ, zero, suc, ◌+◌, ◌-◌, ◌*◌, ◌≤◌, ◌<◌}
use native.Mathlib.Omega.{arith}
use native.Mathlib.Decide.{dec_lt}
use lib.ListN.{length, get_or, length-append, get_or-append}
use lib.Seq.{get_or-append-add}
use Rattle.walk.specs.Lists.{count, count_append, at_count, at-once, flat, flat_in, flat_ge, flat-once, sum_ext, length-flat}
use Rattle.walk.specs.Reflect.{Tells, via, eq?, le?, both, isn't}
use Rattle.walk.specs.Finite.{from, below, keep, keep-once, image, image_in, in_image, length-image, image-at}
use Rattle.memory.specs.Geometry.{page_of}
use Rattle.memory.specs.Words.{word}
use Rattle.memory.specs.Partition.{list, threes, mapping}
use Rattle.memory.specs.Tree.{Child, InTree, child}
use Rattle.memory.specs.Uses.{five_pages}
use Rattle.memory.specs.Counts as C
use Rattle.memory.specs.Sound as S
use Rattle.memory.proofs.Geometry.{page-address}
use Rattle.soundness.specs.Test.{own}
use Rattle.soundness.proofs.Places.{tabled-once}
use Rattle.soundness.proofs.Agree.{Shut}
use Rattle.soundness.proofs.Trees.{kids_to, to_kids, kids_once, tree-to}
use Rattle.soundness.proofs.Used.{length_from, from_at, own-length, own-five, own-listed}
use Rattle.soundness.proofs.Whole.{Spot}
use Rattle.judging.specs.Quick as Q
use Rattle.judging.proofs.Lengths.{no_more, same_length}
use Rattle.judging.proofs.Local.{Local, Others, kept, kernel-has}

-- f at 0 .. n - 1
abbrev values : (ℕ → ℕ) → ℕ → List ℕ
values f n = image f (from n 0)

values_length : (f : ℕ → ℕ) (n : ℕ) → length (values f n) ≡ n
values_length f n = length-image f (from n 0) ∙ length_from n 0

values-at : (f : ℕ → ℕ) (n j : ℕ) → j < n → get_or (values f n) j 0 ≡ f j
values-at f n j h = image-at f (from n 0) j (omega (arith, length_from n 0)) ∙ ap f (from_at n 0 j h ∙ omega arith)

values_in : (f : ℕ → ℕ) (n x : ℕ) → (0 < count x (values f n)) ↔ ((j : ℕ) × (j < n) × (f j ≡ x))
values_in f n x = (
  (λ h. let (j, a, e) = image_in f x (from n 0) h in (j, (below n j).0 a, e)),
  (λ (j, a, e). subst (λ (y : ℕ). 0 < count y (values f n)) e (in_image f j (from n 0) ((below n j).1 a))),
)

module _ (b : ℕ) (m : List ℕ) where
  -- the addresses, in its parent, of c's kernel pages: the descriptor's five, then those of the list
  abbrev five : ℕ → ℕ → ℕ
  five c j = word b m c (2 * j)

  abbrev listed : ℕ → ℕ → ℕ
  listed c j = word b m (list b m c) (1 + 2 * j)

  unfoldable kernel_addresses : ℕ → List ℕ
  kernel_addresses c = values (five c) 5 ++ values (listed c) (3 * threes b m c)

  addresses-length : (c : ℕ) → length (kernel_addresses c) ≡ 5 + 3 * threes b m c
  unfolding kernel_addresses
  addresses-length c = omega (arith, length-append (values (five c) 5) (values (listed c) (3 * threes b m c)), values_length (five c) 5, values_length (listed c) (3 * threes b m c))

  addresses_in : (c x : ℕ) → (0 < count x (kernel_addresses c)) ↔ S.KernelAddress b m c x
  unfolding kernel_addresses
  addresses_in c x = (
    (λ h. elim (dec_lt 0 (count x (values (five c) 5))) [
      | yes p ↦ inl ((values_in (five c) 5 x).0 p)
      | no n ↦ inr ((values_in (listed c) (3 * threes b m c) x).0 (omega (arith, sum)))
    ]),
    back,
  )
    where
      sum : count x (values (five c) 5 ++ values (listed c) (3 * threes b m c)) ≡ count x (values (five c) 5) + count x (values (listed c) (3 * threes b m c))
      sum = count_append x (values (five c) 5) (values (listed c) (3 * threes b m c))

      back : S.KernelAddress b m c x → 0 < count x (values (five c) 5 ++ values (listed c) (3 * threes b m c))
      back (inl p) = omega (arith, (values_in (five c) 5 x).1 p, sum)
      back (inr p) = omega (arith, (values_in (listed c) (3 * threes b m c) x).1 p, sum)

  -- ---- the parent maps at such an address the page that the child uses

  agreed : (d x a : ℕ) → S.Agrees b m d x a → page_of b (mapping b m d x) ≡ page_of b a
  agreed d x a (n, e) = sym (page-address b (page_of b (mapping b m d x))) ∙ ap (page_of b) e

  module _ {d v c : ℕ} (r : S.ChildRight b m d v c) where
    pub five-page : (j : ℕ) → j < 5 → page_of b (mapping b m d (five c j)) ≡ get_or (five_pages b m c) j 0
    five-page j h = agreed d (five c j) (word b m c (2 * j + 1)) (r.five j h) ∙ is j h
      where
        is : (j : ℕ) → j < 5 → page_of b (word b m c (2 * j + 1)) ≡ get_or (five_pages b m c) j 0
        is zero h = ap (page_of b) r.itself ∙ page-address b c
        is (suc zero) h = refl
        is (suc (suc zero)) h = refl
        is (suc (suc (suc zero))) h = refl
        is (suc (suc (suc (suc zero)))) h = refl
        is (suc (suc (suc (suc (suc j))))) h = absurd (omega arith)

    pub listed-page : (j : ℕ) → j < 3 * threes b m c → page_of b (mapping b m d (listed c j)) ≡ page_of b (word b m (list b m c) (2 + 2 * j))
    listed-page j h = agreed d (listed c j) (word b m (list b m c) (2 + 2 * j)) (r.listed j h)

    address-page : (i : ℕ) → i < 5 + 3 * threes b m c → page_of b (mapping b m d (get_or (kernel_addresses c) i 0)) ≡ get_or (own b m c) i 0
    unfolding kernel_addresses image from
    address-page i h = elim (dec_lt i 5) [
      | yes p ↦ ap page (get_or-append (values (five c) 5) (values (listed c) (3 * threes b m c)) 0 i p ∙ values-at (five c) 5 i p) ∙ five-page i p ∙ sym (own-five b m c i p)
      | no n ↦ further (i - 5) (omega arith) (omega arith)
    ]
      where
        page : ℕ → ℕ
        page x = page_of b (mapping b m d x)

        further : (j : ℕ) → i ≡ 5 + j → j < 3 * threes b m c → page (get_or (values (five c) 5 ++ values (listed c) (3 * threes b m c)) i 0) ≡ get_or (own b m c) i 0
        further j e l =
            let q : get_or (values (five c) 5 ++ values (listed c) (3 * threes b m c)) (5 + j) 0 ≡ listed c j =
            get_or-append-add (values (five c) 5) (values (listed c) (3 * threes b m c)) j 0 ∙ values-at (listed c) (3 * threes b m c) j l in
            rw e (ap page q ∙ listed-page j l ∙ sym (own-listed b m c j l))

  -- ---- no such address twice

  module _ (s : Local b m) {k d : ℕ} (t : InTree b m k d) where
    due : List ℕ
    due = flat kernel_addresses (C.children b m d)

    -- the page mapped at place i of the list of a child's addresses is in place i of the child's pages
    spot : (c x i : ℕ) → 0 < count c (C.children b m d) → i < length (kernel_addresses c) → get_or (kernel_addresses c) i 0 ≡ x
        → (y : Spot b m (page_of b (mapping b m d x))) × (y.part ≡ c) × (y.at ≡ i)
    spot c x i h l e =
        let (v, a) = kids_to b m d c h in
        let n : i < 5 + 3 * threes b m c = omega (arith, addresses-length c) in
        let q : get_or (own b m c) i 0 ≡ page_of b (mapping b m d x) = sym (address-page ((s.children k d t).right v c a) i n) ∙ ap (λ (z : ℕ). page_of b (mapping b m d z)) e in
        (record { depth = suc k; part = c; at = i; tree = tree-to b m (child t a); bound = omega (arith, own-length b m c); is = q }, refl, refl)

    due-once : (x : ℕ) → count x due ≤ 1
    unfolding due
    due-once x = flat-once kernel_addresses x (C.children b m d) (λ c. kids_once b m d c (λ v a. ((s.children k d t).right v c a).stands)) (λ c h. at-once x (kernel_addresses c) (place c h)) part
      where
        place : (c : ℕ) → 0 < count c (C.children b m d) → (i j : ℕ) → i < length (kernel_addresses c) → j < length (kernel_addresses c)
            → get_or (kernel_addresses c) i 0 ≡ x → get_or (kernel_addresses c) j 0 ≡ x → i ≡ j
        place c h i j p q e f =
            let (y, _, u) = spot c x i h p e in
            let (z, _, w) = spot c x j h q f in
            sym u ∙ (s.same _ y z).1 ∙ w

        part : (c e : ℕ) → 0 < count c (C.children b m d) → 0 < count e (C.children b m d) → 0 < count x (kernel_addresses c) → 0 < count x (kernel_addresses e) → c ≡ e
        part c e h g p q =
            let (i, l, o) = at_count x (kernel_addresses c) p in
            let (j, n, r) = at_count x (kernel_addresses e) q in
            let (y, u, _) = spot c x i h l o in
            let (z, w, _) = spot e x j g n r in
            sym u ∙ (s.same _ y z).0 ∙ w

    due_in : (x : ℕ) → (0 < count x due) ↔ ((v : ℕ) × (c : ℕ) × Child b m d v c × S.KernelAddress b m c x)
    unfolding due
    due_in x = (
      (λ h.
          let (c, p, q) = flat_in kernel_addresses x (C.children b m d) h in
          let (v, a) = kids_to b m d c p in
          (v, c, a, (addresses_in c x).0 q)),
      (λ (v, c, a, q). omega (arith, flat_ge kernel_addresses x (C.children b m d) c (to_kids b m d v c a), (addresses_in c x).1 q)),
    )

    due-length : length due ≡ Q.due_count b m d
    unfolding due Q.due_count
    due-length = length-flat kernel_addresses (C.children b m d) ∙ sum_ext _ _ (C.children b m d) addresses-length

    -- ---- against the pages that are neither lent nor accessible

    barred : List ℕ
    barred = keep (Q.shut_cell b m d) (C.tabled b m d)

    shut? : (x : ℕ) → Tells (Q.shut_cell b m d x) (Shut b m d x)
    unfolding Q.shut_cell
    shut? x = via (both (both (isn't eq?) le?) eq?) (λ ((p, q), r). (p, r, q)) (λ (p, r, q). ((p, q), r))

    barred-once : (x : ℕ) → count x barred ≤ 1
    unfolding barred
    barred-once x = keep-once (Q.shut_cell b m d) x (C.tabled b m d) (tabled-once b m d x)

    due-barred : (x : ℕ) → 0 < count x due → 0 < count x barred
    unfolding barred
    due-barred x h = let (v, c, a, q) = (due_in x).0 h in (kept b m d shut? x).1 (kernel-has b m s t a x q, s.shut t a x q)

    pub count-others : Q.shut_count b m d ≡ Q.due_count b m d → Others b m d
    unfolding barred Q.shut_count
    count-others e x h n l a =
        let p : 0 < count x barred = (kept b m d shut? x).1 (h, (n, a, l)) in
        (due_in x).0 (omega (arith, p, no_more due barred due-once due-barred (omega (arith, e, due-length)) x))

    pub others-count : Others b m d → Q.shut_count b m d ≡ Q.due_count b m d
    unfolding barred Q.shut_count
    others-count o = sym (same_length due barred due-once due-barred barred-once back) ∙ due-length
      where
        back : (x : ℕ) → 0 < count x barred → 0 < count x due
        back x h = let (i, (n, a, l)) = (kept b m d shut? x).0 h in (due_in x).1 (o x i n l a)
