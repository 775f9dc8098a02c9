-- What a call reads: each row of refusals, and each answer, in two memories that have the same words there. Assumes nothing.
use mathlib.Core.Path.{◌≡◌, refl, sym, ap, ap₂, ◌∙◌}
use mathlib.Core.List.{List, [], ◌∷◌, ◌++◌}
use mathlib.Core.Option.{none}
use mathlib.Core.Bool.{Bool, true, false, not, cond, ◌||◌}
use Prim.Native.Nat.{ℕ, zero, suc, ◌+◌, ◌-◌, ◌*◌, ◌/◌, ◌≤◌, ◌<◌}
use native.Mathlib.Omega.{arith}
use borrow.Author.Tests.{eqb-true, eqb-false, not-false, not-true}
use lib.Dec.{leb, eqb}
use Rattle.walk.specs.Finite.{any}
use Rattle.memory.specs.Geometry.{address_end, place, most_depth}
use Rattle.memory.specs.Words.{word}
use Rattle.memory.specs.Entry.{present, accessible, read_right, write_right}
use Rattle.memory.specs.Partition.{current, list, threes, table_for, mapping, lent, in_hand}
use Rattle.memory.proofs.Geometry.{place-lt}
use Rattle.rules.specs.Refusal.{DAMAGED, ADDRESS, TWICE, CHILD, RIGHTS, HAND, TABLE, TAKEN, LIST, CHAIN, FULL-TABLE, DEPTH, ROOT}
use Rattle.rules.specs.Refusal.{UNMAPPED, KERNEL}
use Rattle.rules.specs.Row.{Check, ◌when◌, first, reply}
use Rattle.rules.specs.Call.{Call, format_all, create_partition, delete_partition, add_vaddr, remove_vaddr, page_count, prepare, collect, mapped_in_child}
use Rattle.rules.specs.Call.{enter, leave, load, store, notify, dispatch, resume, choice, resumption}
use Rattle.rules.specs.Conditions.{damaged, bad_address, bad_page, no_child, child, lacks, not_in_hand, no_three, unmapped, list_full, any_mapping}
use Rattle.rules.specs.Conditions.{inaccessible, serves_child, link, in_chain, chain}
use Rattle.rules.specs.Refusals.{refusals, refusal}
use Rattle.rules.specs.Effects.{place_of, three_place}
use Rattle.rules.specs.Calls.{result, answer, resumed, context}
use Rattle.rules.specs.Reads.{SameChild, SameRead, SameParent, Reads}
use Rattle.rules.proofs.Rows.{passed}
use Rattle.rules.proofs.steps.Checks.{false_or, true-and, Each, none_of}
use Rattle.rules.proofs.steps.ReadRows.{row, last_row, below_end}
use Rattle.rules.proofs.steps.ReadSlots.{dispatch-same, notify-same, resume-same, context-same}

-- the place of a three in a list is read up to the last three
place_same : (b : ℕ) (m n : List ℕ) (q x l₁ l₂ a : ℕ) → ((y : ℕ) → x ≤ y → y < x + q → word b m l₁ (2 + 6 * y) ≡ word b n l₂ (2 + 6 * y))
    → place_of b q x m l₁ a ≡ place_of b q x n l₂ a
unfolding place_of
place_same b m n zero x l₁ l₂ a h = refl
place_same b m n (suc q) x l₁ l₂ a h =
    ap₂ (λ (w z : ℕ). cond (eqb w a) x z) (h x (omega arith) (omega arith))
    (place_same b m n q (suc x) l₁ l₂ a (λ y g f. h y (omega arith) (omega arith)))

place-most : (b : ℕ) (m : List ℕ) (q x l a : ℕ) → place_of b q x m l a ≤ x + q
unfolding place_of
place-most b m zero x l a = omega arith
place-most b m (suc q) x l a = go (eqb (word b m l (2 + 6 * x)) a) (place-most b m q (suc x) l a)
  where
    go : (t : Bool) → place_of b q (suc x) m l a ≤ suc x + q → cond t x (place_of b q (suc x) m l a) ≤ x + suc q
    go true h = omega arith
    go false h = omega arith

module _ (b : ℕ) (m n : List ℕ) (s : SameRead b m n) where
  abbrev d : ℕ
  d = current b m

  abbrev e : ℕ
  e = current b n

  -- ---- conditions on the caller

  module _ (v : ℕ) (l : v < address_end b) where
    w-same : mapping b m d v ≡ mapping b n e v
    w-same = s.caller.mapping v l

    no_child-same : no_child b m v ≡ no_child b n v
    no_child-same = rw (s.caller.lent v l) refl

    lacks-same : (r : ℕ) → lacks b r m v ≡ lacks b r n v
    lacks-same r = rw w-same refl

    not_in_hand-same : not_in_hand b m v ≡ not_in_hand b n v
    not_in_hand-same = rw (w-same, s.caller.lent v l) refl

    unmapped-same : unmapped b m d v ≡ unmapped b n e v
    unmapped-same = rw w-same refl

    inaccessible-same : inaccessible b m v ≡ inaccessible b n v
    inaccessible-same = rw w-same refl

    serves_child-same : serves_child b m v ≡ serves_child b n v
    serves_child-same = rw (w-same, s.caller.lent v l) refl

    -- the link of a page in hand
    pub link-same : not_in_hand b m v ≡ false → link b m v ≡ link b n v
    link-same h =
        let w : ℕ = mapping b m d v in
        let there : present w ≡ true = (true-and (present w) (eqb (accessible w) 1) (true-and _ _ (not-false _ h)).0).0 in
        s.page v l (eqb-false w 0 (not-true _ there)) 0 (omega (arith, place-lt b 0))

  -- ---- conditions on a child

  module _ (c : ℕ) (g : bad_page b c ≡ false) (one : lent b m d c ≡ 1) (v : ℕ) (l : v < address_end b) where
    abbrev k : ℕ
    k = child b m c

    same-child : SameChild b m n k (child b n c)
    same-child = s.children c g one

    no_three-same : no_three b m k v ≡ no_three b n (child b n c) v
    no_three-same = rw (same-child.tables.table v l) refl

    child-unmapped : unmapped b m k v ≡ unmapped b n (child b n c) v
    child-unmapped = rw (same-child.tables.mapping v l) refl

    child-hand : in_hand b m k v ≡ in_hand b n (child b n c) v
    child-hand = rw (same-child.tables.mapping v l, same-child.tables.lent v l) refl

    list_full-same : list_full b m k v ≡ list_full b n (child b n c) v
    list_full-same = rw (same-child.tables.table v l, same-child.threes) refl

    any_mapping-same : no_three b m k v ≡ false → any_mapping b m k v ≡ any_mapping b n (child b n c) v
    any_mapping-same z = ap (any (λ w. not (eqb w 0))) (same-child.page v l (eqb-false (table_for b m k v) 0 z))

    -- the place of the three in the list
    pub place_of_same : three_place b m k v ≡ three_place b n (child b n c) v
    place_of_same =
        place_same b m n (threes b m k) 0 (list b m k) (list b n (child b n c)) (table_for b m k v - 1) (λ y f h. same-child.list (2 + 6 * y) (omega arith))
        ∙ ap₂ (λ (x y : ℕ). place_of b x 0 n (list b n (child b n c)) (y - 1)) same-child.threes (same-child.tables.table v l)

    -- its first address
    first-same : word b m (list b m k) (1 + 6 * three_place b m k v) ≡ word b n (list b n (child b n c)) (1 + 6 * three_place b n (child b n c) v)
    first-same =
        let few = place-most b m (threes b m k) 0 (list b m k) (table_for b m k v - 1) in
        same-child.list (1 + 6 * three_place b m k v) (omega (arith, few)) ∙ ap (λ (x : ℕ). word b n (list b n (child b n c)) (1 + 6 * x)) place_of_same

  -- ---- parts of rows

  -- the test of soundness
  sound-row : (cs ds : List Check) → first cs ≡ first ds → first (DAMAGED when damaged b m ∷ cs) ≡ first (DAMAGED when damaged b n ∷ ds)
  sound-row cs ds h = row DAMAGED _ _ cs ds s.damaged (λ x. h)

  -- and then the test of addresses, of several or of one
  pages-row : (vs : List ℕ) (cs ds : List Check) → (Each (λ v. bad_page b v ≡ false) vs → first cs ≡ first ds)
      → first (DAMAGED when damaged b m ∷ ADDRESS when any (bad_page b) vs ∷ cs) ≡ first (DAMAGED when damaged b n ∷ ADDRESS when any (bad_page b) vs ∷ ds)
  pages-row vs cs ds h = sound-row _ _ (row ADDRESS _ _ cs ds refl (λ x. h (none_of (bad_page b) vs x)))

  page-row : (v : ℕ) (cs ds : List Check) → (bad_page b v ≡ false → first cs ≡ first ds)
      → first (DAMAGED when damaged b m ∷ ADDRESS when bad_page b v ∷ cs) ≡ first (DAMAGED when damaged b n ∷ ADDRESS when bad_page b v ∷ ds)
  page-row v cs ds h = sound-row _ _ (row ADDRESS _ _ _ _ refl h)

  good : (v : ℕ) → bad_page b v ≡ false → v < address_end b
  good v g = below_end b _ v g

  -- a test of each of several addresses
  each_same : (f g : ℕ → Bool) (vs : List ℕ) → Each (λ v. bad_page b v ≡ false) vs → ((v : ℕ) → v < address_end b → f v ≡ g v) → any f vs ≡ any g vs
  each_same f g [] x k = refl
  each_same f g (v ∷ vs) x k = ap₂ ◌||◌ (k v (good v x.0)) (each_same f g vs x.1 k)

  -- the test of a child, and what is asked of it
  child-row : (c : ℕ) → bad_page b c ≡ false → (cs ds : List Check) → (lent b m d c ≡ 1 → first cs ≡ first ds)
      → first (CHILD when no_child b m c ∷ cs) ≡ first (CHILD when no_child b n c ∷ ds)
  child-row c g cs ds h = row CHILD _ _ cs ds (no_child-same c (good c g)) (λ x. h (eqb-true _ _ (not-false _ x)))

  -- a page of the chain
  chain-row : (s₁ s₂ : List ℕ) (v₁ v₂ : ℕ) → s₁ ≡ s₂ → v₁ ≡ v₂ → (cs ds : List Check)
      → (bad_page b v₁ ≡ false → not_in_hand b m v₁ ≡ false → first cs ≡ first ds) → first (in_chain b m s₁ v₁ ++ cs) ≡ first (in_chain b n s₂ v₂ ++ ds)
  chain-row s₁ s₂ v₁ v₂ p q cs ds h =
      row CHAIN _ _ _ _ (ap₂ (λ (x : List ℕ) (v : ℕ). bad_page b v || any (eqb v) x) p q) (λ x.
      let g = (false_or (bad_page b v₁) (any (eqb v₁) s₁) x).0 in
      row HAND _ _ _ _ (not_in_hand-same v₁ (good v₁ g) ∙ ap (not_in_hand b n) q) (λ y.
      row RIGHTS _ _ _ _ (lacks-same v₁ (good v₁ g) 3 ∙ ap (lacks b 3 n) q) (λ z. h g y)))

  links : (p : ℕ) → first (chain b m p) ≡ first (chain b n p)
  links p =
      chain-row [] [] p p refl refl _ _ (λ g y.
      let e₁ = link-same p (good p g) y in
      let v₁ = link b m p in
      chain-row (p ∷ []) (p ∷ []) v₁ (link b n p) refl e₁ _ _ (λ g₁ y₁.
      let e₂ = link-same v₁ (good v₁ g₁) y₁ ∙ ap (link b n) e₁ in
      let v₂ = link b m v₁ in
      chain-row _ _ v₂ (link b n (link b n p)) (λ z. p ∷ e₁ z ∷ []) e₂ _ _ (λ g₂ y₂.
      last_row CHAIN _ _ (ap (λ (v : ℕ). not (eqb v 0)) (link-same v₂ (good v₂ g₂) y₂ ∙ ap (link b n) e₂)))))

  -- load and store, by the right that they need
  abbrev word_row : (r : ℕ) → List ℕ → ℕ → List Check
  word_row r x v =
      DAMAGED when damaged b x ∷ ADDRESS when bad_address b 4 v ∷ UNMAPPED when unmapped b x (current b x) v ∷ KERNEL when inaccessible b x v
      ∷ RIGHTS when lacks b r x v ∷ []

  word_row_lem : (r v : ℕ) → first (word_row r m v) ≡ first (word_row r n v)
  word_row_lem r v =
      sound-row _ _ (row ADDRESS _ _ _ _ refl (λ g.
      let l = below_end b 4 v g in
      row UNMAPPED _ _ _ _ (unmapped-same v l) (λ x.
      row KERNEL _ _ _ _ (inaccessible-same v l) (λ y.
      last_row RIGHTS _ _ (lacks-same v l r)))))

  -- ---- every call but format

  refusal-same : (x : Call) → choice x ≡ none → SameParent b m n x → refusal b m x ≡ refusal b n x
  unfolding refusals choice
  refusal-same (format_all f) h up = let z : ◌≡◌ {A = ℕ} 0 1 = cc in absurd (omega arith)
  refusal-same (create_partition p q t u l) h up =
      let five : List ℕ = p ∷ q ∷ t ∷ u ∷ l ∷ [] in
      pages-row five _ _ (λ g.
      row TWICE _ _ _ _ refl (λ x.
      row HAND _ _ _ _ (each_same (not_in_hand b m) (not_in_hand b n) five g not_in_hand-same) (λ y.
      row RIGHTS _ _ _ _ (each_same (lacks b write_right m) (lacks b write_right n) five g (λ v i. lacks-same v i write_right)) (λ z.
      last_row DEPTH _ _ (ap (leb most_depth) s.depth)))))
  refusal-same (delete_partition c) h up = page-row c _ _ (λ g. child-row c g [] [] (λ x. refl))
  refusal-same (add_vaddr p c v r) h up =
      pages-row (p ∷ c ∷ v ∷ []) _ _ (λ (i, (g, (o, u))).
      row RIGHTS _ _ _ _ refl (λ w.
      child-row c g _ _ (λ one.
      row HAND _ _ _ _ (not_in_hand-same p (good p i)) (λ x.
      row RIGHTS _ _ _ _ (lacks-same p (good p i) r) (λ y.
      row TABLE _ _ _ _ (no_three-same c g one v (good v o)) (λ z.
      last_row TAKEN _ _ (ap not (child-unmapped c g one v (good v o)))))))))
  refusal-same (remove_vaddr c v) h up =
      pages-row (c ∷ v ∷ []) _ _ (λ (g, (o, u)).
      child-row c g _ _ (λ one.
      row TABLE _ _ _ _ (no_three-same c g one v (good v o)) (λ x.
      row UNMAPPED _ _ _ _ (child-unmapped c g one v (good v o)) (λ y.
      last_row HAND _ _ (ap not (child-hand c g one v (good v o)))))))
  refusal-same (page_count c v) h up =
      pages-row (c ∷ v ∷ []) _ _ (λ (g, (o, u)).
      child-row c g _ _ (λ one.
      last_row LIST _ _ (list_full-same c g one v (good v o))))
  refusal-same (prepare c v p) h up =
      pages-row (c ∷ v ∷ p ∷ []) _ _ (λ (g, (o, i)).
      child-row c g _ _ (λ one.
      row TAKEN _ _ _ _ (ap not (no_three-same c g one v (good v o))) (λ x.
      row LIST _ _ _ _ (list_full-same c g one v (good v o)) (λ y. links p))))
  refusal-same (collect c v) h up =
      pages-row (c ∷ v ∷ []) _ _ (λ (g, (o, u)).
      child-row c g _ _ (λ one.
      row TABLE _ _ _ _ (no_three-same c g one v (good v o)) (λ x.
      last_row FULL-TABLE _ _ (any_mapping-same c g one v (good v o) x))))
  refusal-same (mapped_in_child p) h up =
      page-row p _ _ (λ g.
      row UNMAPPED _ _ _ _ (unmapped-same p (good p g)) (λ x.
      last_row KERNEL _ _ (serves_child-same p (good p g))))
  refusal-same (enter c) h up = page-row c _ _ (λ g. child-row c g [] [] (λ x. refl))
  refusal-same leave h up = sound-row _ _ (last_row ROOT _ _ (ap (λ (x : ℕ). eqb x 0) s.parent))
  refusal-same (load v) h up = word_row_lem read_right v
  refusal-same (store v x) h up = word_row_lem write_right v
  refusal-same (notify t p q r) h up = notify-same b m n s t p q r
  refusal-same (dispatch t) h up = dispatch-same b m n s t
  refusal-same (resume t k) h up = resume-same b m n s t k up

  -- what a call that passes answers
  result-same : (x : Call) → refusal b m x ≡ 0 → result b m x ≡ result b n x
  unfolding refusals result
  result-same (format_all f) h = refl
  result-same (create_partition p q t u l) h = refl
  result-same (delete_partition c) h = refl
  result-same (add_vaddr p c v r) h = refl
  result-same (remove_vaddr c v) h =
      let x = passed _ h in
      let (g, (o, u)) = none_of (bad_page b) (c ∷ v ∷ []) x.1.0 in
      (s.children c g (eqb-true _ _ (not-false _ x.1.1.0))).above v (good v o)
  result-same (page_count c v) h =
      let x = passed _ h in
      let (g, (o, u)) = none_of (bad_page b) (c ∷ v ∷ []) x.1.0 in
      ap {B = ℕ} (λ (y : Bool). cond y 3 0) (no_three-same c g (eqb-true _ _ (not-false _ x.1.1.0)) v (good v o))
  result-same (prepare c v p) h = refl
  result-same (collect c v) h =
      let x = passed _ h in
      let (g, (o, u)) = none_of (bad_page b) (c ∷ v ∷ []) x.1.0 in
      first-same c g (eqb-true _ _ (not-false _ x.1.1.0)) v (good v o)
  result-same (mapped_in_child p) h = s.caller.lent p (good p (passed _ h).1.0)
  result-same (enter c) h = refl
  result-same leave h = refl
  result-same (load v) h =
      let x = passed _ h in
      s.page v (below_end b 4 v x.1.0) (eqb-false _ _ x.1.1.0) (place b v / 4) (omega (arith, place-lt b v))
  result-same (store v x) h = refl
  result-same (notify t p q r) h = refl
  result-same (dispatch t) h = refl
  result-same (resume t k) h = refl

  -- what a call answers beside
  beside_same : (x : Call) → SameParent b m n x → context b m x ≡ context b n x
  unfolding context resumption resumed
  beside_same (format_all f) up = refl
  beside_same (create_partition p q t u l) up = refl
  beside_same (delete_partition c) up = refl
  beside_same (add_vaddr p c v r) up = refl
  beside_same (remove_vaddr c v) up = refl
  beside_same (page_count c v) up = refl
  beside_same (prepare c v p) up = refl
  beside_same (collect c v) up = refl
  beside_same (mapped_in_child p) up = refl
  beside_same (enter c) up = refl
  beside_same leave up = refl
  beside_same (load v) up = refl
  beside_same (store v x) up = refl
  beside_same (notify t p q r) up = refl
  beside_same (dispatch t) up = refl
  beside_same (resume t k) up = context-same b m n s t k up

pub refused-same : (b : ℕ) (m n : List ℕ) → SameRead b m n → (c : Call) → choice c ≡ none → SameParent b m n c → refusal b m c ≡ refusal b n c
refused-same b m n s = refusal-same b m n s

pub reads : Reads
unfolding answer reply
reads b m n s c h up = (go (refusal b m c) refl, beside_same b m n s c up)
  where
    same : refusal b m c ≡ refusal b n c
    same = refusal-same b m n s c h up

    go : (r : ℕ) → refusal b m c ≡ r → reply (refusal b m c) (result b m c) ≡ reply (refusal b n c) (result b n c)
    go zero z = ap₂ reply same (result-same b m n s c z)
    go (suc r) z = ap (λ (y : ℕ). reply y (result b m c)) z ∙ sym (ap (λ (y : ℕ). reply y (result b n c)) (sym same ∙ z))
