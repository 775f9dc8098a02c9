-- Every sound memory has the invariant: it stands for a well-formed state. Assumes an index width of 6 or more.
use mathlib.Core.Path.{◌≡◌, refl, sym, ap, ap₂, ◌∙◌, subst}
use mathlib.Core.List.{List}
use mathlib.Core.Bool.{false}
use mathlib.Core.Option.{Option, none, some}
use Prim.Native.Nat.{ℕ, zero, suc, ◌+◌, ◌-◌, ◌*◌, ◌/◌, ◌%◌, ◌≤◌, ◌<◌}
use native.Mathlib.Omega.{arith}
use native.Mathlib.Decide.{dec_lt}
use lib.ListN.{length, get_or}
use Rattle.memory.specs.Geometry.{page_words, address, page_of, directory_index, table_index, threes_for, most_flag}
use Rattle.memory.specs.Words.{word}
use Rattle.memory.specs.Entry.{entry, rights}
use Rattle.memory.specs.Partition.{pages, directory, list, threes, table_at, table_word, mapping, flag}
use Rattle.memory.specs.Tree.{Has, Child, InTree, root, child}
use Rattle.memory.specs.Uses.{five, listed, five_pages, is_five, is_listed}
use Rattle.memory.specs.Sound.{RootFlag, Stands, Forms, Sound}
use Rattle.memory.proofs.Geometry.{page-address}
use Rattle.memory.proofs.Tables.{table_word-present}
use Rattle.rules.proofs.model.Base.{eqd}
use Rattle.rules.proofs.model.Words.{W, addr, idx, off, join, pte, link, Sized, idx-join, off-join, page_of-link}
use Rattle.rules.proofs.model.Words as Model
use Rattle.rules.proofs.model.Abs.{Kind, pt, s1, s2, Role, header, hand, blank, desc, lst, tab, Three, Abs, head_v, head_p, is_hand, three_at, WF}
use Rattle.rules.proofs.model.Abs.{cell, seen_word, link_word, desc_list, list_list, head_list, role_word}
use Rattle.rules.proofs.model.Abs as Abs
use Rattle.rules.proofs.model.Facts.{not-hand}
use Rattle.rules.proofs.model.Flags.{flag_word}
use Rattle.rules.proofs.model.Read.{cell-none, cell-some}
use Rattle.rules.proofs.model.Format.{kind_no, flat0}
use Rattle.rules.proofs.model.Inv.{fixed, Inv}
use Rattle.rules.proofs.model.Listing.{page_at, list-free, list-virtual, list-physical, list-rest}
use Rattle.rules.proofs.model.RootWords.{five-words}
use Rattle.rules.proofs.state.State.{listed_address, listed_page, three, root_page, flag_as, state}
use Rattle.rules.proofs.state.Used.{live, live-tree, role-head, chain_head, past, root-used, root-of, list-used, list_of, table_of}
use Rattle.rules.proofs.state.Used.{five-used, listed-used}
use Rattle.rules.proofs.state.Hops.{hops-part, hops-virtual}
use Rattle.rules.proofs.state.Threes.{length-threes, page-threes, three-page, three-stands, three-found, three-at, three-none, tabs}
use Rattle.rules.proofs.state.Found.{serving-hops, five-page, At, found}
use Rattle.rules.proofs.state.Formed.{virtual_of, maps-at, maps-back, seen_at, seen-at, seen, chain-top, chain-child, chain_length, root_only, good}
use Rattle.rules.proofs.state.Formed.{head_only, full, kernel, held}
use Rattle.rules.proofs.state.Rooted.{rooted, top_maps}

module _ {b : ℕ} (wide : 6 ≤ b) (m : List ℕ) (s : Sound b m) where
  abbrev N : ℕ
  N = pages b m

  abbrev T : ℕ
  T = threes_for b N

  abbrev A : Abs
  A = state b m s

  -- ---- the state is well formed: the parts that Used, Threes, Formed and Rooted prove

  table-inv : (x : Kind) (d i q : ℕ) → A.role q ≡ tab x d i → (A.role d ≡ desc) × (t : Three) × (three_at i (A.threes d) ≡ some t) × (t.page x ≡ q)
  table-inv x d i q e =
      let y = table_of wide m s x d i q e in
      let found = three-found wide m s y.tree (y.no / 3) (omega (arith, y.few)) in (
        live wide m s y.tree,
        three b m d (y.no / 3),
        ap (λ (z : ℕ). three_at z (A.threes d)) (sym y.at) ∙ found,
        three-page b m d y.no x y.kind ∙ y.page,
      )

  formed : WF b N (flat0 N T) A
  formed = record {
    beyond = past wide m s;
    head_role = role-head wide m s;
    head_only = head_only wide m s;
    head_chain = chain_head wide m s;
    root_live = live wide m s root;
    root_top = chain-top wide m s;
    root_only = root_only wide m s;
    good = good wide m s;
    seen = seen wide m s;
    root_role = λ k d l. root-used wide m s (live-tree wide m s d l).1 k;
    root_inv = root-of wide m s;
    lst_role = λ d l. list-used wide m s (live-tree wide m s d l).1;
    lst_inv = list_of wide m s;
    tabs = λ d l. tabs wide m s (live-tree wide m s d l).1;
    tab_inv = table-inv;
    kernel = kernel wide m s;
    held = held wide m s;
    top_maps = top_maps wide m s;
    depth = λ d l. let (k, t) = live-tree wide m s d l in omega (arith, chain_length wide m s t, s.depth k d t);
    ten = λ d l. let (k, t) = live-tree wide m s d l in omega (arith, length-threes b m d, (s.forms k d t).list.few);
    cur_live = live wide m s s.current_in.1;
  }

  -- what the state says of word j of page q, if the page has role r
  abbrev said : Role → ℕ → ℕ → ℕ
  said r q j = role_word b (fixed b N) A (cell b A) r q j

  -- ---- the words of the header

  header-words : (j : ℕ) → j < page_words b → word b m 0 j ≡ get_or (head_list b (fixed b N) A) j 0
  unfolding head_list addr
  header-words zero l = refl
  header-words (suc zero) l = s.header.threes
  header-words (suc (suc zero)) l = s.header.descriptor
  header-words (suc (suc (suc zero))) l = s.header.first
  header-words (suc (suc (suc (suc zero)))) l = sym s.header.current.0
  header-words (suc (suc (suc (suc (suc zero))))) l = s.header.edition
  header-words (suc (suc (suc (suc (suc (suc j)))))) l = s.header.rest (suc (suc (suc (suc (suc (suc j)))))) l (omega arith)

  -- ---- the words of directories and shadows: the links of tables

  root-words : {k d : ℕ} → InTree b m k d → (x : Kind) (i : ℕ) → i < page_words b → word b m (root_page b m x d) i ≡ link_word b x (three_at i (A.threes d))
  unfolding link_word link three kind_no
  root-words {k} {d} t x i l = go (eqd (word b m (directory b m d) i) 0)
    where
      place : (j n r : ℕ) → j < threes b m d → n < 3 → r ≡ 2 + 2 * (3 * j + n) → word b m (list b m d) r ≡ address b (listed_page b m d (3 * j + n))
      place j n r h o e = ap (word b m (list b m d)) e ∙ sym ((s.forms k d t).list.pairs (3 * j + n) (omega arith)).1.0

      linked : (j : ℕ) → j < threes b m d → Stands b m d j i → (x : Kind) → word b m (root_page b m x d) i ≡ address b ((three b m d j).page x) + 1
      linked j h e pt = e.0 ∙ ap (λ (y : ℕ). y + 1) (place j 0 (2 + 6 * j) h (omega arith) (omega arith))
      linked j h e s1 = e.1 ∙ ap (λ (y : ℕ). y + 1) (place j 1 (4 + 6 * j) h (omega arith) (omega arith))
      linked j h e s2 = e.2 ∙ ap (λ (y : ℕ). y + 1) (place j 2 (6 + 6 * j) h (omega arith) (omega arith))

      none-there : (x : Kind) → word b m (directory b m d) i ≡ 0 → word b m (root_page b m x d) i ≡ 0
      none-there pt z = z
      none-there s1 z = (((s.forms k d t).directory i l).absent z).0
      none-there s2 z = (((s.forms k d t).directory i l).absent z).1

      go : Dec (word b m (directory b m d) i ≡ 0) → word b m (root_page b m x d) i ≡ link_word b x (three_at i (A.threes d))
      go (yes z) = none-there x z ∙ ap (link_word b x) (sym (three-none wide m s t i l z))
      go (no z) = let (j, h, e, f) = three-at wide m s t i l z in linked j h e x ∙ ap (link_word b x) (sym f)

  -- ---- the live flags (document 02, L8)

  flag-live : (d : ℕ) → A.role d ≡ desc → A.vcli d ≡ flag b m d
  unfolding flag_as
  flag-live d e = ap (λ (r : Role). flag_as b m s r d) e

  flags-small : (d : ℕ) → A.vcli d ≤ most_flag b
  unfolding flag_as
  flags-small d = go (A.role d) refl
    where
      go : (r : Role) → A.role d ≡ r → flag_as b m s r d ≤ most_flag b
      go header e = omega arith
      go hand e = omega arith
      go blank e = omega arith
      go desc e = let (k, t) = live-tree wide m s d e in (s.forms k d t).descriptor.flag
      go (Abs.root x c) e = omega arith
      go (lst c) e = omega arith
      go (tab x c i) e = omega arith

  -- ---- the words of descriptors and lists: the root's are known from format, a child's agree with its parent's tables

  -- the root's own pages are as format leaves them, but for its live flag
  top-words : (p : ℕ) → p < 5 → (j : ℕ) → j < page_words b → ¬ RootFlag p j → word b m (1 + p) j ≡ said (A.role (1 + p)) (1 + p) j
  top-words p l j h n =
      s.root_as_formatted.five p l j h n
      ∙ sym (five-words wide N (flat0 N T) A formed (rooted wide m s) (fixed b N) (cell b A) p l j (λ x. absurd (n x)))

  module _ {k d w c : ℕ} (t : InTree b m k d) (a : Child b m d w c) where
    forms : Forms b m c
    forms = s.forms (suc k) c (child t a)

    -- pair n of the descriptor of the child c of d
    pair-virtual : (n q : ℕ) → n < 5 → get_or (five_pages b m c) n 0 ≡ q → word b m c (2 * n) ≡ addr b (head_v (A.chain q))
    pair-virtual n q l e =
        let x = ap A.chain (sym e) ∙ (five-used wide m s (child t a) n l).1 ∙ serving-hops wide m s t a (five n) is_five in
        sym (hops-virtual b m d (word b m c (2 * n)) (A.chain q) x (forms.descriptor.pairs n l).0)

    pair-physical : (n q : ℕ) → n < 5 → get_or (five_pages b m c) n 0 ≡ q → word b m c (2 * n + 1) ≡ addr b q
    unfolding addr
    pair-physical n q l e = sym (forms.descriptor.pairs n l).1.0 ∙ ap (address b) (five-page wide m s t a n l ∙ e)

    parent-word : word b m c 11 ≡ addr b (head_p (A.chain c))
    unfolding addr
    parent-word =
        let e : head_p (A.chain c) ≡ d = ap head_p (chain-child wide m s t a) ∙ hops-part b m d (word b m c 0) in
        ((s.children k d t).right w c a).parent ∙ ap (address b) (sym e)

    descriptor-child : (j : ℕ) → j < page_words b → word b m c j ≡ get_or (desc_list b A c) j 0
    unfolding desc_list
    descriptor-child zero l = pair-virtual 0 c (omega arith) refl
    descriptor-child (suc zero) l = pair-physical 0 c (omega arith) refl
    descriptor-child (suc (suc zero)) l = pair-virtual 1 (A.rootp pt c) (omega arith) refl
    descriptor-child (suc (suc (suc zero))) l = pair-physical 1 (A.rootp pt c) (omega arith) refl
    descriptor-child (suc (suc (suc (suc zero)))) l = pair-virtual 2 (A.rootp s1 c) (omega arith) refl
    descriptor-child (suc (suc (suc (suc (suc zero))))) l = pair-physical 2 (A.rootp s1 c) (omega arith) refl
    descriptor-child (suc (suc (suc (suc (suc (suc zero)))))) l = pair-virtual 3 (A.rootp s2 c) (omega arith) refl
    descriptor-child (suc (suc (suc (suc (suc (suc (suc zero))))))) l = pair-physical 3 (A.rootp s2 c) (omega arith) refl
    descriptor-child (suc (suc (suc (suc (suc (suc (suc (suc zero)))))))) l = pair-virtual 4 (A.lstp c) (omega arith) refl
    descriptor-child (suc (suc (suc (suc (suc (suc (suc (suc (suc zero))))))))) l = pair-physical 4 (A.lstp c) (omega arith) refl
    descriptor-child (suc (suc (suc (suc (suc (suc (suc (suc (suc (suc zero)))))))))) l = forms.descriptor.zero
    descriptor-child (suc (suc (suc (suc (suc (suc (suc (suc (suc (suc (suc zero))))))))))) l = parent-word
    descriptor-child (suc (suc (suc (suc (suc (suc (suc (suc (suc (suc (suc (suc zero)))))))))))) l = sym (flag-live c (live wide m s (child t a)))
    descriptor-child (suc (suc (suc (suc (suc (suc (suc (suc (suc (suc (suc (suc (suc j))))))))))))) l = forms.descriptor.rest _ l (omega arith)

    abbrev ts : List Three
    ts = A.threes c

    size : length ts ≡ threes b m c
    size = length-threes b m c

    -- the words of its list: the first free index, the pairs, and 0 behind them
    abbrev ListSays : ℕ → Type 0
    ListSays j = word b m (list b m c) j ≡ get_or (list_list b A.chain ts) j 0

    listed-virtual : (i : ℕ) → i < 3 * threes b m c → ListSays (1 + 2 * i)
    listed-virtual i h =
        let e : A.chain (page_at ts i) ≡ A.chain (listed_page b m c i) = ap A.chain (page-threes b m c i h) in
        let x = e ∙ (listed-used wide m s (child t a) i h).1 ∙ serving-hops wide m s t a (listed i) is_listed in
        sym (hops-virtual b m d (listed_address b m c i) (A.chain (page_at ts i)) x (forms.list.pairs i h).0)
        ∙ sym (list-virtual b A.chain ts i (omega (arith, size)))

    listed-physical : (i : ℕ) → i < 3 * threes b m c → ListSays (2 + 2 * i)
    unfolding addr
    listed-physical i h =
        sym (forms.list.pairs i h).1.0
        ∙ ap (address b) (sym (page-threes b m c i h))
        ∙ sym (list-physical b A.chain ts i (omega (arith, size)))

    list-child : (j : ℕ) → j < page_words b → ListSays j
    list-child j l = go (eqd j 0) (dec_lt (6 * threes b m c) j) (eqd (j % 2) 0)
      where
        go : Dec (j ≡ 0) → Dec (6 * threes b m c < j) → Dec (j % 2 ≡ 0) → ListSays j
        go (yes e) p q = subst ListSays (sym e) (forms.list.free ∙ ap (λ (x : ℕ). 1 + 6 * x) (sym size) ∙ sym (list-free b A.chain ts))
        go (no e) (yes p) q =
            let f = forms.list.free in
            forms.list.rest j l (omega arith) ∙ sym (list-rest b A.chain ts j (omega (arith, size)))
        go (no e) (no p) (yes q) =
            let z : 2 + 2 * (j / 2 - 1) ≡ j = omega arith in
            subst ListSays z (listed-physical (j / 2 - 1) (omega arith))
        go (no e) (no p) (no q) =
            let z : 1 + 2 * (j / 2) ≡ j = omega arith in
            subst ListSays z (listed-virtual (j / 2) (omega arith))

  -- ---- the words of tables: by the mapping, present or absent

  -- the word of table x of d for virtual page v, and that it is the state's
  abbrev entry_at : Kind → ℕ → ℕ → ℕ
  entry_at x d v = table_word b m (root_page b m x d) v

  abbrev EntrySays : Kind → ℕ → ℕ → Type 0
  EntrySays x d v = entry_at x d v ≡ cell b A x d v

  -- where a page is mapped at the address v
  there : {k d : ℕ} (t : InTree b m k d) (v p : ℕ) (y : At b m d v p) (x : Kind) → EntrySays x d (page_of b v)
  unfolding seen_word pte addr
  there {k} {d} t v p y x =
      go x ∙ sym (cell-some wide A x d (page_of b v) p (seen_at wide m s t v p y) (maps-at wide m s t v p y) (seen-at wide m s t v p y))
    where
      go : (x : Kind) → entry_at x d (page_of b v) ≡ seen_word b A x p (some (seen_at wide m s t v p y))
      go pt =
          sym (((s.forms k d t).tables v y.has).table_word y.present).0
          ∙ ap₂ (λ (q z : ℕ). entry b q z (rights (mapping b m d v))) y.page (found wide m s t v p y).acc
      go s1 = (found wide m s t v p y).lent
      go s2 = sym ((s.forms k d t).tables v y.has).shadow2_word.0

  -- where none is
  absent : {k d : ℕ} (t : InTree b m k d) (v : ℕ) → Has b m d v → mapping b m d v ≡ 0 → (x : Kind) → EntrySays x d (page_of b v)
  absent {k} {d} t v h z x = words x ∙ sym (cell-none wide A x d (page_of b v) (go (A.maps d (page_of b v)) refl))
    where
      words : (x : Kind) → entry_at x d (page_of b v) ≡ 0
      words pt = z
      words s1 = (s.absent k d t v h z).0
      words s2 = (s.absent k d t v h z).1

      go : (o : Option ℕ) → A.maps d (page_of b v) ≡ o → A.maps d (page_of b v) ≡ none
      go none e = e
      go (some p) e = absurd ((maps-back wide m s d (page_of b v) p e).2.present (ap (mapping b m d) h.virtual.0 ∙ z))

  table-word : {k d : ℕ} → InTree b m k d → (v : ℕ) → Has b m d v → (x : Kind) → EntrySays x d (page_of b v)
  table-word {k} {d} t v h x = go (eqd (mapping b m d v) 0)
    where
      go : Dec (mapping b m d v ≡ 0) → EntrySays x d (page_of b v)
      go (yes z) = absent t v h z x
      go (no z) = there t v (page_of b (mapping b m d v)) (record { has = h; present = z; page = refl }) x

  -- word j of the table x of d that stands at index i
  table-words : (x : Kind) (d i q j : ℕ) → A.role q ≡ tab x d i → j < page_words b → word b m q j ≡ cell b A x d (join b i j)
  unfolding join W link_word link idx off Model.page_of
  table-words x d i q j e l =
      let y = table_of wide m s x d i q e in
      let (_, th, at, page) = table-inv x d i q e in
      let st = three-stands wide m s y.tree (y.no / 3) (omega (arith, y.few)) in
      let fits : i < page_words b = subst (λ (z : ℕ). z < page_words b) y.at st.0 in
      let linked : (z : Kind) → word b m (root_page b m z d) i ≡ link b (th.page z) = λ z. root-words y.tree z i fits ∙ ap (link_word b z) at in
      let v : ℕ = join b i j in
      let vi : directory_index b v ≡ i = idx-join wide i j l in
      let vj : table_index b v ≡ j = off-join wide i j l in
      let va : i ≡ directory_index b (page_of b (address b v)) = sym vi ∙ ap (directory_index b) (sym (page-address b v)) in
      let h : Has b m d (address b v) = record {
        virtual = virtual_of wide v (subst (λ (z : ℕ). z < page_words b) (sym vi) fits);
        table = λ z. omega (arith, linked pt, ap (word b m (directory b m d)) va ∙ z);
      } in
      let tw : table_at b m (root_page b m x d) v ≡ link b q = ap (word b m (root_page b m x d)) vi ∙ linked x ∙ ap (link b) page in
      let present = table_word-present b m (root_page b m x d) v (λ z. omega (arith, sym tw ∙ z)) in
      let here : entry_at x d v ≡ word b m q j = present ∙ ap₂ (word b m) (ap (page_of b) tw ∙ page_of-link wide q) vj in
      sym here ∙ subst (EntrySays x d) (page-address b v) (table-word y.tree (address b v) h x)

  -- ---- the theorem: each page that is not in hand has the words of its role

  says : (q j : ℕ) → q < N → j < W b → is_hand (A.role q) ≡ false → Model.word b m q j ≡ said (A.role q) q j
  unfolding W Model.word role_word
  says q j l h n = go (A.role q) refl
    where
      of_part : {k d : ℕ} → InTree b m k d → word b m d j ≡ get_or (desc_list b A d) j 0
      of_part root = of-root (eqd j 12)
        where
          of-root : Dec (j ≡ 12) → word b m 1 j ≡ get_or (desc_list b A 1) j 0
          of-root (yes e) = rw e (sym (flag_word b A 1 ∙ flag-live 1 (live wide m s root)))
          of-root (no o) = top-words 0 (omega arith) j h (λ x. o x.1) ∙ ap (λ (r : Role). said r 1 j) (live wide m s root)
      of_part (child t a) = descriptor-child t a j h

      of_list : {k d : ℕ} → InTree b m k d → word b m (list b m d) j ≡ get_or (list_list b A.chain (A.threes d)) j 0
      of_list root =
          let e : list b m 1 ≡ 5 = (rooted wide m s).list in
          let r : A.role 5 ≡ lst 1 = ap A.role (sym e) ∙ list-used wide m s root in
          ap (λ (x : ℕ). word b m x j) e ∙ top-words 4 (omega arith) j h (λ x. omega (arith, x.0)) ∙ ap (λ (x : Role). said x 5 j) r
      of_list (child t a) = list-child t a j h

      go : (r : Role) → A.role q ≡ r → word b m q j ≡ said (A.role q) q j
      go header e = rw e (ap (λ (x : ℕ). word b m x j) (head_only wide m s q e) ∙ header-words j h)
      go hand e = not-hand e n
      go blank e = absurd (full wide m s q e)
      go desc e = rw e (of_part (live-tree wide m s q e).1)
      go (Abs.root x d) e =
          let (f, z) = root-of wide m s x d q e in
          rw e (ap (λ (y : ℕ). word b m y j) (sym z) ∙ root-words (live-tree wide m s d f).1 x j h)
      go (lst d) e =
          let (f, z) = list_of wide m s d q e in
          rw e (ap (λ (y : ℕ). word b m y j) (sym z) ∙ of_list (live-tree wide m s d f).1)
      go (tab x d i) e = rw e (table-words x d i q j e h)

  pub sound-inv : Inv b m
  unfolding Sized
  sound-inv = record {
    N = N;
    least = s.header.least;
    most = s.header.most;
    state = A;
    wf = formed;
    full = full wide m s;
    root = rooted wide m s;
    flags = flags-small;
    words = record { sized = s.header.size; says = says };
  }
