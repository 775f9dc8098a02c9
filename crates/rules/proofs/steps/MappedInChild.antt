-- What mapped_in_child tells of a page on sound memory: the answer for each way of having it, and one way for every page. Assumes an index width of 6 or more.
use mathlib.Core.Path.{◌≡◌, refl, sym, ap, ◌∙◌, subst}
use mathlib.Core.Logic.{◌≢◌, inl}
use mathlib.Core.List.{List}
use mathlib.Core.Bool.{false, cond, not}
use Prim.Native.Nat.{ℕ, zero, suc, ◌≤◌, ◌%◌}
use native.Mathlib.Omega.{arith}
use native.Mathlib.Decide.{ℕ_discrete}
use lib.Dec.{ltb, eqb}
use borrow.Author.Tests.{eq-eqb, ne_eqb, leb-false, not-true}
use Rattle.walk.specs.Reflect.{Tells, eq?, le?, both, isn't}
use Rattle.memory.specs.Edition.{edition, width}
use Rattle.memory.specs.Geometry.{page_bytes, address_end}
use Rattle.memory.specs.Entry.{accessible}
use Rattle.memory.specs.Partition as P
use Rattle.memory.specs.Partition.{current, mapping}
use Rattle.memory.specs.Tree.{Virtual, Has, Child, InTree}
use Rattle.memory.specs.Sound.{Sound}
use Rattle.memory.proofs.Editions.{wide_of, edition-known}
use Rattle.memory.proofs.Widths.{words-least}
use Rattle.soundness.proofs.Whole.{mapped-has, child-far, sound?}
use Rattle.rules.specs.Refusal.{number, UNMAPPED, KERNEL}
use Rattle.rules.specs.Row as R
use Rattle.rules.specs.Row.{Answer, ok}
use Rattle.rules.specs.Call.{mapped_in_child}
use Rattle.rules.specs.Conditions.{damaged, bad_page, serves_child}
use Rattle.rules.specs.Refusals.{refusals}
use Rattle.rules.specs.Calls.{result, answer}
use Rattle.rules.specs.PageTold.{Holding, absent, in_hand, lent, serving, Is, Says, PageTold, EveryPage}
use Rattle.rules.proofs.Rows.{on, at, none, answer-no, answer_ok}
use Rattle.rules.proofs.model.Words.{addr, page_of}
use Rattle.rules.proofs.model.Names.{good-page}
use Rattle.rules.proofs.steps.Checks.{false_or}

page-virtual : (b p : ℕ) → bad_page b p ≡ false → Virtual b p
unfolding addr page_of
page-virtual b p e =
    let x = false_or _ (not (eqb (p % page_bytes b) 0)) e in
    ((good-page b p e).is, leb-false (address_end b) p (false_or _ (ltb p (page_bytes b)) x.0).0)

-- the way of having a page that an answer stands for
kind : Answer → Holding
kind (ok zero) = in_hand
kind (ok (suc v)) = lent
kind (R.no n) = cond (eqb n (number UNMAPPED)) absent serving

kind-child : (v : ℕ) → v ≢ 0 → kind (ok v) ≡ lent
unfolding kind
kind-child zero h = absurd (h refl)
kind-child (suc v) h = refl

module _ (b : ℕ) (wide : 6 ≤ b) (m : List ℕ) (s : Sound b m) (p : ℕ) (good : bad_page b p ≡ false) where
  abbrev caller : ℕ
  caller = current b m

  abbrev word : ℕ
  word = mapping b m caller p

  abbrev shadow : ℕ
  shadow = P.lent b m caller p

  in_tree : InTree b m s.current_in.0 caller
  in_tree = s.current_in.1

  has : word ≢ 0 → Has b m caller p
  has = mapped-has b m caller p (page-virtual b p good)

  hand? : Tells (P.in_hand b m caller p) (((word ≢ 0) × (accessible word ≡ 1)) × (shadow ≡ 0))
  hand? = both (both (isn't eq?) eq?) eq?

  serves? : Tells (serves_child b m p) ((accessible word ≡ 0) × (shadow ≤ 1))
  serves? = both eq? le?

  -- ---- the row, behind the judgement and the address

  fine : damaged b m ≡ false
  fine = ap not ((sound? b m (omega (arith, words-least b wide))).1 s)

  unmapped-no : word ≡ 0 → answer b m (mapped_in_child p) ≡ R.no (number UNMAPPED)
  unfolding refusals
  unmapped-no e = answer-no b m (mapped_in_child p) 14 (on fine (on good (at (eq-eqb word 0 e))))

  kernel-no : word ≢ 0 → (accessible word ≡ 0) × (shadow ≤ 1) → answer b m (mapped_in_child p) ≡ R.no (number KERNEL)
  unfolding refusals
  kernel-no n h = answer-no b m (mapped_in_child p) 15 (on fine (on good (on (ne_eqb word 0 n) (at (serves?.1 h)))))

  -- where neither is refused the shadow 1 word is the answer
  passes : word ≢ 0 → ¬ ((accessible word ≡ 0) × (shadow ≤ 1)) → answer b m (mapped_in_child p) ≡ ok shadow
  unfolding refusals result
  passes n h = answer_ok b m (mapped_in_child p) (on fine (on good (on (ne_eqb word 0 n) (on (not-true _ ((isn't serves?).1 h)) none))))

  -- ---- the answer for each way

  says : (o : Holding) → Is b m p o → Says b m p o
  says absent e = unmapped-no e
  says in_hand h = let ((n, a), z) = hand?.0 h in passes n (λ q. omega (arith, a, q.0)) ∙ ap ok z
  says lent (n, l) =
      let (c, h, (u, (t, (f, w)), only)) = (s.lending _ caller in_tree).back p (has n) (n, l) in
      record { at = shadow; child = c; stands = h; target = u; has = t; mapped = f; from = w; answered = passes n (λ q. omega (arith, q.1)) }
  says serving k =
      let (n, a, l) = (s.kernel _ caller in_tree).shut k.at k.child k.stands p k.kernel in
      kernel-no n (a, l)

  -- ---- every page is had in one of the ways

  found : (o : Holding) × Is b m p o
  found = go (ℕ_discrete word 0) (ℕ_discrete shadow 0) (ℕ_discrete shadow 1) (ℕ_discrete (accessible word) 0)
    where
      go : Dec (word ≡ 0) → Dec (shadow ≡ 0) → Dec (shadow ≡ 1) → Dec (accessible word ≡ 0) → (o : Holding) × Is b m p o
      go (yes e) z i a = (absent, e)
      go (no n) z (yes i) a =
          let h : Child b m caller p _ = record { has = has n; present = n; mark = i; page = refl } in
          (serving, record { at = p; child = _; stands = h; kernel = inl (0, omega arith, ((s.children _ caller in_tree).right p _ h).stands) })
      go (no n) (no z) (no i) a = (lent, (n, omega arith))
      go (no n) (yes z) (no i) (yes a) =
          let (v, c, h, k) = (s.kernel _ caller in_tree).others p (has n) n (omega arith) a in
          (serving, record { at = v; child = c; stands = h; kernel = k })
      go (no n) (yes z) (no i) (no a) = (in_hand, hand?.1 ((n, omega arith), z))

  -- ---- an answer stands for one way

  kind-is : (o : Holding) → Says b m p o → kind (answer b m (mapped_in_child p)) ≡ o
  unfolding kind
  kind-is absent e = ap kind e
  kind-is in_hand e = ap kind e
  kind-is lent e =
      let far = child-far b m (s.forms _ caller in_tree).none e.stands in
      ap kind e.answered ∙ kind-child e.at (omega arith)
  kind-is serving e = ap kind e

  same : (o n : Holding) → Says b m p o → Says b m p n → n ≡ o
  same o n e f = sym (kind-is n f) ∙ kind-is o e

  pub page-told : PageTold b m p
  page-told =
      let (o, i) = found in
      record {
        exact = λ n. ((λ e. subst (Is b m p) (same n o e (says o i)) i), says n);
        one = (o, i, λ n j. same o n (says o i) (says n j));
      }

pub every-page : EveryPage
every-page m s p good = page-told (width m) (wide_of (edition m) (edition-known m)) m s p good
