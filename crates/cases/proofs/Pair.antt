-- The pair meets the premises: both memories are sound by theorem, and all else is computed. Assumes nothing.
use mathlib.Core.Path.{◌≡◌, refl, sym, ap, ap₂, ◌∙◌, subst}
use mathlib.Core.List.{List, [], ◌∷◌}
use mathlib.Core.Option.{some}
use mathlib.Core.Bool.{Bool, true, not, ◌&&◌, ◌||◌, false≢true}
use mathlib.Core.Logic.{◌≢◌, ◌⊎◌, inl, inr}
use Prim.Native.Nat.{ℕ, ◌+◌, ◌*◌, ◌≤◌, ◌<◌}
use native.Mathlib.Omega.{arith}
use lib.Dec.{eqb, ltb}
use lib.ListN.{get_or, drop}
use lib.Seq.{get_or-take, get_or-drop}
use Rattle.walk.specs.Reflect.{Tells, via, eq?, lt?, both, isn't, unless}
use Rattle.walk.specs.Finite.{from, below, all, image, all?}
use Rattle.walk.specs.Lists.{flat}
use Rattle.common.specs.Expected.{same, same_words}
use Rattle.memory.specs.Edition.{width}
use Rattle.memory.specs.Geometry.{width_of, page_words, address_end, address, page_of}
use Rattle.memory.specs.Words.{start, word, page}
use Rattle.memory.specs.Entry.{rights}
use Rattle.memory.specs.Format.{format}
use Rattle.memory.specs.Partition.{pages, current, list, threes, table_for, mapping, lent}
use Rattle.memory.specs.Tree.{Has, Child, InTree, root, child}
use Rattle.memory.specs.Uses.{Way, five_pages, KernelWay, is_five, is_listed, UsedBy}
use Rattle.memory.specs.Sound.{Sound}
use Rattle.memory.specs.Counts.{row, tabled}
use Rattle.soundness.proofs.Places.{tabled-is}
use Rattle.rules.specs.Call.{Call, choice}
use Rattle.rules.specs.Editions.{run, next_edition, last_edition}
use Rattle.rules.proofs.steps.Formatted.{inv-format}
use Rattle.rules.proofs.steps.Editions.{Held, edition-is, held-sound, held-run}
use Rattle.claim.specs.Kept.{Maps}
use Rattle.neighbours.specs.Neighbours.{Shown, EqualOn}
use Rattle.neighbours.proofs.Twin.{shown-split}
use Rattle.cases.specs.Cases.{reached}
use Rattle.cases.specs.Pair.{calls, first_calls, second_calls, first, second, then_b, ok_but, Pair}
use Rattle.cases.proofs.Reached.{reached_later, reached-is, answers_to_later, answers_to-is}
use Rattle.cases.proofs.Computing.{computing}

-- ---- the tests, and what they tell

so? : {t : Bool} → Tells t (t ≡ true)
so? = ((λ q. q), λ q. q)

same-words : (xs ys : List ℕ) → same_words xs ys ≡ true → xs ≡ ys
unfolding same_words
same-words [] [] q = refl
same-words [] (y ∷ ys) q = absurd (false≢true q)
same-words (x ∷ xs) [] q = absurd (false≢true q)
same-words (x ∷ xs) (y ∷ ys) q =
    let (e, r) = (both eq? so?).0 q in
    ap₂ (λ (z : ℕ) (zs : List ℕ). z ∷ zs) e (same-words xs ys r)

module _ (b : ℕ) (m : List ℕ) where
  -- c is the child of d that stands at v
  unfoldable child_test : ℕ → ℕ → ℕ → Bool
  child_test d v c =
      eqb (address b (page_of b v)) v && ltb v (address_end b) && not (eqb (table_for b m d v) 0) && not (eqb (mapping b m d v) 0) && eqb (lent b m d v) 1
      && eqb (page_of b (mapping b m d v)) c

  child? : {d v c : ℕ} → Tells (child_test d v c) (Child b m d v c)
  unfolding child_test
  child? =
      via (both (both (both (both (both eq? lt?) (isn't eq?)) (isn't eq?)) eq?) eq?)
      (λ (((((a, l), t), p), k), q). record { has = record { virtual = (a, l); table = t }; present = p; mark = k; page = q })
      (λ h. (((((h.has.virtual.0, h.has.virtual.1), h.has.table), h.present), h.mark), h.page))

module _ (b : ℕ) (m n : List ℕ) where
  -- page p has the same words in both
  unfoldable same_page : ℕ → Bool
  same_page p = same_words (page b m p) (page b n p)

  same-page : (p i : ℕ) → i < page_words b → same_page p ≡ true → word b m p i ≡ word b n p i
  unfolding same_page
  same-page p i l q =
      let at : (o : List ℕ) → get_or (page b o p) i 0 ≡ word b o p i = λ o. get_or-take (page_words b) (drop (start b p) o) i 0 l ∙ get_or-drop (start b p) o i 0 in
      sym (at m) ∙ ap (λ (ws : List ℕ). get_or ws i 0) (same-words (page b m p) (page b n p) q) ∙ at n

  -- so has each kernel page of d, and each page mapped in d
  unfoldable same_seen : ℕ → Bool
  same_seen d =
      all (λ j. same_page (get_or (five_pages b m d) j 0)) (from 5 0)
      && all (λ j. same_page (page_of b (word b m (list b m d) (2 + 2 * j)))) (from (3 * threes b m d) 0)
      && all (λ v. eqb (mapping b m d v) 0 || same_page (page_of b (mapping b m d v))) (tabled b m d)

  abbrev Same : ℕ → Type 0
  Same p = same_page p ≡ true

  seen? : (d : ℕ) → Tells (same_seen d) ((((j : ℕ) → j < 5 → Same (get_or (five_pages b m d) j 0))
      × ((j : ℕ) → j < 3 * threes b m d → Same (page_of b (word b m (list b m d) (2 + 2 * j)))))
      × ((v : ℕ) → Has b m d v → mapping b m d v ≢ 0 → Same (page_of b (mapping b m d v))))
  unfolding same_seen
  seen? d =
      both (both (all? (from 5 0) (below 5) (λ j. so?)) (all? (from (3 * threes b m d) 0) (below (3 * threes b m d)) (λ j. so?)))
      (all? (tabled b m d) (tabled-is b m d) (λ v. unless eq? so?))

  -- these are the pages that d is shown
  same_seen_lem : 6 ≤ b → Sound b m → {k d : ℕ} → InTree b m k d → same_seen d ≡ true → EqualOn b (Shown b m d) m n
  same_seen_lem wide s {k} {d} t q p x i l = same-page p i l (go (shown-split wide d m s t x))
    where
      go : ((w : Way) × KernelWay w × UsedBy b m d w p) ⊎ Maps b m d p → Same p
      go (inl (w, is_five {j = j}, u)) = subst Same u.1 (((seen? d).0 q).0.0 j u.0)
      go (inl (w, is_listed {j = j}, u)) = subst Same u.1 (((seen? d).0 q).0.1 j u.0)
      go (inr y) = subst Same y.page (((seen? d).0 q).1 y.at y.has y.present)

-- ---- one memory of the pair: B is current, A's child, and A is the root's; then the level, A's rights, and the mark of a further child

unfoldable stands : ℕ → ℕ → ℕ → List ℕ → Bool
stands l r k m =
    eqb (current 6 m) 17 && child_test 6 m 1 256 9 && child_test 6 m 9 4096 17 && eqb (word 6 m 31 0) l && eqb (rights (mapping 6 m 9 6144)) r
    && eqb (lent 6 m 1 4608) k

module _ {l r k : ℕ} (m : List ℕ) (q : stands l r k m ≡ true) where
  stands-is : (current 6 m ≡ 17) × InTree 6 m 2 17 × (word 6 m 31 0 ≡ l) × (rights (mapping 6 m 9 6144) ≡ r) × (lent 6 m 1 4608 ≡ k)
  unfolding stands
  stands-is =
      let (((((c, x), y), a), d), e) = (both (both (both (both (both eq? (child? 6 m)) (child? 6 m)) eq?) eq?) eq?).0 q in
      (c, child (child root x) y, a, d, e)

held : (cs : List Call) → last_edition (format 6 32) 0 cs ≡ 0 → Held 0 (reached 0 32 cs)
unfolding reached
held cs e =
    subst (λ (x : ℕ). Held x (run (format 6 32) cs)) e
    (held-run 0 (format 6 32) (record { known = omega arith; inv = inv-format (omega arith) 32 (omega arith) (omega arith) }) cs)

held₁ : Held 0 first
unfolding first last_edition next_edition choice first_calls calls
held₁ = held first_calls refl

held₂ : Held 0 second
unfolding second last_edition next_edition choice second_calls calls
held₂ = held second_calls refl

-- ---- all that is computed

unfoldable test : List ℕ → List ℕ → Bool
test m n = stands 5 3 0 m && stands 9 1 1 n && eqb (pages 6 m) (pages 6 n) && same_seen 6 m n 17

computed : test (reached_later 0 32 first_calls) (reached_later 0 32 second_calls) ≡ true
unfolding computing test stands child_test same_page same_seen same_words first_calls second_calls calls from all image row tabled flat
computed = refl

told : test first second ≡ true
unfolding first second
told = rw (reached-is 0 32 first_calls, reached-is 0 32 second_calls) computed

answered : same (answers_to_later 0 32 (some (then_b first_calls))) (ok_but 21) && same (answers_to_later 0 32 (some (then_b second_calls))) (ok_but 22) ≡ true
unfolding computing same then_b ok_but first_calls second_calls calls
answered = refl

-- ---- the pair

pub pair : Pair
unfolding test
pair =
    let (((x, y), c), w) = (both (both (both so? so?) eq?) so?).0 told in
    let (at₁, t₁, l₁, r₁, k₁) = stands-is first x in
    let (at₂, t₂, l₂, r₂, k₂) = stands-is second y in
    let w₁ : 6 ≡ width first = ap width_of (sym (edition-is 0 first held₁)) in
    let w₂ : 6 ≡ width second = ap width_of (sym (edition-is 0 second held₂)) in
    record {
      alike = record {
        sound₁ = subst (λ (b : ℕ). Sound b first) w₁ (held-sound held₁);
        sound₂ = subst (λ (b : ℕ). Sound b second) w₂ (held-sound held₂);
        edition = edition-is 0 first held₁ ∙ sym (edition-is 0 second held₂);
        count = ap (λ (b : ℕ). pages b first) (sym w₁) ∙ c ∙ ap (λ (b : ℕ). pages b second) w₂;
        current₁ = subst (λ (b : ℕ). current b first ≡ 17) w₁ at₁;
        current₂ = subst (λ (b : ℕ). current b second ≡ 17) w₂ at₂;
        depth = 2;
        depth₁ = subst (λ (b : ℕ). InTree b first 2 17) w₁ t₁;
        depth₂ = subst (λ (b : ℕ). InTree b second 2 17) w₂ t₂;
        words = subst (λ (b : ℕ). EqualOn b (Shown b first 17) first second) w₁ (same_seen_lem 6 first second (omega arith) (held-sound held₁) t₁ w);
      };
      level = (l₁, l₂);
      right = (r₁, r₂);
      neighbour = (k₁, k₂);
      answers = rw (answers_to-is 0 32 (some (then_b first_calls)), answers_to-is 0 32 (some (then_b second_calls))) answered;
    }
