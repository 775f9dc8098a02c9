-- The words of roots and list without a three: what collect writes before it returns the pages.
use mathlib.Core.Path.{◌≡◌, refl, sym, ap, ◌∙◌, subst}
use mathlib.Core.Logic.{◌≢◌}
use mathlib.Core.Option.{Option}
use mathlib.Core.List.{List, [], ◌∷◌, ◌++◌}
use Prim.Native.Nat.{ℕ, zero, suc, ◌+◌, ◌*◌, ◌≤◌, ◌<◌}
use native.Mathlib.Nat.{mul-le-mul_right, suc-mul, not-suc-le-zero, le_of_suc-le-suc}
use native.Mathlib.Omega.{arith}
use lib.ListN.{length, get_or, length-take, length-drop}
use lib.Seq.{get_or-take, get_or-drop}
use Rattle.memory.specs.Geometry
use Rattle.memory.specs.Words as Mem
use Rattle.rules.specs.Effects.{drop_three}
use Rattle.rules.proofs.model.Base.{eqd}
use Rattle.rules.proofs.model.Words.{W, word, put, put_l, Sized, put-sized, word-put-same, word-put-other, put_l-sized, put_l-other, put_l-same, sixty_one}
use Rattle.rules.proofs.model.Abs.{Kind, pt, s1, s2, root, lst, Three, Abs, WF, Encodes, is_hand, list_list}
use Rattle.rules.proofs.model.Facts.{differ}
use Rattle.rules.proofs.model.Read.{kernel-lt, three-is}
use Rattle.rules.proofs.steps.Collect.{without, CollPre}
use Rattle.rules.proofs.steps.CollWords.{CollEffect}
use Rattle.rules.proofs.steps.ListPage.{list-lt, list-word}
use Rattle.rules.proofs.steps.ThreePlace.{Split}
use Rattle.rules.proofs.steps.DropThree.{drop-length, drop-word}

module _ (b : ℕ) where
  -- 0 at index x of the roots r, the words ws on the list page l
  unfoldable pub removed : ℕ → List ℕ → (r₁ r₂ r₃ l : ℕ) → List ℕ → List ℕ
  removed x m r₁ r₂ r₃ l ws = Mem.fill b (put b (put b (put b m r₁ x 0) r₂ x 0) r₃ x 0) l ws

  pub fill_is : (m : List ℕ) (l : ℕ) (ws : List ℕ) → Mem.fill b m l ws ≡ put_l b m l 0 ws
  unfolding Mem.fill put_l
  fill_is m l ws = let e : Mem.start b l ≡ Mem.index b l 0 = omega arith in ap (λ (z : ℕ). Mem.overwrite m z ws) e

  pub page-size : (N : ℕ) (m : List ℕ) (l : ℕ) → Sized b N m → l < N → length (Mem.page b m l) ≡ W b
  unfolding Sized W
  page-size N m l s h = simp (length-take, length-drop) (omega (arith, s, mul-le-mul_right (Geometry.page_words b) h, suc-mul l (Geometry.page_words b)))

  pub page-word : (m : List ℕ) (l y : ℕ) → y < W b → get_or (Mem.page b m l) y 0 ≡ word b m l y
  unfolding word W
  page-word m l y β = get_or-take (Geometry.page_words b) _ y 0 β ∙ get_or-drop _ m y 0

get_d_any : (xs : List ℕ) (i x y : ℕ) → i < length xs → get_or xs i x ≡ get_or xs i y
get_d_any [] i x y h = absurd (not-suc-le-zero h)
get_d_any (z ∷ zs) zero x y h = refl
get_d_any (z ∷ zs) (suc i) x y h = get_d_any zs i x y (le_of_suc-le-suc h)

module _ {b : ℕ} (wide : 6 ≤ b) (N : ℕ) (fl : ℕ → Option ℕ) (f m : List ℕ) (A : Abs) (wf : WF b N fl A) (en : Encodes b N f m A)
    (d x : ℕ) (th : Three) (pre : CollPre b A d x th) (sp : Split x (A.threes d) th) where
  abbrev xs : List Three
  xs = sp.before

  abbrev ys : List Three
  ys = sp.after

  abbrev R : Kind → ℕ
  R k = A.rootp k d

  abbrev L : ℕ
  L = A.lstp d

  pub room : 1 + 6 * length (xs ++ th ∷ ys) ≤ W b
  room = omega (arith, wf.ten d pre.live, ap length sp.is, sixty_one wide)

  pub list-words : (y : ℕ) → y < W b → word b m L y ≡ get_or (list_list b A.chain (xs ++ th ∷ ys)) y 0
  list-words y β = list-word wide N fl f m A wf en d pre.live y β ∙ ap (λ (z : List Three). get_or (list_list b A.chain z) y 0) sp.is

  abbrev ws : List ℕ
  ws = drop_three (length xs) (Mem.page b m L)

  L-lt : L < N
  L-lt = list-lt wide N fl f m A wf en d pre.live

  size : length (Mem.page b m L) ≡ W b
  size = page-size b N m L en.sized L-lt

  says : (y : ℕ) → y < W b → get_or (Mem.page b m L) y 0 ≡ get_or (list_list b A.chain (xs ++ th ∷ ys)) y 0
  says y β = page-word b m L y β ∙ list-words y β

  -- roots and list are different pages
  R-role : (k : Kind) → A.role (R k) ≡ root k d
  R-role k = wf.root_role k d pre.live

  L-role : A.role L ≡ lst d
  L-role = wf.lst_role d pre.live

  R-lt : (k : Kind) → R k < N
  R-lt k = kernel-lt wide N fl A wf (R k) (ap is_hand (R-role k))

  x_lt : x < W b
  x_lt = (three-is wide A.role d x (A.threes d) th (wf.tabs d pre.live) pre.here).fits

  abbrev n1 : List ℕ
  n1 = put b m (R pt) x 0

  abbrev n2 : List ℕ
  n2 = put b n1 (R s1) x 0

  abbrev n3 : List ℕ
  n3 = put b n2 (R s2) x 0

  n3-sized : Sized b N n3
  n3-sized = put-sized wide N n2 (R s2) x 0 (put-sized wide N n1 (R s1) x 0 (put-sized wide N m (R pt) x 0 en.sized))

  n3-off : (q j : ℕ) → j < W b → ((k : Kind) → ¬ ((q ≡ R k) × (j ≡ x))) → word b n3 q j ≡ word b m q j
  n3-off q j β n =
      word-put-other wide n2 (R s2) x 0 q j x_lt β (n s2) ∙ word-put-other wide n1 (R s1) x 0 q j x_lt β (n s1) ∙ word-put-other wide m (R pt) x 0 q j x_lt β (n pt)

  -- a 0 put at index x leaves a 0 there
  zero-stays : (p : List ℕ) (r q : ℕ) → Sized b N p → q < N → word b p q x ≡ 0 → word b (put b p r x 0) q x ≡ 0
  zero-stays p r q s l e = go (eqd q r)
    where
      go : Dec (q ≡ r) → word b (put b p r x 0) q x ≡ 0
      go (yes y) = rw (← y) (word-put-same wide N p q x 0 s l x_lt)
      go (no y) = word-put-other wide p r x 0 q x x_lt x_lt (λ z. y z.0) ∙ e

  root-zero : (k : Kind) → word b n3 (R k) x ≡ 0
  root-zero k = go k
    where
      m-sized : Sized b N m
      m-sized = en.sized

      n1-sized : Sized b N n1
      n1-sized = put-sized wide N m (R pt) x 0 m-sized

      n2-sized : Sized b N n2
      n2-sized = put-sized wide N n1 (R s1) x 0 n1-sized

      go : (k : Kind) → word b n3 (R k) x ≡ 0
      go pt = zero-stays n2 (R s2) (R pt) n2-sized (R-lt pt) (zero-stays n1 (R s1) (R pt) n1-sized (R-lt pt) (word-put-same wide N m (R pt) x 0 m-sized (R-lt pt) x_lt))
      go s1 = zero-stays n2 (R s2) (R s1) n2-sized (R-lt s1) (word-put-same wide N n1 (R s1) x 0 n1-sized (R-lt s1) x_lt)
      go s2 = word-put-same wide N n2 (R s2) x 0 n2-sized (R-lt s2) x_lt

  ws-size : length ws ≡ W b
  ws-size = drop-length wide A.chain xs th ys (W b) room (Mem.page b m L) size says

  off_list : (q j : ℕ) → j < W b → q ≢ L → word b (put_l b n3 L 0 ws) q j ≡ word b n3 q j
  off_list q j β n = put_l-other wide n3 L 0 ws q j (omega (arith, ws-size)) β n

  on_list : (j : ℕ) → j < W b → word b (put_l b n3 L 0 ws) L j ≡ get_or (list_list b A.chain (without x (A.threes d))) j 0
  on_list j β =
      put_l-same wide N n3 L ws j n3-sized L-lt β
      ∙ get_d_any ws j _ 0 (omega (arith, ws-size))
      ∙ drop-word wide A.chain xs th ys (W b) room (Mem.page b m L) size says j
      ∙ ap (λ (z : List Three). get_or (list_list b A.chain z) j 0) (sym sp.rest)

  pub collect-effect : CollEffect b N A d x m (removed b x m (R pt) (R s1) (R s2) L ws)
  unfolding removed
  collect-effect =
      subst (CollEffect b N A d x m) (sym (fill_is b n3 L ws))
      (record {
        sized = put_l-sized wide N n3 L 0 ws n3-sized;
        roots = λ k. off_list (R k) x x_lt (λ y. differ (sym (R-role k) ∙ ap A.role y ∙ L-role) (omega arith)) ∙ root-zero k;
        list = on_list;
        rest = λ q j β nl n. off_list q j β nl ∙ n3-off q j β n;
      })
