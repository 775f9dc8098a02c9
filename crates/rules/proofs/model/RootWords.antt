-- The words of the root's descriptor, directory, shadows and list are those that format writes.
use mathlib.Core.Path.{◌≡◌, refl, sym, ap, ◌∙◌}
use mathlib.Core.Logic.{◌≢◌}
use mathlib.Core.Bool.{cond, ◌&&◌}
use mathlib.Core.Option.{Option}
use mathlib.Core.List.{List, [], ◌∷◌, ◌++◌}
use Prim.Native.Nat.{ℕ, zero, suc, ◌+◌, ◌-◌, ◌*◌, ◌/◌, ◌%◌, ◌≤◌, ◌<◌}
use native.Mathlib.Nat.{not-suc-le-zero}
use native.Mathlib.Omega.{arith}
use native.Mathlib.Decide.{dec_lt}
use borrow.Author.Tests.{lt-ltb, le-ltb, le-leb, lt-leb, eq-eqb, ne_eqb}
use lib.Dec.{eqb, leb}
use lib.ListN.{length, get_or}
use Rattle.memory.specs.Geometry.{threes_for}
use Rattle.memory.specs.Format.{format_word, root_descriptor_word, root_directory_word, root_list_word}
use Rattle.memory.specs.Sound.{RootFlag}
use Rattle.rules.proofs.model.Base.{eqd}
use Rattle.rules.proofs.model.Words.{addr, addr-zero, link}
use Rattle.rules.proofs.model.Abs.{Kind, pt, s1, s2, root, lst, tab, Hop, Three, Abs, parts, head_v, three_at, Owner, WF, Cells, link_word}
use Rattle.rules.proofs.model.Abs.{desc_words, desc_list, list_list, role_word}
use Rattle.rules.proofs.model.Flags.{desc-other, desc-clear}
use Rattle.rules.proofs.model.Facts.{nil_cons}
use Rattle.rules.proofs.model.Format.{kind_at, kind_no, kind-no, three0, up_to, at_above, at-below, length-up_to}
use Rattle.rules.proofs.model.Inv.{RootKept}
use Rattle.rules.proofs.model.Listing.{three_no, page_at, list-free, list-virtual, list-physical, list-rest, at-role}

pub parts_nil : (hs : List Hop) → parts hs ≡ [] → hs ≡ []
parts_nil [] e = refl
parts_nil (h ∷ hs) e = nil_cons (sym e)

no-before : (ts : List Three) (t : Three) (j : ℕ) → j < length ts → three_no (ts ++ t ∷ []) j ≡ three_no ts j
unfolding three_no
no-before [] t j l = absurd (not-suc-le-zero l)
no-before (x ∷ xs) t zero l = refl
no-before (x ∷ xs) t (suc j) l = no-before xs t j (omega arith)

no_last : (ts : List Three) (t : Three) (j : ℕ) → j ≡ length ts → three_no (ts ++ t ∷ []) j ≡ t
unfolding three_no
no_last [] t zero l = refl
no_last [] t (suc j) l = absurd (omega arith)
no_last (x ∷ xs) t zero l = absurd (omega arith)
no_last (x ∷ xs) t (suc j) l = no_last xs t j (omega arith)

module _ (N T : ℕ) where
  pub no-up_to : (n j : ℕ) → j < n → three_no (up_to N T n) j ≡ three0 N T j
  unfolding up_to
  no-up_to zero j l = absurd (not-suc-le-zero l)
  no-up_to (suc n) j l = go (dec_lt j n) (no-up_to n j)
    where
      go : Dec (j < n) → (j < n → three_no (up_to N T n) j ≡ three0 N T j) → three_no (up_to N T n ++ three0 N T n ∷ []) j ≡ three0 N T j
      go (yes k) ih = no-before (up_to N T n) (three0 N T n) j (omega (arith, length-up_to N T n)) ∙ ih k
      go (no k) ih =
          let e : j ≡ n = omega arith in
          no_last (up_to N T n) (three0 N T n) j (omega (arith, length-up_to N T n)) ∙ ap (three0 N T) (sym e)

  pub page-up_to : (n j : ℕ) → j < 3 * n → page_at (up_to N T n) j ≡ 6 + j
  unfolding page_at three0
  page-up_to n j l =
      ap (λ (t : Three). t.page (kind_at (j % 3))) (no-up_to n (j / 3) (omega arith)) ∙ omega (arith, kind-no (j % 3) (omega arith))

module _ {b : ℕ} (wide : 6 ≤ b) (N : ℕ) where
  abbrev T : ℕ
  T = threes_for b N

  -- a root's directory or shadow
  directory-words : (k : Kind) (j : ℕ) → link_word b k (three_at j (up_to N T T)) ≡ root_directory_word b N (kind_no k) j
  unfolding link_word link three0
  directory-words k j = go (dec_lt j T)
    where
      go : Dec (j < T) → link_word b k (three_at j (up_to N T T)) ≡ root_directory_word b N (kind_no k) j
      go (yes l) = rw (at-below N T T j l, lt-ltb j T l) refl
      go (no l) = rw (at_above N T T j (omega arith), le-ltb j T (omega arith)) refl

  module _ (ch : ℕ → List Hop) (top : (j : ℕ) → j < 3 * T → ch (6 + j) ≡ []) where
    abbrev ts : List Three
    ts = up_to N T T

    abbrev L : ℕ → ℕ
    L i = get_or (list_list b ch ts) i 0

    few : length ts ≡ T
    few = length-up_to N T T

    odd : (i j : ℕ) → i ≡ 1 + 2 * j → j < 3 * T → L i ≡ 0
    odd i j e l =
        ap L e ∙ list-virtual b ch ts j (omega (arith, few))
        ∙ ap (λ (x : ℕ). addr b (head_v (ch x))) (page-up_to N T T j l) ∙ ap (λ (hs : List Hop). addr b (head_v hs)) (top j l) ∙ addr-zero wide

    even : (i j : ℕ) → i ≡ 2 + 2 * j → j < 3 * T → L i ≡ addr b (5 + i / 2)
    even i j e l =
        let x : 6 + j ≡ 5 + i / 2 = omega arith in
        ap L e ∙ list-physical b ch ts j (omega (arith, few)) ∙ ap (addr b) (page-up_to N T T j l) ∙ ap (addr b) x

    rest-words : (i : ℕ) → i ≢ 0 → L i ≡ cond (eqb (i % 2) 0 && leb i (6 * T)) (addr b (5 + i / 2)) 0
    rest-words i n = go (dec_lt (6 * T) i) (eqd (i % 2) 0)
      where
        go : Dec (6 * T < i) → Dec (i % 2 ≡ 0) → L i ≡ cond (eqb (i % 2) 0 && leb i (6 * T)) (addr b (5 + i / 2)) 0
        go (yes l) (yes p) = rw (eq-eqb (i % 2) 0 p, lt-leb i (6 * T) l) (list-rest b ch ts i (omega (arith, few)))
        go (yes l) (no p) = rw (ne_eqb (i % 2) 0 p) (list-rest b ch ts i (omega (arith, few)))
        go (no l) (yes p) = rw (eq-eqb (i % 2) 0 p, le-leb i (6 * T) (omega arith)) (even i (i / 2 - 1) (omega arith) (omega arith))
        go (no l) (no p) = rw (ne_eqb (i % 2) 0 p) (odd i (i / 2) (omega arith) (omega arith))

    list-words : (i : ℕ) → L i ≡ root_list_word b N i
    unfolding addr
    list-words zero = list-free b ch ts ∙ ap (λ (x : ℕ). 1 + 6 * x) few
    list-words (suc i) = rw (ne_eqb (suc i) 0 (omega arith)) (rest-words (suc i) (omega arith))

  module _ (fl : ℕ → Option ℕ) (A : Abs) (wf : WF b N fl A) (rk : RootKept N T A) (f : List ℕ) (C : Cells) where
    pub top-chain : (q : ℕ) → Owner (A.role q) q 1 → A.chain q ≡ []
    top-chain q o = parts_nil (A.chain q) (wf.kernel q 1 o ∙ ap parts wf.root_top)

    no-virtual : (q : ℕ) → A.chain q ≡ [] → addr b (head_v (A.chain q)) ≡ 0
    no-virtual q e = ap (λ (hs : List Hop). addr b (head_v hs)) e ∙ addr-zero wide

    root-free : (k : Kind) → A.chain (A.rootp k 1) ≡ []
    root-free k = let r : A.role (A.rootp k 1) ≡ root k 1 = wf.root_role k 1 wf.root_live in top-chain (A.rootp k 1) (rw r refl)

    list-free-chain : A.chain (A.lstp 1) ≡ []
    list-free-chain = let r : A.role (A.lstp 1) ≡ lst 1 = wf.lst_role 1 wf.root_live in top-chain (A.lstp 1) (rw r refl)

    descriptor-list : desc_words b A 1 [] ≡ 0 ∷ addr b 1 ∷ 0 ∷ addr b 2 ∷ 0 ∷ addr b 3 ∷ 0 ∷ addr b 4 ∷ 0 ∷ addr b 5 ∷ 0 ∷ 0 ∷ []
    unfolding kind_no
    descriptor-list =
        rw (
          no-virtual 1 wf.root_top,
          no-virtual (A.rootp pt 1) (root-free pt),
          no-virtual (A.rootp s1 1) (root-free s1),
          no-virtual (A.rootp s2 1) (root-free s2),
          no-virtual (A.lstp 1) list-free-chain,
          rk.roots pt,
          rk.roots s1,
          rk.roots s2,
          rk.list,
          wf.root_top,
          addr-zero wide,
        ) refl

    twelve-words : (j : ℕ) → get_or (desc_words b A 1 []) j 0 ≡ root_descriptor_word b j
    unfolding addr
    twelve-words j = ap (λ (ws : List ℕ). get_or ws j 0) descriptor-list

    -- format leaves the flag 0
    descriptor-words : (j : ℕ) → (j ≡ 12 → A.vcli 1 ≡ 0) → get_or (desc_list b A 1) j 0 ≡ root_descriptor_word b j
    descriptor-words j h = go (eqd j 12)
      where
        go : Dec (j ≡ 12) → get_or (desc_list b A 1) j 0 ≡ root_descriptor_word b j
        go (yes e) = desc-clear b A 1 (h e) j ∙ twelve-words j
        go (no n) = desc-other b A 1 j n ∙ twelve-words j

    table-chain : (j : ℕ) → j < 3 * T → A.chain (6 + j) ≡ []
    table-chain j l =
        let e : page_at (A.threes 1) j ≡ 6 + j = ap (λ (ts : List Three). page_at ts j) rk.threes ∙ page-up_to N T T j l in
        let n : length (A.threes 1) ≡ T = ap length rk.threes ∙ length-up_to N T T in
        let r : A.role (6 + j) ≡ tab (kind_at (j % 3)) 1 (three_no (A.threes 1) (j / 3)).at = ap A.role (sym e) ∙ at-role wide A.role 1 (A.threes 1) j (wf.tabs 1 wf.root_live) (omega arith) in
        top-chain (6 + j) (rw r refl)

    root_role : (k : Kind) → A.role (2 + kind_no k) ≡ root k 1
    root_role k = ap A.role (sym (rk.roots k)) ∙ wf.root_role k 1 wf.root_live

    root-words : (k : Kind) (j : ℕ) → role_word b f A C (A.role (2 + kind_no k)) (2 + kind_no k) j ≡ root_directory_word b N (kind_no k) j
    unfolding role_word
    root-words k j = rw (root_role k, rk.threes) (directory-words k j)

    -- the root's five pages
    pub five-words : (p : ℕ) → p < 5 → (j : ℕ) → (RootFlag p j → A.vcli 1 ≡ 0) → role_word b f A C (A.role (1 + p)) (1 + p) j ≡ format_word b N (1 + p) j
    unfolding role_word format_word kind_no
    five-words zero l j h = rw wf.root_live (descriptor-words j (λ e. h (refl, e)))
    five-words (suc zero) l j h = root-words pt j
    five-words (suc (suc zero)) l j h = root-words s1 j
    five-words (suc (suc (suc zero))) l j h = root-words s2 j
    five-words (suc (suc (suc (suc zero)))) l j h =
        let r : A.role 5 ≡ lst 1 = ap A.role (sym rk.list) ∙ wf.lst_role 1 wf.root_live in
        rw (r, rk.threes) (list-words A.chain table-chain j)
    five-words (suc (suc (suc (suc (suc p))))) l j h = absurd (omega arith)
