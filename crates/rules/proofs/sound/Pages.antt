-- The kernel pages of a partition, as its descriptor and its list name them.
use mathlib.Core.Path.{◌≡◌, refl, sym, ap, ◌∙◌, subst}
use mathlib.Core.List.{List, [], ◌∷◌}
use Prim.Native.Nat.{ℕ, zero, suc, ◌+◌, ◌*◌, ◌/◌, ◌%◌, ◌≤◌, ◌<◌}
use native.Mathlib.Omega.{arith}
use lib.ListN.{length, get_or}
use Rattle.memory.specs.Geometry.{page_words}
use Rattle.memory.specs.Words.{word}
use Rattle.memory.specs.Partition.{pages, list, threes}
use Rattle.memory.specs.Tree.{Virtual, Physical}
use Rattle.memory.proofs.Widths.{words-least}
use Rattle.rules.proofs.model.Words.{addr, page_of, idx, page_of-addr, addr-zero, cover_lt, idx-lt}
use Rattle.rules.proofs.model.Abs.{pt, s1, s2, Role, desc, root, lst, tab, Hop, Abs, head_v, Good, Owner, desc_list}
use Rattle.rules.proofs.model.Read.{three-is}
use Rattle.rules.proofs.sound.Views.{owner-kernel}
use Rattle.rules.proofs.model.Format.{kind_at}
use Rattle.rules.proofs.model.Inv.{Inv, pages-is}
use Rattle.rules.proofs.model.Listing.{three_no, page_at, list-virtual, list-physical, at-role}
use Rattle.rules.proofs.sound.Words.{virtual-addr, kernel-fits, descriptor-word, list-word, list-is, threes-is}

-- descriptor, directory, shadow 1, shadow 2, list
abbrev pub five_page : Abs → ℕ → ℕ → ℕ
five_page A d j = get_or (d ∷ A.rootp pt d ∷ A.rootp s1 d ∷ A.rootp s2 d ∷ A.lstp d ∷ []) j 0

abbrev pub five_role : ℕ → ℕ → Role
five_role d zero = desc
five_role d (suc zero) = root pt d
five_role d (suc (suc zero)) = root s1 d
five_role d (suc (suc (suc zero))) = root s2 d
five_role d (suc (suc (suc (suc j)))) = lst d

module _ {b : ℕ} (wide : 6 ≤ b) (m : List ℕ) (i : Inv b m) where
  abbrev A : Abs
  A = i.state

  pub room : (j : ℕ) → j < 61 → j < page_words b
  room j l = omega (arith, words-least b wide)

  -- ---- addresses

  pub physical : (q : ℕ) → q < i.N → Physical b m (addr b q)
  unfolding addr page_of
  physical q l =
      let e : page_of b (addr b q) ≡ q = page_of-addr wide q in
      (ap (addr b) e, subst (λ (x : ℕ). x < pages b m) (sym e) (omega (arith, pages-is wide m i)))

  pub owned-fits : (q d : ℕ) → Owner (A.role q) q d → q < i.N
  owned-fits q d o = kernel-fits wide m i q (owner-kernel (A.role q) q d o)

  pub good-virtual : (q : ℕ) (hs : List Hop) → Good b A q hs → Virtual b (addr b (head_v hs))
  good-virtual q [] g = virtual-addr wide 0 (cover_lt wide 1 (idx b 0) (omega arith) (idx-lt wide 1 0 (omega (arith, cover_lt wide 1 0 (omega arith) (omega arith)))))
  good-virtual q (h ∷ hs) g =
      let t = g.0.three in
      virtual-addr wide h.vp (three-is wide A.role h.part (idx b h.vp) (A.threes h.part) t.0 (i.wf.tabs h.part g.0.live) t.1).fits

  pub head-virtual : (q : ℕ) → Virtual b (addr b (head_v (A.chain q)))
  head-virtual q = good-virtual q (A.chain q) (i.wf.good q)

  pub zero-virtual : Virtual b 0
  zero-virtual = subst (Virtual b) (addr-zero wide) (good-virtual 0 [] tt)

  module _ (d : ℕ) (l : A.role d ≡ desc) where
    -- ---- the five

    pub five-role : (j : ℕ) → j < 5 → A.role (five_page A d j) ≡ five_role d j
    five-role zero k = l
    five-role (suc zero) k = i.wf.root_role pt d l
    five-role (suc (suc zero)) k = i.wf.root_role s1 d l
    five-role (suc (suc (suc zero))) k = i.wf.root_role s2 d l
    five-role (suc (suc (suc (suc zero)))) k = i.wf.lst_role d l
    five-role (suc (suc (suc (suc (suc j))))) k = absurd (omega arith)

    pub five-owner : (j : ℕ) → j < 5 → Owner (A.role (five_page A d j)) (five_page A d j) d
    five-owner zero k = rw l refl
    five-owner (suc zero) k = rw (i.wf.root_role pt d l) refl
    five-owner (suc (suc zero)) k = rw (i.wf.root_role s1 d l) refl
    five-owner (suc (suc (suc zero))) k = rw (i.wf.root_role s2 d l) refl
    five-owner (suc (suc (suc (suc zero)))) k = rw (i.wf.lst_role d l) refl
    five-owner (suc (suc (suc (suc (suc j))))) k = absurd (omega arith)

    pub five-virtual : (j : ℕ) → j < 5 → word b m d (2 * j) ≡ addr b (head_v (A.chain (five_page A d j)))
    unfolding desc_list
    five-virtual zero k = descriptor-word wide m i d 0 l (room 0 (omega arith))
    five-virtual (suc zero) k = descriptor-word wide m i d 2 l (room 2 (omega arith))
    five-virtual (suc (suc zero)) k = descriptor-word wide m i d 4 l (room 4 (omega arith))
    five-virtual (suc (suc (suc zero))) k = descriptor-word wide m i d 6 l (room 6 (omega arith))
    five-virtual (suc (suc (suc (suc zero)))) k = descriptor-word wide m i d 8 l (room 8 (omega arith))
    five-virtual (suc (suc (suc (suc (suc j))))) k = absurd (omega arith)

    pub five-physical : (j : ℕ) → j < 5 → word b m d (2 * j + 1) ≡ addr b (five_page A d j)
    unfolding desc_list
    five-physical zero k = descriptor-word wide m i d 1 l (room 1 (omega arith))
    five-physical (suc zero) k = descriptor-word wide m i d 3 l (room 3 (omega arith))
    five-physical (suc (suc zero)) k = descriptor-word wide m i d 5 l (room 5 (omega arith))
    five-physical (suc (suc (suc zero))) k = descriptor-word wide m i d 7 l (room 7 (omega arith))
    five-physical (suc (suc (suc (suc zero)))) k = descriptor-word wide m i d 9 l (room 9 (omega arith))
    five-physical (suc (suc (suc (suc (suc j))))) k = absurd (omega arith)

    -- ---- the pairs of the list

    pub pairs-are : (j : ℕ) → j < 3 * threes b m d → j < 3 * length (A.threes d)
    pairs-are j k = omega (arith, threes-is wide m i d l)

    pub listed-role : (j : ℕ) → j < 3 * length (A.threes d) → A.role (page_at (A.threes d) j) ≡ tab (kind_at (j % 3)) d (three_no (A.threes d) (j / 3)).at
    listed-role j k = at-role wide A.role d (A.threes d) j (i.wf.tabs d l) k

    pub listed-owner : (j : ℕ) → j < 3 * length (A.threes d) → Owner (A.role (page_at (A.threes d) j)) (page_at (A.threes d) j) d
    listed-owner j k = rw (listed-role j k) refl

    pub listed-virtual : (j : ℕ) → j < 3 * length (A.threes d) → word b m (list b m d) (1 + 2 * j) ≡ addr b (head_v (A.chain (page_at (A.threes d) j)))
    listed-virtual j k =
        ap (λ (x : ℕ). word b m x (1 + 2 * j)) (list-is wide m i d l) ∙ list-word wide m i d (1 + 2 * j) l (room (1 + 2 * j) (omega (arith, i.wf.ten d l)))
        ∙ list-virtual b A.chain (A.threes d) j k

    pub listed-physical : (j : ℕ) → j < 3 * length (A.threes d) → word b m (list b m d) (2 + 2 * j) ≡ addr b (page_at (A.threes d) j)
    listed-physical j k =
        ap (λ (x : ℕ). word b m x (2 + 2 * j)) (list-is wide m i d l) ∙ list-word wide m i d (2 + 2 * j) l (room (2 + 2 * j) (omega (arith, i.wf.ten d l)))
        ∙ list-physical b A.chain (A.threes d) j k
