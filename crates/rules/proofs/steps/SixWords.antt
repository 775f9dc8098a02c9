-- The six words of a three in its partition's list: the address and the page of its page table, shadow 1 table and shadow 2 table.
use mathlib.Core.Path.{◌≡◌, refl, ap, ◌∙◌}
use mathlib.Core.Option.{Option}
use mathlib.Core.List.{List, [], ◌∷◌, ◌++◌}
use Prim.Native.Nat.{ℕ, zero, suc, ◌+◌, ◌*◌, ◌≤◌, ◌<◌}
use native.Mathlib.Nat.{not-suc-le-zero}
use native.Mathlib.Omega.{arith}
use lib.ListN.{length, get_or, length-append}
use Rattle.memory.specs.Partition
use Rattle.rules.proofs.model.Words.{W, addr, word, sixty_one}
use Rattle.rules.proofs.model.Abs.{Kind, pt, s1, s2, desc, Three, Abs, head_v, WF, Cells, EncodesC, list_pairs, list_list}
use Rattle.rules.proofs.steps.ListPage.{list-page, list-word}
use Rattle.rules.proofs.steps.ThreePlace.{six-at}

-- where they stand from the first
abbrev pub address_at : Kind → ℕ
address_at pt = 1
address_at s1 = 3
address_at s2 = 5

abbrev pub page_at : Kind → ℕ
page_at pt = 2
page_at s1 = 4
page_at s2 = 6

-- the three at place j
pub record Place (ts : List Three) (j : ℕ) : Type 0 where
  pub before : List Three
  pub three : Three
  pub after : List Three
  pub is : ts ≡ before ++ three ∷ after
  pub size : length before ≡ j

pub place : (ts : List Three) (j : ℕ) → j < length ts → Place ts j
place [] j l = absurd (not-suc-le-zero l)
place (t ∷ ts) zero l = record { before = []; three = t; after = ts; is = refl; size = refl }
place (t ∷ ts) (suc j) l =
    let r = place ts j (omega arith) in
    record { before = t ∷ r.before; three = r.three; after = r.after; is = ap (λ (z : List Three). t ∷ z) r.is; size = ap suc r.size }

module _ {b : ℕ} (wide : 6 ≤ b) (N : ℕ) (fl : ℕ → Option ℕ) (f m : List ℕ) (A : Abs) (wf : WF b N fl A) {C : Cells} (en : EncodesC b N f m A C) (d : ℕ) (l : A.role d ≡ desc)
    (xs : List Three) (t : Three) (ys : List Three) (is : A.threes d ≡ xs ++ t ∷ ys) where
  room : 1 + 6 * length (xs ++ t ∷ ys) ≤ W b
  room = omega (arith, wf.ten d l, ap length is, sixty_one wide)

  pub pair-words : (y : ℕ) → y < 6 * length (xs ++ t ∷ ys) → word b m (A.lstp d) (suc y) ≡ get_or (list_pairs b A.chain (xs ++ t ∷ ys)) y 0
  unfolding list_list
  pair-words y β = list-word wide N fl f m A wf en d l (suc y) (omega (arith, room)) ∙ ap (λ (z : List Three). get_or (list_list b A.chain z) (suc y) 0) is

  six-word : (z y : ℕ) → z ≡ suc (6 * length xs + y) → y < 6 → word b m (Partition.list b m d) z ≡ get_or (list_pairs b A.chain (t ∷ ys)) y 0
  six-word z y e β =
      ap (λ (p : ℕ). word b m p z) (list-page wide N fl f m A wf en d l)
      ∙ ap (word b m (A.lstp d)) e
      ∙ pair-words (6 * length xs + y) (omega (arith, length-append xs (t ∷ ys)))
      ∙ six-at wide A.chain xs t ys y

  pub address_word : (k : Kind) → word b m (Partition.list b m d) (address_at k + 6 * length xs) ≡ addr b (head_v (A.chain (t.page k)))
  unfolding list_pairs
  address_word pt = six-word _ 0 (omega arith) (omega arith)
  address_word s1 = six-word _ 2 (omega arith) (omega arith)
  address_word s2 = six-word _ 4 (omega arith) (omega arith)

  pub page-word : (k : Kind) → word b m (Partition.list b m d) (page_at k + 6 * length xs) ≡ addr b (t.page k)
  unfolding list_pairs
  page-word pt = six-word _ 1 (omega arith) (omega arith)
  page-word s1 = six-word _ 3 (omega arith) (omega arith)
  page-word s2 = six-word _ 5 (omega arith) (omega arith)
