-- The tests of a partition's pages, in the code's terms. Assumes nothing.
use mathlib.Core.Path.{◌≡◌, refl, sym, ap, ◌∙◌}
use mathlib.Core.List.{List}
use mathlib.Core.Bool.{Bool, true, false, not, ◌&&◌, ◌||◌, false≢true}
use Prim.Native.Nat.{ℕ, ◌+◌, ◌*◌, ◌^◌, ◌≤◌, ◌<◌}
use native.Mathlib.Nat.{mul_comm, mul_assoc}
use native.Mathlib.Decide.{dec_lt}
use native.Mathlib.Omega.{arith}
use lib.Dec.{leb, ltb, eqb}
use borrow.Author.Tests.{lt-leb, eqb-true}
use Rattle.walk.specs.Finite.{from, all, once}
use Rattle.memory.specs.Geometry.{page_words, address, page_of, most_threes}
use Rattle.memory.specs.Words.{word}
use Rattle.memory.specs.Partition.{pages, directory, list, threes}
use Rattle.soundness.specs.Test.{virtual, physical, descriptor_test, directory_test, list_test, stands, threes_test, agrees, child_test, shut_at, kernel_shut}
use Rattle.own_pages.specs.Asked.{index_test, pair_form, pair_shut}
use Rattle.own_pages.proofs.Laws.Tests.{and-false, and_fst, and_snd}
use Rattle.own_pages.proofs.Laws.Loops.{all-at, all_same, all_join}

-- the pairs of a descriptor
pub descriptor_pairs : (b : ℕ) (m : List ℕ) (d : ℕ) → all (pair_form b m d 0) (from 5 0) ≡ all (λ j. virtual b (word b m d (2 * j)) && physical b m (word b m d (2 * j + 1))) (from 5 0)
unfolding pair_form
descriptor_pairs b m d =
    all_same (pair_form b m d 0) (λ j. virtual b (word b m d (2 * j)) && physical b m (word b m d (2 * j + 1))) 5 0
    (λ j a l.
    let e : 0 + 2 * j ≡ 2 * j = omega arith in
    let q : 0 + 1 + 2 * j ≡ 2 * j + 1 = omega arith in
    ap (λ (x : ℕ). virtual b (word b m d x) && physical b m (word b m d (0 + 1 + 2 * j))) e
    ∙ ap (λ (x : ℕ). virtual b (word b m d (2 * j)) && physical b m (word b m d x)) q)

-- the pairs of a child's descriptor c, and of its list l, in the tables of d: they agree, and are shut
module _ (b : ℕ) (m : List ℕ) (d : ℕ) where
  abbrev five_agree : ℕ → Bool
  five_agree c = all (λ j. agrees b m d (word b m c (2 * j)) (word b m c (2 * j + 1))) (from 5 0)

  abbrev five_shut : ℕ → Bool
  five_shut c = all (λ j. shut_at b m d (word b m c (2 * j))) (from 5 0)

  abbrev list_agrees : ℕ → ℕ → Bool
  list_agrees l n = all (λ j. agrees b m d (word b m l (1 + 2 * j)) (word b m l (2 + 2 * j))) (from n 0)

  abbrev list_shut : ℕ → ℕ → Bool
  list_shut l n = all (λ j. shut_at b m d (word b m l (1 + 2 * j))) (from n 0)

  five-shut : (c : ℕ) → all (pair_shut b m d c 0) (from 5 0) ≡ five_agree c && five_shut c
  unfolding pair_shut
  five-shut c =
      all_same (pair_shut b m d c 0) (λ j. agrees b m d (word b m c (2 * j)) (word b m c (2 * j + 1)) && shut_at b m d (word b m c (2 * j))) 5 0
      (λ j a l.
      let e : 0 + 2 * j ≡ 2 * j = omega arith in
      let q : 0 + 1 + 2 * j ≡ 2 * j + 1 = omega arith in
      ap (λ (x : ℕ). agrees b m d (word b m c x) (word b m c (0 + 1 + 2 * j)) && shut_at b m d (word b m c x)) e
      ∙ ap (λ (x : ℕ). agrees b m d (word b m c (2 * j)) (word b m c x) && shut_at b m d (word b m c (2 * j))) q)
      ∙ all_join (λ j. agrees b m d (word b m c (2 * j)) (word b m c (2 * j + 1))) (λ j. shut_at b m d (word b m c (2 * j))) (from 5 0)

  list-shut : (l n : ℕ) → all (pair_shut b m d l 1) (from n 0) ≡ list_agrees l n && list_shut l n
  unfolding pair_shut
  list-shut l n = all_join (λ j. agrees b m d (word b m l (1 + 2 * j)) (word b m l (2 + 2 * j))) (λ j. shut_at b m d (word b m l (1 + 2 * j))) (from n 0)

child-order : (t n d l s u : Bool) → t && (n && d && l) && (s && u) ≡ t && n && (d && s) && (l && u)
child-order false n d l s u = refl
child-order true false d l s u = refl
child-order true true false l s u = refl
child-order true true true false true u = refl
child-order true true true false false u = refl
child-order true true true true s u = refl

pub child_as : (b : ℕ) (m : List ℕ) (d v c : ℕ)
    → leb (threes b m c) most_threes && child_test b m d v c && kernel_shut b m d c
    ≡ leb (threes b m c) most_threes && (eqb (word b m c 0) v && eqb (word b m c 1) (address b c) && eqb (word b m c 11) (address b d))
    && all (pair_shut b m d c 0) (from 5 0) && all (pair_shut b m d (list b m c) 1) (from (3 * threes b m c) 0)
unfolding child_test kernel_shut
child_as b m d v c =
    let few : Bool = leb (threes b m c) most_threes in
    let names : Bool = eqb (word b m c 0) v && eqb (word b m c 1) (address b c) && eqb (word b m c 11) (address b d) in
    let l = list b m c in
    let n = 3 * threes b m c in
    child-order few names (five_agree b m d c) (list_agrees b m d l n) (five_shut b m d c) (list_shut b m d l n)
    ∙ ap (λ (t : Bool). few && names && t && (list_agrees b m d l n && list_shut b m d l n)) (sym (five-shut b m d c))
    ∙ ap (λ (t : Bool). few && names && all (pair_shut b m d c 0) (from 5 0) && t) (sym (list-shut b m d l n))

-- what a partition is asked, in the code's order
forms-order : (d x l a b : Bool) → d && x && l && (a && b) ≡ d && l && (x && b) && a
forms-order false x l a b = refl
forms-order true false true a b = refl
forms-order true false false a b = refl
forms-order true true false a b = refl
forms-order true true true true true = refl
forms-order true true true true false = refl
forms-order true true true false true = refl
forms-order true true true false false = refl

pub forms_as : (b : ℕ) (m : List ℕ) (d : ℕ)
    → descriptor_test b m d && all (directory_test b m d) (from (page_words b) 0) && list_test b m d && threes_test b m d
    ≡ descriptor_test b m d && list_test b m d && all (index_test b m d) (from (page_words b) 0) && all (λ j. once (stands b m d j) (from (page_words b) 0)) (from (threes b m d) 0)
unfolding threes_test index_test
forms_as b m d =
    rw (all_join (directory_test b m d) (λ i. eqb (word b m (directory b m d) i) 0 || once (λ j. stands b m d j i) (from (threes b m d) 0)) (from (page_words b) 0))
    (forms-order (descriptor_test b m d) (all (directory_test b m d) (from (page_words b) 0)) (list_test b m d) (all (λ j. once (stands b m d j) (from (page_words b) 0)) (from (threes b m d) 0)) (all (λ i. eqb (word b m (directory b m d) i) 0 || once (λ j. stands b m d j i) (from (threes b m d) 0)) (from (page_words b) 0)))

-- a list with more threes than are allowed
pub list-many : (b : ℕ) (m : List ℕ) (d : ℕ) → most_threes < threes b m d → false ≡ list_test b m d
unfolding list_test
list-many b m d h = rw (lt-leb (threes b m d) most_threes h, and-false (eqb (word b m (list b m d) 0) (1 + 6 * threes b m d)))

-- a list that passed has few enough threes
pub list-few : (b : ℕ) (m : List ℕ) (d : ℕ) → list_test b m d ≡ true → threes b m d ≤ most_threes
list-few b m d e = elim (dec_lt most_threes (threes b m d)) [ yes h ↦ absurd (false≢true (list-many b m d h ∙ e)) | no h ↦ omega arith ]

-- the physical addresses of a list that passed leave room for 1 more: they are multiples of 4
pub listed-room : (b : ℕ) (m : List ℕ) (d : ℕ) → list_test b m d ≡ true → (i k : ℕ) {a : ℕ} → i < 3 * threes b m d → k ≡ 2 + 2 * i → a ≡ word b m (list b m d) k → a < 4294967296 → a + 1 < 4294967296
unfolding list_test physical
listed-room b m d e i k {a} h q w l =
    let n = threes b m d in
    let first = word b m (list b m d) 0 in
    let x = word b m (list b m d) (2 + 2 * i) in
    let f : ℕ → Bool = λ j. virtual b (word b m (list b m d) (1 + 2 * j)) && physical b m (word b m (list b m d) (2 + 2 * j)) in
    let counts : Bool = eqb first (1 + 6 * n) && leb n most_threes in
    let rest : Bool = all (λ j. not (leb first j) || eqb (word b m (list b m d) j) 0) (from (page_words b) 0) in
    let pairs : all f (from (3 * n) 0) ≡ true = and_snd counts (all f (from (3 * n) 0)) (and_fst (counts && all f (from (3 * n) 0)) rest e) in
    let passed : f i ≡ true = all-at f (3 * n) 0 pairs i (omega arith) (omega arith) in
    let z : address b (page_of b x) ≡ x = eqb-true (address b (page_of b x)) x (and_fst (eqb (address b (page_of b x)) x) (ltb (page_of b x) (pages b m)) (and_snd (virtual b (word b m (list b m d) (1 + 2 * i))) (physical b m x) passed)) in
    let y : a ≡ x = w ∙ ap (word b m (list b m d)) q in
    let v : address b (page_of b x) ≡ 4 * (2 ^ b * page_of b x) = mul_comm (page_of b x) (4 * 2 ^ b) ∙ mul_assoc 4 (2 ^ b) (page_of b x) in
    omega (arith, v, z, y)
