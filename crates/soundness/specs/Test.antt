-- The test of soundness: what is asked of a partition by itself and of its children (`ok`), the pages that it uses (`own`), for the walk with marks of
-- the crate walk; and the tests of the whole memory. Whole.antt proves that it decides `Sound`. Assumes nothing.
use Rattle.std.specs.Prelude.{List, ◌++◌, Bool, false, cond, not, ◌&&◌, ◌||◌, ℕ, zero, suc, ◌+◌, ◌-◌, ◌*◌, leb, ltb, eqb, length, get_or}
use Rattle.std.proofs.Math.Option.{Option, none, some}
use Rattle.walk.specs.Finite.{from, all, any, image, once}
use Rattle.walk.specs.Marks.{Seen}
use Rattle.walk.specs.Walk as W
use Rattle.memory.specs.Geometry.{edition_of, most_flag, page_words, address_end, address, page_of, threes_for, flat_pages, least_pages, most_pages}
use Rattle.memory.specs.Geometry.{most_threes, most_depth}
use Rattle.memory.specs.Words.{word}
use Rattle.memory.specs.Entry.{entry, accessible, rights, all_rights, holds, write_and_execute}
use Rattle.memory.specs.Format.{format_word}
use Rattle.memory.specs.Partition.{pages, current, directory, shadow1, shadow2, list, parent, threes, table_for, mapping, lent, above}
use Rattle.memory.specs.Uses.{five_pages}
use Rattle.memory.specs.Counts.{tabled, child_at, child_of, children, hand_addresses}

unfoldable pub virtual : ℕ → ℕ → Bool
virtual b v = eqb (address b (page_of b v)) v && ltb v (address_end b)

module _ (b : ℕ) (m : List ℕ) where
  unfoldable pub physical : ℕ → Bool
  physical a = eqb (address b (page_of b a)) a && ltb (page_of b a) (pages b m)

  -- ---- 1

  unfoldable pub header_test : Bool
  header_test =
      eqb (length m) (pages b m * page_words b) && leb least_pages (pages b m) && leb (pages b m) (most_pages b)
      && eqb (word b m 0 1) (threes_for b (pages b m)) && eqb (word b m 0 2) (address b 1) && eqb (word b m 0 3) (address b (6 + 3 * threes_for b (pages b m)))
      && physical (word b m 0 4) && eqb (word b m 0 5) (edition_of b)
      && all (λ i. not (leb 6 i) || eqb (word b m 0 i) 0) (from (page_words b) 0)

  unfoldable pub descriptor_test : ℕ → Bool
  descriptor_test d =
      all (λ j. virtual b (word b m d (2 * j)) && physical (word b m d (2 * j + 1))) (from 5 0)
      && eqb (word b m d 10) 0 && physical (word b m d 11)
      && leb (word b m d 12) (most_flag b)
      && all (λ i. not (leb 13 i) || eqb (word b m d i) 0) (from (page_words b) 0)

  unfoldable pub table_link : ℕ → Bool
  table_link w = eqb w 0 || (eqb (address b (page_of b w) + 1) w && ltb (page_of b w) (pages b m))

  unfoldable pub directory_test : ℕ → ℕ → Bool
  directory_test d i =
      table_link (word b m (directory b m d) i) && table_link (word b m (shadow1 b m d) i) && table_link (word b m (shadow2 b m d) i)
      && cond (eqb (word b m (directory b m d) i) 0)
      (eqb (word b m (shadow1 b m d) i) 0 && eqb (word b m (shadow2 b m d) i) 0)
      (not (eqb (word b m (shadow1 b m d) i) 0) && not (eqb (word b m (shadow2 b m d) i) 0))

  unfoldable pub list_test : ℕ → Bool
  list_test d =
      eqb (word b m (list b m d) 0) (1 + 6 * threes b m d) && leb (threes b m d) most_threes
      && all (λ j. virtual b (word b m (list b m d) (1 + 2 * j)) && physical (word b m (list b m d) (2 + 2 * j))) (from (3 * threes b m d) 0)
      && all (λ i. not (leb (word b m (list b m d) 0) i) || eqb (word b m (list b m d) i) 0) (from (page_words b) 0)

  unfoldable pub table_test : ℕ → ℕ → Bool
  table_test d v =
      (eqb (mapping b m d v) 0
      || (eqb (entry b (page_of b (mapping b m d v)) (accessible (mapping b m d v)) (rights (mapping b m d v))) (mapping b m d v)
      && ltb (page_of b (mapping b m d v)) (pages b m)))
      && (eqb (lent b m d v) 1 || virtual b (lent b m d v))
      && virtual b (above b m d v)

  unfoldable pub forms_test : ℕ → Bool
  forms_test d =
      descriptor_test d && all (directory_test d) (from (page_words b) 0) && list_test d && all (table_test d) (tabled b m d) && eqb (mapping b m d 0) 0

  -- ---- 2

  unfoldable pub root_map_test : ℕ → Bool
  root_map_test v =
      cond (leb 1 (page_of b v) && leb (page_of b v) (flat_pages b (pages b m)))
      (eqb (page_of b (mapping b m 1 v)) (5 + 3 * threes_for b (pages b m) + page_of b v) && eqb (rights (mapping b m 1 v)) all_rights)
      (eqb (mapping b m 1 v) 0)
      && eqb (above b m 1 v) 0

  unfoldable pub root_test : Bool
  root_test =
      all (λ p. all (λ i. (eqb p 0 && eqb i 12) || eqb (word b m (1 + p) i) (format_word b (pages b m) (1 + p) i)) (from (page_words b) 0)) (from 5 0)
      && all root_map_test (tabled b m 1)

  -- ---- 3

  unfoldable pub stands : ℕ → ℕ → ℕ → Bool
  stands d j i =
      eqb (word b m (directory b m d) i) (word b m (list b m d) (2 + 6 * j) + 1)
      && eqb (word b m (shadow1 b m d) i) (word b m (list b m d) (4 + 6 * j) + 1)
      && eqb (word b m (shadow2 b m d) i) (word b m (list b m d) (6 + 6 * j) + 1)

  unfoldable pub threes_test : ℕ → Bool
  threes_test d =
      all (λ j. once (stands d j) (from (page_words b) 0)) (from (threes b m d) 0)
      && all (λ i. eqb (word b m (directory b m d) i) 0 || once (λ j. stands d j i) (from (threes b m d) 0)) (from (page_words b) 0)

  -- ---- 4

  unfoldable pub agrees : ℕ → ℕ → ℕ → Bool
  agrees d v a = not (eqb (mapping b m d v) 0) && eqb (address b (page_of b (mapping b m d v))) a

  unfoldable pub child_test : ℕ → ℕ → ℕ → Bool
  child_test d v c =
      eqb (word b m c 0) v && eqb (word b m c 1) (address b c) && eqb (word b m c 11) (address b d)
      && all (λ j. agrees d (word b m c (2 * j)) (word b m c (2 * j + 1))) (from 5 0)
      && all (λ j. agrees d (word b m (list b m c) (1 + 2 * j)) (word b m (list b m c) (2 + 2 * j))) (from (3 * threes b m c) 0)

  unfoldable pub children_test : ℕ → Bool
  children_test d =
      all (λ v. not (eqb (lent b m d v) 1) || not (eqb (mapping b m d v) 0)) (tabled b m d)
      && all (λ v. not (child_at b m d v) || child_test d v (child_of b m d v)) (tabled b m d)

  -- ---- 6

  unfoldable pub from_parent : ℕ → ℕ → ℕ → ℕ → Bool
  from_parent d v c u =
      not (eqb (mapping b m d (above b m c u)) 0)
      && eqb (page_of b (mapping b m c u)) (page_of b (mapping b m d (above b m c u)))
      && eqb (accessible (mapping b m c u)) (accessible (mapping b m d (above b m c u)))
      && holds (rights (mapping b m c u)) (mapping b m d (above b m c u))
      && eqb (lent b m d (above b m c u)) v

  unfoldable pub mapped_at : ℕ → ℕ → ℕ → Bool
  mapped_at c v u = not (eqb (mapping b m c u) 0) && eqb (above b m c u) v

  unfoldable pub mapped_once : ℕ → ℕ → Bool
  mapped_once c v = once (mapped_at c v) (tabled b m c)

  unfoldable pub lending_test : ℕ → Bool
  lending_test d =
      all (λ v. not (child_at b m d v) || all (λ u. eqb (mapping b m (child_of b m d v) u) 0 || from_parent d v (child_of b m d v) u) (tabled b m (child_of b m d v))) (tabled b m d)
      && all (λ v. not (not (eqb (mapping b m d v) 0) && ltb 1 (lent b m d v))
      || (not (eqb (table_for b m d (lent b m d v)) 0) && child_at b m d (lent b m d v) && mapped_once (child_of b m d (lent b m d v)) v)) (tabled b m d)

  -- ---- 7

  unfoldable pub kernel_address : ℕ → ℕ → Bool
  kernel_address c x =
      any (λ j. eqb (word b m c (2 * j)) x) (from 5 0) || any (λ j. eqb (word b m (list b m c) (1 + 2 * j)) x) (from (3 * threes b m c) 0)

  unfoldable pub shut_at : ℕ → ℕ → Bool
  shut_at d x = not (eqb (mapping b m d x) 0) && eqb (accessible (mapping b m d x)) 0 && leb (lent b m d x) 1

  unfoldable pub kernel_shut : ℕ → ℕ → Bool
  kernel_shut d c =
      all (λ j. shut_at d (word b m c (2 * j))) (from 5 0) && all (λ j. shut_at d (word b m (list b m c) (1 + 2 * j))) (from (3 * threes b m c) 0)

  unfoldable pub kernel_test : ℕ → Bool
  kernel_test d =
      all (λ v. not (child_at b m d v) || kernel_shut d (child_of b m d v)) (tabled b m d)
      && all (λ x. eqb (mapping b m d x) 0
      || (not (leb (lent b m d x) 1) || (not (eqb (accessible (mapping b m d x)) 0) || any (λ v. child_at b m d v && kernel_address (child_of b m d v) x) (tabled b m d)))) (tabled b m d)

  -- ---- 9

  unfoldable pub absent_at : ℕ → ℕ → Bool
  absent_at d v = not (eqb (mapping b m d v) 0) || (eqb (lent b m d v) 0 && eqb (above b m d v) 0)

  unfoldable pub absent_test : ℕ → Bool
  absent_test d = all (absent_at d) (tabled b m d)

  -- ---- 12

  unfoldable pub never_both_test : ℕ → Bool
  never_both_test d = eqb d 1 || all (λ v. not (write_and_execute (mapping b m d v))) (tabled b m d)

  -- ---- the walk

  unfoldable pub ok : ℕ → Bool
  ok d = forms_test d && threes_test d && children_test d && lending_test d && kernel_test d && absent_test d && never_both_test d

  -- the pages of d's list
  unfoldable pub listed_pages : ℕ → List ℕ
  listed_pages d = image (λ j. page_of b (word b m (list b m d) (2 + 2 * j))) (from (3 * threes b m d) 0)

  unfoldable pub hand_pages : ℕ → List ℕ
  hand_pages d = image (λ v. page_of b (mapping b m d v)) (hand_addresses b m d)

  unfoldable pub own : ℕ → List ℕ
  own d = (five_pages b m d ++ listed_pages d) ++ hand_pages d

  -- ---- the whole

  unfoldable pub judged : Option Seen → Bool
  judged none = false
  judged (some s) = all (λ p. eqb (get_or s p 0) 1) (from (pages b m - 1) 1)

  -- c is the child that stands where its first word says, in the partition that it says is its parent
  unfoldable pub placed : ℕ → Bool
  placed c =
      virtual b (word b m c 0) && not (eqb (table_for b m (parent b m c) (word b m c 0)) 0) && child_at b m (parent b m c) (word b m c 0)
      && eqb (child_of b m (parent b m c) (word b m c 0)) c

  -- "current is in it": up by the parents' words, as far as the root; n is how many steps are left
  unfoldable pub under : ℕ → ℕ → Bool
  under zero c = eqb c 1
  under (suc n) c = let rest = under n (parent b m c) in eqb c 1 || (placed c && rest)

  unfoldable pub sound_test : Bool
  sound_test =
      header_test && root_test && judged (W.judge (children b m) own ok most_depth (W.clear (pages b m)) 1) && under most_depth (current b m)
