-- The conditions under which a refusal is given, each with the words of "When the kernel says no". Assumes nothing.
use Rattle.std.specs.Prelude.{List, [], ◌∷◌, ◌++◌, Bool, false, cond, not, ◌&&◌, ◌||◌, ℕ, ◌*◌, ◌/◌, ◌%◌, leb, ltb, eqb, length}
use Rattle.walk.specs.Finite.{any}
use Rattle.memory.specs.Geometry.{widths, width_of, edition_of, page_words, page_bytes, address_end, page_of, least_pages, most_pages, most_threes, most_depth}
use Rattle.memory.specs.Words.{word, page}
use Rattle.memory.specs.Entry.{accessible, holds}
use Rattle.memory.specs.Partition.{current, parent, threes, table_for, mapping, lent, in_hand}
use Rattle.memory.specs.Contexts.{most_slot, to_child_slot, valid}
use Rattle.soundness.specs.Test.{sound_test}
use Rattle.rules.specs.Refusal.{DAMAGED, ADDRESS, CHILD, RIGHTS, HAND, CHAIN, ROOT, EDITION}
use Rattle.rules.specs.Row.{Check, ◌when◌}
use Rattle.rules.specs.Moves.{depth}

-- 4: "two of the five equal"
abbrev pub twice : List ℕ → Bool
twice [] = false
twice (x ∷ xs) = any (eqb x) xs || twice xs

-- 21: "a slot number above 3 or not allowed": "a child only slot 2 of its parent"
abbrev pub bad_slot : ℕ → ℕ → Bool
bad_slot t s = ltb most_slot s || (eqb t 0 && not (eqb s to_child_slot))

module _ (b : ℕ) where
  -- 1: "memory not sound" (sound_test decides Sound: the crate soundness, Whole.antt, sound?)
  abbrev pub damaged : List ℕ → Bool
  damaged m = not (sound_test b m)

  -- 2: "length isn't 64N with N 16 to 256"
  abbrev pub pages_in : List ℕ → ℕ
  pages_in m = length m / page_words b

  abbrev pub wrong_size : List ℕ → Bool
  wrong_size m = not (eqb (length m) (pages_in m * page_words b)) || ltb (pages_in m) least_pages || ltb (most_pages b) (pages_in m)

  -- 3: "≥ 2^20, on page 0, or not a multiple of 256 (load, store: of 4)"
  abbrev pub bad_address : ℕ → ℕ → Bool
  bad_address unit a = leb (address_end b) a || ltb a (page_bytes b) || not (eqb (a % unit) 0)

  abbrev pub bad_page : ℕ → Bool
  bad_page = bad_address (page_bytes b)

  -- ---- of the memory m, whose current partition is the caller

  -- 5: "the caller's shadow 1 word there isn't 1"
  abbrev pub no_child : List ℕ → ℕ → Bool
  no_child m c = not (eqb (lent b m (current b m) c) 1)

  -- the child that stands at c
  abbrev pub child : List ℕ → ℕ → ℕ
  child m c = page_of b (mapping b m (current b m) c)

  -- 6: "right not held"
  abbrev pub lacks : ℕ → List ℕ → ℕ → Bool
  lacks r m v = not (holds r (mapping b m (current b m) v))

  -- 7: "page not in the caller's hand"
  abbrev pub not_in_hand : List ℕ → ℕ → Bool
  not_in_hand m v = not (in_hand b m (current b m) v)

  -- 8: "the child has no three for target", the child d and the target v
  abbrev pub no_three : List ℕ → ℕ → ℕ → Bool
  no_three m d v = eqb (table_for b m d v) 0

  -- 9: "target mapped", and 15: "no mapping there"
  abbrev pub unmapped : List ℕ → ℕ → ℕ → Bool
  unmapped m d v = eqb (mapping b m d v) 0

  abbrev pub mapped : List ℕ → ℕ → ℕ → Bool
  mapped m d v = not (unmapped m d v)

  -- 10: "three absent and 10 threes exist"
  abbrev pub list_full : List ℕ → ℕ → ℕ → Bool
  list_full m d v = no_three m d v && leb most_threes (threes b m d)

  -- 12: "page table has a mapping"
  abbrev pub any_mapping : List ℕ → ℕ → ℕ → Bool
  any_mapping m d v = any (λ w. not (eqb w 0)) (page b m (page_of b (table_for b m d v)))

  -- 13: "caller is 8 below the root"
  abbrev pub too_deep : List ℕ → Bool
  too_deep m = leb most_depth (depth b most_depth m (current b m))

  -- 14: "root leaves"
  abbrev pub at_root : List ℕ → Bool
  at_root m = eqb (parent b m (current b m)) 0

  -- 16: "mapped, not accessible"
  abbrev pub inaccessible : List ℕ → ℕ → Bool
  inaccessible m v = eqb (accessible (mapping b m (current b m) v)) 0

  -- 16, of mappedInChild: "a page that serves as a child's kernel page", "mapped, inaccessible, not lent" (document 02, L2). Shadow 1 word 1 is a
  -- child's descriptor and not a lent page.
  abbrev pub serves_child : List ℕ → ℕ → Bool
  serves_child m v = inaccessible m v && leb (lent b m (current b m) v) 1

  -- ---- the chain

  -- "word 0 of a page holds the next page's address"
  abbrev pub link : List ℕ → ℕ → ℕ
  link m v = word b m (page_of b (mapping b m (current b m) v)) 0

  -- "For each page in turn: 11, 7, 6": v is the page that a link, or the argument, leads to, and seen are those before it. 11: "link is an address
  -- that 3 would refuse (0 too) or repeats a page"; 6: "read and write for prepare"
  abbrev pub in_chain : List ℕ → List ℕ → ℕ → List Check
  in_chain m seen v = CHAIN when (bad_page v || any (eqb v) seen) ∷ HAND when not_in_hand m v ∷ RIGHTS when lacks 3 m v ∷ []

  -- "then 11 if the third's word 0 isn't 0"
  abbrev pub chain : List ℕ → ℕ → List Check
  chain m p =
      in_chain m [] p
      ++ in_chain m (p ∷ []) (link m p)
      ++ in_chain m (p ∷ link m p ∷ []) (link m (link m p))
      ++ (CHAIN when not (eqb (link m (link m (link m p))) 0) ∷ [])

  -- ---- to a child, or to the parent under address 0 (document 02, L8)

  -- the partition that the target t names
  unfoldable pub target : List ℕ → ℕ → ℕ
  target m t = cond (eqb t 0) (parent b m (current b m)) (child m t)

  -- 24: "256-byte edition only: on the other these calls answer 24, right after 1"
  abbrev pub other_edition : Bool
  other_edition = not (eqb (edition_of b) 0)

  -- 3: "its parent under address 0 (no refusal 3 here)"; 5: "for no such child"; 14: "for root's parent"
  abbrev pub bad_target : ℕ → Bool
  bad_target t = not (eqb t 0) && bad_page t

  abbrev pub no_such_child : List ℕ → ℕ → Bool
  no_such_child m t = not (eqb t 0) && no_child m t

  abbrev pub no_parent : List ℕ → ℕ → Bool
  no_parent m t = eqb t 0 && at_root m

  -- "checked 1, 3, 5 or 14": the checks that the three calls begin with
  abbrev pub toward : List ℕ → ℕ → List Check
  toward m t =
      DAMAGED when damaged m ∷ EDITION when other_edition ∷ ADDRESS when bad_target t ∷ CHILD when no_such_child m t ∷ ROOT when no_parent m t ∷ []

  -- 22: "for a child's slot not valid"
  abbrev pub empty_slot : List ℕ → ℕ → ℕ → Bool
  empty_slot m t s = not (eqb t 0) && not (valid b m (target m t) s)

-- 2, of format for edition e: "format takes the choice and any other value is refused with 2" (document 02, L4)
abbrev pub unfit : ℕ → List ℕ → Bool
unfit e m = leb (length widths) e || wrong_size (width_of e) m
