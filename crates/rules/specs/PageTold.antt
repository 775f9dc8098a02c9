-- What mapped_in_child tells of a page on sound memory: document 02, L2. Proved in proofs/steps/MappedInChild. Assumes nothing.
use Rattle.std.specs.Prelude.{◌≡◌, ◌≢◌, ◌↔◌, List, true, false, ℕ}
use Rattle.memory.specs.Edition.{width}
use Rattle.memory.specs.Partition as P
use Rattle.memory.specs.Partition.{current, mapping, above}
use Rattle.memory.specs.Tree.{Has, Child}
use Rattle.memory.specs.Sound.{Sound, Lent, KernelAddress}
use Rattle.rules.specs.Refusal.{number, UNMAPPED, KERNEL}
use Rattle.rules.specs.Row.{ok, no}
use Rattle.rules.specs.Call.{mapped_in_child}
use Rattle.rules.specs.Conditions.{bad_page}
use Rattle.rules.specs.Calls.{answer}

-- how a partition has a page: four ways, which are mappedInChild's four outcomes
pub data Holding : Type 0 where
  absent in_hand lent serving : Holding

module _ (b : ℕ) (m : List ℕ) (p : ℕ) where
  -- "a page that serves as a child's kernel page": p is the address of a kernel page of one of the caller's children
  pub record Serving : Type 0 where
    pub at : ℕ
    pub child : ℕ
    pub stands : Child b m (current b m) at child
    pub kernel : KernelAddress b m child p

  -- the answer is the address of the child that has the page from p among its own, at the address target
  pub record AnswersChild : Type 0 where
    pub at : ℕ
    pub child : ℕ
    pub stands : Child b m (current b m) at child
    pub target : ℕ
    pub has : Has b m child target
    pub mapped : mapping b m child target ≢ 0
    pub from : above b m child target ≡ p
    pub answered : answer b m (mapped_in_child p) ≡ ok at

  -- how the caller has the page at p
  abbrev pub Is : Holding → Type 0
  Is absent = mapping b m (current b m) p ≡ 0
  Is in_hand = P.in_hand b m (current b m) p ≡ true
  Is lent = Lent b m (current b m) p
  Is serving = Serving

  -- how mapped_in_child answers
  abbrev pub Says : Holding → Type 0
  Says absent = answer b m (mapped_in_child p) ≡ no (number UNMAPPED)
  Says in_hand = answer b m (mapped_in_child p) ≡ ok 0
  Says lent = AnswersChild
  Says serving = answer b m (mapped_in_child p) ≡ no (number KERNEL)

  pub record PageTold : Type 0 where
    -- "0 then means exactly that the page is in hand"; "such a page .. is refused with 16"; "A lent page answers as before even where inaccessible"
    pub exact : (h : Holding) → Says h ↔ Is h
    -- they share out the page addresses: one of them is the page's, and no other
    pub one : (h : Holding) × Is h × ((n : Holding) → Is n → n ≡ h)

-- on sound memory of every edition, for every page address: one that refusal 3 lets pass
abbrev pub EveryPage : Type 0
EveryPage = (m : List ℕ) → Sound (width m) m → (p : ℕ) → bad_page (width m) p ≡ false → PageTold (width m) m p
