-- "A neighbour's patient" (document 02, L11): what a partition and those below it are answered, and each word that they see, depends on nothing else.
-- Assumes nothing.
use Rattle.std.specs.Prelude.{◌≡◌, ◌≢◌, List, [], ◌∷◌, ◌++◌, ℕ, ◌<◌}
use Rattle.std.proofs.Math.Option.{none, some}
use Rattle.memory.specs.Geometry.{page_words}
use Rattle.memory.specs.Edition
use Rattle.memory.specs.Edition.{width}
use Rattle.memory.specs.Words.{word, put}
use Rattle.memory.specs.Partition.{pages, current}
use Rattle.memory.specs.Tree.{Child, InTree}
use Rattle.memory.specs.Uses.{Way, in_hand, KernelWay, UsedBy, Use}
use Rattle.memory.specs.Sound.{Sound}
use Rattle.memory.specs.Contexts.{to_child_slot}
use Rattle.rules.specs.Call.{Call, choice, resumption}
use Rattle.rules.specs.Editions.{answer, context, after}
use Rattle.claim.specs.Kept.{Maps}

-- ---- what B sees, in memory m of index width b

module _ (b : ℕ) (m : List ℕ) (B : ℕ) where
  -- d is "B or one below B"
  pub data Within : ℕ → Type 0 where
    itself : Within B
    below : {d v c : ℕ} → Within d → Child b m d v c → Within c

  -- p is one of "B's and its descendants' kernel pages and of the pages mapped in B"
  pub data Shown : ℕ → Type 0 where
    kernel : {d p : ℕ} (w : Way) → Within d → KernelWay w → UsedBy b m d w p → Shown p
    mapped : {p : ℕ} → Maps b m B p → Shown p

-- m and n are "equal in every word of" the pages S
abbrev pub EqualOn : ℕ → (ℕ → Type 0) → List ℕ → List ℕ → Type 0
EqualOn b S m n = (p : ℕ) → S p → (i : ℕ) → i < page_words b → word b m p i ≡ word b n p i

-- ---- the premises

-- "Take two sound memories with the same edition, page count and partition B current at the same depth, equal in every word of B's and its
-- descendants' kernel pages and of the pages mapped in B. All else may differ."
pub record Alike (B : ℕ) (m n : List ℕ) : Type 0 where
  pub sound₁ : Sound (width m) m
  pub sound₂ : Sound (width n) n
  pub edition : Edition.edition m ≡ Edition.edition n
  pub count : pages (width m) m ≡ pages (width n) n
  pub current₁ : current (width m) m ≡ B
  pub current₂ : current (width n) n ≡ B
  pub depth : ℕ
  pub depth₁ : InTree (width m) m depth B
  pub depth₂ : InTree (width n) n depth B
  pub words : EqualOn (width m) (Shown (width m) m B) m n

-- "format left out, as long as no call .. makes a partition other than B or one below B current"
abbrev pub Stays : ℕ → List ℕ → List Call → Type 0
Stays B m [] = Unit {0}
Stays B m (c ∷ cs) = let m₁ = after m c in (choice c ≡ none) × Within (width m₁) m₁ B (current (width m₁) m₁) × Stays B m₁ cs

-- ---- the promise

-- "Run the same calls in both .. Each answer is equal, refusals too, and so are those same pages' words after each call." The words that a resume answers
-- (document 02, L8) are part of its answer.
abbrev pub Equal : ℕ → (ℕ → Type 0) → List ℕ → List ℕ → List Call → Type 0
Equal b S m n [] = Unit {0}
Equal b S m n (c ∷ cs) =
    (answer m c ≡ answer n c) × (context m c ≡ context n c) × EqualOn b S (after m c) (after n c) × Equal b S (after m c) (after n c) cs

-- c is no resume of the parent's slot by B itself: that reads the parent's slot page, which B need not be shown
abbrev pub Apart : ℕ → List ℕ → Call → Type 0
Apart B m c = current (width m) m ≡ B → resumption c ≢ some (0, to_child_slot)

abbrev pub AllApart : ℕ → List ℕ → List Call → Type 0
AllApart B m [] = Unit {0}
AllApart B m (c ∷ cs) = Apart B m c × AllApart B (after m c) cs

-- "those same pages" are the ones that B is shown in m at the start
pub record Neighbours : Type 0 where
  pub equal : (B : ℕ) (m n : List ℕ) → Alike B m n → (cs : List Call) → Stays B m cs → Stays B n cs → Equal (width m) (Shown (width m) m B) m n cs
  -- the document asks that B or one below it stays current "in either". But for resumes of the parent's slot by B what is so in one run is so in the
  -- other; such a resume may be refused in one and make the parent current in the other.
  pub either : (B : ℕ) (m n : List ℕ) → Alike B m n → (cs : List Call) → Stays B m cs → AllApart B m cs → Stays B n cs
  -- and one more call, which may make another partition current, is answered alike, too
  pub leaving : (B : ℕ) (m n : List ℕ) → Alike B m n → (cs : List Call) → Stays B m cs → (c : Call) → choice c ≡ none → AllApart B m (cs ++ (c ∷ []))
      → Equal (width m) (Shown (width m) m B) m n (cs ++ (c ∷ []))

-- ---- "All else may differ."

-- q is a page in the hand of a partition that is neither the current one nor below it: any of its words may be any other
abbrev pub Unseen : Type 0
Unseen =
    (m : List ℕ) → Sound (width m) m → (q : ℕ) (u : Use (width m) m q) (v : ℕ) → u.way ≡ in_hand v → ¬ Within (width m) m (current (width m) m) u.part →
    (i x : ℕ) → i < page_words (width m) → Alike (current (width m) m) m (put (width m) m q i x)
