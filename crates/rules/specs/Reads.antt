-- What a call reads: its refusals and its answer come from the caller's words, its children's, those of the pages that it maps and how deep it is, and
-- from nothing else in memory; but for a resume of the parent's slot, which reads the parent's slot page. Proved in proofs/steps/Reading. Assumes nothing.
use Rattle.std.specs.Prelude.{◌≡◌, ◌≢◌, List, false, ℕ, ◌+◌, ◌*◌, ◌≤◌, ◌<◌}
use Rattle.std.proofs.Math.Option.{none, some}
use Rattle.memory.specs.Geometry.{page_words, address_end, page_of, most_depth}
use Rattle.memory.specs.Words as Words
use Rattle.memory.specs.Words.{word}
use Rattle.memory.specs.Partition as P
use Rattle.memory.specs.Partition.{current, table_for}
use Rattle.memory.specs.Contexts.{to_child_slot, slot_page}
use Rattle.memory.specs.Contexts as S
use Rattle.rules.specs.Row.{first}
use Rattle.rules.specs.Call.{Call, choice, resumption}
use Rattle.rules.specs.Moves as Moves
use Rattle.rules.specs.Conditions as C
use Rattle.rules.specs.Conditions.{bad_page, child, toward}
use Rattle.rules.specs.Calls.{answer, context}

module _ (b : ℕ) (m n : List ℕ) where
  -- partition d of m and partition e of n have the same words: each for all addresses v
  pub record SameTables (d e : ℕ) : Type 0 where
    pub table : (v : ℕ) → v < address_end b → table_for b m d v ≡ table_for b n e v
    pub mapping : (v : ℕ) → v < address_end b → P.mapping b m d v ≡ P.mapping b n e v
    pub lent : (v : ℕ) → v < address_end b → P.lent b m d v ≡ P.lent b n e v

  -- and their slot pages are in hand in both or in neither, with the same words
  pub record SameSlots (d e : ℕ) : Type 0 where
    pub no_slots : S.no_slots b m d ≡ S.no_slots b n e
    pub words : S.no_slots b m d ≡ false → (i : ℕ) → i < page_words b → word b m (slot_page b m d) i ≡ word b n (slot_page b n e) i

  -- a child of the caller, d in m and e in n: besides its shadow 2 words, its list up to the first free word, its page tables, and its slots
  pub record SameChild (d e : ℕ) : Type 0 where
    pub tables : SameTables d e
    pub slots : SameSlots d e
    pub above : (v : ℕ) → v < address_end b → P.above b m d v ≡ P.above b n e v
    pub threes : P.threes b m d ≡ P.threes b n e
    pub list : (i : ℕ) → i ≤ 1 + 6 * P.threes b m d → word b m (P.list b m d) i ≡ word b n (P.list b n e) i
    pub page : (v : ℕ) → v < address_end b → table_for b m d v ≢ 0
        → Words.page b m (page_of b (table_for b m d v)) ≡ Words.page b n (page_of b (table_for b n e v))

  pub record SameRead : Type 0 where
    pub damaged : C.damaged b m ≡ C.damaged b n
    pub caller : SameTables (current b m) (current b n)
    pub slots : SameSlots (current b m) (current b n)
    pub parent : P.parent b m (current b m) ≡ P.parent b n (current b n)
    pub depth : Moves.depth b most_depth m (current b m) ≡ Moves.depth b most_depth n (current b n)
    -- a page that the caller maps
    pub page : (v : ℕ) → v < address_end b → P.mapping b m (current b m) v ≢ 0 → (i : ℕ) → i < page_words b
        → word b m (page_of b (P.mapping b m (current b m) v)) i ≡ word b n (page_of b (P.mapping b n (current b n) v)) i
    pub children : (c : ℕ) → bad_page b c ≡ false → P.lent b m (current b m) c ≡ 1 → SameChild (child b m c) (child b n c)

  -- a resume of the parent's slot 2 that nothing refuses before the parent's slot page is asked for
  pub record AsksParent (c : Call) : Type 0 where
    pub resumes : resumption c ≡ some (0, to_child_slot)
    pub passes : first (toward b m 0) ≡ 0

  -- what such a call reads besides
  abbrev pub SameParent : Call → Type 0
  SameParent c = AsksParent c → SameSlots (P.parent b m (current b m)) (P.parent b n (current b n))

-- of every index width, every call but format, which reads the length alone: its answer, and the words that a resume answers beside
abbrev pub Reads : Type 0
Reads =
    (b : ℕ) (m n : List ℕ) → SameRead b m n → (c : Call) → choice c ≡ none → SameParent b m n c
    → (answer b m c ≡ answer b n c) × (context b m c ≡ context b n c)
