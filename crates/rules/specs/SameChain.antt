-- Demand 2: what prepare takes comes back from collect as the same chain, on every sound memory. Proved in proofs/state/Promises. Assumes nothing.
use Rattle.std.specs.Prelude.{◌≡◌, ◌≢◌, List, [], ◌∷◌, ℕ, ◌+◌, ◌*◌, ◌<◌}
use Rattle.std.proofs.Math.Option.{none}
use Rattle.memory.specs.Edition.{width}
use Rattle.memory.specs.Geometry.{page_words, page_of, directory_index}
use Rattle.memory.specs.Words.{word}
use Rattle.memory.specs.Partition.{list, threes}
use Rattle.memory.specs.Tree.{InTree}
use Rattle.memory.specs.Sound.{Stands, Sound}
use Rattle.rules.specs.Row.{ok}
use Rattle.rules.specs.Call.{Call, prepare, collect, choice}
use Rattle.rules.specs.Conditions.{child, link}
use Rattle.rules.specs.Refusals.{refusal}
use Rattle.rules.specs.Calls.{answer, after, run}

module _ (b : ℕ) where
  -- "word 0 of a page holds the next page's address, the third's is 0": v₁, v₂, v₃ are addresses in the caller
  pub record Chain (m : List ℕ) (v₁ v₂ v₃ : ℕ) : Type 0 where
    pub first : link b m v₁ ≡ v₂
    pub second : link b m v₂ ≡ v₃
    pub third : link b m v₃ ≡ 0

  -- partition d has a three at directory index i, and its list has the addresses v₁, v₂, v₃ for it, in that order
  pub record ThreeAt (m : List ℕ) (d i v₁ v₂ v₃ : ℕ) : Type 0 where
    pub fits : i < page_words b
    pub place : ℕ
    pub inside : place < threes b m d
    pub stands : Stands b m d place i
    pub first : word b m (list b m d) (1 + 6 * place) ≡ v₁
    pub second : word b m (list b m d) (3 + 6 * place) ≡ v₂
    pub third : word b m (list b m d) (5 + 6 * place) ≡ v₃

  -- a call after which the three of partition d at index i is still there: d is a partition before and after, the call is no format and no collect of
  -- that three that passes
  pub record Spares (m : List ℕ) (d i : ℕ) (x : Call) : Type 0 where
    pub before : (k : ℕ) × InTree b m k d
    pub afterwards : (k : ℕ) × InTree b (after b m x) k d
    pub no_format : choice x ≡ none
    pub no_collect : (c t : ℕ) → x ≡ collect c t → refusal b m (collect c t) ≡ 0 → child b m c ≡ d → directory_index b (page_of b t) ≢ i

  -- each of a list of calls is such a call
  abbrev pub SparesAll : List ℕ → ℕ → ℕ → List Call → Type 0
  SparesAll m d i [] = Unit {0}
  SparesAll m d i (x ∷ xs) = Spares m d i x × SparesAll (after b m x) d i xs

  -- prepare, and then collect: it passes, answers the first page, and leaves each of the three with the link that it had
  pub record SameChain (m : List ℕ) (c t p : ℕ) : Type 0 where
    pub passes : refusal b (after b m (prepare c t p)) (collect c t) ≡ 0
    pub answered : answer b (after b m (prepare c t p)) (collect c t) ≡ ok p
    pub before : Chain m p (link b m p) (link b m (link b m p))
    pub afterwards : Chain (after b (after b m (prepare c t p)) (collect c t)) p (link b m p) (link b m (link b m p))

  -- prepare, then calls that spare the three, and then a collect of it that passes: the same, whatever the calls between
  pub record SameLater (m : List ℕ) (c t p : ℕ) (cs : List Call) (c' t' : ℕ) : Type 0 where
    pub answered : answer b (run b (after b m (prepare c t p)) cs) (collect c' t') ≡ ok p
    pub afterwards : Chain (after b (run b (after b m (prepare c t p)) cs) (collect c' t')) p (link b m p) (link b m (link b m p))

-- ---- of every sound memory, by the width of its edition. None of the calls is a format, so the next call reads by that width, too: OneWidth in
-- Editions.antt

-- "Pages prepared and then collected come back in the same chain."
abbrev pub EverySameChain : Type 0
EverySameChain = (m : List ℕ) → Sound (width m) m → (c t p : ℕ) → refusal (width m) m (prepare c t p) ≡ 0 → SameChain (width m) m c t p

-- the list keeps a three's addresses in their order, whatever call spares the three
abbrev pub EveryThreeKept : Type 0
EveryThreeKept =
    (m : List ℕ) → Sound (width m) m → (d i v₁ v₂ v₃ : ℕ) → ThreeAt (width m) m d i v₁ v₂ v₃ →
    (x : Call) → Spares (width m) m d i x → ThreeAt (width m) (after (width m) m x) d i v₁ v₂ v₃

-- the collect that passes is of the same child, and its target is any address of the same directory index
abbrev pub EverySameLater : Type 0
EverySameLater =
    (m : List ℕ) → Sound (width m) m →
    let b = width m in
    (c t p : ℕ) → refusal b m (prepare c t p) ≡ 0 →
    (cs : List Call) → SparesAll b (after b m (prepare c t p)) (child b m c) (directory_index b (page_of b t)) cs →
    let m₁ = run b (after b m (prepare c t p)) cs in
    (c' t' : ℕ) → refusal b m₁ (collect c' t') ≡ 0 → child b m₁ c' ≡ child b m c → directory_index b (page_of b t') ≡ directory_index b (page_of b t)
    → SameLater b m c t p cs c' t'
