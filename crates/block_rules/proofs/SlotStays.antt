-- Sound memory and another of its length: a slot keeps sentences 6 to 9 where the words that these look at stay. Assumes nothing.
use mathlib.Core.Path.{◌≡◌, refl, sym, ◌∙◌}
use mathlib.Core.List.{List}
use mathlib.Core.Logic.{◌≢◌}
use Prim.Native.Nat.{ℕ, ◌≤◌, ◌<◌}
use native.Mathlib.Omega.{arith}
use native.Mathlib.Decide.{ℕ_discrete}
use lib.ListN.{length}
use Rattle.block_memory.specs.Partition.{Partition, Has, used, child, link, previous, next}
use Rattle.block_memory.specs.Bytes.{Live}
use Rattle.block_memory.specs.Sound.{Sound, Slot, Use, Source, Pieces}
use Rattle.block_soundness.proofs.Blocks.{block, before, after}
use Rattle.block_rules.proofs.Stays.{Same, SameAll, SameButUse, Was, Words8, parent-on, number-on}
use Rattle.block_rules.proofs.Stays.{Named, SourceStays, PriorStays, LaterStays, later-from, Beside}
use Rattle.block_rules.proofs.Keep.{Front, Back, pieces_of, block-slot, wiped-slot, form-kept, use_kept, source-from, front-from, back_from}
use Rattle.block_rules.proofs.Uses.{in-hand}

module _ (m m' : List ℕ) (s : Sound m) (size : length m' ≡ length m) where
  module _ {d n : ℕ} (l : Live m d n) where
    module _ (w : Words8 m m' d) (o : ℕ) (sources : Was m m' d o n 6) (lent : SourceStays m m' d n) where
      pub source-on : Was m m' d o n 2 → Source m' d o
      source-on a = source-from m m' d o n size sources (parent-on m m' d w) (number-on m m' d w) a
          (λ z. (lent z 2 (omega arith), lent z 3 (omega arith), lent z 4 (omega arith))) (block m s l).sources

      pub front-on : o ≡ n → Was m m' d o n 0 → Was m m' d o n 7 → (previous m d n ≢ 0 → next m' d (previous m d n) ≡ o) → Front m' d o
      front-on e a b prior = front-from m m' d o n size sources (parent-on m m' d w) a b e
          (λ z. (lent z 0 (omega arith), lent z 5 (omega arith))) prior (block m s l).pieces

      pub back_on : Was m m' d o n 1 → Was m m' d o n 2 → Was m m' d o n 8
          → (next m d n ≢ 0 → (previous m' d (next m d n) ≡ o) × Same m m' d (next m d n) 0 × Same m m' d (next m d n) 2 × Same m m' d (next m d n) 6)
          → Back m' d o
      back_on a b c later = back_from m m' d o n size sources (parent-on m m' d w) a b c (λ z. lent z 1 (omega arith)) later (block m s l).pieces

    -- the pieces before and after, where all blocks of d keep all words but use, child and link
    pub beside-on : ((o : ℕ) → Live m d o → SameButUse m m' d o) → Beside m m' d n
    beside-on same = record {
      prior = λ z. same _ (before m s l z).alive 8 (omega arith) (omega arith);
      later = later-from m m' d n (λ z g (i, j, h). same _ (after m s l z) g (omega arith) h);
    }

    -- where words 0, 1, 2, 6 and 8 stay
    module _ (w : Words8 m m' d) (same : (g : ℕ) → (g < 9) × ¬ ((3 ≤ g) × (g < 6)) × (g ≢ 7) → Same m m' d n g) (lent : SourceStays m m' d n) where
      source_of : Source m' d n
      source_of = source-on w n (same 6 (omega arith)) lent (same 2 (omega arith))

      front_of : Same m m' d n 7 → PriorStays m m' d n → Front m' d n
      front_of e prior = front-on w n (same 6 (omega arith)) lent refl (same 0 (omega arith)) e
          (λ z. prior z ∙ (block m s l).pieces.later z)

      back_of : LaterStays m m' d n → Back m' d n
      back_of later = back_on w n (same 6 (omega arith)) lent (same 1 (omega arith))
          (same 2 (omega arith)) (same 8 (omega arith))
          (λ z. let (a, b, c, e) = later z in (e ∙ ((block m s l).pieces.more z).back, a, b, c))

    -- sentences 8 and 9 of a block whose words 0, 1, 2, 6, 7 and 8 stay
    pieces-on : Words8 m m' d → SameButUse m m' d n → SourceStays m m' d n → Beside m m' d n → Source m' d n × Pieces m' d n
    pieces-on w same lent by =
        let k : (g : ℕ) → (g < 9) × ¬ ((3 ≤ g) × (g < 6)) × (g ≢ 7) → Same m m' d n g = λ g (i, a, b). same g i a in
        (source_of w k lent, pieces_of (front_of w k lent (same 7 (omega arith) (omega arith)) by.prior) (back_of w k lent by.later))

    -- a block whose own words stay, but maybe for previous
    pub slot-behind : Words8 m m' d → ((g : ℕ) → g < 9 → g ≢ 7 → Same m m' d n g) → Named m m' d n → SourceStays m m' d n → Front m' d n → LaterStays m m' d n
        → Slot m' d n
    slot-behind w same names lent front later =
        let k : (g : ℕ) → (g < 9) × ¬ ((3 ≤ g) × (g < 6)) × (g ≢ 7) → Same m m' d n g = λ g (i, a, b). same g i b in
        let e0 = same 0 (omega arith) (omega arith) in
        let e1 = same 1 (omega arith) (omega arith) in
        let e3 = same 3 (omega arith) (omega arith) in
        block-slot (λ z. l.block (sym e3 ∙ z)) (record {
          form = form-kept m m' size e0 e1 (same 2 (omega arith) (omega arith)) e3 (block m s l).form;
          uses = use_kept m m' (λ g i. same g (omega arith) (omega arith)) names (block m s l).uses;
          sources = source_of w k lent;
          pieces = pieces_of front (back_of w k lent later);
        })

    -- a block whose own words all stay
    pub slot-on : Words8 m m' d → SameAll m m' d n → Named m m' d n → SourceStays m m' d n → Beside m m' d n → Slot m' d n
    slot-on w same names lent by =
        slot-behind w (λ g i a. same g i) names lent (front_of w (λ g (i, a, b). same g i) lent (same 7 (omega arith)) by.prior) by.later

    -- a block of whose own words only use, child and link change, as where it is taken or given back
    pub turned : Words8 m m' d → SameButUse m m' d n → used m' d n ≢ 0 → used m' d n ≤ 4 → Use m' d n → SourceStays m m' d n
        → Beside m m' d n → Slot m' d n
    turned w same some known uses lent by =
        let x = pieces-on w same lent by in
        let o = (block m s l).form in
        let e1 = same 1 (omega arith) (omega arith) in
        block-slot some (record {
          form = record {
            long = omega (arith, same 0 (omega arith) (omega arith), e1, o.long);
            inside = omega (arith, e1, o.inside, size);
            few_rights = omega (arith, same 2 (omega arith) (omega arith), o.few_rights);
            known = known;
          };
          uses = uses;
          sources = x.0;
          pieces = x.1;
        })

    -- .. is given back
    pub given_back : Words8 m m' d → SameButUse m m' d n → used m' d n ≡ 1 → child m' d n ≡ 0 → link m' d n ≡ 0
        → SourceStays m m' d n → Beside m m' d n → Slot m' d n
    given_back w same hand no_child no_link lent by =
        turned w same (λ z. omega (arith, z, hand)) (omega (arith, hand)) (in-hand hand (record { no_child = no_child; no_link = no_link })) lent by

  -- a free slot
  pub free_on : (d n : ℕ) → Partition m d → Has m d n → used m d n ≡ 0 → SameAll m m' d n → Slot m' d n
  free_on d n p h e same = wiped-slot (λ g i. same g i ∙ (s.slots d n p h).free e g i)

  -- a slot whose nine words stay, free or a block
  pub still-on : (d n : ℕ) → Partition m d → Has m d n → Words8 m m' d → SameAll m m' d n
      → ((l : Live m d n) → Named m m' d n × SourceStays m m' d n × Beside m m' d n) → Slot m' d n
  still-on d n p h w same by = elim (ℕ_discrete (used m d n) 0) [
    | yes z ↦ free_on d n p h z same
    | no z ↦
        let l : Live m d n = record { partition = p; block = z } in
        let (k, lent, beside) = by l in
        slot-on l w same k lent beside
  ]
