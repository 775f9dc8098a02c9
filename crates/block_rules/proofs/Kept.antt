-- Slots and entries keep their sentences where slots, entries and the current partition alone change, and their own words stay. Assumes nothing.
use mathlib.Core.Path.{◌≡◌, refl, sym, ap, ◌∙◌}
use mathlib.Core.List.{List}
use mathlib.Core.Logic.{◌≢◌}
use Prim.Native.Nat.{ℕ, ◌<◌}
use native.Mathlib.Omega.{arith}
use Rattle.block_memory.specs.Partition.{root, current, Partition, entry, Has, used, child, link, previous, next, place}
use Rattle.block_memory.specs.Bytes.{Live}
use Rattle.block_memory.specs.Sound.{Sound, Entries, Slot, Source}
use Rattle.block_soundness.proofs.Blocks.{used_as, number-some}
use Rattle.block_soundness.proofs.Up.{up}
use Rattle.block_soundness.proofs.Child.{lends}
use Rattle.block_rules.proofs.Frame.{Frame}
use Rattle.block_rules.proofs.EntryWrite.{SameFields}
use Rattle.block_rules.proofs.Disabled.{FewerEntries}
use Rattle.block_rules.proofs.Stays.{Same, SameAll, FirstStays, LaterStays, Was, Words8, Named, SourceStays, Beside}
use Rattle.block_rules.proofs.Keep.{Front, Back}
use Rattle.block_rules.proofs.SlotStays.{beside-on, source-on, front-on, back_on, slot-behind, still-on}
use Rattle.block_rules.proofs.Grown.{KernelStays, words8, names}
use Rattle.block_rules.proofs.Framed.{grown, framed}

module _ (m m' : List ℕ) (s : Sound m) (f : Frame m m') (kernel : KernelStays m m') where
  eight : {d n : ℕ} → Live m d n → Words8 m m' d
  eight {d} l = words8 m m' s (grown m m' s f) d l.partition

  names-stay : {d n : ℕ} → Live m d n → FirstStays m m' d n → Named m m' d n
  names-stay {d} {n} l first = names m m' s (grown m m' s f) kernel d n l first

  module _ {d n : ℕ} (l : Live m d n) (o : ℕ) (sources : Was m m' d o n 6) (lent : SourceStays m m' d n) where
    pub source_stays : Was m m' d o n 2 → Source m' d o
    source_stays = source-on m m' s f.size l (eight l) o sources lent

    pub front-stays : o ≡ n → Was m m' d o n 0 → Was m m' d o n 7 → (previous m d n ≢ 0 → next m' d (previous m d n) ≡ o) → Front m' d o
    front-stays = front-on m m' s f.size l (eight l) o sources lent

    pub back-stays : Was m m' d o n 1 → Was m m' d o n 2 → Was m m' d o n 8
        → (next m d n ≢ 0 → (previous m' d (next m d n) ≡ o) × Same m m' d (next m d n) 0 × Same m m' d (next m d n) 2 × Same m m' d (next m d n) 6)
        → Back m' d o
    back-stays = back_on m m' s f.size l (eight l) o sources lent

  -- a slot whose words all stay
  pub unwritten_stays : (d n : ℕ) → Partition m d → Has m d n → SameAll m m' d n
      → ((l : Live m d n) → FirstStays m m' d n × SourceStays m m' d n × Beside m m' d n) → Slot m' d n
  unwritten_stays d n p h same by = still-on m m' s f.size d n p h (words8 m m' s (grown m m' s f) d p) same (λ l.
      let (first, lent, beside) = by l in
      (names-stay l first, lent, beside))

  -- a block whose own words stay, but maybe for previous
  pub behind-stays : {d n : ℕ} → Live m d n → ((g : ℕ) → g < 9 → g ≢ 7 → Same m m' d n g) → FirstStays m m' d n → SourceStays m m' d n
      → Front m' d n → LaterStays m m' d n → Slot m' d n
  behind-stays l same first lent front later = slot-behind m m' s f.size l (eight l) same (names-stay l first) lent front later

-- the child that a lent block names is a partition, and the first piece is its block
pub lent-child : (m : List ℕ) (s : Sound m) (d n : ℕ) → Live m d n → used m d n ≡ 2 → Partition m (place m d (child m d n))
lent-child m s d n l e = (lends m s l e).kid.listed

pub first_piece : (m : List ℕ) (s : Sound m) (d n : ℕ) → Live m d n → used m d n ≡ 2 → Live m (place m d (child m d n)) (link m d n)
first_piece m s d n l e = (lends m s l e).first

-- entries that are 0 or as they were, of blocks that are in hand
pub entries-kept : (m m' : List ℕ) → Sound m → (d : ℕ) → Partition m d → ((e : ℕ) → entry m' d e ≢ 0 → entry m' d e ≡ entry m d e)
    → ((n : ℕ) → used m d n ≡ 1 → (e : ℕ) → n ≡ entry m' d e → used m' d n ≡ 1) → Entries m' d
entries-kept m m' s d p h hand = record {
  in_hand = λ e z. let q = h e z in hand (entry m' d e) (ap (used m d) q ∙ (s.entries d p).in_hand e (λ w. z (q ∙ w))) e refl;
  once = λ e k z q. let a = h e z in let b = h k (λ w. z (q ∙ w)) in (s.entries d p).once e k (λ w. z (a ∙ w)) (sym a ∙ q ∙ b);
}

-- no field changes at all
module _ (m m' : List ℕ) (s : Sound m) (f : Frame m m') (same : SameFields m m') where
  all_stay : KernelStays m m'
  all_stay d n g l a b = same d n g l.partition (omega arith)

  slots : (d n : ℕ) → Partition m d → Has m d n → Slot m' d n
  slots d n p h = unwritten_stays m m' s f all_stay d n p h (λ g i. same d n g p i) (λ l. (
    (λ e. let t = lent-child m s d n l e in (same _ _ 6 t (omega arith), same _ _ 7 t (omega arith))),
    (λ e g i. same _ _ g (up m s l e).alive.partition (omega arith)),
    beside-on m m' s f.size l (λ o b g i a. same d o g p i),
  ))

  pub fields-stay : Partition m (current m') → ((d : ℕ) → Partition m d → Entries m' d) → Sound m'
  fields-stay c en =
      let r = s.table.root_listed in
      let o = (s.structures (root m) r).of_root refl in
      framed m m' s f all_stay c (λ z. o.block (sym (same (root m) 8 3 r (omega arith)) ∙ z)) (same (root m) 8 7 r (omega arith) ∙ o.first) en slots

  pub fewer-entries : (d : ℕ) → Partition m d → ((e : ℕ) → entry m' d e ≢ 0 → entry m' d e ≡ entry m d e) → Entries m' d
  fewer-entries d p h = entries-kept m m' s d p h (λ n u e q. same d n 3 p (omega arith) ∙ u)

  pub fewer-sound : Partition m (current m') → FewerEntries m m' → Sound m'
  fewer-sound c h = fields-stay c (λ d p. fewer-entries d p (λ e z. h d e p z))

-- entries where block b of d is no longer enabled, and every other block in hand stays in hand
pub entries-off : (m m' : List ℕ) (s : Sound m) (d b : ℕ) → Live m d b → FewerEntries m m' → ((e : ℕ) → entry m' d e ≢ 0 → entry m' d e ≢ b)
    → ((u o : ℕ) → Live m u o → used m u o ≡ 1 → ¬ ((u ≡ d) × (o ≡ b)) → used m' u o ≡ 1) → (u : ℕ) → Partition m u → Entries m' u
entries-off m m' s d b l fewer off hand u v = entries-kept m m' s u v (λ e z. fewer u e v z) (λ o x e w.
    hand u o (used_as v x) x (λ (y, z).
    let f : entry m' d e ≡ b = ap (λ (a : ℕ). entry m' a e) (sym y) ∙ sym w ∙ z in
    off e (λ g. omega (arith, g, f, number-some m s l)) f))
