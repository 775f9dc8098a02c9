-- Several writes to slots, one after another, and blocks disabled in between: what changes in sum. Assumes nothing.
use mathlib.Core.Path.{◌≡◌, refl, sym, ◌∙◌}
use mathlib.Core.List.{List}
use mathlib.Core.Logic.{◌≢◌}
use Prim.Native.Nat.{ℕ, ◌+◌, ◌/◌, ◌≤◌, ◌<◌}
use lib.ListN.{length, get_or}
use Rattle.block_memory.specs.Partition.{current, Partition, entry, Has, field, put_slot}
use Rattle.block_rules.specs.Effects.{disable}
use Rattle.block_rules.proofs.Frame.{Placed, Frame, frame_self, frame_then, structure-stays, placed-kept, to}
use Rattle.block_rules.proofs.SlotWrite.{Unwritten, slot-put}
use Rattle.block_rules.proofs.Disabled.{FewerEntries, fewer, disabled}

pub record Trail (m m' : List ℕ) : Type 0 where
  pub placed : Placed m'
  pub frame : Frame m m'
  pub now : current m' ≡ current m
  pub entries : FewerEntries m m'

pub trail : (m : List ℕ) → Placed m → Trail m m
trail m p = record { placed = p; frame = frame_self m; now = refl; entries = λ t e v z. refl }

here : {m m₁ : List ℕ} {d : ℕ} → Placed m → Trail m m₁ → Partition m d → Partition m₁ d
here {m} {m₁} q a h = to m m₁ q.permits a.frame h

then : {m m₁ m₂ : List ℕ} → Placed m → Trail m m₁ → Frame m₁ m₂ → current m₂ ≡ current m₁ → FewerEntries m₁ m₂ → Trail m m₂
then {m} {m₁} {m₂} q a f now few = record {
  placed = placed-kept m₁ m₂ a.placed f;
  frame = frame_then m m₁ m₂ q.permits a.frame f;
  now = now ∙ a.now;
  entries = λ t e v z. let w = few t e (here q a v) z in w ∙ a.entries t e v (λ y. z (w ∙ y));
}

-- after m₁, on the way from m, the words ws written to slot n of d from its word f on
pub record Wrote (m m₁ : List ℕ) (d n f : ℕ) (ws : List ℕ) : Type 0 where
  pub trail : Trail m (put_slot m₁ d n f ws)
  pub others : (t o g : ℕ) → Partition m t → g < 9 → Unwritten d n f ws t o g → field (put_slot m₁ d n f ws) t o g ≡ field m₁ t o g
  pub at : Has m d n → (t : ℕ) → t < length ws → field (put_slot m₁ d n f ws) d n (f + t) ≡ get_or ws t 0
  pub entries : (t e : ℕ) → Partition m t → entry (put_slot m₁ d n f ws) t e ≡ entry m₁ t e

pub wrote : {m m₁ : List ℕ} {d n f : ℕ} {ws : List ℕ} → Placed m → Trail m m₁ → Partition m d → f + length ws ≤ 9 → Wrote m m₁ d n f ws
wrote {m} {m₁} {d} {n} {f} {ws} q a h fits =
    let x = slot-put m₁ a.placed d n f ws (here q a h) fits in
    record {
      trail = then q a x.frame x.now (λ t e v z. x.entries t e v);
      others = λ t o g v. x.others t o g (here q a v);
      at = λ z. x.at (λ y. z (sym (structure-stays m m₁ q.permits a.frame d (n / 8) h) ∙ y));
      entries = λ t e v. x.entries t e (here q a v);
    }

-- .. block n of d disabled
pub record Off (m m₁ : List ℕ) (d n : ℕ) : Type 0 where
  pub trail : Trail m (disable m₁ d n)
  pub fields : (t o g : ℕ) → Partition m t → g < 9 → field (disable m₁ d n) t o g ≡ field m₁ t o g
  pub entries : (e : ℕ) → entry (disable m₁ d n) d e ≢ 0 → entry (disable m₁ d n) d e ≢ n

pub off : {m m₁ : List ℕ} {d n : ℕ} → Placed m → Trail m m₁ → Partition m d → Off m m₁ d n
off {m} {m₁} {d} {n} q a h =
    let (x, none) = disabled d n m₁ a.placed (here q a h) in
    record {
      trail = then q a x.frame x.now (fewer x);
      fields = λ t o g v. x.fields t o g (here q a v);
      entries = none;
    }
