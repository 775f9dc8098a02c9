-- The two memories can differ: the words of a page in the hand of a partition that is neither B nor below it are free, and B does not see them. So B
-- and those below it are answered alike whatever those words are. Assumes nothing.
use mathlib.Core.Path.{◌≡◌, refl, sym, ap, ◌∙◌, subst}
use mathlib.Core.List.{List, [], ◌∷◌}
use mathlib.Core.Logic.{◌≢◌, ◌⊎◌, inl, inr}
use mathlib.Core.Option.{Option, none, some}
use Prim.Native.Nat.{ℕ, zero, suc, ◌≤◌, ◌<◌}
use native.Mathlib.Omega.{arith}
use lib.ListN.{length}
use Rattle.memory.specs.Edition.{edition, width}
use Rattle.memory.specs.Geometry
use Rattle.memory.specs.Geometry.{width_of}
use Rattle.memory.specs.Words as Mem
use Rattle.memory.specs.Partition
use Rattle.memory.specs.Tree.{InTree}
use Rattle.memory.specs.Uses.{Way, in_hand, KernelWay, UsedBy, Use}
use Rattle.memory.specs.Sound.{Sound}
use Rattle.memory.proofs.Editions.{wide_of, edition-known}
use Rattle.soundness.proofs.Whole.{used-inside}
use Rattle.rules.proofs.model.Base.{eqd}
use Rattle.rules.proofs.model.Words.{W, word, put, put-sized, word-put-other, twelve-lt}
use Rattle.rules.proofs.model.Abs.{hand, desc, Hop, parts, Seen, seek, Good}
use Rattle.rules.proofs.model.Facts.{not-hand, hand-header, none-some, seek_nil, seek-on}
use Rattle.rules.proofs.model.Walk.{hop-depth}
use Rattle.rules.proofs.model.Inv.{Inv}
use Rattle.rules.proofs.sound.All.{inv-sound}
use Rattle.rules.proofs.sound.Words.{mapping-there}
use Rattle.rules.proofs.sound.Tree.{in_tree-is, live_in_tree, in_tree-live, child-at}
use Rattle.rules.proofs.sound.Uses.{Holds, holds}
use Rattle.rules.proofs.steps.DelKernel.{In}
use Rattle.rules.proofs.steps.Editions.{edition-is}
use Rattle.rules.proofs.state.Tree.{room}
use Rattle.rules.proofs.state.Represented.{sound-inv}
use Rattle.claim.specs.Kept.{Maps}
use Rattle.claim.proofs.Closed
use Rattle.neighbours.specs.Neighbours.{Within, itself, below, Shown, Unseen}
use Rattle.neighbours.proofs.Twin.{shown-split}

-- a partition that a lookup finds is one of the chain's
found_in : (β : Option ℕ) (d : ℕ) (hs : List Hop) (x : Seen) → seek β d hs ≡ some x → In d (parts hs)
found_in β d [] x e = none-some (sym (seek_nil β d) ∙ e)
found_in β d (h ∷ hs) x e = go (eqd d h.part) (found_in (some h.part) d hs x)
  where
    go : Dec (d ≡ h.part) → (seek (some h.part) d hs ≡ some x → In d (parts hs)) → In d (h.part ∷ parts hs)
    go (yes q) ih = inl q
    go (no q) ih = inr (ih (sym (seek-on β d h hs q) ∙ e))

module _ {b : ℕ} (wide : 6 ≤ b) (m : List ℕ) (i : Inv b m) (B : ℕ) where
  -- B is on the way from d up to the root
  abbrev Under : ℕ → Type 0
  Under d = In B (parts (i.state.chain d))

  -- a partition on the way from d up to the root has d within it
  within_in : (n d : ℕ) → i.state.role d ≡ desc → length (i.state.chain d) ≤ n → Under d → Within b m B d
  within_in zero d l z x = go (i.state.chain d) refl x
    where
      go : (hs : List Hop) → i.state.chain d ≡ hs → In B (parts hs) → Within b m B d
      go [] e y = absurd y
      go (h ∷ hs) e y = absurd (omega (arith, ap length e))
  within_in (suc n) d l z x = go (i.state.chain d) refl x (λ e. within_in n e)
    where
      go : (hs : List Hop) → i.state.chain d ≡ hs → In B (parts hs)
          → ((e : ℕ) → i.state.role e ≡ desc → length (i.state.chain e) ≤ n → Under e → Within b m B e) → Within b m B d
      go [] e y ih = absurd y
      go (h ∷ hs) e (inl y) ih = below (subst (Within b m B) y itself) (child-at wide m i d h hs l e)
      go (h ∷ hs) e (inr y) ih =
          let g : Good b i.state d (h ∷ hs) = rw e at (i.wf.good d) in
          let less : length (i.state.chain h.part) ≤ n = omega (arith, hop-depth wide i.state d h hs g.0, ap length e) in
          below (ih h.part g.0.live less (subst (In B) g.0.above y)) (child-at wide m i d h hs l e)

  -- B maps only pages whose holder is within it
  holder-within : (d v p : ℕ) → i.state.role d ≡ desc → Holds b i.state d v p → Under p → Within b m B d
  holder-within d v p l h x = go (subst (λ (hs : List Hop). In B (parts hs)) h.is x)
    where
      g : Good b i.state p (h.hop ∷ h.rest)
      g = rw h.is at (i.wf.good p)

      go : In B (h.hop.part ∷ parts h.rest) → Within b m B d
      go (inl y) = subst (Within b m B) (y ∙ h.part) itself
      go (inr y) = within_in (length (i.state.chain d)) d l (omega arith) (subst Under h.part (subst (In B) g.0.above y))

-- word j of page q, which the partition of u has in hand at v, becomes x
module _ {b : ℕ} (wide : 6 ≤ b) (m : List ℕ) (s : Sound b m) (q : ℕ) (u : Use b m q) (v : ℕ) (h : u.way ≡ in_hand v)
    (j x : ℕ) (l : j < Geometry.page_words b) where
  abbrev i : Inv b m
  i = sound-inv wide m s

  abbrev m' : List ℕ
  m' = Mem.put b m q j x

  live : i.state.role u.part ≡ desc
  live = in_tree-live wide m i u.depth u.part u.tree

  held : Holds b i.state u.part v q
  held = holds wide m i u.part live v q (subst (λ (w : Way). UsedBy b m u.part w q) h u.used)

  free : i.state.role q ≡ hand
  free = held.role

  -- the words of other pages stay
  other : (p y : ℕ) → p ≢ q → y < Geometry.page_words b → Mem.word b m' p y ≡ Mem.word b m p y
  unfolding word put W
  other p y n g = word-put-other wide m q j x p y l g (λ e. n e.0)

  -- so the memory stands for the same state
  again : Inv b m'
  unfolding word put W
  again = record {
    N = i.N;
    least = i.least;
    most = i.most;
    state = i.state;
    wf = i.wf;
    full = i.full;
    root = i.root;
    flags = i.flags;
    words = record {
      sized = put-sized wide i.N m q j x i.words.sized;
      says = λ p y g k n. other p y (λ e. not-hand (ap i.state.role e ∙ free) n) k ∙ i.words.says p y g k n;
    };
  }

  free-sound : Sound b m'
  free-sound = inv-sound wide m' again

  head-same : (y : ℕ) → y < 12 → Mem.word b m 0 y ≡ Mem.word b m' 0 y
  unfolding W
  head-same y g = sym (other 0 y (λ e. hand-header free (ap i.state.role (sym e) ∙ i.wf.head_role)) (twelve-lt wide y g))

  tree-same : {k d : ℕ} → InTree b m k d → InTree b m' k d
  unfolding again
  tree-same {k} {d} t = let r = in_tree-is wide m i k d t in subst (λ (y : ℕ). InTree b m' y d) r.1 (live_in_tree wide m' again d r.0)

  -- B does not see it, if its holder is not within B
  hidden : {k B : ℕ} → InTree b m k B → ¬ Within b m B u.part → ¬ Shown b m B q
  hidden {k} {B} t n x = go (shown-split wide B m s t x)
    where
      go : ((w : Way) × KernelWay w × UsedBy b m B w q) ⊎ Maps b m B q → ⊥
      go (inl (w, y, z)) =
          let f = used-inside b m s (room wide) t w q z in
          let e = (s.uses.one q f.0 f.1 u (record { depth = k; part = B; way = w; tree = t; used = z })).1 in
          Closed.not-hand v y (sym e ∙ h)
      go (inr y) =
          let r = mapping-there wide m i B y.at (in_tree-live wide m i k B t) y.has.virtual y.present in
          let e : r.0 ≡ q = sym r.2.page ∙ y.page in
          let under : Under wide m i B q = subst (Under wide m i B) e (found_in none B (i.state.chain r.0) r.1 r.2.finds) in
          n (holder-within wide m i B u.part v q live held under)

-- ---- read by the width of the memory's own edition

pub unseen : Unseen
unseen m s q u v h n j x l =
    let wide : 6 ≤ width m = wide_of (edition m) (edition-known m) in
    let B : ℕ = Partition.current (width m) m in
    let changed : List ℕ = Mem.put (width m) m q j x in
    let e : edition m ≡ edition changed = sym (edition-is (edition m) changed (record { known = edition-known m; inv = again wide m s q u v h j x l })) in
    let w : width m ≡ width changed = ap width_of e in
    let head = head-same wide m s q u v h j x l in
    let (k, t) = s.current_in in
    record {
      sound₁ = s;
      sound₂ = subst (λ (b : ℕ). Sound b changed) w (free-sound wide m s q u v h j x l);
      edition = e;
      count = head 0 (omega arith) ∙ ap (λ (b : ℕ). Partition.pages b changed) w;
      current₁ = refl;
      current₂ = subst (λ (b : ℕ). Partition.current b changed ≡ B) w (ap (Geometry.page_of (width m)) (sym (head 4 (omega arith))));
      depth = k;
      depth₁ = t;
      depth₂ = subst (λ (b : ℕ). InTree b changed k B) w (tree-same wide m s q u v h j x l t);
      words = λ p y z g. sym (other wide m s q u v h j x l p z (λ o. hidden wide m s q u v h j x l t n (subst (Shown (width m) m B) o y)) g);
    }
