-- A block of sound memory, and the blocks that it names. Assumes nothing.
use mathlib.Core.Path.{◌≡◌, refl, sym, ap, ◌∙◌}
use mathlib.Core.List.{List}
use mathlib.Core.Logic.{◌≢◌}
use Prim.Native.Nat.{ℕ, zero, suc, ◌+◌, ◌*◌, ◌≤◌, ◌<◌}
use native.Mathlib.Omega.{arith}
use native.Mathlib.Decide.{ℕ_discrete}
use lib.ListN.{length}
use borrow.Author.Tests.{eq-eqb}
use Rattle.block_memory.specs.Geometry.{slot_words, least_bytes}
use Rattle.block_memory.specs.Partition.{root, Partition, Has, field, start, end, used, source, previous, next}
use Rattle.block_memory.specs.Bytes.{Live}
use Rattle.block_memory.specs.Sound.{Sound, Block, source_start, source_end, source_link}
use Rattle.block_soundness.proofs.Ranges.{has-range}

-- what is read isn't 0, so there is a slot
pub field-has : (m : List ℕ) (d n f : ℕ) → field m d n f ≢ 0 → Has m d n
unfolding field
field-has m d n f h e = h (rw (eq-eqb _ 0 e))

-- a slot that has a use has a block
pub used_as : {m : List ℕ} {d n k : ℕ} → Partition m d → used m d n ≡ suc k → Live m d n
used_as p e = record { partition = p; block = λ z. omega (arith, z, e) }

module _ (m : List ℕ) (s : Sound m) where
  pub block : {d n : ℕ} → Live m d n → Block m d n
  block {d} {n} l = (s.slots d n l.partition (field-has m d n 3 l.block)).taken l.block

  pub number-some : {d n : ℕ} → Live m d n → 8 ≤ n
  number-some {d} {n} l = (has-range m d n (field-has m d n 3 l.block)).0

  -- a slot with a word that isn't 0 is a block
  pub live : (d n f : ℕ) → Partition m d → f < slot_words → field m d n f ≢ 0 → Live m d n
  live d n f p h x = record {
    partition = p;
    block = λ z. x ((s.slots d n p (field-has m d n f x)).free z f h);
  }

  -- the root's block 8
  pub first_in_root : Live m (root m) 8
  first_in_root = record { partition = s.table.root_listed; block = ((s.structures (root m) s.table.root_listed).of_root refl).block }

  pub long : {d n : ℕ} → Live m d n → start m d n + least_bytes ≤ end m d n
  long l = (block l).form.long

  -- ---- the pieces before and after

  pub record Before (d n q : ℕ) : Type 0 where
    pub alive : Live m d q
    pub forth : next m d q ≡ n
    pub adjoins : end m d q ≡ start m d n
    pub same : source m d q ≡ source m d n

  pub before : {d n : ℕ} → Live m d n → previous m d n ≢ 0 → Before d n (previous m d n)
  before {d} {n} l z =
      let q = previous m d n in
      let e : next m d q ≡ n = (block l).pieces.later z in
      let some : next m d q ≢ 0 = λ w. omega (arith, number-some l, e, w) in
      let a : Live m d q = live d q 8 l.partition (omega arith) some in
      let x = (block a).pieces.more some in
      record {
        alive = a;
        forth = e;
        adjoins = sym x.adjoins ∙ ap (λ (o : ℕ). start m d o) e;
        same = sym x.same_source ∙ ap (λ (o : ℕ). source m d o) e;
      }

  pub after : {d n : ℕ} → Live m d n → next m d n ≢ 0 → Live m d (next m d n)
  after {d} {n} l z = live d (next m d n) 7 l.partition (omega arith) (λ w. omega (arith, number-some l, ((block l).pieces.more z).back, w))

  -- ---- inside the source

  same_start : (d x y : ℕ) → source m d x ≡ source m d y → source_start m d x ≡ source_start m d y
  same_start d x y e = rw e

  pub same_end : (d x y : ℕ) → source m d x ≡ source m d y → source_end m d x ≡ source_end m d y
  same_end d x y e = rw e

  same-link : (d x y : ℕ) → source m d x ≡ source m d y → source_link m d x ≡ source_link m d y
  same-link d x y e = rw e

  from-source : (k d n : ℕ) → Live m d n → start m d n < k → source_start m d n ≤ start m d n
  from-source zero d n l h = absurd (omega arith)
  from-source (suc k) d n l h = elim (ℕ_discrete (previous m d n) 0) [
    | yes z ↦ omega (arith, ((block l).pieces.first z).0)
    | no z ↦
        let b = before l z in
        let ih = from-source k d (previous m d n) b.alive (omega (arith, long b.alive, b.adjoins)) in
        omega (arith, ih, same_start d (previous m d n) n b.same, long b.alive, b.adjoins)
  ]

  pub starts_in : {d n : ℕ} → Live m d n → source_start m d n ≤ start m d n
  starts_in {d} {n} l = from-source (suc (start m d n)) d n l (omega arith)

  to-source : (k d n : ℕ) → Live m d n → 4 * length m < end m d n + k → end m d n ≤ source_end m d n
  to-source zero d n l h = absurd (omega (arith, (block l).form.inside))
  to-source (suc k) d n l h = elim (ℕ_discrete (next m d n) 0) [
    | yes z ↦ omega (arith, (block l).pieces.last z)
    | no z ↦
        let x = (block l).pieces.more z in
        let a = after l z in
        let ih = to-source k d (next m d n) a (omega (arith, long a, x.adjoins)) in
        omega (arith, ih, same_end d (next m d n) n x.same_source, long a, x.adjoins)
  ]

  pub ends_in : {d n : ℕ} → Live m d n → end m d n ≤ source_end m d n
  ends_in {d} {n} l = to-source (suc (4 * length m)) d n l (omega arith)

  -- ---- pieces of one source are in order

  pub data Apart (d x y : ℕ) : Type 0 where
    equal : x ≡ y → Apart d x y
    below : end m d x ≤ start m d y → Apart d x y
    above : end m d y ≤ start m d x → Apart d x y

  flip : {d x y : ℕ} → Apart d x y → Apart d y x
  flip (equal w) = equal (sym w)
  flip (below w) = above w
  flip (above w) = below w

  -- x is the first piece, and q comes before y
  past_first : {d x y q : ℕ} → Live m d x → previous m d x ≡ 0 → Before d y q → source m d x ≡ source m d q → Apart d x q → Apart d x y
  past_first {d} l z b e (equal w) = below (omega (arith, ap (λ (o : ℕ). end m d o) w, b.adjoins))
  past_first l z b e (below w) = below (omega (arith, long b.alive, b.adjoins))
  past_first {d} {x} {y} {q} l z b e (above w) =
      absurd (omega (arith, long b.alive, starts_in b.alive, same_start d x q e, ((block l).pieces.first z).0))

  -- p comes before x, and q before y
  past-both : {d x y p q : ℕ} → Before d x p → Before d y q → Apart d p y → Apart d x q → Apart d p q → Apart d x y
  past-both {d} a b (equal u) v w = above (omega (arith, ap (λ (o : ℕ). end m d o) u, a.adjoins))
  past-both a b (above u) v w = above (omega (arith, long a.alive, a.adjoins))
  past-both {d} a b (below u) (equal v) w = below (omega (arith, ap (λ (o : ℕ). end m d o) v, b.adjoins))
  past-both a b (below u) (below v) w = below (omega (arith, long b.alive, b.adjoins))
  past-both {d} a b (below u) (above v) (equal w) = equal (sym a.forth ∙ ap (λ (o : ℕ). next m d o) w ∙ b.forth)
  past-both a b (below u) (above v) (below w) = absurd (omega (arith, long b.alive, a.adjoins, b.adjoins))
  past-both a b (below u) (above v) (above w) = absurd (omega (arith, long a.alive, a.adjoins, b.adjoins))

  pub apart : (k d x y : ℕ) → Live m d x → Live m d y → source m d x ≡ source m d y → start m d x + start m d y < k → Apart d x y
  apart zero d x y l n e h = absurd (omega arith)
  apart (suc k) d x y l n e h = go (apart k d) (ℕ_discrete (previous m d x) 0) (ℕ_discrete (previous m d y) 0)
    where
      Ih : Type 0
      Ih = (a b : ℕ) → Live m d a → Live m d b → source m d a ≡ source m d b → start m d a + start m d b < k → Apart d a b

      go : Ih → Dec (previous m d x ≡ 0) → Dec (previous m d y ≡ 0) → Apart d x y
      go ih (yes p) (yes q) = equal (sym ((block l).pieces.first p).1 ∙ same-link d x y e ∙ ((block n).pieces.first q).1)
      go ih (yes p) (no q) =
          let b = before n q in
          let f = e ∙ sym b.same in
          past_first l p b f (ih x (previous m d y) l b.alive f (omega (arith, long b.alive, b.adjoins)))
      go ih (no p) (yes q) =
          let a = before l p in
          let f = sym e ∙ sym a.same in
          flip (past_first n q a f (ih y (previous m d x) n a.alive f (omega (arith, long a.alive, a.adjoins))))
      go ih (no p) (no q) =
          let a = before l p in
          let b = before n q in
          let i = long a.alive in
          let j = long b.alive in
          past-both a b
          (ih (previous m d x) y a.alive n (a.same ∙ e) (omega (arith, i, a.adjoins)))
          (ih x (previous m d y) l b.alive (e ∙ sym b.same) (omega (arith, j, b.adjoins)))
          (ih (previous m d x) (previous m d y) a.alive b.alive (a.same ∙ e ∙ sym b.same) (omega (arith, i, a.adjoins, j, b.adjoins)))
