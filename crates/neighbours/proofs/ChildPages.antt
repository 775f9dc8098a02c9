-- The kernel pages of a child of the caller: a call may write them, in both memories. add_vaddr, remove_vaddr, prepare and collect do. Assumes an index width
-- of 6 or more.
use mathlib.Core.Path.{refl, ap, subst}
use mathlib.Core.List.{List}
use mathlib.Core.Logic.{◌≢◌}
use Prim.Native.Nat.{ℕ, suc, ◌≤◌, ◌<◌}
use native.Mathlib.Omega.{arith}
use Rattle.memory.specs.Words as Mem
use Rattle.memory.specs.Partition.{current, list}
use Rattle.memory.specs.Tree.{Child, child}
use Rattle.memory.specs.Uses.{Way, five, listed, KernelWay, is_five, is_listed, UsedBy}
use Rattle.memory.specs.Sound.{Sound}
use Rattle.rules.proofs.model.Words.{W, put, idx}
use Rattle.rules.proofs.model.Abs.{Kind, pt, s1, s2}
use Rattle.rules.proofs.model.Read.{root_page, table_at, table_page}
use Rattle.rules.proofs.model.Inv.{Inv, cur-is}
use Rattle.rules.proofs.sound.Tree.{in_tree-is}
use Rattle.rules.proofs.state.Represented.{sound-inv}
use Rattle.neighbours.proofs.Levels.{deep, Writable, lower, table-role}
use Rattle.neighbours.proofs.Pages.{kernel-deep, table-listed}
use Rattle.neighbours.proofs.Twin.{Twin, inv₁, child-to, used-to, live₁}
use Rattle.neighbours.proofs.Near.{Near, Both, near-put}
use Rattle.neighbours.proofs.Lookups.{child-within}

-- ---- one memory

-- a kernel page of a child is deeper than the caller
module _ {b : ℕ} (wide : 6 ≤ b) {m : List ℕ} (s : Sound b m) {u k : ℕ} (a : Child b m (current b m) u k) where
  abbrev i : Inv b m
  i = sound-inv wide m s

  child_writable : (w : Way) → KernelWay w → (p : ℕ) → UsedBy b m k w p → Writable i p
  child_writable w y p z =
      let (x, t) = s.current_in in
      let (live, deep_is) = in_tree-is wide m i (suc x) k (child t a) in
      let caller = (in_tree-is wide m i x (current b m) t).1 in
      lower (omega (arith, kernel-deep wide i k live w y p z, deep_is, caller, ap (deep i) (cur-is wide m i)))

-- ---- both

module _ {b B : ℕ} {m n : List ℕ} (t : Twin b B m n) {u k : ℕ} (a : Child b m (current b m) u k) where
  open t use {wide, sound₁, sound₂, same, inside}

  -- k is the caller's child in n, too
  child_too : Child b n (current b n) u k
  child_too = subst (λ (d : ℕ). Child b n d u k) same (child-to t inside a)

  both-child : (w : Way) → KernelWay w → (p : ℕ) → UsedBy b m k w p → Both t p
  both-child w y p z = (child_writable wide sound₁ a w y p z, child_writable wide sound₂ child_too w y p (used-to t (child-within t a) p w y z))

  both-root : (x : Kind) → Both t (root_page b m x k)
  unfolding root_page
  both-root pt = both-child (five 1) is_five _ (omega arith, refl)
  both-root s1 = both-child (five 2) is_five _ (omega arith, refl)
  both-root s2 = both-child (five 3) is_five _ (omega arith, refl)

  pub both-list : Both t (list b m k)
  both-list = both-child (five 4) is_five _ (omega arith, refl)

  pub both-table : (x : Kind) (v : ℕ) → idx b v < W b → table_at b m x k v ≢ 0 → Both t (table_page b m x k v)
  both-table x v h z =
      let r = table-role wide (inv₁ t) x k v (live₁ t (child-within t a)) h z in
      let (j, o) = table-listed wide (inv₁ t) x k (idx b v) (table_page b m x k v) r in
      both-child (listed j) is_listed _ o

-- ---- a word of each kind at index x of its directory and shadows, the pages q

abbrev pub rooted : (b : ℕ) → List ℕ → (q : Kind → ℕ) (x : ℕ) (y : Kind → ℕ) → List ℕ
rooted b l q x y = Mem.put b (Mem.put b (Mem.put b l (q pt) x (y pt)) (q s1) x (y s1)) (q s2) x (y s2)

module _ {b B : ℕ} {m n : List ℕ} (t : Twin b B m n) {u k : ℕ} (a : Child b m (current b m) u k) where
  abbrev q : Kind → ℕ
  q s = root_page b m s k

  pub near-rooted : (x : ℕ) → x < W b → {m₁ n₁ : List ℕ} → Near t m₁ n₁ → (y : Kind → ℕ) → Near t (rooted b m₁ q x y) (rooted b n₁ q x y)
  unfolding put
  near-rooted x l near y =
      let first = near-put t near (q pt) x (y pt) l (both-root t a pt) in
      let second = near-put t first (q s1) x (y s1) l (both-root t a s1) in
      near-put t second (q s2) x (y s2) l (both-root t a s2)
