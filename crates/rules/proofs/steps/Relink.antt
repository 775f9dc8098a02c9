-- The chain that collect leaves is that of the addresses in the list.
use mathlib.Core.Path.{◌≡◌, sym, ap, ◌∙◌, subst}
use mathlib.Core.List.{List}
use Prim.Native.Nat.{ℕ, ◌≤◌}
use Rattle.memory.specs.Geometry
use Rattle.memory.specs.Partition
use Rattle.rules.specs.Row.{ok, reply, pass}
use Rattle.rules.specs.Call.{collect}
use Rattle.rules.specs.Conditions
use Rattle.rules.specs.Refusals.{refusal}
use Rattle.rules.specs.Effects.{effect}
use Rattle.rules.specs.Calls.{result, answer, after}
use Rattle.rules.proofs.model.Words.{addr, word, idx, page_of}
use Rattle.rules.proofs.model.Abs.{Kind, pt, s1, s2, desc, Abs, head_v}
use Rattle.rules.proofs.steps.Fill.{First}
use Rattle.rules.proofs.model.Inv.{Inv, named, live, cur-is}
use Rattle.rules.proofs.steps.ChainChecks.{collect-checks}
use Rattle.rules.proofs.steps.ThreeHeld.{triple, read-three}
use Rattle.rules.proofs.steps.ChildPage.{first-mapping}
use Rattle.rules.proofs.steps.CollectPlace.{Found, found}
use Rattle.rules.proofs.steps.CollectThree.{H, next, collected_a, collected, collected-inv, link-words}
use Rattle.rules.specs.SameChain.{Chain, ThreeAt}

module _ {b : ℕ} (wide : 6 ≤ b) (m : List ℕ) (i : Inv b m) (c t : ℕ) (fd : Found m i c t) where
  open named b i use {N, fl, f}

  abbrev m'' : List ℕ
  m'' = effect b m (collect c t)

  abbrev j : Inv b m''
  j = collected-inv wide m i c t fd

  abbrev C : Abs
  C = collected_a wide m i c t fd

  caller-same : Partition.current b m'' ≡ Partition.current b m
  unfolding collected-inv
  caller-same = cur-is wide m'' j ∙ sym (cur-is wide m i)

  caller-live : C.role (Partition.current b m) ≡ desc
  unfolding collected-inv
  caller-live = ap C.role (sym caller-same) ∙ live wide m'' j

  first'' : (k : Kind) → First C (Partition.current b m) (fd.three.page k)
  first'' k = record { hop = (fd.first k).hop; rest = (fd.first k).rest; is = (fd.first k).is; part = (fd.first k).part }

  page-is : (k : Kind) → Geometry.page_of b (Partition.mapping b m'' (Partition.current b m'') (H wide m i c t fd k)) ≡ fd.three.page k
  unfolding first''
  page-is k =
      let e : H wide m i c t fd k ≡ addr b (fd.first k).hop.vp = ap (λ (z : ℕ). addr b z) (ap head_v (fd.first k).is) in
      let y = collected wide m i c t fd in
      rw (caller-same, e) (first-mapping wide N fl f m'' C y.0 y.1 (Partition.current b m) caller-live (fd.three.page k) (first'' k))

  link-is : (k : Kind) → Conditions.link b m'' (H wide m i c t fd k) ≡ next wide m i c t fd k
  unfolding word
  link-is k = ap (λ (q : ℕ). word b m'' q 0) (page-is k) ∙ link-words wide m i c t fd k

  pub relinked : Chain b m'' (H wide m i c t fd pt) (H wide m i c t fd s1) (H wide m i c t fd s2)
  relinked = record { first = link-is pt; second = link-is s1; third = link-is s2 }

  pub answers-first : refusal b m (collect c t) ≡ 0 → answer b m (collect c t) ≡ ok (H wide m i c t fd pt)
  unfolding answer reply result word
  answers-first e = ap (λ (n : ℕ). reply n (result b m (collect c t))) e ∙ ap ok (fd.words pt)

  -- the addresses, as the list has them
  addresses : (v₁ v₂ v₃ : ℕ) → ThreeAt b m (Conditions.child b m c) (Geometry.directory_index b (Geometry.page_of b t)) v₁ v₂ v₃ → (k : Kind) → H wide m i c t fd k ≡ triple v₁ v₂ v₃ k
  unfolding idx page_of
  addresses v₁ v₂ v₃ th k =
      read-three wide N fl f m i.state i.wf i.words (Conditions.child b m c) (Geometry.directory_index b (Geometry.page_of b t)) fd.child.live v₁ v₂ v₃ th fd.three fd.pre.here k

module _ {b : ℕ} (wide : 6 ≤ b) (m : List ℕ) (i : Inv b m) where
  -- collect answers the first address of the three, and chains its pages in the list's order
  pub collect-chain : (c t v₁ v₂ v₃ : ℕ) → refusal b m (collect c t) ≡ 0 → ThreeAt b m (Conditions.child b m c) (Geometry.directory_index b (Geometry.page_of b t)) v₁ v₂ v₃
      → (answer b m (collect c t) ≡ ok v₁) × Chain b (after b m (collect c t)) v₁ v₂ v₃
  unfolding after pass
  collect-chain c t v₁ v₂ v₃ e th =
      let fd : Found m i c t = found wide m i c t (collect-checks b m c t e) in
      let a = addresses wide m i c t fd v₁ v₂ v₃ th in
      let r : Chain b (effect b m (collect c t)) v₁ v₂ v₃ = rw (← (a pt), ← (a s1), ← (a s2)) (relinked wide m i c t fd) in
      (answers-first wide m i c t fd e ∙ ap ok (a pt), subst (λ (n : ℕ). Chain b (pass n (effect b m (collect c t)) m) v₁ v₂ v₃) (sym e) r)
