-- The current partition can neither load nor store a kernel page. Assumes that a page has room for a list of ten threes.
use mathlib.Core.Path.{◌≡◌, refl, sym, ap, ◌∙◌, subst}
use mathlib.Core.List.{List, ◌∷◌}
use mathlib.Core.Logic.{◌≢◌}
use mathlib.Core.Bool.{Bool, true, false, not, ◌||◌, true≢false}
use Prim.Native.Nat.{ℕ, suc, ◌≤◌, ◌<◌}
use native.Mathlib.Nat.{div-mul-le_self}
use native.Mathlib.Omega.{arith}
use borrow.Author.Tests.{leb-false, eqb-false, eq-eqb}
use Rattle.memory.specs.Geometry.{page_words, page_bytes, address_end, address, page_of}
use Rattle.memory.specs.Entry.{accessible}
use Rattle.memory.specs.Partition.{current, directory, table_word, mapping}
use Rattle.memory.specs.Tree.{Virtual}
use Rattle.memory.specs.Uses.{KernelPage}
use Rattle.memory.specs.Sound.{Sound}
use Rattle.memory.proofs.Geometry.{page-address}
use Rattle.soundness.proofs.Whole.{mapped-has, sound?}
use Rattle.rules.specs.Refusal.{DAMAGED, ADDRESS, UNMAPPED, KERNEL}
use Rattle.rules.specs.Row.{Check, ◌when◌, no}
use Rattle.rules.specs.Call.{load, store}
use Rattle.rules.specs.Conditions.{damaged, bad_address, unmapped, inaccessible}
use Rattle.rules.specs.Refusals.{refusals}
use Rattle.rules.specs.Calls.{answer}
use Rattle.rules.proofs.Rows.{First, on, at, answer-no}
use Rattle.claim.proofs.Closed.{closed}

first-false : (s t u : Bool) → (s || t || u) ≡ false → s ≡ false
first-false true t u e = absurd (true≢false e)
first-false false t u e = refl

-- the address of the virtual page that a lies on
page-of : (b a : ℕ) → a < address_end b → Virtual b (address b (page_of b a))
page-of b a l = (ap (address b) (page-address b (page_of b a)), omega (arith, div-mul-le_self a (page_bytes b)))

module _ (b : ℕ) (m : List ℕ) (s : Sound b m) (big : 61 ≤ page_words b) where
  abbrev OnKernelPage : ℕ → Type 0
  OnKernelPage a = KernelPage b m (page_of b (mapping b m (current b m) a))

  shut : (a : ℕ) → OnKernelPage a → bad_address b 4 a ≡ false → unmapped b m (current b m) a ≡ false → inaccessible b m a ≡ true
  shut a q e f =
      let d = current b m in
      let v = address b (page_of b a) in
      let r : mapping b m d a ≡ mapping b m d v = ap (table_word b m (directory b m d)) (sym (page-address b (page_of b a))) in
      let n : mapping b m d v ≢ 0 = λ z. eqb-false (mapping b m d a) 0 f (r ∙ z) in
      let h = mapped-has b m d v (page-of b a (leb-false (address_end b) a (first-false _ _ _ e))) n in
      let (k, t) = s.current_in in
      eq-eqb _ _ (ap accessible r ∙ closed b m s t v h n (subst (λ (w : ℕ). KernelPage b m (page_of b w)) r q))

  -- a row that begins as those of load and store do
  abbrev Stops : ℕ → List Check → Type 0
  Stops a cs =
      (r : ℕ) × First (DAMAGED when damaged b m ∷ ADDRESS when bad_address b 4 a ∷ UNMAPPED when unmapped b m (current b m) a ∷ KERNEL when inaccessible b m a ∷ cs) (suc r)

  stops : (a : ℕ) → OnKernelPage a → (cs : List Check) → Stops a cs
  stops a q cs = go (bad_address b 4 a) refl (unmapped b m (current b m) a) refl
    where
      fine : damaged b m ≡ false
      fine = ap not ((sound? b m big).1 s)

      go : (x : Bool) → bad_address b 4 a ≡ x → (y : Bool) → unmapped b m (current b m) a ≡ y → Stops a cs
      go true e y f = (2, on fine (at e))
      go false e true f = (14, on fine (on e (at f)))
      go false e false f = (15, on fine (on e (on f (at (shut a q e f)))))

  pub no-load : (a : ℕ) → OnKernelPage a → (r : ℕ) × (answer b m (load a) ≡ no r)
  unfolding refusals
  no-load a q = let (r, f) = stops a q _ in (suc r, answer-no b m (load a) r f)

  pub no_store : (a x : ℕ) → OnKernelPage a → (r : ℕ) × (answer b m (store a x) ≡ no r)
  unfolding refusals
  no_store a x q = let (r, f) = stops a q _ in (suc r, answer-no b m (store a x) r f)
