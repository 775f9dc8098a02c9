-- A three keeps its addresses in the list, in order, through every call that does not collect it and leaves its partition.
use mathlib.Core.Path.{◌≡◌, refl, sym, ap, ◌∙◌, subst}
use mathlib.Core.Logic.{◌≢◌}
use mathlib.Core.Option.{none, some}
use mathlib.Core.List.{List, [], ◌∷◌}
use Prim.Native.Nat.{ℕ, zero, suc, ◌≤◌}
use native.Mathlib.Omega.{arith}
use Rattle.memory.specs.Geometry
use Rattle.memory.specs.Partition
use Rattle.memory.specs.Tree.{InTree}
use Rattle.rules.specs.Row.{pass}
use Rattle.rules.specs.Call.{Call, format_all, create_partition, delete_partition, add_vaddr, remove_vaddr, page_count, prepare, collect, mapped_in_child}
use Rattle.rules.specs.Call.{enter, leave, load, store, notify, dispatch, resume, choice}
use Rattle.rules.specs.Conditions
use Rattle.rules.specs.Refusals.{refusals, refusal}
use Rattle.rules.specs.Effects.{delete, effect}
use Rattle.rules.specs.Calls.{after, run}
use Rattle.rules.proofs.model.Words.{addr, idx, page_of}
use Rattle.rules.proofs.model.Abs.{Kind, pt, Role, blank, desc, tab, Three, three_at, head_v, parts, Owner, Encodes}
use Rattle.rules.proofs.model.Facts.{differ}
use Rattle.rules.proofs.model.Read.{entry_at, three-is}
use Rattle.rules.proofs.steps.Delete as Del
use Rattle.rules.proofs.steps.Delete.{after-parts, cut-none, Fate, fate, through, owned, stays, fate_role, del_role, del_a, DelPre, del_wf}
use Rattle.rules.proofs.model.Inv.{Inv, named, live, cur-is}
use Rattle.rules.proofs.model.Names.{good-page, mapping-is}
use Rattle.rules.proofs.Rows.{passed}
use Rattle.rules.proofs.steps.Checks.{a-child}
use Rattle.rules.proofs.steps.KeepDelete.{deleted}
use Rattle.rules.proofs.sound.Tree.{in_tree-live}
use Rattle.rules.proofs.steps.Step.{inv-step}
use Rattle.rules.proofs.steps.ChainChecks.{prepare-checks, collect-checks}
use Rattle.rules.proofs.steps.ChildPage.{ChildOf, child-of}
use Rattle.rules.proofs.steps.Prepare as Prepare
use Rattle.rules.proofs.steps.CollectPlace.{found}
use Rattle.rules.proofs.steps.CollectThree as Collect
use Rattle.rules.specs.SameChain.{ThreeAt, Spares, SparesAll, SameLater}
use Rattle.rules.proofs.steps.Relink.{collect-chain}
use Rattle.rules.proofs.steps.PrepareCollect.{prepare-three}
use Rattle.rules.proofs.steps.ThreeCarry.{carry, stay-enter, stay-leave, stay-live, stay-store, stay-add, stay-remove}
use Rattle.rules.proofs.steps.KeepContexts.{notified, dispatched, resumed}
use Rattle.rules.proofs.steps.ThreeCreate.{stay-create}

module _ {b : ℕ} (wide : 6 ≤ b) (m : List ℕ) (i : Inv b m) (d x : ℕ) (l : i.state.role d ≡ desc) {v₁ v₂ v₃ : ℕ} (th : ThreeAt b m d x v₁ v₂ v₃) where
  open named b i use {N, fl, f, A}

  abbrev o : ℕ
  o = Partition.current b m

  -- ---- another three is entered or collected

  stay-prepare : (c t p : ℕ) → refusal b m (prepare c t p) ≡ 0 → ThreeAt b (effect b m (prepare c t p)) d x v₁ v₂ v₃
  stay-prepare c t p e =
      let ck = prepare-checks b m c t p e in
      let r = Prepare.prepared wide m i c t p ck in
      carry wide m i d x l th _ (Prepare.prepared_a wide m i c t p ck) r.0 r.1
      (λ v h. record { live = Prepare.desc-stays wide m i c t p ck d h.live; three = h.three; here = Prepare.threes-stay wide m i c t p ck d x h.three h.here; at = h.at })

  stay-collect : (c t : ℕ) → ¬ ((d ≡ Conditions.child b m c) × (x ≡ idx b (page_of b t))) → refusal b m (collect c t) ≡ 0 → ThreeAt b (effect b m (collect c t)) d x v₁ v₂ v₃
  stay-collect c t n e =
      let fd = found wide m i c t (collect-checks b m c t e) in
      let r = Collect.collected wide m i c t fd in
      carry wide m i d x l th _ (Collect.collected_a wide m i c t fd) r.0 r.1
      (λ v h. record { live = Collect.desc-stays wide m i c t fd d h.live; three = h.three; here = Collect.threes-stay wide m i c t fd d x h.three n h.here; at = h.at })

  -- ---- a partition that is not above d goes

  module _ (c : ℕ) (e : refusal b m (delete_partition c) ≡ 0) where
    abbrev D : ℕ
    D = Conditions.child b m c

    chd : ChildOf A o (page_of b c) D
    unfolding refusals
    chd = let y = passed (refusals b m (delete_partition c)) e in child-of wide m i c (good-page b c y.1.0) (a-child b m c y.1.1.0)

    pre : DelPre A o D
    pre = record { child = chd.live; hop = chd.first.hop; rest = chd.first.rest; is = chd.first.is; mine = chd.first.part; live = live wide m i; caller = sym (cur-is wide m i) }

    at : head_v (A.chain D) ≡ page_of b c
    at = ap head_v chd.first.is ∙ chd.at

    words : Encodes b N f (effect b m (delete_partition c)) (del_a A D)
    unfolding effect refusals page_of
    words =
        let y = passed (refusals b m (delete_partition c)) e in
        let g = good-page b c y.1.0 in
        subst (λ (z : ℕ). Encodes b N f (delete b m o z) (del_a A D)) (ap (addr b) at ∙ g.is)
        (deleted wide N fl f m A i.wf i.words o D pre (ap (λ (z : ℕ). page_of b (entry_at b m pt o z)) at ∙ ap (page_of b) (sym (mapping-is b m o c))))

    full : (p : ℕ) → del_role A D p ≢ blank
    unfolding del_role fate_role
    full p = go (fate A D p)
      where
        go : (z : Fate A D p) → fate_role z (A.role p) ≢ blank
        go (through t h) q = differ q (omega arith)
        go (owned h w) q = differ q (omega arith)
        go (stays h n) q = i.full p q

    kept : Inv b (effect b m (delete_partition c))
    kept = record {
      N = N;
      least = i.least;
      most = i.most;
      state = del_a A D;
      wf = del_wf wide N fl A i.wf o D pre;
      full = full;
      root = record { roots = i.root.roots; list = i.root.list; threes = i.root.threes };
      flags = i.flags;
      words = words;
    }

    -- a descriptor that is left has a chain without D, and so have the pages that serve it
    clear : (z : ℕ) → del_role A D z ≡ desc → Del.after D (A.chain z) ≡ none
    unfolding del_role fate_role
    clear z q = go (fate A D z) q
      where
        go : (y : Fate A D z) → fate_role y (A.role z) ≡ desc → Del.after D (A.chain z) ≡ none
        go (through t h) q = differ q (omega arith)
        go (owned h w) q = h
        go (stays h n) q = h

    stay-delete : (k : ℕ) → InTree b (effect b m (delete_partition c)) k d → ThreeAt b (effect b m (delete_partition c)) d x v₁ v₂ v₃
    unfolding kept
    stay-delete k t =
        let ld : del_role A D d ≡ desc = in_tree-live wide _ kept k d t in
        carry wide m i d x l th _ (del_a A D) (del_wf wide N fl A i.wf o D pre) words
        (λ v h. record { live = ld; three = h.three; here = h.here; at = λ κ. ap head_v (cut-none D (A.chain (h.three.page κ)) (far ld h.three h.here κ)) ∙ h.at κ })
      where
        far : del_role A D d ≡ desc → (t : Three) → three_at x (A.threes d) ≡ some t → (κ : Kind) → Del.after D (A.chain (t.page κ)) ≡ none
        far ld t q κ =
            let r : A.role (t.page κ) ≡ tab κ d x = (three-is wide A.role d x (A.threes d) t (i.wf.tabs d l) q).pages κ in
            let p : parts (A.chain (t.page κ)) ≡ parts (A.chain d) = i.wf.kernel (t.page κ) d (subst (λ (z : Role). Owner z (t.page κ) d) (sym r) refl) in
            after-parts D (A.chain d) (A.chain (t.page κ)) (sym p) (clear d ld)

  still : (c : ℕ) → refusal b m (delete_partition c) ≡ 0 → (s : Spares b m d x (delete_partition c)) → InTree b (effect b m (delete_partition c)) s.afterwards.0 d
  unfolding after pass
  still c e s = subst (λ (n : ℕ). InTree b (pass n (effect b m (delete_partition c)) m) s.afterwards.0 d) e s.afterwards.1

  -- ---- any call

  passing : (y : Call) → (refusal b m y ≡ 0 → ThreeAt b (effect b m y) d x v₁ v₂ v₃) → ThreeAt b (after b m y) d x v₁ v₂ v₃
  unfolding after pass
  passing y h = go (refusal b m y) refl
    where
      go : (n : ℕ) → refusal b m y ≡ n → ThreeAt b (pass n (effect b m y) m) d x v₁ v₂ v₃
      go zero e = h e
      go (suc n) e = th

  pub three-step : (y : Call) → Spares b m d x y → ThreeAt b (after b m y) d x v₁ v₂ v₃
  unfolding effect idx page_of choice
  three-step (format_all e) s = let n = s.no_format in let z : ◌≡◌ {A = ℕ} 0 1 = cc in absurd (omega arith)
  three-step (create_partition p q r t u) s = passing _ (stay-create wide m i d x l th p q r t u)
  three-step (delete_partition c) s = passing _ (λ e. stay-delete c e s.afterwards.0 (still c e s))
  three-step (add_vaddr p c t r) s = passing _ (stay-add wide m i d x l th p c t r)
  three-step (remove_vaddr c t) s = passing _ (stay-remove wide m i d x l th c t)
  three-step (page_count c t) s = passing _ (λ e. th)
  three-step (prepare c t p) s = passing _ (stay-prepare c t p)
  three-step (collect c t) s = passing _ (λ e. stay-collect c t (λ q. s.no_collect c t refl e (sym q.0) (sym q.1)) e)
  three-step (mapped_in_child p) s = passing _ (λ e. th)
  three-step (enter c) s = passing _ (stay-enter wide m i d x l th c)
  three-step leave s = passing _ (stay-leave wide m i d x l th)
  three-step (load a) s = passing _ (λ e. th)
  three-step (store a z) s = passing _ (stay-store wide m i d x l th a z)
  three-step (notify t p q r) s = passing _ (λ e. stay-live wide m i d x l th _ (notified wide m i t p q r e))
  three-step (dispatch t) s = passing _ (λ e. stay-live wide m i d x l th _ (dispatched wide m i t e))
  three-step (resume t n) s = passing _ (λ e. stay-live wide m i d x l th _ (resumed wide m i t n e))

module _ {b : ℕ} (wide : 6 ≤ b) where
  -- and any calls
  pub three-run : (m : List ℕ) → Inv b m → (d x : ℕ) {v₁ v₂ v₃ : ℕ} → ThreeAt b m d x v₁ v₂ v₃ → (ys : List Call) → SparesAll b m d x ys → ThreeAt b (run b m ys) d x v₁ v₂ v₃
  unfolding run
  three-run m i d x th [] s = th
  three-run m i d x th (y ∷ ys) s =
      let live = in_tree-live wide m i s.0.before.0 d s.0.before.1 in
      three-run (after b m y) (inv-step wide m i y s.0.no_format) d x (three-step wide m i d x live th y s.0) ys s.1

  inv-run : (m : List ℕ) → Inv b m → (d x : ℕ) (ys : List Call) → SparesAll b m d x ys → Inv b (run b m ys)
  unfolding run
  inv-run m i d x [] s = i
  inv-run m i d x (y ∷ ys) s = inv-run (after b m y) (inv-step wide m i y s.0.no_format) d x ys s.1

  prepared : (m : List ℕ) → Inv b m → (c t p : ℕ) → Inv b (after b m (prepare c t p))
  unfolding choice
  prepared m i c t p = inv-step wide m i (prepare c t p) refl

  pub same-later : (m : List ℕ) → Inv b m → (c t p : ℕ) → refusal b m (prepare c t p) ≡ 0
      → (ys : List Call) → SparesAll b (after b m (prepare c t p)) (Conditions.child b m c) (Geometry.directory_index b (Geometry.page_of b t)) ys
      → (c' t' : ℕ) → refusal b (run b (after b m (prepare c t p)) ys) (collect c' t') ≡ 0
      → Conditions.child b (run b (after b m (prepare c t p)) ys) c' ≡ Conditions.child b m c
      → Geometry.directory_index b (Geometry.page_of b t') ≡ Geometry.directory_index b (Geometry.page_of b t)
      → SameLater b m c t p ys c' t'
  same-later m i c t p e ys s c' t' e' k q =
      let m₁ = after b m (prepare c t p) in
      let i₁ : Inv b m₁ = prepared m i c t p in
      let m₂ = run b m₁ ys in
      let th = three-run m₁ i₁ _ _ (prepare-three wide m i c t p e) ys s in
      let r = collect-chain wide m₂ (inv-run m₁ i₁ _ _ ys s) c' t' p (Conditions.link b m p) (Conditions.link b m (Conditions.link b m p)) e' (rw (k, q) th) in
      record { answered = r.0; afterwards = r.1 }
