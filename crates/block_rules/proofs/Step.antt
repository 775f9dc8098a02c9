-- Every call keeps memory sound, and so does every sequence of calls. Assumes nothing.
use mathlib.Core.Path.{◌≡◌, refl, ap}
use mathlib.Core.List.{List, [], ◌∷◌}
use mathlib.Core.Logic.{◌≢◌}
use mathlib.Core.Bool.{Bool, true, false, cond, not, ◌&&◌}
use Prim.Native.Nat.{ℕ, zero, suc}
use lib.Dec.{eqb}
use lib.ListN.{length}
use borrow.Author.Tests.{eqb-true, eqb-false, ne_eqb, eq-eqb, ltb-false, not-false}
use Rattle.common.specs.Row
use Rattle.common.specs.Row.{pass}
use Rattle.common.proofs.Rows.{Passed}
use Rattle.block_memory.specs.Partition.{current, Partition, used, next, named}
use Rattle.block_memory.specs.Sound.{Sound}
use Rattle.block_soundness.proofs.Ranges.{permitted?}
use Rattle.block_soundness.proofs.Whole.{sound?}
use Rattle.block_soundness.proofs.Child.{named-partition}
use Rattle.block_rules.specs.Row.{first}
use Rattle.block_rules.specs.Call.{Service, Call, format_all, serve, create, delete, prepare, collect, add, remove, cut, merge, enable, read_enabled, find}
use Rattle.block_rules.specs.Call.{enter, leave}
use Rattle.block_rules.specs.Refusals.{refusals_of, refusals, refusal}
use Rattle.block_rules.specs.Effects.{merge_two, lower, higher, effect_of, effect}
use Rattle.block_rules.specs.Calls.{after, run}
use Rattle.block_rules.proofs.Rows.{passed, is, neither}
use Rattle.block_rules.proofs.Formatted.{format-sound}
use Rattle.block_rules.proofs.steps.Access.{enter-sound, leave-sound, enable-sound}
use Rattle.block_rules.proofs.steps.Cut.{cut-sound}
use Rattle.block_rules.proofs.steps.Merge.{merge-sound}
use Rattle.block_rules.proofs.steps.Add.{add-sound}
use Rattle.block_rules.proofs.steps.Remove.{remove-sound}
use Rattle.block_rules.proofs.steps.Create.{create-sound}
use Rattle.block_rules.proofs.steps.Prepare.{prepare-sound}
use Rattle.block_rules.proofs.steps.Collect.{collect-sound}
use Rattle.block_rules.proofs.steps.Delete.{delete-sound}

module _ (m : List ℕ) (s : Sound m) where
  abbrev d : ℕ
  d = current m

  p : Partition m d
  p = s.header.current_word

  -- a partition argument that passes
  pub whose : (c : ℕ) → (not (eqb c 0) && not (eqb (used m d c) 3)) ≡ false → c ≢ 0 → used m d c ≡ 3
  whose c e h = is _ _ (rw (ne_eqb c 0 h) at e)

  -- two blocks of which one is the other's next
  joined : (a b : ℕ) → (not (eqb (next m d a) b) && not (eqb (next m d b) a)) ≡ false → used m d a ≡ 1 → used m d b ≡ 1
      → Sound (merge_two m d (lower m d a b) (higher m d a b))
  joined a b e x y = go (eqb (next m d a) b) refl e
    where
      go : (t : Bool) → eqb (next m d a) b ≡ t → (not t && not (eqb (next m d b) a)) ≡ false → Sound (merge_two m d (cond t a b) (cond t b a))
      go true q f = merge-sound m s d a b p x y (eqb-true _ _ q)
      go false q f = merge-sound m s d b a p y x (is _ _ f)

  service_sound : (x : Service) → Passed (refusals_of m d x) → Sound (effect_of m d x)
  unfolding refusals_of effect_of
  service_sound (create b) (e, (f, u)) = create-sound m s d b p (is _ _ e) (ltb-false _ _ f)
  service_sound (delete c) (e, u) = delete-sound m s d c p (is _ _ e) refl
  service_sound (prepare c b) (e, (f, (g, u))) =
      let (h, k) = neither _ _ g in
      prepare-sound m s d c b p (whose c e) (is _ _ f) (ltb-false _ _ h) (eqb-false _ _ k)
  service_sound (collect c) (e, (f, u)) = collect-sound m s (named m d c) (named-partition m s d c p (whose c e)) (eqb-false _ _ f)
  service_sound (add c b r) (e, (f, (g, (h, u)))) = add-sound m s d c b r p (is _ _ e) (is _ _ f) (is _ _ g) (eqb-false _ _ h)
  service_sound (remove c b) (e, (f, (g, (h, u)))) =
      let (x, y) = neither _ _ f in
      remove-sound m s d c b p (is _ _ e) (is _ _ x) (is _ _ y) (is _ _ g) (is _ _ h)
  service_sound (cut b x) (e, (f, (g, u))) =
      let (h, k) = neither _ _ f in
      cut-sound m s d b x p (is _ _ e) (ltb-false _ _ h) (ltb-false _ _ k) (eqb-false _ _ g)
  service_sound (merge x y) (e, (f, u)) = let (h, k) = neither _ _ e in joined x y f (is _ _ h) (is _ _ k)
  service_sound (enable c b on) (e, (f, (g, u))) =
      enable-sound m s (named m d c) b on (named-partition m s d c p (whose c e)) (is _ _ f)
      (λ x y. eqb-false _ _ (rw (ne_eqb on 0 x, eq-eqb _ 0 y) at g))
  service_sound (read_enabled c e) u = s
  service_sound (find c x) u = s
  service_sound (enter c) (e, u) = enter-sound m s c (is _ _ e)
  service_sound leave (e, u) = leave-sound m s (eqb-false _ _ e)

  effect-sound : (c : Call) → Passed (refusals m c) → Sound (effect m c)
  unfolding refusals effect
  effect-sound format_all (a, u) = format-sound (length m) ((permitted? (length m)).0 (not-false _ a))
  effect-sound (serve x) (a, u) = service_sound x u

  pub after-sound : (c : Call) → Sound (after m c)
  unfolding after pass
  after-sound c = go (refusal m c) refl
    where
      go : (n : ℕ) → refusal m c ≡ n → Sound (pass n (effect m c) m)
      go zero e = effect-sound c (passed (refusals m c) e)
      go (suc n) e = s

pub run_sound : (cs : List Call) (m : List ℕ) → Sound m → Sound (run m cs)
unfolding run
run_sound [] m s = s
run_sound (c ∷ cs) m s = run_sound cs (after m c) (after-sound m s c)

-- ---- on sound memory the rows begin after the first refusal

module _ (m : List ℕ) (s : Sound m) where
  pub refusal-sound : (x : Service) → refusal m (serve x) ≡ first (refusals_of m (current m) x)
  unfolding refusals Row.first
  refusal-sound x = ap (λ (t : Bool). cond (not t) 1 (first (refusals_of m (current m) x))) ((sound? m).1 s)
