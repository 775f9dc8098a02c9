-- prepare, and then collect: the three stands in the list, collect passes, and the chain is the same.
use mathlib.Core.Path.{◌≡◌, refl, sym, ap, ◌∙◌, subst}
use mathlib.Core.Logic.{◌≢◌}
use mathlib.Core.Bool.{Bool, false, not, ◌||◌}
use mathlib.Core.List.{List, [], ◌∷◌}
use Prim.Native.Nat.{ℕ, suc, ◌≤◌, ◌<◌}
use native.Mathlib.Omega.{arith}
use borrow.Author.Tests.{eq-eqb, ne_eqb}
use lib.Dec.{eqb}
use lib.ListN.{get_or, get_or-eq_default}
use native.Mathlib.Decide.{dec_lt}
use Rattle.walk.specs.Finite.{any}
use Rattle.memory.specs.Geometry
use Rattle.memory.specs.Words as Mem
use Rattle.memory.specs.Partition
use Rattle.rules.specs.Row.{ok, pass}
use Rattle.rules.specs.Call.{prepare, collect}
use Rattle.rules.specs.Conditions
use Rattle.rules.specs.Refusals.{refusals, refusal}
use Rattle.rules.specs.Effects.{effect}
use Rattle.rules.specs.Calls.{answer, after}
use Rattle.rules.proofs.Rows.{none, on, first-is}
use Rattle.rules.proofs.model.Words.{W, addr, word, link, link_nz, idx, page_of, page_of-link, join, idx-join}
use Rattle.rules.proofs.model.Abs.{Kind, pt, s1, s2, Role, desc, tab, is_hand, head_v, role_word, Abs, WF, Encodes, cell, link_word}
use Rattle.rules.proofs.model.Read
use Rattle.rules.proofs.model.Read.{table-word}
use Rattle.rules.proofs.steps.Fill as Fill
use Rattle.rules.proofs.steps.Prep.{new_three}
use Rattle.rules.proofs.model.Inv.{Inv, named, live, cur-is}
use Rattle.rules.proofs.steps.ChainChecks.{PrepareChecks, prepare-checks}
use Rattle.rules.proofs.model.Names.{table_for-is}
use Rattle.rules.proofs.steps.ThreeHeld.{Holds, shown}
use Rattle.rules.proofs.steps.CollectEffect.{page-word, page-size}
use Rattle.rules.proofs.steps.ChildPage.{first-mapping, first-mark}
use Rattle.rules.proofs.sound.All.{inv-whole}
use Rattle.rules.proofs.steps.Prepare.{desc-stays, three-there, nothing-there, d, x, chd, P, at-is, prepared_a, prepared, prepared-inv, keep-prepare}
use Rattle.rules.specs.SameChain.{Chain, ThreeAt, SameChain}
use Rattle.rules.proofs.steps.Relink.{collect-chain}

-- a list of zeros has no other word
none_in : (ws : List ℕ) → ((j : ℕ) → get_or ws j 0 ≡ 0) → any (λ w. not (eqb w 0)) ws ≡ false
none_in [] h = refl
none_in (w ∷ ws) h = ap (λ (u : Bool). not u || any (λ w. not (eqb w 0)) ws) (eq-eqb w 0 (h 0)) ∙ none_in ws (λ j. h (suc j))

module _ {b : ℕ} (wide : 6 ≤ b) (m : List ℕ) (i : Inv b m) (c t p : ℕ) (ck : PrepareChecks b m c t p) where
  open named b i use {N, fl, f, A}

  abbrev m' : List ℕ
  m' = effect b m (prepare c t p)

  abbrev B : Abs
  B = prepared_a wide m i c t p ck

  abbrev k : ℕ
  k = d wide m i c t p ck

  abbrev y : ℕ
  y = x wide m i c t p ck

  abbrev Q : Kind → ℕ
  Q = P wide m i c t p ck

  w_b : WF b N fl B
  w_b = (prepared wide m i c t p ck).0

  en_b : Encodes b N f m' B
  en_b = (prepared wide m i c t p ck).1

  kid-live : B.role k ≡ desc
  kid-live = desc-stays wide m i c t p ck k (chd wide m i c t p ck).live

  -- ---- the three in the list

  abbrev v : Kind → ℕ
  v κ = head_v (A.chain (Q κ))

  holds : Holds B k y v
  holds = record { live = kid-live; three = new_three y Q; here = three-there wide m i c t p ck; at = λ κ. refl }

  listed : ThreeAt b m' k (Geometry.directory_index b (Geometry.page_of b t)) p (Conditions.link b m p) (Conditions.link b m (Conditions.link b m p))
  unfolding idx page_of
  listed =
      let s = shown wide N fl f m' B w_b en_b k y v holds in
      rw (at-is wide m i c t p ck pt, at-is wide m i c t p ck s1, at-is wide m i c t p ck s2) at s

  -- ---- collect passes

  caller-same : Partition.current b m' ≡ Partition.current b m
  unfolding prepared-inv
  caller-same = cur-is wide m' (prepared-inv wide m i c t p ck) ∙ sym (cur-is wide m i)

  caller-live : B.role (Partition.current b m) ≡ desc
  unfolding prepared-inv
  caller-live = ap B.role (sym caller-same) ∙ live wide m' (prepared-inv wide m i c t p ck)

  first' : Fill.First B (Partition.current b m) k
  first' = let r = (chd wide m i c t p ck).first in record { hop = r.hop; rest = r.rest; is = r.is; part = r.part }

  kid_at : c ≡ addr b first'.hop.vp
  unfolding first'
  kid_at = sym ck.c_at.is ∙ ap (addr b) (sym (chd wide m i c t p ck).at)

  kid-same : Conditions.child b m' c ≡ k
  kid-same =
      ap (λ (z : ℕ). Geometry.page_of b (Partition.mapping b m' z c)) caller-same
      ∙ ap (λ (z : ℕ). Geometry.page_of b (Partition.mapping b m' (Partition.current b m) z)) kid_at
      ∙ first-mapping wide N fl f m' B w_b en_b (Partition.current b m) caller-live k first'

  kid-marked : Partition.lent b m' (Partition.current b m') c ≡ 1
  kid-marked =
      ap (λ (z : ℕ). Partition.lent b m' z c) caller-same
      ∙ ap (λ (z : ℕ). Partition.lent b m' (Partition.current b m) z) kid_at
      ∙ first-mark wide N fl f m' B w_b en_b (Partition.current b m) caller-live k first' kid-live

  table_is : Partition.table_for b m' k t ≡ link b (Q pt)
  unfolding link_word
  table_is =
      table_for-is b m' k t
      ∙ table-word wide N fl B w_b f m' (cell b B) en_b pt k (page_of b t) kid-live ck.t_at.fits
      ∙ ap (link_word b pt) (three-there wide m i c t p ck)

  table-there : Partition.table_for b m' k t ≢ 0
  table-there e = link_nz wide (Q pt) (sym table_is ∙ e)

  table-role : B.role (Q pt) ≡ tab pt k y
  table-role = (Read.three-is wide B.role k y (B.threes k) (new_three y Q) (w_b.tabs k kid-live) (three-there wide m i c t p ck)).pages pt

  table-lt : Q pt < N
  table-lt = Read.kernel-lt wide N fl B w_b (Q pt) (ap is_hand table-role)

  table-zero : (j : ℕ) → j < W b → word b m' (Q pt) j ≡ 0
  unfolding role_word
  table-zero j β =
      en_b.says (Q pt) j table-lt β (ap is_hand table-role)
      ∙ ap (λ (z : Role). role_word b f B (cell b B) z (Q pt) j) table-role
      ∙ Read.cell-none wide B pt k (join b y j) (nothing-there wide m i c t p ck (join b y j) (idx-join wide y j β))

  table-page : Geometry.page_of b (Partition.table_for b m' k t) ≡ Q pt
  unfolding page_of
  table-page = ap (page_of b) table_is ∙ page_of-link wide (Q pt)

  table_empty : Conditions.any_mapping b m' k t ≡ false
  table_empty = ap (λ (z : ℕ). any (λ w. not (eqb w 0)) (Mem.page b m' z)) table-page ∙ none_in (Mem.page b m' (Q pt)) (λ j. go j (dec_lt j (W b)))
    where
      go : (j : ℕ) → Dec (j < W b) → get_or (Mem.page b m' (Q pt)) j 0 ≡ 0
      go j (yes l) = page-word b m' (Q pt) j l ∙ table-zero j l
      go j (no l) = get_or-eq_default (Mem.page b m' (Q pt)) 0 {n = j} (omega (arith, page-size b N m' (Q pt) en_b.sized table-lt))

  passes : Conditions.damaged b m' ≡ false → refusal b m' (collect c t) ≡ 0
  unfolding refusals
  passes sound =
      first-is
      (on sound
      (on good
      (on (ap not (eq-eqb _ _ kid-marked))
      (on (ne_eqb _ _ (subst (λ (z : ℕ). Partition.table_for b m' z t ≢ 0) (sym kid-same) table-there))
      (on (subst (λ (z : ℕ). Conditions.any_mapping b m' z t ≡ false) (sym kid-same) table_empty) none)))))
    where
      good : any (Conditions.bad_page b) (c ∷ t ∷ []) ≡ false
      good = ap (λ (u : Bool). u || (Conditions.bad_page b t || false)) ck.c_good ∙ ap (λ (u : Bool). u || false) ck.t_good

  chain-before : Chain b m p (Conditions.link b m p) (Conditions.link b m (Conditions.link b m p))
  chain-before = record { first = refl; second = refl; third = ck.end }

  same_after : Conditions.damaged b m' ≡ false → refusal b m (prepare c t p) ≡ 0 → SameChain b m c t p
  unfolding after pass
  same_after sound e =
      let a : after b m (prepare c t p) ≡ m' = ap (λ (z : ℕ). pass z m' m) e in
      let q = passes sound in
      let r = collect-chain wide m' (prepared-inv wide m i c t p ck) c t _ _ _ q (subst (λ (z : ℕ). ThreeAt b m' z (Geometry.directory_index b (Geometry.page_of b t)) p (Conditions.link b m p) (Conditions.link b m (Conditions.link b m p))) (sym kid-same) listed) in
      record {
        passes = subst (λ (z : List ℕ). refusal b z (collect c t) ≡ 0) (sym a) q;
        answered = subst (λ (z : List ℕ). answer b z (collect c t) ≡ ok p) (sym a) r.0;
        before = chain-before;
        afterwards = subst (λ (z : List ℕ). Chain b (after b z (collect c t)) p (Conditions.link b m p) (Conditions.link b m (Conditions.link b m p))) (sym a) r.1;
      }

module _ {b : ℕ} (wide : 6 ≤ b) (m : List ℕ) (i : Inv b m) where
  -- after a passing prepare the child's list has the chain's addresses
  pub prepare-three : (c t p : ℕ) → refusal b m (prepare c t p) ≡ 0
      → ThreeAt b (after b m (prepare c t p)) (Conditions.child b m c) (Geometry.directory_index b (Geometry.page_of b t)) p (Conditions.link b m p) (Conditions.link b m (Conditions.link b m p))
  unfolding after pass
  prepare-three c t p e =
      subst (λ (z : ℕ). ThreeAt b (pass z (effect b m (prepare c t p)) m) (Conditions.child b m c) (Geometry.directory_index b (Geometry.page_of b t)) p (Conditions.link b m p) (Conditions.link b m (Conditions.link b m p)))
      (sym e) (listed wide m i c t p (prepare-checks b m c t p e))

  -- collect gives the same chain back
  pub same-chain : (c t p : ℕ) → refusal b m (prepare c t p) ≡ 0 → SameChain b m c t p
  same-chain c t p e = same_after wide m i c t p (prepare-checks b m c t p e) (inv-whole wide _ (keep-prepare wide m i c t p e)) e
