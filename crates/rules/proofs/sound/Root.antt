-- Sentence 2: the root's five pages are as format leaves them, and it maps exactly the flat pages.
use mathlib.Core.Path.{◌≡◌, refl, sym, ap, ◌∙◌, subst}
use mathlib.Core.Bool.{false}
use mathlib.Core.Option.{Option, none, some}
use mathlib.Core.List.{List, []}
use Prim.Native.Nat.{ℕ, zero, suc, ◌+◌, ◌*◌, ◌≤◌, ◌<◌}
use native.Mathlib.Omega.{arith}
use native.Mathlib.Decide.{dec_lt}
use Rattle.memory.specs.Geometry
use Rattle.memory.specs.Words as Mem
use Rattle.memory.specs.Partition
use Rattle.memory.specs.Format.{format_word}
use Rattle.memory.specs.Tree.{Has}
use Rattle.memory.specs.Sound.{RootFlag, Root}
use Rattle.rules.proofs.model.Base.{pick_yes, pick_no}
use Rattle.rules.proofs.model.Words.{addr, addr-zero, page_of}
use Rattle.rules.proofs.model.Abs.{pt, s1, s2, parts, head_v, Seen, is_hand, cell, Up}
use Rattle.rules.proofs.model.Format.{kind_no, flat0}
use Rattle.rules.proofs.model.Inv.{fixed, Inv, named, pages-is}
use Rattle.rules.proofs.model.RootWords.{parts_nil, five-words}
use Rattle.rules.proofs.model.Chains.{Above, above}
use Rattle.rules.proofs.sound.Words.{Mapping, mapping_of, words-none, kernel-word}
use Rattle.rules.proofs.sound.Pages.{five_page, five_role, five-role}

five-kernel : (d j : ℕ) → is_hand (five_role d j) ≡ false
five-kernel d zero = refl
five-kernel d (suc zero) = refl
five-kernel d (suc (suc zero)) = refl
five-kernel d (suc (suc (suc zero))) = refl
five-kernel d (suc (suc (suc (suc j)))) = refl

module _ (N T v : ℕ) where
  pub flat-some : (0 < v) × (5 + 3 * T + v < N) → flat0 N T v ≡ some (5 + 3 * T + v)
  unfolding flat0
  flat-some h = pick_yes (dec_lt 0 v) _ none h.0 ∙ pick_yes (dec_lt (5 + 3 * T + v) N) _ none h.1

  pub flat-none : ¬ ((0 < v) × (5 + 3 * T + v < N)) → flat0 N T v ≡ none
  unfolding flat0
  flat-none n = go (dec_lt 0 v) (dec_lt (5 + 3 * T + v) N)
    where
      go : Dec (0 < v) → Dec (5 + 3 * T + v < N) → flat0 N T v ≡ none
      go (yes a) (yes c) = absurd (n (a, c))
      go (yes a) (no c) = pick_yes (dec_lt 0 v) _ none a ∙ pick_no (dec_lt (5 + 3 * T + v) N) _ none c
      go (no a) c = pick_no (dec_lt 0 v) _ none a

module _ {b : ℕ} (wide : 6 ≤ b) (m : List ℕ) (i : Inv b m) where
  open named b i use {N, A}

  abbrev T : ℕ
  T = Geometry.threes_for b i.N

  five-is : (p : ℕ) → p < 5 → five_page A 1 p ≡ 1 + p
  unfolding kind_no
  five-is zero l = refl
  five-is (suc zero) l = i.root.roots pt
  five-is (suc (suc zero)) l = i.root.roots s1
  five-is (suc (suc (suc zero))) l = i.root.roots s2
  five-is (suc (suc (suc (suc zero)))) l = i.root.list
  five-is (suc (suc (suc (suc (suc p))))) l = absurd (omega arith)

  root-five : (p : ℕ) → p < 5 → (j : ℕ) → j < Geometry.page_words b → ¬ RootFlag p j → Mem.word b m (1 + p) j ≡ format_word b N (1 + p) j
  root-five p l j k n =
      let r : A.role (1 + p) ≡ five_role 1 p = ap A.role (sym (five-is p l)) ∙ five-role wide m i 1 i.wf.root_live p l in
      kernel-word wide m i (1 + p) j (A.role (1 + p)) refl (ap is_hand r ∙ five-kernel 1 p) k
      ∙ five-words wide N (flat0 N T) A i.wf i.root (fixed b N) (cell b A) p l j (λ x. absurd (n x))

  -- a page of the root, with its one hop
  root-mapping : (v p : ℕ) → flat0 N T (page_of b v) ≡ some p → (s : Seen) × Mapping b m A 1 v p s × (s.rt ≡ 7) × (s.up ≡ 0)
  root-mapping v p e =
      let n : A.maps 1 (page_of b v) ≡ some p = i.wf.top_maps (page_of b v) ∙ e in
      let w = i.wf.seen 1 (page_of b v) p n in
      let a : Above b A p none 1 (A.chain p) w.0 = above wide A p none 1 (A.chain p) w.0 (i.wf.good p) w.1 in
      let z : a.rest ≡ [] = parts_nil a.rest (a.hop_good.above ∙ ap (λ (x : ℕ). parts (A.chain x)) a.part ∙ ap parts i.wf.root_top) in
      let r : Up a.hop [] = subst (Up a.hop) z a.hop_good.rights in
      (w.0, mapping_of wide m i 1 v p w.0 i.wf.root_live n w.1 w.2, a.rt ∙ r, a.up ∙ ap head_v z)

  unmapped : (v : ℕ) → flat0 N T (page_of b v) ≡ none → A.maps 1 (page_of b v) ≡ none
  unmapped v e = i.wf.top_maps (page_of b v) ∙ e

  abbrev Flat : ℕ → Type 0
  Flat u = (1 ≤ u) × (u ≤ Geometry.flat_pages b (Partition.pages b m))

  flat-fits : (u : ℕ) → Flat u → (0 < u) × (5 + 3 * T + u < N)
  flat-fits u h = let e : Partition.pages b m ≡ N = pages-is wide m i in let k : u ≤ Geometry.flat_pages b N = rw e at h.1 in (h.0, omega arith)

  flat_back : (u : ℕ) → (0 < u) × (5 + 3 * T + u < N) → Flat u
  flat_back u h = let e : Partition.pages b m ≡ N = pages-is wide m i in (h.0, rw e (omega (arith, h.1)))

  pub sound-root : Root b m
  unfolding page_of
  sound-root =
      let e : Partition.pages b m ≡ N = pages-is wide m i in
      record {
        five = λ p l j k n. root-five p l j k n ∙ ap (λ (x : ℕ). format_word b x (1 + p) j) (sym e);
        maps = λ v h f.
            let x = root-mapping v (5 + 3 * T + page_of b v) (flat-some N T (page_of b v) (flat-fits (page_of b v) f)) in
            (x.1.page ∙ ap (λ (y : ℕ). 5 + 3 * Geometry.threes_for b y + page_of b v) (sym e), x.1.rights ∙ x.2);
        only = λ v h n. (words-none wide m i 1 v i.wf.root_live h.virtual (unmapped v (flat-none N T (page_of b v) (λ f. n (flat_back (page_of b v) f))))).0;
        shadow2_words = λ v h. no_above v h (flat0 N T (page_of b v)) refl;
      }
    where
      no_above : (v : ℕ) → Has b m 1 v → (o : Option ℕ) → flat0 N T (page_of b v) ≡ o → Partition.above b m 1 v ≡ 0
      no_above v h none e = (words-none wide m i 1 v i.wf.root_live h.virtual (unmapped v e)).2
      no_above v h (some p) e = let x = root-mapping v p e in x.1.above ∙ ap (addr b) x.3 ∙ addr-zero wide
