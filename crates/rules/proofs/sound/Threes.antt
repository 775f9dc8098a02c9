-- Sentence 3: each listed three stands at one directory index, and each index that has tables is listed once.
use mathlib.Core.Path.{◌≡◌, refl, sym, ap, ◌∙◌}
use mathlib.Core.Logic.{◌≢◌}
use mathlib.Core.Option.{Option, none, some}
use mathlib.Core.List.{List}
use Prim.Native.Nat.{ℕ, ◌+◌, ◌*◌, ◌≤◌, ◌<◌}
use native.Mathlib.Omega.{arith}
use lib.ListN.{length}
use Rattle.walk.specs.Finite.{One}
use Rattle.memory.specs.Geometry.{page_words}
use Rattle.memory.specs.Words as Mem
use Rattle.memory.specs.Partition.{directory, list, threes}
use Rattle.memory.specs.Tree.{InTree}
use Rattle.memory.specs.Sound.{Stands, Threes}
use Rattle.rules.proofs.model.Words.{W, addr, page_of, link, link_nz, page_of-link}
use Rattle.rules.proofs.model.Abs.{Kind, pt, s1, s2, desc, tab, Three, Abs, three_at, Tabs, link_word}
use Rattle.rules.proofs.model.Read.{ThreeIs, three-is}
use Rattle.rules.proofs.model.Format.{kind_no, kind-lt}
use Rattle.rules.proofs.model.Inv.{Inv}
use Rattle.rules.proofs.model.Listing.{three_no, page-no, place_of, no_found, no-three, no_one}
use Rattle.rules.proofs.sound.Words.{root-word, directory-is, shadow1-is, shadow2-is, threes-is}
use Rattle.rules.proofs.sound.Tree.{in_tree-live}
use Rattle.rules.proofs.sound.Pages.{listed-physical}

tab-index : {k k' : Kind} {d d' x y : ℕ} → tab k d x ≡ tab k' d' y → x ≡ y
tab-index e = cc

module _ {b : ℕ} (wide : 6 ≤ b) (m : List ℕ) (i : Inv b m) where
  abbrev A : Abs
  A = i.state

  module _ (d : ℕ) (l : A.role d ≡ desc) where
    abbrev ts : List Three
    ts = A.threes d

    tabs : Tabs b A.role d ts
    tabs = i.wf.tabs d l

    -- page k of three j, as the list names it
    three-word : (k : Kind) (j x : ℕ) → x ≡ 2 + 2 * (3 * j + kind_no k) → j < length ts → Mem.word b m (list b m d) x ≡ addr b ((three_no ts j).page k)
    three-word k j x e n =
        ap (Mem.word b m (list b m d)) e ∙ listed-physical wide m i d l (3 * j + kind_no k) (omega (arith, kind-lt k)) ∙ ap (addr b) (page-no ts j k)

    -- three j stands at its index
    stands : (j x : ℕ) → j < length ts → x < page_words b → three_at x ts ≡ some (three_no ts j) → Stands b m d j x
    unfolding link_word link addr kind_no
    stands j x n f e = (
      ap (λ (r : ℕ). Mem.word b m r x) (directory-is wide m i d l) ∙ root-word wide m i pt d x l f ∙ ap (link_word b pt) e ∙ ap (λ (a : ℕ). a + 1) (sym (three-word pt j (2 + 6 * j) (omega arith) n)),
      ap (λ (r : ℕ). Mem.word b m r x) (shadow1-is wide m i d l) ∙ root-word wide m i s1 d x l f ∙ ap (link_word b s1) e ∙ ap (λ (a : ℕ). a + 1) (sym (three-word s1 j (4 + 6 * j) (omega arith) n)),
      ap (λ (r : ℕ). Mem.word b m r x) (shadow2-is wide m i d l) ∙ root-word wide m i s2 d x l f ∙ ap (link_word b s2) e ∙ ap (λ (a : ℕ). a + 1) (sym (three-word s2 j (6 + 6 * j) (omega arith) n)),
    )

    -- and at no other
    link_at : (j x : ℕ) → j < length ts → x < page_words b → Stands b m d j x → link_word b pt (three_at x ts) ≡ link b ((three_no ts j).page pt)
    unfolding link addr kind_no
    link_at j x n f h =
        sym (ap (λ (r : ℕ). Mem.word b m r x) (directory-is wide m i d l) ∙ root-word wide m i pt d x l f) ∙ h.0 ∙ ap (λ (a : ℕ). a + 1) (three-word pt j (2 + 6 * j) (omega arith) n)

    stands-only : (j x : ℕ) → j < length ts → x < page_words b → Stands b m d j x → x ≡ (three_no ts j).at
    unfolding link_word
    stands-only j x n f h = go (three_at x ts) refl (link_at j x n f h)
      where
        go : (o : Option Three) → three_at x ts ≡ o → link_word b pt o ≡ link b ((three_no ts j).page pt) → x ≡ (three_no ts j).at
        go none e w = absurd (link_nz wide ((three_no ts j).page pt) (sym w))
        go (some t) e w =
            let q : t.page pt ≡ (three_no ts j).page pt = sym (page_of-link wide (t.page pt)) ∙ ap (page_of b) w ∙ page_of-link wide ((three_no ts j).page pt) in
            tab-index (sym ((three-is wide A.role d x ts t tabs e).pages pt) ∙ ap A.role q ∙ (no-three wide A.role d ts j tabs n).pages pt)

    threes-form : Threes b m d
    unfolding W link_word
    threes-form =
        let e : threes b m d ≡ length ts = threes-is wide m i d l in
        record {
          stand = λ j n.
              let k : j < length ts = omega arith in
              let x : ThreeIs b A.role d (three_no ts j).at (three_no ts j) = no-three wide A.role d ts j tabs k in
              ((three_no ts j).at, (x.fits, stands j (three_no ts j).at k x.fits (no_found wide A.role d ts j tabs k)), λ y h. stands-only j y k h.0 h.1);
          listed = λ x f n. go e x f n (three_at x ts) refl;
        }
      where
        go : threes b m d ≡ length ts → (x : ℕ) → x < page_words b → Mem.word b m (directory b m d) x ≢ 0 → (o : Option Three) → three_at x ts ≡ o → One (λ j. (j < threes b m d) × Stands b m d j x)
        go e x f n none q = absurd (n (ap (λ (r : ℕ). Mem.word b m r x) (directory-is wide m i d l) ∙ root-word wide m i pt d x l f ∙ ap (link_word b pt) q))
        go e x f n (some t) q =
            let p = place_of x ts t q in
            let j : ℕ = p.0 in
            let at : three_at x ts ≡ some (three_no ts j) = q ∙ ap some (sym p.2) in
            let h : Stands b m d j x = stands j x p.1 f at in
            (j, (omega (arith, p.1), h), λ y k. no_one wide A.role d ts y j tabs (omega (arith, k.0)) p.1 (sym (stands-only y x (omega (arith, k.0)) f k.1) ∙ stands-only j x p.1 f h))

  pub sound-threes : (k d : ℕ) → InTree b m k d → Threes b m d
  sound-threes k d t = threes-form d (in_tree-live wide m i k d t)
