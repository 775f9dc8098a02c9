-- A block keeps its sentences 6 to 9 where the words that they look at stay: for any two memories, sound or not. Assumes nothing.
use mathlib.Core.Path.{◌≡◌, refl, sym, ap, ap₂, ◌∙◌, subst}
use mathlib.Core.List.{List}
use mathlib.Core.Bool.{cond}
use mathlib.Core.Logic.{◌≢◌}
use Prim.Native.Nat.{ℕ, ◌+◌, ◌*◌, ◌/◌, ◌<◌}
use native.Mathlib.Omega.{arith}
use native.Mathlib.Decide.{ℕ_discrete}
use lib.Bits.{bit_and}
use lib.Dec.{eqb}
use lib.ListN.{length}
use borrow.Author.Tests.{eq-eqb, ne_eqb}
use Rattle.block_memory.specs.Geometry.{word_from, first_byte}
use Rattle.block_memory.specs.Words.{word}
use Rattle.block_memory.specs.Partition.{root, Partition, parent, number, structure, field, start, end, rights, used, child, source, previous, next}
use Rattle.block_memory.specs.Partition.{place, named}
use Rattle.block_memory.specs.Sound.{Form, Use, Source, Next, Pieces, Block, Slot, source_start, source_end, source_link}
use Rattle.block_rules.proofs.Stays.{Same, Was, parent-on, number-on, word0-on, Named}

-- block b of d, or another
pub this_or : (P : ℕ → ℕ → Type 0) (d b u o : ℕ) → P d b → (¬ ((u ≡ d) × (o ≡ b)) → P u o) → P u o
this_or P d b u o this other = go (ℕ_discrete u d) (ℕ_discrete o b)
  where
    go : Dec (u ≡ d) → Dec (o ≡ b) → P u o
    go (yes x) (yes y) = subst (λ (e : ℕ). P e o) (sym x) (subst (P d) (sym y) this)
    go (yes x) (no y) = other (λ (e, f). y f)
    go (no x) y = other (λ (e, f). x e)

-- the two halves of sentence 9
abbrev pub Front : List ℕ → ℕ → ℕ → Type 0
Front m d n = (previous m d n ≡ 0 → (start m d n ≡ source_start m d n) × (source_link m d n ≡ n)) × (previous m d n ≢ 0 → next m d (previous m d n) ≡ n)

abbrev pub Back : List ℕ → ℕ → ℕ → Type 0
Back m d n = (next m d n ≡ 0 → end m d n ≡ source_end m d n) × (next m d n ≢ 0 → Next m d n)

pub pieces_of : {m : List ℕ} {d n : ℕ} → Front m d n → Back m d n → Pieces m d n
pieces_of f b = record { first = f.0; later = f.1; last = b.0; more = b.1 }

-- a slot that has a block, and one that is wiped
pub block-slot : {m : List ℕ} {d n : ℕ} → used m d n ≢ 0 → Block m d n → Slot m d n
block-slot some b = record { free = λ z. absurd (some z); taken = λ z. b }

pub wiped-slot : {m : List ℕ} {d n : ℕ} → ((g : ℕ) → g < 9 → field m d n g ≡ 0) → Slot m d n
wiped-slot w = record { free = λ z. w; taken = λ z. absurd (z (w 3 (omega arith))) }

module _ (m m' : List ℕ) where
  -- ---- sentence 6

  pub form-kept : {d n : ℕ} → length m' ≡ length m → Same m m' d n 0 → Same m m' d n 1 → Same m m' d n 2 → Same m m' d n 3 → Form m d n → Form m' d n
  form-kept z a b c e f = record {
    long = omega (arith, f.long);
    inside = omega (arith, f.inside);
    few_rights = omega (arith, f.few_rights);
    known = omega (arith, f.known);
  }

  -- ---- sentence 7

  pub named-same : (d c : ℕ) → (c ≢ 0 → Same m m' d c 0) → named m' d c ≡ named m d c
  named-same d c h = elim (ℕ_discrete c 0) [
    | yes z ↦ rw (eq-eqb c 0 z)
    | no z ↦ rw (ne_eqb c 0 z) (ap word_from (h z))
  ]

  pub use_kept : {d n : ℕ} → ((g : ℕ) → g < 6 → Same m m' d n g) → Named m m' d n → Use m d n → Use m' d n
  use_kept {d} {n} same k u =
      let at : place m' d n ≡ place m d n = ap word_from (same 0 (omega arith)) in
      let uses = same 3 (omega arith) in
      let childs = same 4 (omega arith) in
      let links = same 5 (omega arith) in
      record {
        use1 = λ e. let h = u.use1 (sym uses ∙ e) in record { no_child = childs ∙ h.no_child; no_link = links ∙ h.no_link };
        use2 = λ e.
            let e' = sym uses ∙ e in
            let h = u.use2 e' in
            let (a, b) = k.kid h.to_child in
            let (x, y) = k.first e' in
            let t : place m' d (child m' d n) ≡ place m d (child m d n) = ap (λ (c : ℕ). place m' d c) childs ∙ ap word_from a in
            record {
              to_child = ap (λ (c : ℕ). used m' d c) childs ∙ b ∙ h.to_child;
              from_this = ap₂ (λ (p q : ℕ). source m' p q) t links ∙ x ∙ h.from_this;
              first = ap₂ (λ (p q : ℕ). previous m' p q) t links ∙ y ∙ h.first;
            };
        use3 = λ e.
            let e' = sym uses ∙ e in
            let h = u.use3 e' in
            let (a, w) = k.desc e' in
            record {
              no_child = childs ∙ h.no_child;
              no_link = links ∙ h.no_link;
              room = omega (arith, h.room, at, same 1 (omega arith));
              listed = subst (Partition m') (sym at) a;
              parent_word = ap (parent m') at ∙ parent-on m m' _ w ∙ h.parent_word;
              number_word = ap (number m') at ∙ number-on m m' _ w ∙ h.number_word;
            };
        use4 = λ e.
            let e' = sym uses ∙ e in
            let h = u.use4 e' in
            let (a, two) = k.struct e' in
            let w : named m' d (child m' d n) ≡ named m d (child m d n) =
            ap (named m' d) childs ∙ named-same d (child m d n) (λ z. (k.kid (h.whose z)).0) in
            record {
              whose = λ z.
                  let u : used m d (child m d n) ≡ 3 = h.whose (λ y. z (childs ∙ y)) in
                  ap (λ (x : ℕ). used m' d x) childs ∙ (k.kid u).1 ∙ u;
              room = omega (arith, h.room, at, same 1 (omega arith));
              there = ap₂ (λ (p q : ℕ). structure m' p q) w links ∙ a ∙ h.there ∙ sym at;
              number_word = ap (word m') at ∙ word0-on m m' _ two ∙ h.number_word;
              own_word = ap (λ (i : ℕ). word m' (i + 1)) at ∙ two 1 (omega arith) ∙ h.own_word ∙ sym (ap (λ (x : ℕ). cond (eqb x 0) 1 0) childs);
            };
      }

  -- ---- sentences 8 and 9, for block o in place of block n

  root_is : length m' ≡ length m → root m' ≡ root m
  root_is e = ap (λ (w : ℕ). 8 + w / 32) e

  module _ (d o n : ℕ) (size : length m' ≡ length m) (sources : Was m m' d o n 6) (parents : parent m' d ≡ parent m d) where
    pub source-from : number m' d ≡ number m d → Was m m' d o n 2
        → (d ≢ root m → Same m m' (parent m d) (source m d n) 2 × Same m m' (parent m d) (source m d n) 3 × Same m m' (parent m d) (source m d n) 4)
        → Source m d n → Source m' d o
    source-from numbers right lent s = record {
      of_root = λ e.
          let e' : d ≡ root m = e ∙ root_is size in
          let h = s.of_root e' in
          record {
            no_source = ap (λ (x : ℕ). source m' x o) (sym e) ∙ sources ∙ ap (λ (x : ℕ). source m x n) e' ∙ h.no_source;
            all = ap (λ (x : ℕ). rights m' x o) (sym e) ∙ right ∙ ap (λ (x : ℕ). rights m x n) e' ∙ h.all;
          };
      of_other = λ e.
          let e' : d ≢ root m = λ z. e (z ∙ sym (root_is size)) in
          let h = s.of_other e' in
          let (a, b, c) = lent e' in
          record {
            lent = ap₂ (λ (x y : ℕ). used m' x y) parents sources ∙ b ∙ h.lent;
            to_this = ap₂ (λ (x y : ℕ). child m' x y) parents sources ∙ c ∙ h.to_this ∙ sym numbers;
            no_more = ap₂ (λ (x y : ℕ). bit_and x y) right (ap₂ (λ (x y : ℕ). rights m' x y) parents sources ∙ a) ∙ h.no_more ∙ sym right;
          };
    }

    at_source : (g a b : ℕ) → a ≡ b → (d ≢ root m → Same m m' (parent m d) (source m d n) g)
        → cond (eqb d (root m')) a (field m' (parent m' d) (source m' d o) g) ≡ cond (eqb d (root m)) b (field m (parent m d) (source m d n) g)
    at_source g a b e h = rw (root_is size) (elim (ℕ_discrete d (root m)) [
      | yes z ↦ rw (eq-eqb d (root m) z) e
      | no z ↦ rw (ne_eqb d (root m) z) (ap₂ (λ (x y : ℕ). field m' x y g) parents sources ∙ h z)
    ])

    -- previous, and what it asks
    pub front-from : Was m m' d o n 0 → Was m m' d o n 7 → o ≡ n
        → (d ≢ root m → Same m m' (parent m d) (source m d n) 0 × Same m m' (parent m d) (source m d n) 5)
        → (previous m d n ≢ 0 → next m' d (previous m d n) ≡ o) → Pieces m d n → Front m' d o
    front-from starts before is lent prior p = (
      (λ e.
          let (a, b) = p.first (sym before ∙ e) in
          (starts ∙ a ∙ sym (at_source 0 _ _ (ap first_byte size) (λ z. (lent z).0)), at_source 5 _ _ refl (λ z. (lent z).1) ∙ b ∙ sym is)),
      (λ e.
          let e' : previous m d n ≢ 0 = λ z. e (before ∙ z) in
          ap (λ (x : ℕ). next m' d x) before ∙ prior e'),
    )

    -- next, and what it asks
    pub back_from : Was m m' d o n 1 → Was m m' d o n 2 → Was m m' d o n 8
        → (d ≢ root m → Same m m' (parent m d) (source m d n) 1)
        → (next m d n ≢ 0 → (previous m' d (next m d n) ≡ o) × Same m m' d (next m d n) 0 × Same m m' d (next m d n) 2 × Same m m' d (next m d n) 6)
        → Pieces m d n → Back m' d o
    back_from ends right behind lent later p = (
      (λ e. ends ∙ p.last (sym behind ∙ e) ∙ sym (at_source 1 _ _ (ap (λ (w : ℕ). 4 * w) size) lent)),
      (λ e.
          let e' : next m d n ≢ 0 = λ z. e (behind ∙ z) in
          let x = p.more e' in
          let (f, a, b, c) = later e' in
          record {
            back = ap (λ (y : ℕ). previous m' d y) behind ∙ f;
            adjoins = ap (λ (y : ℕ). start m' d y) behind ∙ a ∙ x.adjoins ∙ sym ends;
            same_source = ap (λ (y : ℕ). source m' d y) behind ∙ c ∙ x.same_source ∙ sym sources;
            same_rights = ap (λ (y : ℕ). rights m' d y) behind ∙ b ∙ x.same_rights ∙ sym right;
          }),
    )
