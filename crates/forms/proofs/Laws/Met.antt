-- The pass over the indices, in the code's terms: the place of a three, and what is left to ask. Assumes nothing.
use mathlib.Core.Path.{◌≡◌, refl, sym, ap, ◌∙◌}
use mathlib.Core.List.{List}
use mathlib.Core.Bool.{Bool, true, false, cond, ◌&&◌, false≢true}
use mathlib.Core.Logic.{◌≢◌}
use Prim.Native.Nat.{ℕ, zero, suc, ◌+◌, ◌-◌, ◌*◌, ◌≤◌, ◌<◌}
use native.Mathlib.Nat.{zero-add}
use native.Mathlib.Omega.{arith}
use native.Mathlib.Decide.{ℕ_discrete, dec_lt}
use lib.Dec.{eqb}
use lib.ListN.{length, get_or, set, replicate, get_or-replicate}
use lib.Seq.{get_or-set_same, get_or-set_other}
use borrow.Author.Tests.{eqb-true, ne_eqb}
use Rattle.std.proofs.Common.{Option, Some, None}
use Rattle.std.specs.Option.{MatchOption}
use Rattle.walk.specs.Finite.{from, from-once, below, all, keep, once, once?, One}
use Rattle.walk.specs.Reflect.{Tells}
use Rattle.memory.specs.Geometry.{page_words}
use Rattle.memory.specs.Words.{word}
use Rattle.memory.specs.Partition.{directory, list, threes}
use Rattle.soundness.specs.Test.{stands}
use Rattle.own_pages.specs.Asked.{links, listed_as, no_tables, index_test, indices_left, Skipped, Never, First, Sole}
use Rattle.own_pages.specs.Named.{WordsAt}
use Rattle.own_pages.proofs.Laws.Tests.{and_fst, and_snd, fails}
use Rattle.own_pages.proofs.Laws.Loops.{from_start, all-go-on, all_end, all-at, all_same, found-next, found-end}
use Rattle.own_pages.proofs.Laws.Asked.{no-tables, index_wrong, index-none, index-some}

-- what an option holds, said in other words
pub told_as : {P S : Type 0} {Q R : ℕ → Type 0} (o : Option ℕ) → MatchOption o P Q → (P → S) → ((x : ℕ) → Q x → R x) → MatchOption o S R
told_as None h f g = f h
told_as (Some x) h f g = g x h

-- ---- the one place below n at which f holds, by the first at which it holds and the next

module _ (f : ℕ → Bool) (n : ℕ) where
  one? : Tells (once f (from n 0)) (One (λ x. (x < n) × (f x ≡ true)))
  one? = once? {P = λ x. f x ≡ true} {In = λ x. x < n} (from n 0) (below n) (from-once n 0) (λ x. ((λ q. q), λ q. q))

  never : {i r : ℕ} → Never f r i → (x : ℕ) → i ≤ x → x < r → f x ≡ true → ⊥
  never p x a l e = false≢true (sym (p x a l) ∙ e)

  pub sole_none : Never f n 0 → once f (from n 0) ≡ false
  sole_none p = fails (once f (from n 0)) (λ t. let (x, (l, h), u) = one?.0 t in never p x (omega arith) l h)

  pub sole-two : {j k : ℕ} → First f n 0 j → First f n (j + 1) k → once f (from n 0) ≡ false
  sole-two {j} {k} p q = fails (once f (from n 0)) (λ t.
      let (x, z, u) = one?.0 t in
      let s : j ≡ x = u j (p.1, p.2) in
      let e : k ≡ x = u k (q.1, q.2) in
      omega (arith, q.0))

  pub sole-one : {j : ℕ} → First f n 0 j → Never f n (j + 1) → Sole f n j
  sole-one {j} p q = record { high = p.1; holds = p.2; sole = one?.1 (j, (p.1, p.2), alone) }
    where
      alone : (y : ℕ) → (y < n) × (f y ≡ true) → y ≡ j
      alone y (a, t) = elim (ℕ_discrete y j) [
        | yes e ↦ e
        | no z ↦ elim (dec_lt y j) [ yes c ↦ absurd (never p.3 y (omega arith) c t) | no c ↦ absurd (never q y (omega arith) a t) ]
      ]

  -- and at no other
  pub sole-other : {j : ℕ} → Sole f n j → (k : ℕ) → k < n → k ≢ j → f k ≡ false
  sole-other {j} s k l z =
      let (x, q, u) = one?.0 s.sole in
      fails (f k) (λ t. let a : j ≡ x = u j (s.high, s.holds) in let c : k ≡ x = u k (l, t) in z (c ∙ sym a))

-- ---- what is left from index i on

module _ (b : ℕ) (m : List ℕ) (d : ℕ) where
  -- how often three j is met in all, where it was met below i as often as met says; and that it is met once
  abbrev often : List ℕ → ℕ → ℕ → ℕ
  often met i j = get_or met j 0 + length (keep (stands b m d j) (from (page_words b - i) i))

  abbrev due : List ℕ → ℕ → ℕ → Bool
  due met i j = eqb (often met i j) 1

  pub left-start : threes b m d ≤ 10
      → indices_left b m d (replicate 10 0) 0
      ≡ all (index_test b m d) (from (page_words b) 0) && all (λ j. once (stands b m d j) (from (page_words b) 0)) (from (threes b m d) 0)
  unfolding indices_left once
  left-start h =
      let standing : ℕ → ℕ = λ j. length (keep (stands b m d j) (from (page_words b) 0)) in
      rw (← from_start (page_words b))
      (ap (λ (t : Bool). all (index_test b m d) (from (page_words b) 0) && t)
      (all_same (λ j. eqb (get_or (replicate 10 0) j 0 + standing j) 1) (λ j. eqb (standing j) 1) (threes b m d) 0
      (λ j a l. rw (get_or-replicate {A = ℕ} 10 j 0 0 (omega arith), zero-add) refl)))

  module _ (met : List ℕ) (i : ℕ) where
    pub left_end : page_words b ≤ i → indices_left b m d met i ≡ all (λ j. eqb (get_or met j 0) 1) (from (threes b m d) 0)
    unfolding indices_left
    left_end h =
        rw (← all_end (index_test b m d) (page_words b) i h refl)
        (all_same (due met i) (λ j. eqb (get_or met j 0) 1) (threes b m d) 0 (λ j a l.
        let e : often met i j ≡ get_or met j 0 = omega (arith, found-end (stands b m d j) (page_words b) i h) in ap (λ (x : ℕ). eqb x 1) e))

    left_wrong : i < page_words b → index_test b m d i ≡ false → indices_left b m d met i ≡ false
    unfolding indices_left
    left_wrong h e = rw (all-go-on (index_test b m d) (page_words b) i h, e) refl

    -- a three that was met before stands at i
    left-twice : i < page_words b → (j : ℕ) → j < threes b m d → stands b m d j i ≡ true → get_or met j 0 ≢ 0 → indices_left b m d met i ≡ false
    unfolding indices_left
    left-twice h j l s z =
        let pass : Bool = all (index_test b m d) (from (page_words b - i) i) in
        let once-each : Bool = all (due met i) (from (threes b m d) 0) in
        fails (pass && once-each) (λ t.
        let q : due met i j ≡ true = all-at (due met i) (threes b m d) 0 (and_snd pass once-each t) j (omega arith) (omega arith) in
        let e = eqb-true (often met i j) 1 q in
        z (omega (arith, rw s at (found-next (stands b m d j) (page_words b) i h))))

    -- the threes that stand at i were met
    left-go : i < page_words b → index_test b m d i ≡ true → (met₁ : List ℕ)
        → ((j : ℕ) → j < threes b m d → get_or met j 0 + cond (stands b m d j i) 1 0 ≡ get_or met₁ j 0)
        → indices_left b m d met i ≡ indices_left b m d met₁ (i + 1)
    unfolding indices_left
    left-go h e met₁ s =
        rw (all-go-on (index_test b m d) (page_words b) i h, e)
        (ap (λ (t : Bool). all (index_test b m d) (from (page_words b - (i + 1)) (i + 1)) && t)
        (all_same (due met i) (due met₁ (i + 1)) (threes b m d) 0
        (λ j a l.
        let q : often met i j ≡ often met₁ (i + 1) j = omega (arith, s j (omega arith), found-next (stands b m d j) (page_words b) i h) in
        ap (λ (x : ℕ). eqb x 1) q)))

    left-same : i < page_words b → index_test b m d i ≡ true → word b m (directory b m d) i ≡ 0 → indices_left b m d met i ≡ indices_left b m d met (i + 1)
    left-same h e z = left-go h e met (λ j l. rw (none j) (omega arith))
      where
        none : (j : ℕ) → stands b m d j i ≡ false
        none j = unfold stands in (rw (ne_eqb (word b m (directory b m d) i) (word b m (list b m d) (2 + 6 * j) + 1) (λ q. omega arith)) refl)

  left-past : (met : List ℕ) (n i : ℕ) → i + n ≤ page_words b → ((x : ℕ) → i ≤ x → x < i + n → no_tables b m d x ≡ true)
      → indices_left b m d met i ≡ indices_left b m d met (i + n)
  unfolding no_tables
  left-past met zero i h e = let q : i ≡ i + 0 = omega arith in ap (indices_left b m d met) q
  left-past met (suc n) i h e =
      let q : i + 1 + n ≡ i + suc n = omega arith in
      let z = e i (omega arith) (omega arith) in
      left-same met i (omega arith) (no-tables b m d i z) (eqb-true _ _ (and_fst _ _ (and_fst _ _ z)))
      ∙ left-past met n (i + 1) (omega arith) (λ x a l. e x (omega arith) (omega arith))
      ∙ ap (indices_left b m d met) q

  pub left-skip : (met : List ℕ) {i r : ℕ} → Skipped b m d i r → indices_left b m d met i ≡ indices_left b m d met r
  left-skip met {i} {r} s =
      let q : i + (r - i) ≡ r = omega (arith, s.low) in
      left-past met (r - i) i (omega (arith, s.low, s.high)) (all-at (no_tables b m d) (r - i) i s.empty) ∙ ap (indices_left b m d met) q

-- ---- an index: w, x and y are its words

module _ (b : ℕ) (m : List ℕ) (d : ℕ) (met : List ℕ) (i : ℕ) {w x y : ℕ} (h : WordsAt b m d i w x y) (r : i < page_words b) where
  pub met_wrong : links b m w x y ≡ false → indices_left b m d met i ≡ false
  met_wrong l = left_wrong b m d met i r (sym (index_wrong b m d i h l))

  module _ (l : links b m w x y ≡ true) where
    pub met-none : w ≡ 0 → indices_left b m d met i ≡ indices_left b m d met (i + 1)
    met-none z = left-same b m d met i r (sym (index-none b m d i h l z)) (sym h.in_directory ∙ z)

    module _ (z : w ≢ 0) where
      asked : index_test b m d i ≡ once (listed_as b m d w x y) (from (threes b m d) 0)
      asked = sym (index-some b m d i h l z)

      there : (k : ℕ) → stands b m d k i ≡ listed_as b m d w x y k
      unfolding stands listed_as
      there k = rw (h.in_directory, h.in_shadow1, h.in_shadow2) refl

      pub met-unlisted : once (listed_as b m d w x y) (from (threes b m d) 0) ≡ false → indices_left b m d met i ≡ false
      met-unlisted e = left_wrong b m d met i r (asked ∙ e)

      -- j is the place of the three with these words
      module _ {j : ℕ} (s : Sole (listed_as b m d w x y) (threes b m d) j) where
        pub met-twice : get_or met j 0 ≢ 0 → indices_left b m d met i ≡ false
        met-twice = left-twice b m d met i r j s.high (there j ∙ s.holds)

        pub met-first : get_or met j 0 ≡ 0 → j < length met → indices_left b m d met i ≡ indices_left b m d (set met j 1) (i + 1)
        met-first q c = left-go b m d met i r (asked ∙ s.sole) (set met j 1) more
          where
            more : (k : ℕ) → k < threes b m d → get_or met k 0 + cond (stands b m d k i) 1 0 ≡ get_or (set met j 1) k 0
            more k g = elim (ℕ_discrete k j) [
              | yes u ↦ rw (u, there j, s.holds, q, get_or-set_same met j 1 0 c) refl
              | no u ↦ rw (there k, sole-other (listed_as b m d w x y) (threes b m d) s k g u, get_or-set_other met j k 1 0 u) (omega arith)
            ]
