-- The root of a sound memory, in the state: its pages, threes and mappings are those that format leaves. Assumes an index width of 6 or more.
use mathlib.Core.Path.{◌≡◌, refl, sym, ap, ap₂, ◌∙◌}
use mathlib.Core.List.{List, [], ◌∷◌}
use mathlib.Core.Logic.{◌≢◌}
use mathlib.Core.Option.{Option, none, some}
use Prim.Native.Nat.{ℕ, zero, suc, ◌+◌, ◌*◌, ◌≤◌, ◌<◌}
use native.Mathlib.Omega.{arith}
use native.Mathlib.Decide.{dec_lt}
use borrow.Author.Tests.{lt-ltb}
use lib.ListN.{length}
use Rattle.memory.specs.Geometry.{page_words, address, page_of, directory_index, threes_for}
use Rattle.memory.specs.Words.{word}
use Rattle.memory.specs.Format.{format_word}
use Rattle.memory.specs.Partition.{pages, directory, shadow1, shadow2, list, threes, mapping}
use Rattle.memory.specs.Tree.{Has, root}
use Rattle.memory.specs.Sound.{Stands, Sound}
use Rattle.memory.proofs.Geometry.{page-address, threes_for-enough}
use Rattle.soundness.proofs.Root.{root-own, root-threes, root-listed}
use Rattle.rules.proofs.model.Words.{W, idx, idx-lt}
use Rattle.rules.proofs.model.Abs.{Kind, pt, s1, s2, Three}
use Rattle.rules.proofs.model.Format.{kind_no, kind-lt, flat0, three0, up_to, length-up_to}
use Rattle.rules.proofs.model.Inv.{RootKept}
use Rattle.rules.proofs.model.Listing.{three_no}
use Rattle.rules.proofs.model.RootWords.{no-up_to}
use Rattle.rules.proofs.sound.Root.{flat-some, flat-none}
use Rattle.rules.proofs.state.Tree.{room}
use Rattle.rules.proofs.state.State.{three, threes_of, state}
use Rattle.rules.proofs.state.Threes.{length-threes, three-no, index_is}
use Rattle.rules.proofs.state.Found.{At}
use Rattle.rules.proofs.state.Formed.{page-zero, virtual_of, maps-at, maps-back}

-- two lists of threes are equal by their elements
same-threes : (xs ys : List Three) → length xs ≡ length ys → ((j : ℕ) → j < length xs → three_no xs j ≡ three_no ys j) → xs ≡ ys
unfolding three_no
same-threes [] [] e h = refl
same-threes [] (y ∷ ys) e h = absurd (omega arith)
same-threes (x ∷ xs) [] e h = absurd (omega arith)
same-threes (x ∷ xs) (y ∷ ys) e h =
    let tail = same-threes xs ys (omega arith) (λ j l. h (suc j) (omega arith)) in
    ap₂ (λ (z : Three) (zs : List Three). z ∷ zs) (h 0 (omega arith)) tail

module _ {b : ℕ} (wide : 6 ≤ b) (m : List ℕ) (s : Sound b m) where
  abbrev N : ℕ
  N = pages b m

  abbrev T : ℕ
  T = threes_for b N

  -- ---- the five pages

  own : (j : ℕ) → j < 5 → page_of b (word b m 1 (2 * j + 1)) ≡ suc j
  own = root-own b m s.root_as_formatted (room wide)

  root-pages : (k : Kind) → (state b m s).rootp k 1 ≡ 2 + kind_no k
  unfolding kind_no
  root-pages pt = own 1 (omega arith)
  root-pages s1 = own 2 (omega arith)
  root-pages s2 = own 3 (omega arith)

  -- ---- the threes: three i stands at index i, and the list's pages are those behind the five

  count : threes b m 1 ≡ T
  count = root-threes b m s.root_as_formatted (room wide) (s.forms 0 1 root).list

  few : T ≤ 10
  few = omega (arith, count, (s.forms 0 1 root).list.few)

  wide_enough : (i : ℕ) → i < T → i < page_words b
  wide_enough i l = omega (arith, few, room wide)

  -- pair j of the list names page 6 + j
  list-pages : (j : ℕ) → j < 3 * T → word b m (list b m 1) (2 + 2 * j) ≡ address b (6 + j)
  list-pages j l =
      let f = (s.forms 0 1 root).list in
      let h : j < 3 * threes b m 1 = omega (arith, count) in
      sym (f.pairs j h).1.0 ∙ ap (address b) (root-listed b m s.root_as_formatted (room wide) f j h)

  -- page 2 is the directory, pages 3 and 4 are the shadows
  directory-words : (k i : ℕ) → k < 3 → i < T → word b m (2 + k) i ≡ address b (6 + 3 * i + k) + 1
  unfolding format_word
  directory-words zero i h l = s.root_as_formatted.five 1 (omega arith) i (wide_enough i l) (λ x. omega (arith, x.0)) ∙ (rw (lt-ltb i T l) refl)
  directory-words (suc zero) i h l = s.root_as_formatted.five 2 (omega arith) i (wide_enough i l) (λ x. omega (arith, x.0)) ∙ (rw (lt-ltb i T l) refl)
  directory-words (suc (suc zero)) i h l = s.root_as_formatted.five 3 (omega arith) i (wide_enough i l) (λ x. omega (arith, x.0)) ∙ (rw (lt-ltb i T l) refl)
  directory-words (suc (suc (suc k))) i h l = absurd (omega arith)

  stand-word : (k i r : ℕ) → k < 3 → i < T → r ≡ 2 + k → word b m r i ≡ word b m (list b m 1) (2 * k + 2 + 6 * i) + 1
  stand-word k i r h l e =
      let q : 2 + 2 * (3 * i + k) ≡ 2 * k + 2 + 6 * i = omega arith in
      let p : 6 + (3 * i + k) ≡ 6 + 3 * i + k = omega arith in
      let w = list-pages (3 * i + k) (omega arith) ∙ ap (address b) p in
      ap (λ (x : ℕ). word b m x i) e ∙ directory-words k i h l ∙ ap (λ (x : ℕ). x + 1) (sym w ∙ ap (word b m (list b m 1)) q)

  stands-there : (i : ℕ) → i < T → Stands b m 1 i i
  stands-there i l = (
    stand-word 0 i (directory b m 1) (omega arith) l (own 1 (omega arith)),
    stand-word 1 i (shadow1 b m 1) (omega arith) l (own 2 (omega arith)),
    stand-word 2 i (shadow2 b m 1) (omega arith) l (own 3 (omega arith)),
  )

  three-pages : (i : ℕ) (k : Kind) → i < T → (three b m 1 i).page k ≡ 6 + 3 * i + kind_no k
  unfolding three
  three-pages i k l =
      let n = kind-lt k in
      ap (page_of b) (list-pages (3 * i + kind_no k) (omega arith)) ∙ page-address b (6 + (3 * i + kind_no k)) ∙ omega arith

  three-is : (i : ℕ) → i < T → three b m 1 i ≡ three0 N T i
  unfolding three0
  three-is i l =
      let p : (three b m 1 i).at ≡ i = index_is wide m s root i i (omega (arith, count)) (wide_enough i l) (stands-there i l) in
      λ t. record { at = p t; page = λ k. three-pages i k l t }

  threes-are : threes_of b m 1 ≡ up_to N T T
  threes-are = same-threes _ _ (length-threes b m 1 ∙ count ∙ sym (length-up_to N T T)) each
    where
      each : (j : ℕ) → j < length (threes_of b m 1) → three_no (threes_of b m 1) j ≡ three_no (up_to N T T) j
      each j l =
          let h : j < threes b m 1 = omega (arith, length-threes b m 1) in
          let i : j < T = omega (arith, count) in
          three-no b m 1 j h ∙ three-is j i ∙ sym (no-up_to N T T j i)

  pub rooted : RootKept N T (state b m s)
  rooted = record { roots = root-pages; list = own 4 (omega arith); threes = threes-are }

  -- ---- the mappings: virtual page v maps the flat page of that number

  -- where the root has a three
  root-has : (v : ℕ) → directory_index b v < T → Has b m 1 (address b v)
  root-has v l = record {
    virtual = virtual_of wide v (wide_enough (directory_index b v) l);
    table = λ z.
        let e = ap₂ (λ (x y : ℕ). word b m x (directory_index b y)) (sym (own 1 (omega arith))) (sym (page-address b v)) in
        omega (arith, directory-words 0 (directory_index b v) (omega arith) l, e ∙ z);
  }

  flat-index : (v : ℕ) → 0 < v → 5 + 3 * T + v < N → directory_index b v < T
  unfolding idx W
  flat-index v l h = idx-lt wide T v (omega (arith, threes_for-enough b N))

  abbrev maps : ℕ → Option ℕ
  maps v = (state b m s).maps 1 v

  pub top_maps : (v : ℕ) → maps v ≡ flat0 N T v
  top_maps v = go (dec_lt 0 v) (dec_lt (5 + 3 * T + v) N)
    where
      e : page_of b (address b v) ≡ v
      e = page-address b v

      flat : 0 < v → 5 + 3 * T + v < N → maps v ≡ flat0 N T v
      flat l h =
          let has = root-has v (flat-index v l h) in
          let r = (s.root_as_formatted.maps (address b v) has ((rw e l), (rw e (omega arith)))).0 in
          let n : mapping b m 1 (address b v) ≢ 0 = λ z. omega (arith, sym r ∙ ap (page_of b) z ∙ page-zero b) in
          let x : At b m 1 (address b v) (5 + 3 * T + v) = record { has = has; present = n; page = r ∙ ap (λ (y : ℕ). 5 + 3 * T + y) e } in
          ap maps (sym e) ∙ maps-at wide m s root (address b v) (5 + 3 * T + v) x ∙ sym (flat-some N T v (l, h))

      other : ¬ ((0 < v) × (5 + 3 * T + v < N)) → maps v ≡ flat0 N T v
      other n = from (maps v) refl
        where
          from : (o : Option ℕ) → maps v ≡ o → maps v ≡ flat0 N T v
          from none f = f ∙ sym (flat-none N T v n)
          from (some p) f =
              let (k, t, x) = maps-back wide m s 1 v p f in
              absurd (x.present (s.root_as_formatted.only (address b v) x.has (λ y. n (omega (arith, y.0, e), omega (arith, y.0, y.1, e)))))

      go : Dec (0 < v) → Dec (5 + 3 * T + v < N) → maps v ≡ flat0 N T v
      go (yes l) (yes h) = flat l h
      go (yes l) (no h) = other (λ x. h x.1)
      go (no l) h = other (λ x. l x.0)
