-- Words and pages filled one after the other: what is filled is as format has it, and what is behind it as it was. Assumes nothing.
use mathlib.Core.Path.{◌≡◌, refl, sym, ap, ap₂, ◌∙◌}
use mathlib.Core.List.{List, [], ◌∷◌, ◌++◌, append_assoc}
use Prim.Native.Nat.{ℕ, zero, suc, ◌+◌, ◌-◌, ◌*◌, ◌/◌, ◌%◌, ◌≤◌, ◌<◌}
use native.Mathlib.Nat.{not-suc-le-zero, le_of_suc-le-suc, suc-mul, mul-le-mul_right, le-div_iff_mul-le}
use native.Mathlib.Numerals.{add-one}
use native.Mathlib.Omega.{arith}
use lib.ListN.{length, get_or, set, take, drop, replicate, length-take, length-drop, length-append}
use lib.Pow.{pow_pos}
use lib.Seq.{take_at, drop_at, drop-drop, get_or-drop}
use Rattle.memory.specs.Geometry.{page_words, threes_for}
use Rattle.memory.specs.Words.{index, tabulate}
use Rattle.memory.specs.Format.{format_word, format}
use Rattle.memory.proofs.Geometry.{index-page, index-place}
use Rattle.memory.proofs.Format.{length-tabulate}
use Rattle.formatting.proofs.WordLaws.{word_flat}

-- ---- the words of a part, one after the other

fill_suc : (k i : ℕ) (f : ℕ → ℕ) (s : List ℕ) → i < length s → set (tabulate k i f ++ drop i s) i (f (k + i)) ≡ tabulate k (suc i) f ++ drop (suc i) s
unfolding tabulate
fill_suc k i f [] h = absurd (not-suc-le-zero h)
fill_suc k zero f (x ∷ xs) h =
    let e : k + 0 ≡ k = omega arith in
    ap (λ (y : ℕ). f y ∷ xs) e
fill_suc k (suc i) f (x ∷ xs) h =
    let e : k + suc i ≡ suc k + i = omega arith in
    ap (λ (y : ℕ). f k ∷ set (tabulate (suc k) i f ++ drop i xs) i (f y)) e
    ∙ ap (λ (l : List ℕ). f k ∷ l) (fill_suc (suc k) i f xs (le_of_suc-le-suc h))

pub fill_none : (f : ℕ → ℕ) (s : List ℕ) → s ≡ tabulate 0 0 f ++ drop 0 s
unfolding tabulate
fill_none f s = refl

pub fill_more : (f : ℕ → ℕ) (s t : List ℕ) (i x : ℕ) → i < length s → t ≡ tabulate 0 i f ++ drop i s → x ≡ f i
    → set t i x ≡ tabulate 0 (i + 1) f ++ drop (i + 1) s
fill_more f s t i x h e q =
    let z : i ≡ 0 + i = omega arith in
    ap₂ (λ (l : List ℕ) (y : ℕ). set l i y) e (q ∙ ap f z) ∙ rw add-one (fill_suc 0 i f s h)

-- the words behind the first i are 0 and stay so
pub fill-rest : (k i : ℕ) (f : ℕ → ℕ) (s : List ℕ) → i ≤ length s → ((j : ℕ) → get_or s j 0 ≡ 0) → ((j : ℕ) → k + i ≤ j → j < k + length s → f j ≡ 0)
    → tabulate k i f ++ drop i s ≡ tabulate k (length s) f
unfolding tabulate
fill-rest k zero f [] h z e = refl
fill-rest k zero f (x ∷ xs) h z e =
    ap₂ (λ (y : ℕ) (l : List ℕ). y ∷ l) (z 0 ∙ sym (e k (omega arith) (omega arith)))
    (fill-rest (suc k) zero f xs (omega arith) (λ j. z (suc j)) (λ j u v. e j (omega arith) (omega arith)))
fill-rest k (suc i) f [] h z e = absurd (not-suc-le-zero h)
fill-rest k (suc i) f (x ∷ xs) h z e =
    ap (λ (l : List ℕ). f k ∷ l)
    (fill-rest (suc k) i f xs (le_of_suc-le-suc h) (λ j. z (suc j)) (λ j u v. e j (omega arith) (omega arith)))

-- ---- words that are all 0, and a part of them

pub wiped-all : (n i : ℕ) → get_or {A = ℕ} (replicate n 0) i 0 ≡ 0
wiped-all zero i = refl
wiped-all (suc n) zero = refl
wiped-all (suc n) (suc i) = wiped-all n i

wiped-head : (n : ℕ) (s : List ℕ) (i : ℕ) → ((j : ℕ) → get_or s j 0 ≡ 0) → get_or (take n s) i 0 ≡ 0
wiped-head zero s i z = refl
wiped-head (suc n) [] i z = refl
wiped-head (suc n) (x ∷ xs) zero z = z 0
wiped-head (suc n) (x ∷ xs) (suc i) z = wiped-head n xs i (λ j. z (suc j))

-- ---- the pages, one after the other

tabulate-add : (k i j : ℕ) (f : ℕ → ℕ) → tabulate k (i + j) f ≡ tabulate k i f ++ tabulate (k + i) j f
unfolding tabulate
tabulate-add k zero j f =
    let e : 0 + j ≡ j = omega arith in
    let g : k ≡ k + 0 = omega arith in
    ap₂ (λ (x y : ℕ). tabulate x y f) g e
tabulate-add k (suc i) j f =
    let e : suc i + j ≡ suc (i + j) = omega arith in
    let g : suc k + i ≡ k + suc i = omega arith in
    ap (λ (x : ℕ). tabulate k x f) e
    ∙ ap (λ (l : List ℕ). f k ∷ l) (tabulate-add (suc k) i j f ∙ ap (λ (x : ℕ). tabulate (suc k) i f ++ tabulate x j f) g)

tabulate-same : (k l i : ℕ) (f g : ℕ → ℕ) → ((j : ℕ) → j < i → f (k + j) ≡ g (l + j)) → tabulate k i f ≡ tabulate l i g
unfolding tabulate
tabulate-same k l zero f g h = refl
tabulate-same k l (suc i) f g h =
    let e : k ≡ k + 0 = omega arith in
    let e' : l + 0 ≡ l = omega arith in
    ap₂ (λ (x : ℕ) (y : List ℕ). x ∷ y) (ap f e ∙ h 0 (omega arith) ∙ ap g e')
    (tabulate-same (suc k) (suc l) i f g (λ j q. ap f (omega arith) ∙ h (suc j) (omega arith) ∙ ap g (omega arith)))

module _ (b n : ℕ) where
  -- word j of a formatted memory
  abbrev at : ℕ → ℕ
  at j = format_word b n (j / page_words b) (j % page_words b)

  -- p pages are as format has them, the others as they were
  abbrev pub formatted : List ℕ → ℕ → List ℕ
  formatted m p = tabulate 0 (p * page_words b) at ++ drop (p * page_words b) m

  page-words : (p : ℕ) → tabulate 0 (page_words b) (format_word b n p) ≡ tabulate (0 + p * page_words b) (page_words b) at
  page-words p =
      tabulate-same 0 (0 + p * page_words b) (page_words b) (format_word b n p) at
      (λ j h. let e : 0 + p * page_words b + j ≡ index b p j = omega arith in
      let z : 0 + j ≡ j = omega arith in
      ap (format_word b n p) z
      ∙ sym (ap₂ (format_word b n) (ap (λ (x : ℕ). x / page_words b) e ∙ index-page b p j h) (ap (λ (x : ℕ). x % page_words b) e ∙ index-place b p j h)))

  pub formatted-none : (m : List ℕ) → m ≡ formatted m 0
  unfolding tabulate
  formatted-none m =
      let e : 0 * page_words b ≡ 0 = omega arith in
      sym (ap (λ (x : ℕ). tabulate 0 x at ++ drop x m) e)

  behind : (m l : List ℕ) (p a : ℕ) → a ≡ index b p 0 → l ≡ formatted m p → drop a l ≡ drop (p * page_words b) m
  behind m l p a h q =
      let w = page_words b in
      ap (drop a) q ∙ drop_at (tabulate 0 (p * w) at) (drop (p * w) m) a (length-tabulate 0 (p * w) at ∙ omega arith)

  pub behind-wiped : (m l : List ℕ) (p a k : ℕ) → a ≡ index b p 0 → l ≡ formatted m p → ((j : ℕ) → get_or m j 0 ≡ 0)
      → (i : ℕ) → get_or (take k (drop a l)) i 0 ≡ 0
  behind-wiped m l p a k h q z i =
      wiped-head k (drop a l) i (λ j. ap (λ (x : List ℕ). get_or x j 0) (behind m l p a h q) ∙ get_or-drop (p * page_words b) m j 0 ∙ z _)

  pub formatted-more : (m l ys : List ℕ) (p a e : ℕ) → a ≡ index b p 0 → e ≡ index b (p + 1) 0 → e ≤ length m → l ≡ formatted m p
      → ys ≡ tabulate 0 (length (take (e - a) (drop a l))) (format_word b n p)
      → take a l ++ (ys ++ drop (e - a) (drop a l)) ≡ formatted m (p + 1)
  formatted-more m l ys p a e ha he h q k =
      let w = page_words b in
      let z : e - a ≡ w = omega (arith, suc-mul p w, ap (λ (x : ℕ). x * w) (add-one p)) in
      let y : p * w + w ≡ (p + 1) * w = omega (arith, suc-mul p w, ap (λ (x : ℕ). x * w) (add-one p)) in
      let head : length (tabulate 0 (p * w) at) ≡ a = length-tabulate 0 (p * w) at ∙ omega arith in
      let t : take a l ≡ tabulate 0 (p * w) at = ap (take a) q ∙ take_at (tabulate 0 (p * w) at) (drop (p * w) m) a head in
      let d : drop a l ≡ drop (p * w) m = behind m l p a ha q in
      let s : length (take (e - a) (drop a l)) ≡ w = rw d (simp (length-take, length-drop) (omega arith)) in
      let v : ys ≡ tabulate (0 + p * w) w at = k ∙ ap (λ (x : ℕ). tabulate 0 x (format_word b n p)) s ∙ page-words p in
      let r : drop (e - a) (drop a l) ≡ drop (p * w + w) m = ap₂ drop z d ∙ drop-drop w (p * w) m in
      ap₂ (λ (x : List ℕ) (u : List ℕ). x ++ u) t (ap₂ (λ (x : List ℕ) (u : List ℕ). x ++ u) v r)
      ∙ sym (append_assoc (tabulate 0 (p * w) at) (tabulate (0 + p * w) w at) (drop (p * w + w) m))
      ∙ ap (λ (x : List ℕ). x ++ drop (p * w + w) m) (sym (tabulate-add 0 (p * w) w at))
      ∙ ap (λ (x : ℕ). tabulate 0 x at ++ drop x m) y

  pub formatted-long : (m : List ℕ) (p : ℕ) → p * page_words b ≤ length m → length (formatted m p) ≡ length m
  formatted-long m p h = simp (length-append, length-tabulate, length-drop) (omega arith)

  pub formatted-all : (m : List ℕ) (p : ℕ) → length m ≡ n * page_words b → p ≤ n → 6 + 3 * threes_for b n ≤ p → ((j : ℕ) → get_or m j 0 ≡ 0)
      → formatted m p ≡ format b n
  unfolding format
  formatted-all m p h l k z =
      let w = page_words b in
      fill-rest 0 (p * w) at m (omega (arith, mul-le-mul_right w l)) z
      (λ j u v. let q : p ≤ j / w = (le-div_iff_mul-le (pow_pos b)).1 (omega arith) in
      sym (word_flat b n (threes_for b n) refl (j / w) (j % w) (omega arith) (omega arith)))
      ∙ ap (λ (x : ℕ). tabulate 0 x at) h
