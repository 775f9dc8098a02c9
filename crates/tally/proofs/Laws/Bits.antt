-- Marks in words: one that is set, words in which all are set, and the words at the start. Assumes nothing.
use mathlib.Core.Path.{◌≡◌, refl, sym, ap, ◌∙◌, subst}
use mathlib.Core.Bool.{Bool, true, false, cond}
use mathlib.Core.List.{List}
use mathlib.Core.Logic.{◌≢◌}
use mathlib.Core.Option.{none, some}
use Prim.Native.Nat.{ℕ, zero, suc, ◌+◌, ◌-◌, ◌*◌, ◌/◌, ◌%◌, ◌^◌, ◌≤◌, ◌<◌}
use native.Mathlib.Nat.{mod-lt, zero-div, div-one, pow-suc}
use native.Mathlib.Omega.{arith}
use native.Mathlib.Decide.{ℕ_discrete}
use lib.Bits.{bit_or, or_shr, or_mod, or_lt, or_zero_r}
use lib.Dec.{leb, eqb}
use lib.ListN.{length, get_or, set, take, drop, replicate, length-set, length-drop, length-replicate, get_or-replicate}
use lib.Pow.{pow-lt, shr-shr}
use lib.Seq.{ext_get_or, length-take-le, get_or-take, get_or-drop, get_or-set_same, get_or-set_other}
use borrow.Author.Tests.{eqb-true, eq-eqb, ne_eqb, le-leb, lt-leb}
use Rattle.walk.specs.Finite.{from, all}
use Rattle.walk.specs.Marks.{mark, mark-is, mark-out, mark-taken}
use Rattle.walk.specs.Walk.{clear}
use Rattle.memory.proofs.Format.{length-tabulate, get_d_tabulate}
use Rattle.pages.proofs.Laws.{one_bit}
use Rattle.own_pages.proofs.Laws.Loops.{all-at, all_yes}
use Rattle.tally.specs.Bits.{bit_at, marks_in, words_for, OutsideMarked, mark_outside}

-- ---- the bits of a word

-- what holds for every two places in a word, by trying all
places : (f : ℕ → ℕ → Bool) → all (λ k. all (f k) (from 32 0)) (from 32 0) ≡ true → (k j : ℕ) → k < 32 → j < 32 → f k j ≡ true
places f e k j h l = all-at (f k) 32 0 (all-at (λ i. all (f i) (from 32 0)) 32 0 e k (omega arith) (omega arith)) j (omega arith) (omega arith)

pow_bit : (k j : ℕ) → k < 32 → j < 32 → bit_at (2 ^ k) j ≡ cond (eqb j k) 1 0
unfolding all from
pow_bit k j h l = eqb-true _ _ (places (λ k j. eqb (bit_at (2 ^ k) j) (cond (eqb j k) 1 0)) refl k j h l)

high_bits : (k j : ℕ) → k < 32 → j < 32 → bit_at (4294967296 - 2 ^ k) j ≡ cond (leb k j) 1 0
unfolding all from
high_bits k j h l = eqb-true _ _ (places (λ k j. eqb (bit_at (4294967296 - 2 ^ k) j) (cond (leb k j) 1 0)) refl k j h l)

or_bit : (w v j : ℕ) → bit_at (bit_or w v) j ≡ bit_or (bit_at w j) (bit_at v j)
or_bit w v j = ap (λ (x : ℕ). x % 2) (or_shr w v j) ∙ or_mod (w / 2 ^ j) (v / 2 ^ j) 1

or_one : (x : ℕ) → x < 2 → bit_or x 1 ≡ 1
or_one zero h = refl
or_one (suc zero) h = refl
or_one (suc (suc x)) h = absurd (omega arith)

bit-set : (w k : ℕ) → k < 32 → bit_at (bit_or w (2 ^ k)) k ≡ 1
bit-set w k h = or_bit w (2 ^ k) k ∙ rw (pow_bit k k h h, eq-eqb k k refl) (or_one (bit_at w k) (omega arith))

bit_kept : (w k j : ℕ) → k < 32 → j < 32 → j ≢ k → bit_at (bit_or w (2 ^ k)) j ≡ bit_at w j
bit_kept w k j h l n = or_bit w (2 ^ k) j ∙ rw (pow_bit k j h l, ne_eqb j k n) (or_zero_r (bit_at w j))

no-bit : (j : ℕ) → bit_at 0 j ≡ 0
no-bit j = ap (λ (x : ℕ). x % 2) (zero-div (2 ^ j))

-- two numbers of n bits that are the same
same_bits : (n w v : ℕ) → w < 2 ^ n → v < 2 ^ n → ((k : ℕ) → k < n → bit_at w k ≡ bit_at v k) → w ≡ v
same_bits zero w v l m h = omega arith
same_bits (suc n) w v l m h =
    let p : 2 ^ suc n ≡ 2 ^ n * 2 = pow-suc 2 n in
    let up : (x k : ℕ) → bit_at (x / 2) k ≡ bit_at x (1 + k) = λ x k. ap (λ (y : ℕ). y % 2) (shr-shr x 1 k) in
    let i : w / 2 ≡ v / 2 = same_bits n (w / 2) (v / 2) (omega arith) (omega arith) (λ k b. up w k ∙ h (1 + k) (omega arith) ∙ sym (up v k)) in
    let z : w % 2 ≡ v % 2 = ap (λ (x : ℕ). x % 2) (sym (div-one w)) ∙ h 0 (omega arith) ∙ ap (λ (x : ℕ). x % 2) (div-one v) in
    omega arith

-- a bit that setting changes
bit_unset : (w k : ℕ) → w < 4294967296 → k < 32 → bit_or w (2 ^ k) ≢ w → bit_at w k ≡ 0
bit_unset w k l h n = elim (ℕ_discrete (bit_at w k) 0) [
  | yes e ↦ e
  | no d ↦
      let one : bit_at w k ≡ 1 = omega arith in
      absurd (n (same_bits 32 (bit_or w (2 ^ k)) w (or_lt 32 w (2 ^ k) l (pow-lt h)) l (λ j b. elim (ℕ_discrete j k) [
        | yes e ↦ ap (bit_at (bit_or w (2 ^ k))) e ∙ bit-set w k h ∙ sym one ∙ ap (bit_at w) (sym e)
        | no e ↦ bit_kept w k j h b e
      ])))
]

ones : (k : ℕ) → k < 32 → bit_at 4294967295 k ≡ 1
unfolding all from
ones k h = eqb-true _ _ (all-at (λ k. eqb (bit_at 4294967295 k) 1) 32 0 refl k (omega arith) h)

-- ---- marks

module _ (ws : List ℕ) where
  pub length-marks : length (marks_in ws) ≡ 32 * length ws
  unfolding marks_in
  length-marks = length-tabulate 0 (32 * length ws) _

  mark-at : (p : ℕ) → p / 32 < length ws → get_or (marks_in ws) p 0 ≡ bit_at (get_or ws (p / 32) 0) (p % 32)
  unfolding marks_in
  mark-at p h = let e : 0 + p ≡ p = omega arith in get_d_tabulate 0 (32 * length ws) _ p (omega arith) ∙ ap (λ (q : ℕ). bit_at (get_or ws (q / 32) 0) (q % 32)) e

-- with x for word i
module _ (ws : List ℕ) (i x p : ℕ) (h : p / 32 < length ws) where
  put-at : get_or (marks_in (set ws i x)) p 0 ≡ bit_at (get_or (set ws i x) (p / 32) 0) (p % 32)
  put-at = mark-at (set ws i x) p (omega (arith, length-set ws i x))

  put-here : p / 32 ≡ i → get_or (marks_in (set ws i x)) p 0 ≡ bit_at x (p % 32)
  put-here e = put-at ∙ ap (λ (w : ℕ). bit_at w (p % 32)) (ap (λ (j : ℕ). get_or (set ws i x) j 0) e ∙ get_or-set_same ws i x 0 (omega arith))

  put-there : p / 32 ≢ i → get_or (marks_in (set ws i x)) p 0 ≡ bit_at (get_or ws (p / 32) 0) (p % 32)
  put-there n = put-at ∙ ap (λ (w : ℕ). bit_at w (p % 32)) (get_or-set_other ws i (p / 32) x 0 n)

-- page p is marked in its word
module _ (ws : List ℕ) (p : ℕ) (h : p / 32 < length ws) where
  abbrev w : ℕ
  w = bit_or (get_or ws (p / 32) 0) (2 ^ (p % 32))

  low : (q : ℕ) → q % 32 < 32
  low q = mod-lt q (omega arith)

  bit-at : (q : ℕ) → q / 32 < length ws → get_or (marks_in (set ws (p / 32) w)) q 0 ≡ get_or (set (marks_in ws) p 1) q 0
  bit-at q l = elim (ℕ_discrete q p) [
    | yes e ↦
        put-here ws (p / 32) w q l (ap (λ (x : ℕ). x / 32) e) ∙ ap (λ (x : ℕ). bit_at w (x % 32)) e ∙ bit-set (get_or ws (p / 32) 0) (p % 32) (low p)
        ∙ sym (ap (λ (x : ℕ). get_or (set (marks_in ws) p 1) x 0) e ∙ get_or-set_same (marks_in ws) p 1 0 (omega (arith, length-marks ws)))
    | no n ↦ elim (ℕ_discrete (q / 32) (p / 32)) [
      | yes e ↦
          put-here ws (p / 32) w q l e ∙ bit_kept (get_or ws (p / 32) 0) (p % 32) (q % 32) (low p) (low q) (λ s. n (omega arith))
          ∙ ap (λ (x : ℕ). bit_at (get_or ws x 0) (q % 32)) (sym e) ∙ other q l n
      | no d ↦ put-there ws (p / 32) w q l d ∙ other q l n
    ]
  ]
    where
      other : (q : ℕ) → q / 32 < length ws → q ≢ p → bit_at (get_or ws (q / 32) 0) (q % 32) ≡ get_or (set (marks_in ws) p 1) q 0
      other q l n = sym (get_or-set_other (marks_in ws) p q 1 0 n ∙ mark-at ws q l)

  marked-word : marks_in (set ws (p / 32) w) ≡ set (marks_in ws) p 1
  marked-word =
      let e = length-marks (set ws (p / 32) w) in
      let d = length-set ws (p / 32) w in
      ext_get_or 0 (marks_in (set ws (p / 32) w)) (set (marks_in ws) p 1) (omega (arith, e, d, length-set (marks_in ws) p 1, length-marks ws))
      (λ q l. bit-at q (omega (arith, e, d)))

  -- the code's answers: x is what it puts there
  abbrev x : ℕ
  x = bit_or (get_or ws (p / 32) 0) (1 * 2 ^ (p % 32) % 4294967296)

  x-is : x ≡ w
  x-is = ap (bit_or (get_or ws (p / 32) 0)) (one_bit (p % 32) (low p))

  pub bit-taken : x ≡ get_or ws (p / 32) 0 → mark (marks_in ws) p ≡ none
  bit-taken e =
      let one : bit_at (get_or ws (p / 32) 0) (p % 32) ≡ 1 = ap (λ (v : ℕ). bit_at v (p % 32)) (sym e ∙ x-is) ∙ bit-set (get_or ws (p / 32) 0) (p % 32) (low p) in
      mark-taken (marks_in ws) p (λ z. absurd (omega (arith, mark-at ws p h)))

  pub bit-free : 0 < p → get_or ws (p / 32) 0 < 4294967296 → x ≢ get_or ws (p / 32) 0 → mark (marks_in ws) p ≡ some (marks_in (set ws (p / 32) x))
  bit-free a l n =
      mark-is (marks_in ws) p a (omega (arith, length-marks ws)) (mark-at ws p h ∙ bit_unset (get_or ws (p / 32) 0) (p % 32) l (low p) (λ e. n (x-is ∙ e)))
      ∙ ap some (sym marked-word ∙ ap (λ (v : ℕ). marks_in (set ws (p / 32) v)) (sym x-is))

pub words-out : (ws : List ℕ) (p : ℕ) → length ws ≤ p / 32 → mark (marks_in ws) p ≡ none
words-out ws p h = mark-out (marks_in ws) p (omega (arith, length-marks ws))

-- ---- whether all pages but 0 have their marks, word by word

-- the pages of the words below i have their marks
abbrev pub MarkedBelow : List ℕ → ℕ → Type 0
MarkedBelow ws i = (p : ℕ) → 0 < p → p / 32 < i → get_or (marks_in ws) p 0 ≡ 1

abbrev pub all_marked : List ℕ → Bool
all_marked ws = all (λ p. eqb (get_or (marks_in ws) p 0) 1) (from (32 * length ws - 1) 1)

pub below_all : (ws : List ℕ) (i : ℕ) → length ws ≤ i → MarkedBelow ws i → true ≡ all_marked ws
below_all ws i h t = sym (all_yes (λ p. eqb (get_or (marks_in ws) p 0) 1) (32 * length ws - 1) 1 (λ p a l. eq-eqb _ _ (t p (omega arith) (omega arith))))

-- x is word i, but for the bit of page 0
module _ (ws : List ℕ) (i x : ℕ) (h : i < length ws) (same : (k : ℕ) → k < 32 → 0 < 32 * i + k → bit_at (get_or ws i 0) k ≡ bit_at x k) where
  mark_of : (p : ℕ) → 0 < p → p / 32 ≡ i → get_or (marks_in ws) p 0 ≡ bit_at x (p % 32)
  mark_of p a e = mark-at ws p (omega arith) ∙ ap (λ (j : ℕ). bit_at (get_or ws j 0) (p % 32)) e ∙ same (p % 32) (omega arith) (omega arith)

  below_next : x ≡ 4294967295 → MarkedBelow ws i → MarkedBelow ws (i + 1)
  below_next e t p a l = elim (ℕ_discrete (p / 32) i) [
    | yes d ↦ mark_of p a d ∙ ap (λ (w : ℕ). bit_at w (p % 32)) e ∙ ones (p % 32) (omega arith)
    | no d ↦ t p a (omega arith)
  ]

  below-stop : x < 4294967296 → (i ≡ 0 → bit_at x 0 ≡ 1) → x ≢ 4294967295 → false ≡ all_marked ws
  below-stop l first n = go (all_marked ws) refl
    where
      go : (t : Bool) → all_marked ws ≡ t → false ≡ all_marked ws
      go true e = absurd (n (same_bits 32 x 4294967295 l (omega arith) (λ k b. elim (ℕ_discrete (32 * i + k) 0) [
        | yes z ↦ let q : k ≡ 0 = omega arith in ap (bit_at x) q ∙ first (omega arith) ∙ sym (ones 0 (omega arith)) ∙ ap (bit_at 4294967295) (sym q)
        | no z ↦
            let q : (32 * i + k) % 32 ≡ k = omega arith in
            ap (bit_at x) (sym q) ∙ sym (mark_of (32 * i + k) (omega arith) (omega arith))
            ∙ eqb-true _ _ (all-at (λ p. eqb (get_or (marks_in ws) p 0) 1) (32 * length ws - 1) 1 e (32 * i + k) (omega arith) (omega arith)) ∙ sym (ones k b)
      ])))
      go false e = sym e

-- the words after the first, and the first
pub word_next : (ws : List ℕ) (i : ℕ) → i < length ws → get_or ws i 0 ≡ 4294967295 → MarkedBelow ws i → MarkedBelow ws (i + 1)
word_next ws i h e = below_next ws i (get_or ws i 0) h (λ k l b. refl) e

pub word-stop : (ws : List ℕ) (i : ℕ) → i < length ws → get_or ws i 0 < 4294967296 → 1 ≤ i → get_or ws i 0 ≢ 4294967295 → false ≡ all_marked ws
word-stop ws i h l a n = below-stop ws i (get_or ws i 0) h (λ k l b. refl) l (λ e. absurd (omega arith)) n

module _ (ws : List ℕ) (h : 0 < length ws) where
  first-same : (k : ℕ) → k < 32 → 0 < 32 * 0 + k → bit_at (get_or ws 0 0) k ≡ bit_at (bit_or (get_or ws 0 0) 1) k
  first-same k l b = sym (bit_kept (get_or ws 0 0) 0 k (omega arith) l (omega arith))

  pub first_next : bit_or (get_or ws 0 0) 1 ≡ 4294967295 → MarkedBelow ws 1
  first_next e = below_next ws 0 (bit_or (get_or ws 0 0) 1) h first-same e (λ p a l. absurd (omega arith))

  pub first-stop : get_or ws 0 0 < 4294967296 → bit_or (get_or ws 0 0) 1 ≢ 4294967295 → false ≡ all_marked ws
  first-stop l n =
      below-stop ws 0 (bit_or (get_or ws 0 0) 1) h first-same (or_lt 32 (get_or ws 0 0) 1 l (omega arith)) (λ e. bit-set (get_or ws 0 0) 0 (omega arith)) n

-- ---- the marks at the start: none but those of what lies past n pages

module _ (n : ℕ) where
  abbrev zeros : List ℕ
  zeros = replicate (words_for n) 0

  abbrev start : List ℕ
  start = mark_outside n zeros

  long : length start ≡ words_for n
  long = length-set zeros (n / 32) (4294967296 - 2 ^ (n % 32)) ∙ length-replicate {A = ℕ} (words_for n) 0

  start-low : (p : ℕ) → p < n → get_or (marks_in start) p 0 ≡ 0
  start-low p h =
      let l : p / 32 < length zeros = omega (arith, length-replicate {A = ℕ} (words_for n) 0) in
      elim (ℕ_discrete (p / 32) (n / 32)) [
        | yes e ↦
            put-here zeros (n / 32) (4294967296 - 2 ^ (n % 32)) p l e ∙ high_bits (n % 32) (p % 32) (omega arith) (omega arith)
            ∙ ap (λ (t : Bool). cond t 1 0) (lt-leb (n % 32) (p % 32) (omega arith))
        | no d ↦
            put-there zeros (n / 32) (4294967296 - 2 ^ (n % 32)) p l d
            ∙ ap (λ (w : ℕ). bit_at w (p % 32)) (get_or-replicate (words_for n) (p / 32) 0 0 (omega arith)) ∙ no-bit (p % 32)
      ]

  start-high : (p : ℕ) → n ≤ p → p < 32 * words_for n → get_or (marks_in start) p 0 ≡ 1
  start-high p h k =
      put-here zeros (n / 32) (4294967296 - 2 ^ (n % 32)) p (omega (arith, length-replicate {A = ℕ} (words_for n) 0)) (omega arith)
      ∙ high_bits (n % 32) (p % 32) (omega arith) (omega arith) ∙ ap (λ (t : Bool). cond t 1 0) (le-leb (n % 32) (p % 32) (omega arith))

  start-clear : take n (marks_in start) ≡ clear n
  start-clear =
      let e : length (take n (marks_in start)) ≡ n = length-take-le n (marks_in start) (omega (arith, length-marks start, long)) in
      ext_get_or 0 (take n (marks_in start)) (clear n) (e ∙ sym (length-replicate n 0))
      (λ p h. get_or-take n (marks_in start) p 0 (omega arith) ∙ start-low p (omega arith) ∙ sym (get_or-replicate n p 0 0 (omega arith)))

  start_outside : OutsideMarked n start
  start_outside =
      let e : length (drop n (marks_in start)) ≡ 32 * length start - n = length-drop n (marks_in start) ∙ ap (λ (x : ℕ). x - n) (length-marks start) in (
        omega (arith, long),
        ext_get_or 0 (drop n (marks_in start)) (replicate (32 * length start - n) 1) (e ∙ sym (length-replicate (32 * length start - n) 1))
            (λ p h.
            get_or-drop n (marks_in start) p 0 ∙ start-high (n + p) (omega arith) (omega (arith, long))
            ∙ sym (get_or-replicate (32 * length start - n) p 1 0 (omega arith))),
      )

-- us is ws, all of it 0, so marked
pub start-marks : {k n : ℕ} {ws us : List ℕ} → us ≡ mark_outside k ws → k ≡ n → ws ≡ replicate (words_for n) 0
    → OutsideMarked n us × (take n (marks_in us) ≡ clear n)
start-marks {k} {n} {ws} {us} e q z =
    let a : us ≡ mark_outside n (replicate (words_for n) 0) = e ∙ ap (λ (x : ℕ). mark_outside x ws) q ∙ ap (mark_outside n) z in
    (subst (OutsideMarked n) (sym a) (start_outside n), ap (λ (t : List ℕ). take n (marks_in t)) a ∙ start-clear n)
