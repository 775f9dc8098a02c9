-- The words of a list page without one of its threes.
use mathlib.Core.Path.{◌≡◌, refl, sym, ap, ap₂, ◌∙◌}
use mathlib.Core.List.{List, [], ◌∷◌, ◌++◌, append_assoc}
use Prim.Native.Nat.{ℕ, zero, suc, ◌+◌, ◌-◌, ◌*◌, ◌≤◌, ◌<◌}
use native.Mathlib.Omega.{arith}
use lib.ListN.{length, get_or, set, take, drop, replicate, length-append, length-replicate, replicate-append-replicate}
use lib.Seq.{take_at, drop_at, ext_get_or}
use Rattle.rules.specs.Effects.{drop_three}
use Rattle.rules.proofs.model.Abs.{Hop, Three, list_pairs, list_list}
use Rattle.rules.proofs.steps.ThreePlace.{pairs-length, pairs_append}

-- zeros behind change no word
zero-at : (k x : ℕ) → get_or (replicate {A = ℕ} k 0) x 0 ≡ 0
zero-at zero x = refl
zero-at (suc k) zero = refl
zero-at (suc k) (suc x) = zero-at k x

zeros-behind : (p : List ℕ) (k x : ℕ) → get_or (p ++ replicate k 0) x 0 ≡ get_or p x 0
zeros-behind [] k x = zero-at k x
zeros-behind (w ∷ p) k zero = refl
zeros-behind (w ∷ p) k (suc x) = zeros-behind p k x

-- a list of words that starts with its first free index h: before, six words, after, zeros
drop-parts : (j h : ℕ) (a s c z : List ℕ) → length a ≡ 6 * j → length s ≡ 6 → h ≡ 7 + 6 * j + length c
    → drop_three j (h ∷ (a ++ (s ++ (c ++ z)))) ≡ (h - 6) ∷ (a ++ (c ++ (replicate 6 0 ++ z)))
unfolding drop_three
drop-parts j h a s c z la ls lh =
    let ws = h ∷ (a ++ (s ++ (c ++ z))) in
    let e₁ : ws ≡ (h ∷ (a ++ (s ++ c))) ++ z = simp append_assoc in
    let e₂ : h ∷ (a ++ (s ++ c)) ≡ (h ∷ (a ++ s)) ++ c = simp append_assoc in
    let n₁ : length (h ∷ (a ++ (s ++ c))) ≡ h = simp length-append (omega arith) in
    let n₂ : length (h ∷ (a ++ s)) ≡ 7 + 6 * j = simp length-append (omega arith) in
    let t₁ : take (1 + 6 * j) ws ≡ h ∷ a = take_at (h ∷ a) (s ++ (c ++ z)) (1 + 6 * j) (omega arith) in
    let t₂ : take h ws ≡ (h ∷ (a ++ s)) ++ c = ap (take h) e₁ ∙ take_at (h ∷ (a ++ (s ++ c))) z h n₁ ∙ e₂ in
    let t₃ : drop (7 + 6 * j) (take h ws) ≡ c = ap (drop (7 + 6 * j)) t₂ ∙ drop_at (h ∷ (a ++ s)) c (7 + 6 * j) n₂ in
    let t₄ : drop h ws ≡ z = ap (drop h) e₁ ∙ drop_at (h ∷ (a ++ (s ++ c))) z h n₁ in
    ap (λ (l : List ℕ). set l 0 (h - 6)) (cat (take (1 + 6 * j) ws) (h ∷ a) (drop (7 + 6 * j) (take h ws)) c (drop h ws) z t₁ t₃ t₄)
    ∙ ap (λ (l : List ℕ). (h - 6) ∷ l) (append_assoc (a ++ c) (replicate 6 0) z ∙ append_assoc a c (replicate 6 0 ++ z))
  where
    cat : (p p' q q' r r' : List ℕ) → p ≡ p' → q ≡ q' → r ≡ r' → p ++ q ++ replicate 6 0 ++ r ≡ p' ++ q' ++ replicate 6 0 ++ r'
    cat p p' q q' r r' e f g = cc

-- the words of a list page of w words whose threes are xs, t, ys
module _ {b : ℕ} (wide : 6 ≤ b) (ch : ℕ → List Hop) (xs : List Three) (t : Three) (ys : List Three) where
  abbrev n : ℕ
  n = length (xs ++ t ∷ ys)

  few : n ≡ 1 + length (xs ++ ys)
  few = simp length-append (omega arith)

  abbrev a : List ℕ
  a = list_pairs b ch xs

  abbrev s : List ℕ
  s = list_pairs b ch (t ∷ [])

  abbrev c : List ℕ
  c = list_pairs b ch ys

  joined : (z : List ℕ) → a ++ (s ++ (c ++ z)) ≡ list_pairs b ch (xs ++ t ∷ ys) ++ z
  joined z =
      let e : list_pairs b ch (xs ++ t ∷ ys) ≡ a ++ (s ++ c) = pairs_append wide ch xs (t ∷ ys) ∙ ap (λ (l : List ℕ). a ++ l) (pairs_append wide ch (t ∷ []) ys) in
      sym (ap (λ (l : List ℕ). l ++ z) e ∙ append_assoc a (s ++ c) z ∙ ap (λ (l : List ℕ). a ++ l) (append_assoc s c z))

  listed-zeros : (ts : List Three) (k x : ℕ) → get_or ((1 + 6 * length ts) ∷ (list_pairs b ch ts ++ replicate k 0)) x 0 ≡ get_or (list_list b ch ts) x 0
  unfolding list_list
  listed-zeros ts k x = zeros-behind ((1 + 6 * length ts) ∷ list_pairs b ch ts) k x

  module _ (w : ℕ) (room : 1 + 6 * n ≤ w) (ws : List ℕ) (size : length ws ≡ w) (says : (x : ℕ) → x < w → get_or ws x 0 ≡ get_or (list_list b ch (xs ++ t ∷ ys)) x 0) where
    abbrev z : List ℕ
    z = replicate (w - (1 + 6 * n)) 0

    words_are : ws ≡ (1 + 6 * n) ∷ (a ++ (s ++ (c ++ z)))
    words_are =
        ext_get_or 0 ws ((1 + 6 * n) ∷ (list_pairs b ch (xs ++ t ∷ ys) ++ z))
        (size ∙ (simp (length-append, pairs-length wide, length-replicate) (omega (arith, length-append xs (t ∷ ys)))))
        (λ x β. says x (rw size at β) ∙ sym (listed-zeros (xs ++ t ∷ ys) (w - (1 + 6 * n)) x))
        ∙ ap (λ (l : List ℕ). (1 + 6 * n) ∷ l) (sym (joined z))

    -- the list afterwards
    dropped : drop_three (length xs) ws ≡ (1 + 6 * length (xs ++ ys)) ∷ (list_pairs b ch (xs ++ ys) ++ replicate (6 + (w - (1 + 6 * n))) 0)
    dropped =
        ap (drop_three (length xs)) words_are
        ∙ drop-parts (length xs) (1 + 6 * n) a s c z (pairs-length wide ch xs) (pairs-length wide ch (t ∷ [])) (simp (length-append, pairs-length wide) (omega arith))
        ∙ ap₂ (λ (x : ℕ) (l : List ℕ). x ∷ l) (omega (arith, few)) ends
      where
        ends : a ++ (c ++ (replicate 6 0 ++ z)) ≡ list_pairs b ch (xs ++ ys) ++ replicate (6 + (w - (1 + 6 * n))) 0
        ends =
            ap (λ (l : List ℕ). a ++ (c ++ l)) (replicate-append-replicate 6 (w - (1 + 6 * n)) 0)
            ∙ sym (ap (λ (l : List ℕ). l ++ replicate (6 + (w - (1 + 6 * n))) 0) (pairs_append wide ch xs ys) ∙ append_assoc a c (replicate (6 + (w - (1 + 6 * n))) 0))

    pub drop-length : length (drop_three (length xs) ws) ≡ w
    drop-length = ap length dropped ∙ (simp (length-append, pairs-length wide, length-replicate) (omega (arith, length-append xs (t ∷ ys))))

    pub drop-word : (x : ℕ) → get_or (drop_three (length xs) ws) x 0 ≡ get_or (list_list b ch (xs ++ ys)) x 0
    drop-word x = ap (λ (l : List ℕ). get_or l x 0) dropped ∙ listed-zeros (xs ++ ys) (6 + (w - (1 + 6 * n))) x
