-- A list page without one of its threes: the later words written six words lower come to the page that the rules give. Assumes nothing.
use mathlib.Core.Path.{◌≡◌, refl, sym, ap, ap₂, ◌∙◌, subst}
use mathlib.Core.Logic.{◌≢◌, ◌⊎◌, inl, inr}
use mathlib.Core.List.{List, [], ◌∷◌, ◌++◌, append_assoc}
use Prim.Native.Nat.{ℕ, zero, suc, ◌+◌, ◌-◌, ◌*◌, ◌≤◌, ◌<◌}
use native.Mathlib.Nat.{not-suc-le-zero, le_of_suc-le-suc}
use native.Mathlib.Omega.{arith}
use lib.ListN.{length, get_or, set, take, drop, replicate, length-take, length-drop, length-append, length-set, length-replicate}
use lib.Seq.{take-take, drop-drop, get_or-take, get_or-drop}
use borrow.Rule.Slice.PartMut.{put_mid}
use Rattle.std.proofs.Math.Seq.{paste}
use Rattle.std.proofs.lemmas.List.Edits.{paste_all, paste-paste}
use Rattle.std.proofs.lemmas.List.{take_all}
use Rattle.std.proofs.lemmas.Slice.{put_mid-paste}
use Rattle.std.specs.List.{copy_within}
use Rattle.memory.specs.Geometry.{page_words, page_of, directory_index}
use Rattle.memory.specs.Words.{start, index, word, put, page, overwrite, fill}
use Rattle.memory.specs.Partition.{directory, shadow1, shadow2, list}
use Rattle.memory.proofs.Pages.{page-apart}
use Rattle.memory.proofs.Widths.{words-least}
use Rattle.moves.proofs.Parts.{part_of_page}
use Rattle.rules.specs.Effects.{drop_three, three_place}
use Rattle.threes.specs.Standing.{Listed, Standing, put_three, dropped}

-- ---- words written over others

write_append : (m : List ℕ) (s : ℕ) (xs ys : List ℕ) → overwrite m s (xs ++ ys) ≡ overwrite (overwrite m s xs) (s + length xs) ys
write_append [] s xs ys = refl
write_append (x ∷ m) zero [] ys = refl
write_append (x ∷ m) zero (w ∷ xs) ys =
    let e : suc (0 + length xs) ≡ 0 + suc (length xs) = omega arith in
    ap (λ (l : List ℕ). w ∷ l) (write_append m zero xs ys) ∙ ap (λ (i : ℕ). overwrite (w ∷ overwrite m zero xs) i ys) e
write_append (x ∷ m) (suc s) xs ys =
    let e : suc (s + length xs) ≡ suc s + length xs = omega arith in
    ap (λ (l : List ℕ). x ∷ l) (write_append m s xs ys) ∙ ap (λ (i : ℕ). overwrite (x ∷ overwrite m s xs) i ys) e

-- what stands there is written again
write_same : (m : List ℕ) (s k : ℕ) → overwrite m s (take k (drop s m)) ≡ m
write_same [] s k = refl
write_same (x ∷ m) zero zero = refl
write_same (x ∷ m) zero (suc k) = ap (λ (l : List ℕ). x ∷ l) (write_same m zero k)
write_same (x ∷ m) (suc s) k = ap (λ (l : List ℕ). x ∷ l) (write_same m s k)

-- behind the words written all is as it was
write-behind : (m : List ℕ) (s : ℕ) (ws : List ℕ) → drop (s + length ws) (overwrite m s ws) ≡ drop (s + length ws) m
write-behind [] s ws = refl
write-behind (x ∷ m) zero [] = refl
write-behind (x ∷ m) zero (w ∷ ws) =
    let e : 0 + suc (length ws) ≡ suc (0 + length ws) = omega arith in
    ap (λ (i : ℕ). drop i (w ∷ overwrite m zero ws)) e ∙ write-behind m zero ws ∙ ap (λ (i : ℕ). drop i (x ∷ m)) (sym e)
write-behind (x ∷ m) (suc s) ws =
    let e : suc s + length ws ≡ suc (s + length ws) = omega arith in
    ap (λ (i : ℕ). drop i (x ∷ overwrite m s ws)) e ∙ write-behind m s ws ∙ ap (λ (i : ℕ). drop i (x ∷ m)) (sym e)

-- the first word of what is written
write-first : (m : List ℕ) (s : ℕ) (ws : List ℕ) (x : ℕ) → 0 < length ws → overwrite m s (set ws 0 x) ≡ set (overwrite m s ws) s x
write-first [] s ws x h = refl
write-first (y ∷ m) s [] x h = absurd (not-suc-le-zero h)
write-first (y ∷ m) zero (w ∷ ws) x h = refl
write-first (y ∷ m) (suc s) (w ∷ ws) x h = ap (λ (l : List ℕ). y ∷ l) (write-first m s (w ∷ ws) x h)

-- a word that lies elsewhere
write-apart : (m : List ℕ) (s : ℕ) (ws : List ℕ) (a x : ℕ) → (a < s) ⊎ (s + length ws ≤ a) → overwrite (set m a x) s ws ≡ set (overwrite m s ws) a x
write-apart [] s ws a x h = refl
write-apart (y ∷ m) zero [] zero x h = refl
write-apart (y ∷ m) zero [] (suc a) x h = refl
write-apart (y ∷ m) zero (w ∷ ws) zero x (inl h) = absurd (not-suc-le-zero h)
write-apart (y ∷ m) zero (w ∷ ws) zero x (inr h) = absurd (not-suc-le-zero {n = length ws} (omega arith))
write-apart (y ∷ m) zero (w ∷ ws) (suc a) x (inl h) = absurd (not-suc-le-zero h)
write-apart (y ∷ m) zero (w ∷ ws) (suc a) x (inr h) = ap (λ (l : List ℕ). w ∷ l) (write-apart m zero ws a x (inr (omega arith)))
write-apart (y ∷ m) (suc s) ws zero x h = refl
write-apart (y ∷ m) (suc s) ws (suc a) x (inl h) = ap (λ (l : List ℕ). y ∷ l) (write-apart m s ws a x (inl (le_of_suc-le-suc h)))
write-apart (y ∷ m) (suc s) ws (suc a) x (inr h) = ap (λ (l : List ℕ). y ∷ l) (write-apart m s ws a x (inr (omega arith)))

pub drop-take : (i n : ℕ) (l : List ℕ) → drop i (take n l) ≡ take (n - i) (drop i l)
drop-take zero n l =
    let z : n ≡ n - 0 = omega arith in
    ap (λ (x : ℕ). take x l) z
drop-take (suc i) zero l =
    let z : 0 ≡ 0 - suc i = omega arith in
    ap (λ (x : ℕ). take x (drop (suc i) l)) z
drop-take (suc i) (suc n) [] = empty (suc n - suc i)
  where
    empty : (k : ℕ) → drop {A = ℕ} (suc i) (take (suc n) []) ≡ take k (drop (suc i) [])
    empty zero = refl
    empty (suc k) = refl
drop-take (suc i) (suc n) (x ∷ l) =
    let z : n - i ≡ suc n - suc i = omega arith in
    drop-take i n l ∙ ap (λ (k : ℕ). take k (drop i l)) z

-- words put in the place of as many others
pasted : (m : List ℕ) (s : ℕ) (ws : List ℕ) → s + length ws ≤ length m → take s m ++ (ws ++ drop (s + length ws) m) ≡ overwrite m s ws
pasted [] zero [] h = refl
pasted (x ∷ m) zero [] h = refl
pasted [] zero (w ∷ ws) h = absurd (not-suc-le-zero {n = length ws} (omega arith))
pasted (x ∷ m) zero (w ∷ ws) h =
    let e : 0 + suc (length ws) ≡ suc (0 + length ws) = omega arith in
    ap (λ (i : ℕ). w ∷ ws ++ drop i (x ∷ m)) e ∙ ap (λ (l : List ℕ). w ∷ l) (pasted m zero ws (omega arith))
pasted [] (suc s) ws h = absurd (not-suc-le-zero {n = s + length ws} (omega arith))
pasted (x ∷ m) (suc s) ws h =
    let e : suc s + length ws ≡ suc (s + length ws) = omega arith in
    ap (λ (i : ℕ). take (suc s) (x ∷ m) ++ (ws ++ drop i (x ∷ m))) e ∙ ap (λ (l : List ℕ). x ∷ l) (pasted m s ws (omega arith))

-- ---- the list page

module _ (b : ℕ) (wide : 6 ≤ b) (m : List ℕ) (l j : ℕ) (h : Listed b m l j) where
  abbrev ws : List ℕ
  ws = page b m l

  abbrev free : ℕ
  free = word b m l 0

  abbrev at : ℕ
  at = 1 + 6 * j

  abbrev later : List ℕ
  later = drop (7 + 6 * j) (take free ws)

  -- the words that are written, and all before the first free one
  abbrev moved : List ℕ
  moved = later ++ replicate 6 0

  abbrev front : List ℕ
  front = take at ws ++ moved

  free-is : get_or ws 0 0 ≡ free
  free-is = get_or-take (page_words b) (drop (start b l) m) 0 0 (omega (arith, words-least b wide)) ∙ get_or-drop (start b l) m 0 0

  long : 61 ≤ length ws
  long = simp (length-take, length-drop) (omega (arith, words-least b wide, h.inside))

  length-later : length later ≡ free - (7 + 6 * j)
  length-later = length-drop (7 + 6 * j) (take free ws) ∙ omega (arith, length-take free ws, long, h.few)

  length_moved : length moved ≡ free - at
  length_moved = length-append later (replicate 6 0) ∙ omega (arith, length-later, length-replicate {A = ℕ} 6 0, h.three)

  length-head : length (take at ws) ≡ at
  length-head = length-take at ws ∙ omega (arith, long, h.few, h.three)

  length_front : length front ≡ free
  length_front = length-append (take at ws) moved ∙ omega (arith, length-head, length_moved, h.three)

  drop-is : drop_three j ws ≡ set (front ++ drop free ws) 0 (free - 6)
  unfolding drop_three
  drop-is =
      ap (λ (f : ℕ). set (take at ws ++ drop (7 + 6 * j) (take f ws) ++ replicate 6 0 ++ drop f ws) 0 (f - 6)) free-is
      ∙ ap (λ (x : List ℕ). set (x ++ drop free ws) 0 (free - 6)) (append_assoc (take at ws) later (replicate 6 0))

  length-all : length (front ++ drop free ws) ≡ length ws
  length-all = length-append front (drop free ws) ∙ omega (arith, length_front, length-drop free ws, long, h.few)

  pub length-drop-three : length (drop_three j ws) ≤ page_words b
  length-drop-three =
      omega (arith, ap length drop-is, length-set (front ++ drop free ws) 0 (free - 6), length-all, length-take (page_words b) (drop (start b l) m))

  -- the memory with the later words six words lower
  abbrev lower : List ℕ
  lower = overwrite m (index b l at) moved

  write-front : overwrite m (start b l) front ≡ lower
  write-front =
      write_append m (start b l) (take at ws) moved
      ∙ ap₂ (λ (x : List ℕ) (i : ℕ). overwrite x (start b l + i) moved)
      (ap (overwrite m (start b l)) (take-take at (page_words b) (drop (start b l) m) (omega (arith, words-least b wide, h.few, h.three))) ∙ write_same m (start b l) at)
      length-head

  -- the words from the first free one on are as they were
  rest-is : drop free ws ≡ take (page_words b - free) (drop (start b l + free) lower)
  rest-is =
      let e : start b l + at + length moved ≡ start b l + free = omega (arith, length_moved, h.three) in
      drop-take free (page_words b) (drop (start b l) m)
      ∙ ap (take (page_words b - free)) (drop-drop free (start b l) m
      ∙ sym (subst (λ (i : ℕ). drop i lower ≡ drop i m) e (write-behind m (index b l at) moved)))

  write-all : overwrite m (start b l) (front ++ drop free ws) ≡ lower
  write-all =
      write_append m (start b l) front (drop free ws)
      ∙ ap₂ (λ (x : List ℕ) (i : ℕ). overwrite x (start b l + i) (drop free ws)) write-front length_front
      ∙ ap (overwrite lower (start b l + free)) rest-is ∙ write_same lower (start b l + free) (page_words b - free)

  moved-is : put b lower l 0 (free - 6) ≡ fill b m l (drop_three j ws)
  unfolding fill
  moved-is =
      let e : index b l 0 ≡ start b l = omega arith in
      sym (ap (overwrite m (start b l)) drop-is ∙ write-first m (start b l) (front ++ drop free ws) (free - 6) (omega (arith, length-all, long))
      ∙ ap₂ (λ (x : List ℕ) (i : ℕ). set x i (free - 6)) write-all (sym e))

  -- the code's way: the later words copied from a on to d, up to e, and zeros written behind them
  module _ (f a d e : ℕ) (hf : f ≡ free) (ha : a ≡ index b l (7 + 6 * j)) (hd : d ≡ index b l at) (he : e ≡ index b l f) where
    later-is : take (e - a) (drop a m) ≡ later
    later-is =
        part_of_page b m l (7 + 6 * j) (free - (7 + 6 * j)) a e (omega (arith, h.inside, h.few, h.three)) (omega (arith, h.inside, h.few, h.three)) (omega (arith, words-least b wide, h.few, h.three))
        ∙ sym (drop-take (7 + 6 * j) free ws)

    copied : copy_within m a e d ≡ paste m d later (e - a)
    copied =
        ap (λ (x : List ℕ). (take d m ++ x) ++ drop (d + (e - a)) m)
        (later-is ∙ sym (take_all (e - a) later (omega (arith, length-later, h.few, h.three))))

    lower-is : (zs : List ℕ) → zs ≡ replicate 6 0 → put_mid (e - 6) (e - (e - 6)) (copy_within m a e d) zs ≡ lower
    lower-is zs hz =
        let k : 6 ≡ e - (e - 6) = omega (arith, h.three) in
        let g : e - 6 ≡ d + (e - a) = omega (arith, h.three) in
        let n : e - a ≡ length later = omega (arith, length-later, h.few, h.three) in
        let o : e - a + 6 ≡ length moved = omega (arith, length_moved, h.few, h.three) in
        put_mid-paste (e - 6) (e - (e - 6)) (copy_within m a e d) zs (replicate 6 0) 6 hz k refl
        ∙ ap₂ (λ (x : List ℕ) (i : ℕ). paste x i (replicate 6 0) 6) copied g
        ∙ paste-paste m d later (replicate 6 0) (e - a) 6 n refl (omega (arith, h.inside, h.few, h.three))
        ∙ paste_all m d moved (e - a + 6) o
        ∙ ap (λ (i : ℕ). take d m ++ (moved ++ drop (d + i) m)) o
        ∙ pasted m d moved (omega (arith, length_moved, h.inside, h.few, h.three))
        ∙ ap (λ (i : ℕ). overwrite m i moved) hd

    pub drop-three-is : (zs m₁ m₂ : List ℕ) → m₁ ≡ copy_within m a e d → zs ≡ replicate 6 0 → m₂ ≡ put b (put_mid (e - 6) (e - (e - 6)) m₁ zs) l 0 (f - 6)
        → m₂ ≡ fill b m l (drop_three j ws)
    drop-three-is zs m₁ m₂ h₁ hz h₂ =
        h₂ ∙ ap₂ (λ (x : List ℕ) (y : ℕ). put b x l 0 (y - 6)) (ap (λ (x : List ℕ). put_mid (e - 6) (e - (e - 6)) x zs) h₁ ∙ lower-is zs hz) hf ∙ moved-is

-- ---- the roots

fill-put : (b : ℕ) (m : List ℕ) (p l i x : ℕ) (ws : List ℕ) → p ≢ l → i < page_words b → length ws ≤ page_words b → fill b (put b m p i x) l ws ≡ put b (fill b m l ws) p i x
unfolding fill
fill-put b m p l i x ws ne h k = write-apart m (start b l) ws (index b p i) x (apart (page-apart b l p i (λ e. ne (sym e)) h))
  where
    apart : (index b p i < start b l) ⊎ (start b l + page_words b ≤ index b p i) → (index b p i < start b l) ⊎ (start b l + length ws ≤ index b p i)
    apart (inl z) = inl z
    apart (inr z) = inr (omega arith)

module _ (b : ℕ) (wide : 6 ≤ b) (m : List ℕ) (k t : ℕ) (h : Standing b m k t) where
  pub drop-listed-is : (j l dir s₁ s₂ u i : ℕ) (m₁ m₂ : List ℕ) → j ≡ three_place b m k t → l ≡ list b m k → dir ≡ directory b m k → s₁ ≡ shadow1 b m k
      → s₂ ≡ shadow2 b m k → u ≡ page_of b t → i ≡ directory_index b u → m₁ ≡ fill b m l (drop_three j (page b m l))
      → m₂ ≡ put_three b m₁ dir s₁ s₂ i 0 0 0 → m₂ ≡ dropped b m k t j
  drop-listed-is j l dir s₁ s₂ u i m₁ m₂ hj hl h₀ h₁ h₂ hu hi k₁ k₂ =
      rw (k₂, k₁, h₀, h₁, h₂, hi, hu, hl) (sym both)
    where
      short : length (drop_three j (page b m (list b m k))) ≤ page_words b
      short = length-drop-three b wide m (list b m k) j (subst (Listed b m (list b m k)) (sym hj) h.listed)

      both : dropped b m k t j
          ≡ put_three b (fill b m (list b m k) (drop_three j (page b m (list b m k)))) (directory b m k) (shadow1 b m k) (shadow2 b m k) (directory_index b (page_of b t)) 0 0 0
      both =
          let n = directory_index b (page_of b t) in
          let w = drop_three j (page b m (list b m k)) in
          fill-put b (put b (put b m (directory b m k) n 0) (shadow1 b m k) n 0) (shadow2 b m k) (list b m k) n 0 w h.shadow2_apart h.column short
          ∙ ap (λ (x : List ℕ). put b x (shadow2 b m k) n 0) (fill-put b (put b m (directory b m k) n 0) (shadow1 b m k) (list b m k) n 0 w h.shadow1_apart h.column short
          ∙ ap (λ (x : List ℕ). put b x (shadow1 b m k) n 0) (fill-put b m (directory b m k) (list b m k) n 0 w h.directory_apart h.column short))
