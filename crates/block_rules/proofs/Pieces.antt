-- Cut and merge are mirror images: a chain of pieces gets one more, or one fewer. What both leave of all slots but that of the higher block. Assumes nothing.
use mathlib.Core.Path.{◌≡◌, refl, sym, ap, ap₂, ◌∙◌, subst}
use mathlib.Core.List.{List}
use mathlib.Core.Logic.{◌≢◌}
use Prim.Native.Nat.{ℕ, ◌+◌, ◌*◌, ◌≤◌, ◌<◌}
use native.Mathlib.Omega.{arith}
use lib.ListN.{length}
use Rattle.block_memory.specs.Partition.{root, Partition, entry, Has, start, end, used, previous, next}
use Rattle.block_memory.specs.Bytes.{Live}
use Rattle.block_memory.specs.Sound.{Sound, Slot, Source}
use Rattle.block_soundness.proofs.Ranges.{has-range}
use Rattle.block_soundness.proofs.Blocks.{block, number-some, before, after, first_in_root}
use Rattle.block_soundness.proofs.Up.{up}
use Rattle.block_rules.proofs.Frame.{Frame}
use Rattle.block_rules.proofs.Chain.{Chain}
use Rattle.block_rules.proofs.Trail.{Trail}
use Rattle.block_rules.proofs.Stays.{Same, SameAll, FirstStays, PriorStays, LaterStays, later-from, Was, SourceStays}
use Rattle.block_rules.proofs.Keep.{this_or, Back, pieces_of, block-slot}
use Rattle.block_rules.proofs.Uses.{in-hand}
use Rattle.block_rules.proofs.Grown.{KernelStays}
use Rattle.block_rules.proofs.Framed.{framed}
use Rattle.block_rules.proofs.Kept.{source_stays, front-stays, back-stays, behind-stays, unwritten_stays, first_piece, entries-kept}

-- of all slots, only slot h, the end and next of l and the previous of nx, the piece after, were written to
abbrev pub OthersStay : List ℕ → List ℕ → ℕ → ℕ → ℕ → ℕ → Type 0
OthersStay m m' d l h nx =
    (t o g : ℕ) → Partition m t → g < 9 → ¬ ((t ≡ d) × (o ≡ h)) → ¬ ((t ≡ d) × (o ≡ l) × (g ≡ 1)) → ¬ ((t ≡ d) × (o ≡ l) × (g ≡ 8))
    → ¬ ((t ≡ d) × (o ≡ nx) × (g ≡ 7)) → Same m m' t o g

-- a word that is neither end nor next
abbrev pub NotEnd : ℕ → Type 0
NotEnd g = (g < 9) × (g ≢ 1) × (g ≢ 8)

pub l-same : {m : List ℕ} {s : Sound m} {d l h a : ℕ} (m' : List ℕ) → Chain m s d l h a → OthersStay m m' d l h (next m d a)
    → (g : ℕ) → NotEnd g → Same m m' d l g
l-same {d = d} {l = l} m' c others g (i, h₁, h₈) =
    others d l g c.lower.partition i (λ (y, z). c.l_h z) (λ (y, z, w). h₁ w) (λ (y, z, w). h₈ w) (λ (y, z, w). c.l_after z)

-- b is the last of them now, and ends where a did
pub record Rechained (m m' : List ℕ) (d l h a b : ℕ) : Type 0 where
  pub trail : Trail m m'
  pub others : OthersStay m m' d l h (next m d a)
  pub some : b ≢ 0
  pub back : next m d a ≢ 0 → previous m' d (next m d a) ≡ b
  pub ends : Was m m' d b a 1
  pub right : Was m m' d b a 2
  pub from : Was m m' d b a 6
  pub on : Was m m' d b a 8

module _ {m m' : List ℕ} {s : Sound m} {d l h a b : ℕ} (c : Chain m s d l h a) (r : Rechained m m' d l h a b) where
  abbrev nx : ℕ
  nx = next m d a

  abbrev frame : Frame m m'
  frame = r.trail.frame

  -- block o of t, if it is the one in slot h, or the piece after
  if_h : {t o : ℕ} → Live m t o → t ≡ d → o ≡ h → (used m t o ≡ 1) × (previous m t o ≡ l) × (next m t o ≡ nx)
  if_h {t} {o} x y z =
      let k = c.higher (subst (λ (u : ℕ). Live m u h) y (subst (Live m t) z x)) in
      (ap₂ (λ (u v : ℕ). used m u v) y z ∙ k.0, ap₂ (λ (u v : ℕ). previous m u v) y z ∙ k.1, ap₂ (λ (u v : ℕ). next m u v) y z ∙ k.2)

  if_after : {t o : ℕ} → Live m t o → t ≡ d → o ≡ nx → previous m t o ≡ a
  if_after x y z =
      ap₂ (λ (u v : ℕ). previous m u v) y z ∙ ((block m s c.last).pieces.more (λ w. omega (arith, number-some m s x, z, w))).back

  -- ---- the words that stay

  after_same : (g : ℕ) → g < 9 → g ≢ 7 → Same m m' d nx g
  after_same g i k = r.others d nx g c.last.partition i
      (λ (y, z). c.h_after (sym z)) (λ (y, z, w). c.l_after (sym z)) (λ (y, z, w). c.l_after (sym z)) (λ (y, z, w). k w)

  -- of a block that isn't in hand, words 0 to 6
  not-in-hand : {t o : ℕ} → Live m t o → used m t o ≢ 1 → (g : ℕ) → g < 7 → Same m m' t o g
  not-in-hand {t} {o} x u g i = r.others t o g x.partition (omega arith) (λ (y, z). u (if_h x y z).0)
      (λ (y, z, w). u (ap₂ (λ (p q : ℕ). used m p q) y z ∙ c.hand)) (omega arith) (omega arith)

  kernel : KernelStays m m'
  kernel t o g x u i = not-in-hand x (λ z. omega (arith, z)) g i

  lent : {t o : ℕ} → Live m t o → SourceStays m m' t o
  lent x e g i = let u = up m s x e in not-in-hand u.alive (λ w. omega (arith, w, u.lent)) g (omega arith)

  -- of a block that comes neither after l nor after the last, all but end and next
  same : {t o : ℕ} → Live m t o → ¬ ((t ≡ d) × (previous m t o ≡ l)) → ¬ ((t ≡ d) × (previous m t o ≡ a)) → (g : ℕ) → NotEnd g
      → Same m m' t o g
  same {t} {o} x bl ba g (i, h₁, h₈) = r.others t o g x.partition i
      (λ (y, z). bl (y, (if_h x y z).1)) (λ (y, z, w). h₁ w) (λ (y, z, w). h₈ w) (λ (y, z, w). ba (y, if_after x y z))

  -- .. of a first piece
  first-same : {t o : ℕ} → Live m t o → previous m t o ≡ 0 → (g : ℕ) → NotEnd g → Same m m' t o g
  first-same x e =
      same x (λ (y, z). omega (arith, e, z, number-some m s c.lower)) (λ (y, z). omega (arith, e, z, number-some m s c.last))

  first : {t o : ℕ} → Live m t o → FirstStays m m' t o
  first {t} {o} x e =
      let k = first-same (first_piece m s t o x e) ((block m s x).uses.use2 e).first in
      (k 6 (omega arith), k 7 (omega arith))

  -- the pieces before and after a block that isn't among the three
  prior : {t o : ℕ} → Live m t o → ¬ ((t ≡ d) × (o ≡ h)) → ¬ ((t ≡ d) × (o ≡ nx)) → PriorStays m m' t o
  prior {t} {o} x ah ax z =
      let f = before m s x z in
      r.others t (previous m t o) 8 x.partition (omega arith)
      (λ (y, w). ax (y, sym f.forth ∙ (if_h f.alive y w).2))
      (omega arith)
      (λ (y, w, g). ax (y, c.after_l o (sym (ap₂ (λ (u v : ℕ). next m u v) y w) ∙ f.forth) (λ k. ah (y, k))))
      (omega arith)

  later : {t o : ℕ} → Live m t o → ¬ ((t ≡ d) × (o ≡ h)) → ¬ ((t ≡ d) × (o ≡ l)) → LaterStays m m' t o
  later {t} {o} x ah al = later-from m m' t o (λ z g (i, j, h).
      let e = ((block m s x).pieces.more z).back in
      same (after m s x z) (λ (y, w). al (y, sym e ∙ w)) (λ (y, w). c.is_last o (λ v. al (y, v)) (λ v. ah (y, v)) (sym e ∙ w)) g (omega arith))

  -- ---- the slots

  -- b's source and end, and the piece after it
  pub last-source : Source m' d b
  last-source = source_stays m m' s frame kernel c.last b r.from (lent c.last) r.right

  pub last-back : Back m' d b
  last-back = back-stays m m' s frame kernel c.last b r.from (lent c.last) r.ends r.right r.on (λ e.
      (r.back e, after_same 0 (omega arith) (omega arith), after_same 2 (omega arith) (omega arith), after_same 6 (omega arith) (omega arith)))

  after-slot : nx ≢ 0 → Slot m' d nx
  after-slot z =
      let x = after m s c.last z in
      behind-stays m m' s frame kernel x after_same (first x) (lent x)
      ((λ e. absurd (r.some (sym (r.back z) ∙ e))), λ e. ap (λ (o : ℕ). next m' d o) (r.back z) ∙ r.on)
      (later x (λ (y, w). c.h_after (sym w)) (λ (y, w). c.l_after (sym w)))

  lower-slot : start m d l + 32 ≤ end m' d l → end m' d l ≤ 4 * length m → Back m' d l → Slot m' d l
  lower-slot enough inside back =
      let x = c.lower in
      let o = block m s x in
      let k = l-same m' c r.others in
      let e0 = k 0 (omega arith) in
      let e2 = k 2 (omega arith) in
      let e3 = k 3 (omega arith) ∙ c.hand in
      let e6 = k 6 (omega arith) in
      block-slot (λ z. omega (arith, z, e3)) (record {
        form = record {
          long = omega (arith, e0);
          inside = omega (arith, frame.size);
          few_rights = omega (arith, e2, o.form.few_rights);
          known = omega (arith, e3);
        };
        uses = let u = o.uses.use1 c.hand in
            in-hand e3 (record { no_child = k 4 (omega arith) ∙ u.no_child; no_link = k 5 (omega arith) ∙ u.no_link });
        sources = source_stays m m' s frame kernel x l e6 (lent x) e2;
        pieces = pieces_of
            (front-stays m m' s frame kernel x l e6 (lent x) refl e0 (k 7 (omega arith))
            (λ e. prior x (λ (y, w). c.l_h w) (λ (y, w). c.l_after w) e ∙ o.pieces.later e))
            back;
      })

  other-slot : (t o : ℕ) → Partition m t → Has m t o → ¬ ((t ≡ d) × (o ≡ h)) → ¬ ((t ≡ d) × (o ≡ l)) → ¬ ((t ≡ d) × (o ≡ nx)) → Slot m' t o
  other-slot t o v i ah al ax =
      let k : SameAll m m' t o = λ g j.
      r.others t o g v j ah (λ (y, z, w). al (y, z)) (λ (y, z, w). al (y, z)) (λ (y, z, w). ax (y, z)) in
      unwritten_stays m m' s frame kernel t o v i k (λ x. (first x, lent x, record { prior = prior x ah ax; later = later x ah al }))

  slots : Slot m' d h → Slot m' d l → (t o : ℕ) → Partition m t → Has m t o → Slot m' t o
  slots sh sl t o v i =
      this_or (Slot m') d h t o sh (λ ah.
      this_or (Slot m') d l t o sl (λ al.
      this_or (λ (u w : ℕ). Has m u w → Slot m' u w) d nx t o (λ j. after-slot (λ z. omega (arith, (has-range m d nx j).0, z))) (λ ax j.
      other-slot t o v j ah al ax) i))

  -- a block that is enabled is in hand still
  hands : ((e : ℕ) → used m d h ≡ 1 → entry m' d e ≢ h) → (t o : ℕ) → Partition m t → used m t o ≡ 1 → (e : ℕ) → o ≡ entry m' t e → used m' t o ≡ 1
  hands off t o v u e k =
      r.others t o 3 v (omega arith)
      (λ (y, z). off e (ap₂ (λ (i j : ℕ). used m i j) (sym y) (sym z) ∙ u) (ap (λ (i : ℕ). entry m' i e) (sym y) ∙ sym k ∙ z))
      (omega arith) (omega arith) (omega arith)
      ∙ u

  -- the law: what is left to say is slot h and the end of l, and that h isn't enabled if it was in hand
  pub rechained-sound : Slot m' d h → start m d l + 32 ≤ end m' d l → end m' d l ≤ 4 * length m → Back m' d l
      → ((e : ℕ) → used m d h ≡ 1 → entry m' d e ≢ h) → Sound m'
  rechained-sound sh enough inside back off =
      let f = (s.structures (root m) s.table.root_listed).of_root refl in
      let k = first-same (first_in_root m s) f.first in
      framed m m' s frame kernel (subst (Partition m) (sym r.trail.now) s.header.current_word)
      (λ z. f.block (sym (k 3 (omega arith)) ∙ z)) (k 7 (omega arith) ∙ f.first)
      (λ t v. entries-kept m m' s t v (λ e z. r.trail.entries t e v z) (λ o. hands off t o v))
      (slots sh (lower-slot enough inside back))
