-- One memory: where only live flags, the current partition and words of pages in hand are others, what Levels says stays. Assumes an index width of 6 or
-- more.
use mathlib.Core.Path.{◌≡◌, refl, sym, ap, ◌∙◌}
use mathlib.Core.List.{List}
use mathlib.Core.Logic.{◌≢◌}
use mathlib.Core.Bool.{false}
use Prim.Native.Nat.{ℕ, ◌≤◌, ◌<◌}
use native.Mathlib.Omega.{arith}
use Rattle.rules.proofs.model.Base.{eqd}
use Rattle.rules.proofs.model.Words.{W, word, join, idx, off, page_of, off-lt}
use Rattle.rules.proofs.model.Abs.{pt, Role, header, hand, blank, desc, lst, tab, Abs, is_hand, cell, role_word}
use Rattle.rules.proofs.model.Abs as Abs
use Rattle.rules.proofs.model.Alike.{cells_same}
use Rattle.rules.proofs.model.Facts.{differ}
use Rattle.rules.proofs.model.Flags.{desc-other}
use Rattle.rules.proofs.model.Read.{table_at, table_page, entry_at, entry-there, entry_absent, kernel-lt}
use Rattle.rules.proofs.model.Inv.{Inv, named}
use Rattle.rules.proofs.steps.Move.{set_live}
use Rattle.rules.proofs.steps.Live.{Live}
use Rattle.neighbours.proofs.Levels.{deep, here, Fixed, Low, Unchanged, Kept, table-role, entry-at, entry-none}

-- word j of a page of role r is no live flag, and the page is a kernel page that is not page 0
record Solid (j : ℕ) (r : Role) : Type 0 where
  kernel : is_hand r ≡ false
  inside : r ≢ header
  steady : r ≡ desc → j ≢ 12

module _ {b : ℕ} (wide : 6 ≤ b) (m : List ℕ) (i : Inv b m) {m₁ : List ℕ} (h : Live wide m i m₁) where
  open named b i use {N, fl, f, A}

  abbrev L : Abs
  L = set_live A h.vs h.cur

  -- the word that a page's role says, in both states
  abbrev said : Abs → Role → ℕ → ℕ → ℕ
  said X r q j = role_word b f X (cell b X) r q j

  role_same : (q j : ℕ) (r : Role) → Solid j r → said L r q j ≡ said A r q j
  unfolding role_word
  role_same q j header s = absurd (s.inside refl)
  role_same q j hand s = refl
  role_same q j blank s = refl
  role_same q j desc s = desc-other b L q j (s.steady refl) ∙ sym (desc-other b A q j (s.steady refl))
  role_same q j (Abs.root k d) s = refl
  role_same q j (lst d) s = refl
  role_same q j (tab k d x) s = cells_same b A L refl refl (λ y. (refl, refl)) k d (join b x j)

  word_same : (q j : ℕ) (r : Role) → A.role q ≡ r → Solid j r → j < W b → word b m₁ q j ≡ word b m q j
  word_same q j r e s l =
      let k : is_hand (A.role q) ≡ false = ap is_hand e ∙ s.kernel in
      let g = kernel-lt wide N fl A i.wf q k in
      let same : said L (A.role q) q j ≡ said A (A.role q) q j = rw e (role_same q j r s) in
      h.words.says q j g l k ∙ same ∙ sym (i.words.says q j g l k)

  -- a kernel page that is neither page 0 nor a descriptor
  page-same : (q j : ℕ) (r : Role) → A.role q ≡ r → is_hand r ≡ false → r ≢ header → r ≢ desc → j < W b → word b m₁ q j ≡ word b m q j
  page-same q j r e n o s l = word_same q j r e (record { kernel = n; inside = o; steady = λ y. absurd (s y) }) l

  unchanged : Unchanged i m₁
  unchanged = record { stays = λ q j l z y. go q j l y (A.role q) refl z }
    where
      go : (q j : ℕ) → j < W b → (A.role q ≡ desc → j ≢ 12) → (r : Role) → A.role q ≡ r → Fixed (deep i q) (here i) r → word b m₁ q j ≡ word b m q j
      go q j l y header e x = absurd x
      go q j l y hand e x = absurd x
      go q j l y blank e x = absurd x
      go q j l y desc e x = word_same q j desc e (record { kernel = refl; inside = λ s. differ s (omega arith); steady = λ s. y e }) l
      go q j l y (Abs.root k d) e x = page-same q j (Abs.root k d) e refl (λ s. differ s (omega arith)) (λ s. differ s (omega arith)) l
      go q j l y (lst d) e x = page-same q j (lst d) e refl (λ s. differ s (omega arith)) (λ s. differ s (omega arith)) l
      go q j l y (tab k d a) e x = page-same q j (tab k d a) e refl (λ s. differ s (omega arith)) (λ s. differ s (omega arith)) l

  pub live-kept : Kept i m₁
  live-kept = record { sized = h.words.sized; unchanged = unchanged; pages = λ e v l g. go e v l g (eqd (table_at b m pt e v) 0) }
    where
      go : (e v : ℕ) → Low i e → idx b v < W b → Dec (table_at b m pt e v ≡ 0) → page_of b (entry_at b m₁ pt e v) ≡ page_of b (entry_at b m pt e v)
      go e v l g (yes z) = ap (page_of b) (entry-none wide i unchanged l pt v g z ∙ sym (entry_absent b m pt e v z))
      go e v l g (no z) =
          let r = table-role wide i pt e v l.live g z in
          let x = page-same (table_page b m pt e v) (off b v) _ r refl (λ s. differ s (omega arith)) (λ s. differ s (omega arith)) (off-lt wide v) in
          ap (page_of b) (entry-at wide i unchanged l pt v g z ∙ x ∙ sym (entry-there b m pt e v z))
