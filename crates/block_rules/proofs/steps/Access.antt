-- Enter, leave and enable keep memory sound. Assumes nothing.
use mathlib.Core.Path.{◌≡◌, refl, sym, ap, ◌∙◌, subst}
use mathlib.Core.List.{List}
use mathlib.Core.Bool.{Bool, true, false, cond}
use mathlib.Core.Logic.{◌≢◌}
use Prim.Native.Nat.{ℕ, ◌+◌, ◌≤◌}
use native.Mathlib.Omega.{arith}
use native.Mathlib.Decide.{ℕ_discrete}
use lib.Dec.{eqb}
use borrow.Author.Tests.{eqb-true, eqb-false}
use Rattle.block_memory.specs.Words.{put}
use Rattle.block_memory.specs.Partition.{root, current, Partition, parent, entry, used, place, entry_of}
use Rattle.block_memory.specs.Sound.{Sound, Entries}
use Rattle.block_memory.proofs.Lowest.{entry_found, entry-missing}
use Rattle.block_soundness.proofs.Ranges.{entry-range}
use Rattle.block_soundness.proofs.Child.{child-of}
use Rattle.block_rules.specs.Effects.{disable, enable_in}
use Rattle.block_rules.proofs.EntryWrite.{EntryPut, entry-put}
use Rattle.block_rules.proofs.CurrentWrite.{current-now, current-frame, current-entries, current-fields}
use Rattle.block_rules.proofs.Disabled.{fewer, disabled}
use Rattle.block_rules.proofs.Framed.{placed}
use Rattle.block_rules.proofs.Kept.{fields-stay, fewer-entries, fewer-sound}

module _ (m : List ℕ) (s : Sound m) where
  -- ---- enter, leave

  current-set : (x : ℕ) → Partition m x → Sound (put m 3 x)
  current-set x h =
      let q = placed m s in
      fewer-sound m (put m 3 x) s (current-frame m q x) (current-fields m q x) (subst (Partition m) (sym (current-now m q x)) h) (λ d e p z.
      current-entries m q x d e p)

  pub enter-sound : (c : ℕ) → used m (current m) c ≡ 3 → Sound (put m 3 (place m (current m) c))
  enter-sound c e = current-set (place m (current m) c) (child-of m s (current m) c s.header.current_word e).listed

  pub leave-sound : current m ≢ root m → Sound (put m 3 (parent m (current m)))
  leave-sound h = current-set (parent m (current m)) ((s.descriptors (current m) s.header.current_word).of_other h).parent_listed

  -- ---- enable

  disable-sound : (t n : ℕ) → Partition m t → Sound (disable m t n)
  disable-sound t n p =
      let d = (disabled t n m (placed m s) p).0 in
      fewer-sound m (disable m t n) s d.frame d.fields (subst (Partition m) (sym d.now) s.header.current_word) (fewer d)

  -- "the lowest entry that is 0 becomes block, unless an entry is block already"
  module _ (t b : ℕ) (p : Partition m t) (hand : used m t b ≡ 1) (missing : entry_of m t b ≡ 0) (some : entry_of m t 0 ≢ 0) where
    abbrev at : ℕ
    at = entry_of m t 0

    abbrev now : List ℕ
    now = put m (t + 7 + at) b

    found : (entry m t at ≡ 0) × (1 ≤ at) × (at ≤ 8)
    found = entry_found m t 0 some

    new : EntryPut m now t at b
    new = entry-put m (placed m s) t at b p found.1 found.2

    others-b : (k : ℕ) → k ≢ at → entry now t k ≢ 0 → entry now t k ≢ b
    others-b k h z e =
        let q = new.others t k p (λ (x, y). h y) in
        let r = entry-range m t k (λ w. z (q ∙ w)) in
        entry-missing m t b k missing r.0 (omega (arith, r.1)) (sym q ∙ e)

    own : Entries now t
    own = record {
      in_hand = λ k z. elim (ℕ_discrete k at) [
        | yes h ↦ let q : entry now t k ≡ b = ap (entry now t) h ∙ new.at in ap (used now t) q ∙ new.fields t b 3 p (omega arith) ∙ hand
        | no h ↦
            let q = new.others t k p (λ (x, y). h y) in
            ap (used now t) q ∙ new.fields t (entry m t k) 3 p (omega arith) ∙ (s.entries t p).in_hand k (λ w. z (q ∙ w))
      ];
      once = λ k l z w. go k l z w (ℕ_discrete k at) (ℕ_discrete l at);
    }
      where
        go : (k l : ℕ) → entry now t k ≢ 0 → entry now t k ≡ entry now t l → Dec (k ≡ at) → Dec (l ≡ at) → k ≡ l
        go k l z w (yes x) (yes y) = x ∙ sym y
        go k l z w (yes x) (no y) = absurd (others-b l y (λ v. z (w ∙ v)) (sym w ∙ ap (entry now t) x ∙ new.at))
        go k l z w (no x) (yes y) = absurd (others-b k x z (w ∙ ap (entry now t) y ∙ new.at))
        go k l z w (no x) (no y) =
            let q = new.others t k p (λ (u, v). x v) in
            let r = new.others t l p (λ (u, v). y v) in
            (s.entries t p).once k l (λ v. z (q ∙ v)) (sym q ∙ w ∙ r)

    put-sound : Sound now
    put-sound = fields-stay m now s new.frame new.fields (subst (Partition m) (sym new.now) s.header.current_word) (λ u q.
        elim (ℕ_discrete u t) [
          | yes e ↦ subst (Entries now) (sym e) own
          | no e ↦ fewer-entries m now s new.frame new.fields u q (λ k z. new.others u k q (λ (x, y). e x))
        ])

  pub enable-sound : (t b on : ℕ) → Partition m t → used m t b ≡ 1 → (on ≢ 0 → entry_of m t b ≡ 0 → entry_of m t 0 ≢ 0) → Sound (enable_in m t b on)
  unfolding enable_in
  enable-sound t b on p hand room = go (eqb on 0) refl (eqb (entry_of m t b) 0) refl
    where
      go : (x : Bool) → eqb on 0 ≡ x → (y : Bool) → eqb (entry_of m t b) 0 ≡ y → Sound (cond x (disable m t b) (cond y (put m (t + 7 + entry_of m t 0) b) m))
      go true e y f = disable-sound t b p
      go false e true f = put-sound t b p hand (eqb-true _ _ f) (room (eqb-false on 0 e) (eqb-true _ _ f))
      go false e false f = s
