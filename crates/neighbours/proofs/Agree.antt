-- Two memories that agree on page 0 and what B sees: the same words written to the same page of both keep it so, whichever page that is. Assumes an index
-- width of 6 or more.
use mathlib.Core.Path.{◌≡◌, sym, ap, ◌∙◌, subst}
use mathlib.Core.List.{List}
use mathlib.Core.Logic.{◌≢◌, inl, inr}
use Prim.Native.Nat.{ℕ, ◌+◌, ◌-◌, ◌≤◌, ◌<◌}
use native.Mathlib.Omega.{arith}
use native.Mathlib.Decide.{dec_lt}
use lib.ListN.{length, get_or}
use Rattle.rules.proofs.model.Base.{eqd}
use Rattle.rules.proofs.model.Words.{W, word, put, put_l, wipe, Sized, word-put-same, word-put-other, put-sized}
use Rattle.rules.proofs.model.Words.{put_l-sized, put_l-other, put_l-before, put_l-at, wipe-sized, wipe-other, wipe-same}
use Rattle.rules.proofs.model.Inv.{pages-is}
use Rattle.neighbours.proofs.Twin.{Twin, inv₁, inv₂, Compared, compared_same, shown-fits}

pub put_other : {b : ℕ} → 6 ≤ b → (q y x : ℕ) → y < W b → (w : List ℕ) (p z : ℕ) → z < W b → p ≢ q → word b (put b w q y x) p z ≡ word b w p z
put_other wide q y x l w p z h e = word-put-other wide w q y x p z l h (λ r. e r.0)

module _ {b B : ℕ} {m n : List ℕ} (t : Twin b B m n) where
  open t use {wide, sound₁, count, depth₁}

  pub record Agree (m₁ n₁ : List ℕ) : Type 0 where
    pub sized₁ : Sized b (inv₁ t).N m₁
    pub sized₂ : Sized b (inv₂ t).N n₁
    pub same : (p x : ℕ) → Compared t p → x < W b → word b m₁ p x ≡ word b n₁ p x

  pub agree-start : Agree m n
  agree-start = record { sized₁ = (inv₁ t).words.sized; sized₂ = (inv₂ t).words.sized; same = compared_same t }

  compared_fits₁ : {p : ℕ} → Compared t p → p < (inv₁ t).N
  compared_fits₁ (inl e) = omega (arith, (inv₁ t).least)
  compared_fits₁ (inr x) = omega (arith, shown-fits wide B m sound₁ depth₁ x, pages-is wide m (inv₁ t))

  compared_fits₂ : {p : ℕ} → Compared t p → p < (inv₂ t).N
  compared_fits₂ x = omega (arith, compared_fits₁ x, pages-is wide m (inv₁ t), pages-is wide n (inv₂ t), count)

  module _ {m₁ n₁ : List ℕ} (agree : Agree m₁ n₁) where
    open agree use {sized₁, sized₂, same}

    -- ---- page q is written, and no other

    same-page : (m₂ n₂ : List ℕ) (q : ℕ)
        → ((p z : ℕ) → z < W b → p ≢ q → word b m₂ p z ≡ word b m₁ p z)
        → ((p z : ℕ) → z < W b → p ≢ q → word b n₂ p z ≡ word b n₁ p z)
        → (Compared t q → (z : ℕ) → z < W b → word b m₂ q z ≡ word b n₂ q z)
        → (p z : ℕ) → Compared t p → z < W b → word b m₂ p z ≡ word b n₂ p z
    same-page m₂ n₂ q other₁ other₂ on p z s h = go (eqd p q)
      where
        go : Dec (p ≡ q) → word b m₂ p z ≡ word b n₂ p z
        go (yes e) = ap (λ (x : ℕ). word b m₂ x z) e ∙ on (subst (Compared t) e s) z h ∙ ap (λ (x : ℕ). word b n₂ x z) (sym e)
        go (no e) = other₁ p z h e ∙ same p z s h ∙ sym (other₂ p z h e)

    -- ---- the word x at word y of page q

    pub agree-put : (q y x : ℕ) → y < W b → Agree (put b m₁ q y x) (put b n₁ q y x)
    agree-put q y x l = record {
      sized₁ = put-sized wide (inv₁ t).N m₁ q y x sized₁;
      sized₂ = put-sized wide (inv₂ t).N n₁ q y x sized₂;
      same = same-page _ _ q (put_other wide q y x l m₁) (put_other wide q y x l n₁) on;
    }
      where
        on : Compared t q → (z : ℕ) → z < W b → word b (put b m₁ q y x) q z ≡ word b (put b n₁ q y x) q z
        on s z h = go (eqd z y)
          where
            go : Dec (z ≡ y) → word b (put b m₁ q y x) q z ≡ word b (put b n₁ q y x) q z
            go (yes f) =
                ap (word b (put b m₁ q y x) q) f ∙ word-put-same wide (inv₁ t).N m₁ q y x sized₁ (compared_fits₁ s) l
                ∙ sym (ap (word b (put b n₁ q y x) q) f ∙ word-put-same wide (inv₂ t).N n₁ q y x sized₂ (compared_fits₂ s) l)
            go (no f) =
                word-put-other wide m₁ q y x q z l h (λ w. f w.1) ∙ same q z s h ∙ sym (word-put-other wide n₁ q y x q z l h (λ w. f w.1))

    -- ---- page q is wiped

    pub agree-wipe : (q : ℕ) → Agree (wipe b m₁ q) (wipe b n₁ q)
    agree-wipe q = record {
      sized₁ = wipe-sized wide (inv₁ t).N m₁ q sized₁;
      sized₂ = wipe-sized wide (inv₂ t).N n₁ q sized₂;
      same = same-page _ _ q (wipe-other wide m₁ q) (wipe-other wide n₁ q) (λ s z h.
          wipe-same wide (inv₁ t).N m₁ q z sized₁ (compared_fits₁ s) h
          ∙ sym (wipe-same wide (inv₂ t).N n₁ q z sized₂ (compared_fits₂ s) h));
    }

    -- ---- the words xs from word y of page q on

    pub agree-put_l : (q y : ℕ) (xs : List ℕ) → y + length xs ≤ W b → Agree (put_l b m₁ q y xs) (put_l b n₁ q y xs)
    agree-put_l q y xs l = record {
      sized₁ = put_l-sized wide (inv₁ t).N m₁ q y xs sized₁;
      sized₂ = put_l-sized wide (inv₂ t).N n₁ q y xs sized₂;
      same = same-page _ _ q (λ p z h e. put_l-other wide m₁ q y xs p z l h e) (λ p z h e. put_l-other wide n₁ q y xs p z l h e) on;
    }
      where
        on : Compared t q → (z : ℕ) → z < W b → word b (put_l b m₁ q y xs) q z ≡ word b (put_l b n₁ q y xs) q z
        on s z h = go (dec_lt z y)
          where
            go : Dec (z < y) → word b (put_l b m₁ q y xs) q z ≡ word b (put_l b n₁ q y xs) q z
            go (yes f) = put_l-before wide m₁ q y xs z f ∙ same q z s h ∙ sym (put_l-before wide n₁ q y xs z f)
            go (no f) =
                put_l-at wide (inv₁ t).N m₁ q y xs (z - y) z sized₁ (compared_fits₁ s) (omega arith) h
                ∙ ap (get_or xs (z - y)) (same q z s h)
                ∙ sym (put_l-at wide (inv₂ t).N n₁ q y xs (z - y) z sized₂ (compared_fits₂ s) (omega arith) h)
