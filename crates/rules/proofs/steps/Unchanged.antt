-- A refused call and a call that leaves every word keep the invariant; format makes it.
use mathlib.Core.Path.{◌≡◌, refl, sym, subst}
use mathlib.Core.List.{List}
use Prim.Native.Nat.{ℕ, zero, suc, ◌≤◌}
use Rattle.memory.specs.Geometry.{width_of}
use Rattle.memory.proofs.Editions.{wide_of}
use Rattle.rules.specs.Row.{pass}
use Rattle.rules.specs.Call.{Call, format_all, page_count, mapped_in_child, load}
use Rattle.rules.specs.Conditions.{pages_in}
use Rattle.rules.specs.Refusals.{refusal}
use Rattle.rules.specs.Effects.{effect}
use Rattle.rules.specs.Calls.{after}
use Rattle.rules.specs.Permitted.{Fits}
use Rattle.rules.proofs.model.Inv.{Inv}
use Rattle.rules.proofs.steps.Formatted.{inv-format}

module _ {b : ℕ} (wide : 6 ≤ b) (m : List ℕ) (i : Inv b m) where
  -- a call keeps the invariant if its effect does where nothing is refused
  pub inv-after : (c : Call) → (refusal b m c ≡ 0 → Inv b (effect b m c)) → Inv b (after b m c)
  unfolding after pass
  inv-after c f = go (refusal b m c) refl
    where
      go : (r : ℕ) → refusal b m c ≡ r → Inv b (pass r (effect b m c) m)
      go zero e = f e
      go (suc n) e = i

  pub inv-same : (c : Call) → effect b m c ≡ m → Inv b (after b m c)
  inv-same c e = inv-after c (λ z. subst (Inv b) (sym e) i)

  pub inv-page_count : (c t : ℕ) → Inv b (after b m (page_count c t))
  unfolding effect
  inv-page_count c t = inv-same (page_count c t) refl

  pub inv-mapped_in_child : (p : ℕ) → Inv b (after b m (mapped_in_child p))
  unfolding effect
  inv-mapped_in_child p = inv-same (mapped_in_child p) refl

  pub inv-load : (a : ℕ) → Inv b (after b m (load a))
  unfolding effect
  inv-load a = inv-same (load a) refl

-- format makes memory of its edition, whatever was there
pub inv-format_all : (b : ℕ) (m : List ℕ) (e : ℕ) → Fits e m → Inv (width_of e) (effect b m (format_all e))
unfolding effect
inv-format_all b m e f = inv-format (wide_of e f.known) (pages_in (width_of e) m) f.size.least f.size.most
