-- notify to a child, where it passes: the caller's slot page is in its hand, and the target is a child's descriptor page. Assumes an index width of 6 or
-- more.
use mathlib.Core.Path.{◌≡◌, sym, ap, ◌∙◌, subst}
use mathlib.Core.Logic.{◌≢◌}
use mathlib.Core.Bool.{Bool, false, cond, not, ◌&&◌}
use mathlib.Core.List.{List}
use Prim.Native.Nat.{ℕ, ◌≤◌, ◌<◌}
use borrow.Author.Tests.{ne_eqb, not-false}
use Rattle.memory.specs.Entry.{holds}
use Rattle.memory.specs.Partition.{current, parent, in_hand}
use Rattle.memory.specs.Contexts.{slots_at, slots_entry, slot_page, no_slots}
use Rattle.rules.specs.Call.{Registers, notify}
use Rattle.rules.specs.Conditions.{other_edition, bad_page, no_child, child, target}
use Rattle.rules.specs.Refusals.{refusals, refusal}
use Rattle.rules.proofs.Rows.{passed}
use Rattle.rules.proofs.model.Words.{W, page_of, idx, acc_of}
use Rattle.rules.proofs.model.Abs.{Kind, pt, s1, hand, desc, head_p, cell}
use Rattle.rules.proofs.model.Facts.{in_range}
use Rattle.rules.proofs.model.Read.{root_page, entry_at, entry-is, child-view, hand-view, Own}
use Rattle.rules.proofs.model.Names.{good-page}
use Rattle.rules.proofs.model.Inv.{Inv, named, live}
use Rattle.rules.proofs.steps.Checks.{true-and, a-child, in-hand}
use Rattle.rules.proofs.steps.KeepContexts.{slots-fit}

-- d is the caller, k the child
pub record ToChild (b : ℕ) (m : List ℕ) (i : Inv b m) (d k : ℕ) : Type 0 where
  pub edition : other_edition b ≡ false
  pub slots : no_slots b m d ≡ false
  pub slot_role : i.state.role (slot_page b m d) ≡ hand
  pub slot_fits : slot_page b m d < i.N
  pub child_role : i.state.role k ≡ desc
  pub child_parent : head_p (i.state.chain k) ≡ d

module _ {b : ℕ} (wide : 6 ≤ b) (m : List ℕ) (i : Inv b m) (t eip eflags : ℕ) (r : Registers) (away : t ≢ 0)
    (e : refusal b m (notify t eip eflags r) ≡ 0) where
  open named b i use {N, fl, f, A}

  abbrev d : ℕ
  d = current b m

  read : (κ : Kind) (v : ℕ) → idx b v < W b → entry_at b m κ d v ≡ cell b A κ d v
  read κ v β = entry-is wide N fl A i.wf f m i.words κ d v (live wide m i) β

  -- ---- the slot page

  in-hands : no_slots b m d ≡ false
  unfolding refusals
  in-hands = (passed (refusals b m (notify t eip eflags r)) e).1.1.1.1.1.0

  abbrev v : ℕ
  v = page_of b (slots_at b m d)

  slot-view : (p : ℕ) × (A.role p ≡ hand) × Own b A d v p
  slot-view =
      let x = true-and (in_hand b m d (slots_at b m d)) (holds 3 (slots_entry b m d)) (not-false _ in-hands) in
      let y = in-hand b m d (slots_at b m d) (ap not x.0) in
      let β = slots-fit wide m i d in
      hand-view wide N fl A i.wf d v (ap acc_of (sym (read pt v β)) ∙ y.0) (sym (read s1 v β) ∙ y.1)

  slot_is : slot_page b m d ≡ slot-view.0
  unfolding page_of entry_at root_page
  slot_is = ap (page_of b) (read pt v (slots-fit wide m i d)) ∙ slot-view.2.page

  -- ---- the child

  good : bad_page b t ≡ false
  unfolding refusals
  good = ap (λ (u : Bool). not u && bad_page b t) (sym (ne_eqb t 0 away)) ∙ (passed (refusals b m (notify t eip eflags r)) e).1.1.0

  a-kid : no_child b m t ≡ false
  unfolding refusals
  a-kid = ap (λ (u : Bool). not u && no_child b m t) (sym (ne_eqb t 0 away)) ∙ (passed (refusals b m (notify t eip eflags r)) e).1.1.1.0

  kid-view : (p : ℕ) × (A.role p ≡ desc) × Own b A d (page_of b t) p
  kid-view = child-view wide N fl A i.wf d (page_of b t) (sym (read s1 (page_of b t) (good-page b t good).fits) ∙ a-child b m t a-kid)

  kid_is : target b m t ≡ kid-view.0
  unfolding target page_of entry_at root_page
  kid_is =
      ap (λ (u : Bool). cond u (parent b m d) (child b m t)) (ne_eqb t 0 away) ∙ ap (page_of b) (read pt (page_of b t) (good-page b t good).fits)
      ∙ kid-view.2.page

  pub to-child : ToChild b m i d (target b m t)
  unfolding refusals
  to-child =
      let s = slot-view.2 in
      let c = kid-view.2 in
      record {
        edition = (passed (refusals b m (notify t eip eflags r)) e).1.0;
        slots = in-hands;
        slot_role = ap A.role slot_is ∙ slot-view.1;
        slot_fits = subst (λ (z : ℕ). z < N) (sym slot_is) (in_range wide N fl A i.wf slot-view.0 s.hop s.rest s.is);
        child_role = ap A.role kid_is ∙ kid-view.1;
        child_parent = ap (λ (q : ℕ). head_p (A.chain q)) kid_is ∙ ap head_p c.is ∙ c.part;
      }
