-- A child of the caller, read from the words, and the words of a page that the caller maps first.
use mathlib.Core.Path.{◌≡◌, sym, ap, ◌∙◌, subst}
use mathlib.Core.Logic.{◌≢◌}
use mathlib.Core.Option.{Option, none, some}
use mathlib.Core.List.{List}
use Prim.Native.Nat.{ℕ, ◌≤◌}
use Rattle.memory.specs.Geometry
use Rattle.memory.specs.Partition
use Rattle.rules.specs.Conditions.{child}
use Rattle.rules.proofs.model.Words.{addr, page_of, page_of-addr}
use Rattle.rules.proofs.model.Abs.{pt, s1, desc, Abs, head_v, seek, WF, Encodes, own_word, lent_word}
use Rattle.rules.proofs.model.Facts.{seek-here, not_root}
use Rattle.rules.proofs.model.Read.{entry_at, entry-is, cell-s1, child-view}
use Rattle.rules.proofs.model.Names.{PageAddress, mapping-is, lent_is}
use Rattle.rules.proofs.steps.Fill.{First}
use Rattle.rules.proofs.model.Take.{first-maps, first-page, first_fits}
use Rattle.rules.proofs.model.Format.{flat0}
use Rattle.rules.proofs.model.Inv.{fixed, Inv, live}

module _ {b : ℕ} (wide : 6 ≤ b) (N : ℕ) (fl : ℕ → Option ℕ) (f m : List ℕ) (A : Abs) (wf : WF b N fl A) (en : Encodes b N f m A)
    (o : ℕ) (lo : A.role o ≡ desc) (q : ℕ) (x : First A o q) where
  -- its page table word names it
  pub first-mapping : Geometry.page_of b (Partition.mapping b m o (addr b x.hop.vp)) ≡ q
  unfolding page_of
  first-mapping =
      ap (page_of b) (mapping-is b m o (addr b x.hop.vp) ∙ ap (entry_at b m pt o) (page_of-addr wide x.hop.vp) ∙ entry-is wide N fl A wf f m en pt o x.hop.vp lo (first_fits wide N fl f A wf o q lo x))
      ∙ first-page wide N fl f A wf o q x

  -- its shadow 1 word is 1 where it is a descriptor
  pub first-mark : A.role q ≡ desc → Partition.lent b m o (addr b x.hop.vp) ≡ 1
  unfolding lent_word
  first-mark e =
      let w : seek none o (A.chain q) ≡ some (record { vp = x.hop.vp; rt = x.hop.rt; up = head_v x.rest; below = none }) = rw x.is (seek-here none o x.hop x.rest (sym x.part)) in
      lent_is b m o (addr b x.hop.vp) ∙ ap (entry_at b m s1 o) (page_of-addr wide x.hop.vp) ∙ entry-is wide N fl A wf f m en s1 o x.hop.vp lo (first_fits wide N fl f A wf o q lo x)
      ∙ cell-s1 wide A o x.hop.vp q _ (first-maps wide N fl f A wf o q x) w ∙ ap own_word e

-- d is the child of o at virtual page v
pub record ChildOf (A : Abs) (o v d : ℕ) : Type 0 where
  pub live : A.role d ≡ desc
  pub first : First A o d
  pub at : first.hop.vp ≡ v
  pub below : 1 ≢ d

module _ {b : ℕ} (wide : 6 ≤ b) (m : List ℕ) (i : Inv b m) where
  pub child-of : (c : ℕ) → PageAddress b c → entry_at b m s1 (Partition.current b m) (page_of b c) ≡ 1 → ChildOf i.state (Partition.current b m) (page_of b c) (child b m c)
  unfolding page_of
  child-of c g e =
      let A : Abs = i.state in
      let fl : ℕ → Option ℕ = flat0 i.N (Geometry.threes_for b i.N) in
      let o : ℕ = Partition.current b m in
      let x = child-view wide i.N fl A i.wf o (page_of b c) (sym (entry-is wide i.N fl A i.wf (fixed b i.N) m i.words s1 o (page_of b c) (live wide m i) g.fits) ∙ e) in
      let y : x.0 ≡ child b m c = sym (ap (page_of b) (mapping-is b m o c ∙ entry-is wide i.N fl A i.wf (fixed b i.N) m i.words pt o (page_of b c) (live wide m i) g.fits) ∙ x.2.page) in
      subst (ChildOf A o (page_of b c)) y
      (record {
        live = x.1;
        first = record { hop = x.2.hop; rest = x.2.rest; is = x.2.is; part = x.2.part };
        at = x.2.vp;
        below = not_root wide i.N fl A i.wf x.0 x.2.hop x.2.rest x.2.is;
      })
