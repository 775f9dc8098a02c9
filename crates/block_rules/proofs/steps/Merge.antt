-- Merge keeps memory sound: the higher block's slot is wiped, and the chain of pieces has one fewer (Pieces). Assumes nothing.
use mathlib.Core.Path.{◌≡◌, sym, ap, ◌∙◌}
use mathlib.Core.List.{List, [], ◌∷◌}
use mathlib.Core.Logic.{◌≢◌}
use Prim.Native.Nat.{ℕ}
use native.Mathlib.Omega.{arith}
use Rattle.block_memory.specs.Partition.{Partition, entry, Has, put_slot, start, end, rights, used, source, previous, next}
use Rattle.block_memory.specs.Sound.{Sound, Next}
use Rattle.block_soundness.proofs.Blocks.{block, field-has, number-some, after, long}
use Rattle.block_rules.specs.Effects.{disable, free_slot, merge_two}
use Rattle.block_rules.proofs.Frame.{Placed}
use Rattle.block_rules.proofs.Trail.{trail, Wrote, wrote}
use Rattle.block_rules.proofs.Keep.{wiped-slot}
use Rattle.block_rules.proofs.Framed.{placed}
use Rattle.block_rules.proofs.Freed.{Freed, free}
use Rattle.block_rules.proofs.Chain.{two, Chain, chain}
use Rattle.block_rules.proofs.Pieces.{OthersStay, l-same, Rechained, last-back, rechained-sound}

module _ (m : List ℕ) (s : Sound m) (d l h : ℕ) (p : Partition m d) (hand-l : used m d l ≡ 1) (hand-h : used m d h ≡ 1) (joined : next m d l ≡ h) where
  abbrev nx : ℕ
  nx = next m d h

  -- ---- the writes

  abbrev m₁ : List ℕ
  m₁ = put_slot m d l 1 (end m d h ∷ [])

  abbrev m₂ : List ℕ
  m₂ = put_slot m₁ d l 8 (nx ∷ [])

  abbrev m₃ : List ℕ
  m₃ = put_slot m₂ d nx 7 (l ∷ [])

  abbrev m₄ : List ℕ
  m₄ = free_slot (disable m₃ d h) d h

  q : Placed m
  q = placed m s

  w₁ : Wrote m m d l 1 (end m d h ∷ [])
  w₁ = wrote q (trail m q) p (omega arith)

  w₂ : Wrote m m₁ d l 8 (nx ∷ [])
  w₂ = wrote q w₁.trail p (omega arith)

  w₃ : Wrote m m₂ d nx 7 (l ∷ [])
  w₃ = wrote q w₂.trail p (omega arith)

  has_h : Has m d h
  has_h = field-has m d h 3 (λ z. omega (arith, z, hand-h))

  freed : Freed m m₃ m₄ d h
  freed = free q w₃.trail p has_h

  -- ---- the words afterwards

  c : Chain m s d l h h
  c = chain m s d l h p hand-l has_h (two hand-h joined)

  -- what the higher block is to the lower
  is-next : Next m d l
  is-next = (block m s c.lower).pieces.more (λ z. omega (arith, z, joined, number-some m s c.last))

  others : OthersStay m m₄ d l h nx
  others t o g v i ah a₁ a₈ a₇ =
      freed.others t o g v i ah
      ∙ w₃.others t o g v i (λ (y, z, j, k). a₇ (y, z, omega arith))
      ∙ w₂.others t o g v i (λ (y, z, j, k). a₈ (y, z, omega arith))
      ∙ w₁.others t o g v i (λ (y, z, j, k). a₁ (y, z, omega arith))

  has-l : Has m d l
  has-l = field-has m d l 3 c.lower.block

  l-end : end m₄ d l ≡ end m d h
  l-end =
      freed.others d l 1 p (omega arith) (λ (y, z). c.l_h z)
      ∙ w₃.others d l 1 p (omega arith) (omega arith)
      ∙ w₂.others d l 1 p (omega arith) (omega arith)
      ∙ w₁.at has-l 0 (omega arith)

  l-next : next m₄ d l ≡ nx
  l-next =
      freed.others d l 8 p (omega arith) (λ (y, z). c.l_h z)
      ∙ w₃.others d l 8 p (omega arith) (omega arith)
      ∙ w₂.at has-l 0 (omega arith)

  after-previous : nx ≢ 0 → previous m₄ d nx ≡ l
  after-previous x =
      freed.others d nx 7 p (omega arith) (λ (y, z). c.h_after (sym z))
      ∙ w₃.at (field-has m d nx 3 (after m s c.last x).block) 0 (omega arith)

  r : Rechained m m₄ d l h h l
  r = record {
    trail = freed.trail;
    others = others;
    some = λ z. omega (arith, z, number-some m s c.lower);
    back = after-previous;
    ends = l-end;
    right = l-same m₄ c others 2 (omega arith) ∙ sym is-next.same_rights ∙ ap (rights m d) joined;
    from = l-same m₄ c others 6 (omega arith) ∙ sym is-next.same_source ∙ ap (source m d) joined;
    on = l-next;
  }

  -- the higher block is no longer enabled
  not-enabled : (e : ℕ) → entry m₄ d e ≢ h
  not-enabled e w = freed.off e (λ z. omega (arith, z, w, number-some m s c.last)) w

  pub merge-sound : Sound (merge_two m d l h)
  unfolding merge_two
  merge-sound = rechained-sound c r (wiped-slot freed.wiped)
      (omega (arith, l-end, long m s c.lower, long m s c.last, is-next.adjoins, ap (start m d) joined))
      (omega (arith, l-end, (block m s c.last).form.inside)) (last-back c r) (λ e u. not-enabled e)
