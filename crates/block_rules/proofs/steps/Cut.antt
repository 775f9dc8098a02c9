-- Cut keeps memory sound: a free slot gets the upper part, and the chain of pieces one more (Pieces). Assumes nothing.
use mathlib.Core.Path.{◌≡◌, sym, ap, ◌∙◌}
use mathlib.Core.List.{List, [], ◌∷◌}
use mathlib.Core.Logic.{◌≢◌}
use Prim.Native.Nat.{ℕ, ◌+◌, ◌≤◌, ◌<◌}
use native.Mathlib.Omega.{arith}
use lib.ListN.{get_or}
use Rattle.block_memory.specs.Partition.{Partition, Has, field, put_slot, start, end, rights, used, source, previous, next, free_number}
use Rattle.block_memory.specs.Sound.{Sound, Slot}
use Rattle.block_memory.proofs.Lowest.{free-number}
use Rattle.block_soundness.proofs.Blocks.{block, field-has, number-some, after}
use Rattle.block_rules.specs.Effects.{cut_at}
use Rattle.block_rules.proofs.Frame.{Placed}
use Rattle.block_rules.proofs.Trail.{trail, Wrote, wrote}
use Rattle.block_rules.proofs.Keep.{Back, pieces_of, block-slot}
use Rattle.block_rules.proofs.Uses.{in-hand}
use Rattle.block_rules.proofs.Framed.{placed}
use Rattle.block_rules.proofs.Chain.{one, Chain, chain}
use Rattle.block_rules.proofs.Pieces.{OthersStay, l-same, Rechained, last-source, last-back, rechained-sound}

module _ (m : List ℕ) (s : Sound m) (d b x : ℕ) (p : Partition m d) (hand : used m d b ≡ 1) (low : start m d b + 32 ≤ x) (high : x + 32 ≤ end m d b)
    (some : free_number m d ≢ 0) where
  abbrev n : ℕ
  n = free_number m d

  abbrev nx : ℕ
  nx = next m d b

  -- ---- the writes

  abbrev new : List ℕ
  new = x ∷ end m d b ∷ rights m d b ∷ 1 ∷ 0 ∷ 0 ∷ source m d b ∷ b ∷ nx ∷ []

  abbrev m₁ : List ℕ
  m₁ = put_slot m d n 0 new

  abbrev m₂ : List ℕ
  m₂ = put_slot m₁ d nx 7 (n ∷ [])

  abbrev m₃ : List ℕ
  m₃ = put_slot m₂ d b 1 (x ∷ [])

  abbrev m₄ : List ℕ
  m₄ = put_slot m₃ d b 8 (n ∷ [])

  q : Placed m
  q = placed m s

  w₁ : Wrote m m d n 0 new
  w₁ = wrote q (trail m q) p (omega arith)

  w₂ : Wrote m m₁ d nx 7 (n ∷ [])
  w₂ = wrote q w₁.trail p (omega arith)

  w₃ : Wrote m m₂ d b 1 (x ∷ [])
  w₃ = wrote q w₂.trail p (omega arith)

  w₄ : Wrote m m₃ d b 8 (n ∷ [])
  w₄ = wrote q w₃.trail p (omega arith)

  -- ---- the words afterwards

  free : Has m d n × (used m d n ≡ 0)
  free = free-number m d some

  c : Chain m s d b n b
  c = chain m s d b n p hand free.0 (one free.1)

  others : OthersStay m m₄ d b n nx
  others t o g v i an a₁ a₈ a₇ =
      w₄.others t o g v i (λ (y, z, j, k). a₈ (y, z, omega arith))
      ∙ w₃.others t o g v i (λ (y, z, j, k). a₁ (y, z, omega arith))
      ∙ w₂.others t o g v i (λ (y, z, j, k). a₇ (y, z, omega arith))
      ∙ w₁.others t o g v i (λ (y, z, j, k). an (y, z))

  is-new : (g : ℕ) → g < 9 → field m₄ d n (0 + g) ≡ get_or new g 0
  is-new g i =
      w₄.others d n (0 + g) p (omega arith) (λ (y, z, j, k). c.l_h (sym z))
      ∙ w₃.others d n (0 + g) p (omega arith) (λ (y, z, j, k). c.l_h (sym z))
      ∙ w₂.others d n (0 + g) p (omega arith) (λ (y, z, j, k). c.h_after z)
      ∙ w₁.at free.0 g i

  has-b : Has m d b
  has-b = field-has m d b 3 c.lower.block

  b_end : end m₄ d b ≡ x
  b_end = w₄.others d b 1 p (omega arith) (omega arith) ∙ w₃.at has-b 0 (omega arith)

  b-next : next m₄ d b ≡ n
  b-next = w₄.at has-b 0 (omega arith)

  after-previous : nx ≢ 0 → previous m₄ d nx ≡ n
  after-previous h =
      w₄.others d nx 7 p (omega arith) (omega arith)
      ∙ w₃.others d nx 7 p (omega arith) (omega arith)
      ∙ w₂.at (field-has m d nx 3 (after m s c.last h).block) 0 (omega arith)

  r : Rechained m m₄ d b n b n
  r = record {
    trail = w₄.trail;
    others = others;
    some = some;
    back = after-previous;
    ends = is-new 1 (omega arith);
    right = is-new 2 (omega arith);
    from = is-new 6 (omega arith);
    on = is-new 8 (omega arith);
  }

  -- ---- the new block, and the lower one's end

  new-slot : Slot m₄ d n
  new-slot =
      let o = (block m s c.lower).form in
      let e1 = is-new 1 (omega arith) in
      let e3 = is-new 3 (omega arith) in
      let e7 = is-new 7 (omega arith) in
      block-slot (λ z. omega (arith, z, e3)) (record {
        form = record {
          long = omega (arith, is-new 0 (omega arith), e1);
          inside = omega (arith, e1, o.inside, r.trail.frame.size);
          few_rights = omega (arith, is-new 2 (omega arith), o.few_rights);
          known = omega (arith, e3);
        };
        uses = in-hand e3 (record { no_child = is-new 4 (omega arith); no_link = is-new 5 (omega arith) });
        sources = last-source c r;
        pieces = pieces_of
            ((λ e. absurd (omega (arith, e, e7, number-some m s c.lower))), λ e. ap (λ (o : ℕ). next m₄ d o) e7 ∙ b-next)
            (last-back c r);
      })

  lower-back : Back m₄ d b
  lower-back =
      let k = l-same m₄ c others in (
        (λ e. absurd (some (sym b-next ∙ e))),
        λ e. record {
          back = ap (λ (y : ℕ). previous m₄ d y) b-next ∙ is-new 7 (omega arith);
          adjoins = ap (λ (y : ℕ). start m₄ d y) b-next ∙ is-new 0 (omega arith) ∙ sym b_end;
          same_source = ap (λ (y : ℕ). source m₄ d y) b-next ∙ is-new 6 (omega arith) ∙ sym (k 6 (omega arith));
          same_rights = ap (λ (y : ℕ). rights m₄ d y) b-next ∙ is-new 2 (omega arith) ∙ sym (k 2 (omega arith));
        },
      )

  pub cut-sound : Sound (cut_at m d b x)
  unfolding cut_at
  cut-sound = rechained-sound c r new-slot (omega (arith, b_end)) (omega (arith, b_end, (block m s c.lower).form.inside)) lower-back
      (λ e u. absurd (omega (arith, u, free.1)))
