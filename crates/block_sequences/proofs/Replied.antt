-- What one call of a sequence leaves: its answer's numbers from place p on, and the memory after it. Assumes nothing.
use mathlib.Core.Path.{◌≡◌, sym, ap, ◌∙◌}
use mathlib.Core.Bool.{Bool, true, false, not, cond}
use mathlib.Core.List.{List, [], ◌∷◌}
use Prim.Native.Nat.{ℕ, ◌+◌}
use native.Mathlib.Omega.{arith}
use borrow.Author.Tests.{not-true, not-false}
use lib.ListN.{length, get_or, set}
use Rattle.common.specs.Row.{Answer}
use Rattle.common.specs.Packed.{packed}
use Rattle.common.specs.Words.{overwrite}
use Rattle.common.proofs.Writing.{reply-alone, reply-beside}
use Rattle.block_rules.specs.Call.{Call}
use Rattle.block_rules.specs.Calls.{told, answer, after}
use Rattle.block_sequences.specs.Numbers.{service_of, numbered, tells_block}
use Rattle.block_sequences.specs.Replies.{reply_of, places, call_at}
use Rattle.block_sequences.proofs.Places.{number-places, reply-places}

-- q is where the next answer begins
abbrev Replied : (m out : List ℕ) (p : ℕ) (c : Call) (q : ℕ) (m' out' : List ℕ) → Type 0
Replied m out p c q m' out' = (q ≡ p + places c) × (out' ≡ overwrite out p (reply_of m c)) × (m' ≡ after m c)

-- ---- t is what the code's test answers, and s what it stands for

pub tells_none : {s t : Bool} → t ≡ s → not t ≡ true → s ≡ false
tells_none {s} {t} e f = sym e ∙ not-true t f

pub tells-one : {s t : Bool} → t ≡ s → not t ≡ false → s ≡ true
tells-one {s} {t} e f = sym e ∙ not-false t f

module _ (ws : List ℕ) (i : ℕ) {n : ℕ} (r : n ≡ get_or ws i 0) where
  -- the three words behind the number are the arguments: no call has more
  pub call-of : {x y z : ℕ} → x ≡ get_or ws (i + 1) 0 → y ≡ get_or ws (i + 2) 0 → z ≡ get_or ws (i + 3) 0
      → numbered n (λ j. get_or (x ∷ y ∷ z ∷ []) j 0) ≡ call_at ws i
  unfolding numbered service_of
  call-of p q s = rw (← r, p, q, s)

  -- ---- how many places its answer takes

  takes : (t : Bool) → tells_block n ≡ t → places (call_at ws i) ≡ cond t 7 1
  takes t e = number-places (get_or ws i 0) (λ j. get_or ws (i + (1 + j)) 0) ∙ ap (λ (k : ℕ). cond (tells_block k) 7 1) (sym r) ∙ ap (λ (b : Bool). cond b 7 1) e

  pub one_place : tells_block n ≡ false → places (call_at ws i) ≡ 1
  one_place = takes false

  pub seven-places : tells_block n ≡ true → places (call_at ws i) ≡ 7
  seven-places = takes true

  -- ---- what it leaves: c is the call as the code makes it, a its answer and x that answer as one number

  module _ (m : List ℕ) {c : Call} (is : c ≡ call_at ws i) where
    pub told-length : {words : List ℕ} → tells_block n ≡ true → words ≡ told m c → length words ≡ 6
    told-length e w = omega (arith, ap length w, reply-places m c, ap places is, seven-places e)

    module _ (out : List ℕ) (p : ℕ) {a : Answer} {x : ℕ} {m' : List ℕ} (f : x ≡ packed a) where
      pub single_replied : tells_block n ≡ false → (a ≡ answer m c) × (m' ≡ after m c) → Replied m out p (call_at ws i) (p + 1) m' (set out p x)
      single_replied e h =
          let k : places c ≡ 1 = ap places is ∙ one_place e in
          rw (← is) (omega (arith, k), reply-alone out p (f ∙ ap packed h.0) (told m c) (omega (arith, reply-places m c, k)), h.1)

      pub telling_replied : {words out' : List ℕ} → tells_block n ≡ true → (a ≡ answer m c) × (words ≡ told m c) × (m' ≡ after m c)
          → out' ≡ overwrite (set out p x) (p + 1) words → Replied m out p (call_at ws i) (p + 1 + 6) m' out'
      telling_replied e h o =
          let k : places c ≡ 7 = ap places is ∙ seven-places e in
          rw (← is) (omega (arith, k), reply-beside out p (f ∙ ap packed h.0) (told m c) h.1 o, h.2)
