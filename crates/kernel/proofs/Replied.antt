-- What one call of a sequence leaves: its answer's numbers from place p on, and the memory after it. Assumes nothing.
use mathlib.Core.Path.{◌≡◌, refl, sym, ap, ◌∙◌}
use mathlib.Core.Logic.{◌≢◌}
use mathlib.Core.Bool.{true}
use mathlib.Core.List.{List}
use Prim.Native.Nat.{ℕ, ◌+◌}
use native.Mathlib.Omega.{arith}
use lib.ListN.{length, get_or, set}
use Rattle.memory.specs.Words.{overwrite}
use Rattle.common.proofs.Writing.{reply-alone, reply-beside}
use Rattle.rules.specs.Row.{Answer}
use Rattle.rules.specs.Call.{Call, resume, resumption}
use Rattle.rules.specs.Editions.{answer, after, context}
use Rattle.answers.specs.Packed.{packed}
use Rattle.kernel.specs.Sequence.{call_at, whole}
use Rattle.kernel.specs.Room.{reply_of, places}
use Rattle.kernel.proofs.Words.{whole_parts}
use Rattle.kernel.proofs.Numbered.{is-resume}
use Rattle.kernel.proofs.Places.{single-places, resume-places, reply-places}

-- q is where the next answer begins
abbrev Replied : (m out : List ℕ) (p : ℕ) (c : Call) (q : ℕ) (m' out' : List ℕ) → Type 0
Replied m out p c q m' out' = (q ≡ p + places c) × (out' ≡ overwrite out p (reply_of m c)) × (m' ≡ after m c)

pub resumed-length : (m : List ℕ) (t s : ℕ) {words : List ℕ} → words ≡ context m (resume t s) → length words ≡ 11
unfolding resumption
resumed-length m t s e = omega (arith, ap length e, reply-places m (resume t s))

module _ (ws : List ℕ) (i : ℕ) {n : ℕ} (r : n ≡ get_or ws i 0) where
  pub one_place : whole ws i ≡ true → n ≢ 15 → places (call_at ws i) ≡ 1
  one_place w o = single-places (get_or ws i 0) (λ j. get_or ws (i + (1 + j)) 0) (omega (arith, r, o, (whole_parts ws i w).0))

  pub twelve-places : n ≡ 15 → places (call_at ws i) ≡ 12
  twelve-places e = resume-places (get_or ws i 0) (λ j. get_or ws (i + (1 + j)) 0) (sym r ∙ e)

  module _ (m out : List ℕ) (p : ℕ) {a : Answer} {x : ℕ} {m' : List ℕ} (f : x ≡ packed a) where
    pub single_replied : whole ws i ≡ true → n ≢ 15 → (a ≡ answer m (call_at ws i)) × (m' ≡ after m (call_at ws i))
        → Replied m out p (call_at ws i) (p + 1) m' (set out p x)
    single_replied w o h =
        let k = one_place w o in
        let c = call_at ws i in
        (omega (arith, k), reply-alone out p (f ∙ ap packed h.0) (context m c) (omega (arith, reply-places m c, k)), h.1)

    pub resume_replied : {t s : ℕ} {words out' : List ℕ} → n ≡ 15 → t ≡ get_or ws (i + 1) 0 → s ≡ get_or ws (i + 2) 0
        → (a ≡ answer m (resume t s)) × (words ≡ context m (resume t s)) × (m' ≡ after m (resume t s)) → out' ≡ overwrite (set out p x) (p + 1) words
        → Replied m out p (call_at ws i) (p + 12) m' out'
    unfolding resumption
    resume_replied {t} {s} e u v h o =
        rw (sym (is-resume ws i r u v e)) (refl, reply-beside out p (f ∙ ap packed h.0) (context m (resume t s)) h.1 o, h.2)
