-- What find tells, and what refusal 7 tells, of every sound memory. Assumes nothing.
use mathlib.Core.Path.{◌≡◌, refl, sym, ap, ◌∙◌}
use mathlib.Core.Logic.{◌≢◌, ◌↔◌}
use mathlib.Core.List.{List}
use mathlib.Core.Bool.{Bool, true, false, false≢true, cond}
use mathlib.Core.Option.{some}
use Prim.Native.Nat.{ℕ}
use native.Mathlib.Omega.{arith}
use native.Mathlib.Decide.{ℕ_discrete}
use borrow.Author.Tests.{eq-eqb, ne_eqb}
use Rattle.common.specs.Row
use Rattle.common.specs.Row.{ok, reply, pass}
use Rattle.common.proofs.Rows.{Passed}
use Rattle.walk.specs.Reflect.{via, eq?, isn't}
use Rattle.block_memory.specs.Partition.{current, Partition, structure, field, end, used, child, link, next, place, named, block_at}
use Rattle.block_memory.specs.Bytes.{Live, HasByte}
use Rattle.block_memory.specs.Sound.{Sound}
use Rattle.block_soundness.proofs.Blocks.{used_as, block, number-some, after, long, same_end, ends_in}
use Rattle.block_soundness.proofs.Listing.{found, finds}
use Rattle.block_soundness.proofs.Child.{lends, named-partition}
use Rattle.block_rules.specs.Row.{first}
use Rattle.block_rules.specs.Call.{serve, remove, find}
use Rattle.block_rules.specs.Conditions.{unmerged, first_piece_not_in_hand}
use Rattle.block_rules.specs.Refusals.{refusals_of, refusals, refusal}
use Rattle.block_rules.specs.Calls.{no_block, six_words, is_block, tells, result_of, result, told_of, told, answer}
use Rattle.block_rules.specs.Found.{EveryFound}
use Rattle.block_rules.specs.Unmerged.{EveryUnmerged}
use Rattle.block_rules.proofs.Rows.{passed}
use Rattle.block_rules.proofs.Step.{whose, refusal-sound}

-- ---- find

-- number 0 names no slot
none-there : (m : List ℕ) (t : ℕ) → six_words m t 0 ≡ no_block
unfolding field structure
none-there m t = refl

module _ (m : List ℕ) (s : Sound m) (p x : ℕ) (passes : refusal m (serve (find p x)) ≡ 0) where
  abbrev t : ℕ
  t = named m (current m) p

  answer-is : answer m (serve (find p x)) ≡ ok (is_block (block_at m t x))
  unfolding answer reply result result_of
  answer-is = ap (λ (k : ℕ). reply k (is_block (block_at m t x))) passes

  told_is : told m (serve (find p x)) ≡ six_words m t (block_at m t x)
  unfolding told told_of tells pass
  told_is = ap (λ (k : ℕ). told_of m k (some (t, block_at m t x))) passes

  asked : Passed (refusals m (serve (find p x))) → Partition m t
  unfolding refusals refusals_of
  asked (a, (e, u)) = named-partition m s (current m) p s.header.current_word (whose m s p e)

  listed : Partition m t
  listed = asked (passed (refusals m (serve (find p x))) passes)

  one : (n : ℕ) → HasByte m t n x → (answer m (serve (find p x)) ≡ ok 1) × (told m (serve (find p x)) ≡ six_words m t n)
  unfolding is_block
  one n b =
      let is : block_at m t x ≡ n = finds m s t n x b in
      let block = ne_eqb n 0 (λ z. omega (arith, z, number-some m s b.live)) in
      (answer-is ∙ ap (λ (k : ℕ). ok (is_block k)) is ∙ ap (λ (z : Bool). ok (cond z 0 1)) block, told_is ∙ ap (six_words m t) is)

  none : ((n : ℕ) → ¬ (HasByte m t n x)) → (answer m (serve (find p x)) ≡ ok 0) × (told m (serve (find p x)) ≡ no_block)
  unfolding is_block
  none h = elim (ℕ_discrete (block_at m t x) 0) [
    | yes z ↦ (answer-is ∙ ap (λ (k : ℕ). ok (is_block k)) z, told_is ∙ ap (six_words m t) z ∙ none-there m t)
    | no z ↦ absurd (h (block_at m t x) (found m s t x listed z))
  ]

pub every-found : EveryFound
every-found m s p x e = record { one = one m s p x e; none = none m s p x e }

-- ---- refusal 7

-- the first piece ends where the lent block ends exactly where no piece comes after it
module _ (m : List ℕ) (s : Sound m) {d n : ℕ} (l : Live m d n) (lent : used m d n ≡ 2) where
  abbrev c : ℕ
  c = child m d n

  abbrev f : ℕ
  f = link m d n

  whole : next m (place m d c) f ≡ 0 → end m (place m d c) f ≡ end m d n
  whole z = let h = lends m s l lent in (block m s h.first).pieces.last z ∙ h.ends

  cut_short : next m (place m d c) f ≢ 0 → end m (place m d c) f ≢ end m d n
  cut_short z e =
      let h = lends m s l lent in
      let k = (block m s h.first).pieces.more z in
      let a = after m s h.first z in
      omega (arith, e, k.adjoins, long m s a, ends_in m s a, same_end m s (place m d c) (next m (place m d c) f) f k.same_source, h.ends)

  is_cut : (unmerged m d c n ≡ true) ↔ (next m (place m d c) f ≢ 0)
  is_cut = via (isn't eq?) (λ g z. g (whole z)) cut_short

  -- the row of a remove behind the tests that a lent block passes
  row : first (refusals_of m d (remove c n)) ≡ cond (unmerged m d c n) 7 (cond (first_piece_not_in_hand m d c n) 3 0)
  unfolding refusals_of Row.first
  row = let u = (block m s l).uses.use2 lent in rw (eq-eqb (used m d c) 3 u.to_child, eq-eqb (used m d n) 2 lent, eq-eqb c c refl) refl

seven : (a b : Bool) → (◌≡◌ {A = ℕ} (cond a 7 (cond b 3 0)) 7) ↔ (a ≡ true)
seven true b = ((λ e. refl), λ e. refl)
seven false true = ((λ e. absurd (omega arith)), λ e. absurd (false≢true e))
seven false false = ((λ e. absurd (omega arith)), λ e. absurd (false≢true e))

pub every-unmerged : EveryUnmerged
every-unmerged m s n lent =
    let l : Live m (current m) n = used_as s.header.current_word lent in
    let u = (block m s l).uses.use2 lent in
    let is = refusal-sound m s (remove (child m (current m) n) n) ∙ row m s l lent in
    let (to, from) = seven (unmerged m (current m) (child m (current m) n) n) (first_piece_not_in_hand m (current m) (child m (current m) n) n) in
    let (there, back) = is_cut m s l lent in
    record {
      of_this = u.from_this;
      first = u.first;
      refused = ((λ e. there (to (sym is ∙ e))), λ z. is ∙ from (back z));
    }
