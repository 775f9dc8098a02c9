-- What a caller reads of a call's packed answer, on memory of 32-bit words: the refusal above, the word below. Assumes nothing.
use mathlib.Core.Path.{◌≡◌, refl, ap}
use mathlib.Core.List.{List}
use mathlib.Core.Bool.{Bool, cond}
use Prim.Native.Nat.{ℕ, zero, suc, ◌+◌, ◌/◌, ◌%◌, ◌^◌, ◌≤◌, ◌<◌}
use native.Mathlib.Omega.{arith}
use lib.Dec.{eqb}
use lib.ListN.{get_or}
use Rattle.walk.specs.Finite.{from}
use Rattle.common.specs.Packed.{packed}
use Rattle.block_memory.specs.Partition.{lowest, structure, next, holder, free_number, empty_structure, entry_of}
use Rattle.block_rules.specs.Call.{Service, Call, format_all, serve, create, delete, prepare, collect, add, remove, cut, merge, enable, read_enabled, find}
use Rattle.block_rules.specs.Call.{enter, leave}
use Rattle.block_rules.specs.Refusals.{refusal}
use Rattle.block_rules.specs.Calls.{collected, enabled_at, is_block, result_of, result, answer}
use Rattle.common.proofs.Packing.{cond_below, upper_reply, lower-reply}

module _ (k : ℕ) (some : 0 < k) where
  lowest-below : (f : ℕ → Bool) (n i : ℕ) → i + n ≤ k → lowest f (from n i) < k
  unfolding lowest from
  lowest-below f zero i h = some
  lowest-below f (suc n) i h = cond_below (f i) (omega arith) (lowest-below f n (suc i) (omega arith))

module _ (k : ℕ) (m : List ℕ) (room : 136 ≤ k) (small : (i : ℕ) → get_or m i 0 < k) where
  none : 0 < k
  none = omega arith

  number-below : (d : ℕ) → free_number m d < k
  unfolding free_number
  number-below d = lowest-below k none _ 128 8 room

  entry-below : (d n : ℕ) → entry_of m d n < k
  unfolding entry_of
  entry-below d n = lowest-below k none _ 8 1 (omega arith)

  collected-below : (d t : ℕ) → collected m d t < k
  unfolding collected
  collected-below d t = let s = structure m t (empty_structure m t) in cond_below (eqb (holder m t s) d) (small s) none

  enabled-below : (t b on : ℕ) → enabled_at m t b on < k
  unfolding enabled_at
  enabled-below t b on = cond_below (eqb on 0) none (cond_below (eqb (entry_of m t b) 0) (entry-below t 0) (entry-below t b))

  block-below : (n : ℕ) → is_block n < k
  unfolding is_block
  block-below n = cond_below (eqb n 0) none (omega arith)

  -- a service answers 0, 1, an entry, a number that is free or a word of the memory; merge answers one of its arguments
  pub result-below : (d : ℕ) (s : Service) → ((a b : ℕ) → s ≡ merge a b → (a < k) × (b < k)) → result_of m d s < k
  unfolding result_of
  result-below d (create b) h = none
  result-below d (delete c) h = none
  result-below d (prepare p b) h = none
  result-below d (collect p) h = collected-below _ _
  result-below d (add c b r) h = number-below _
  result-below d (remove c b) h = none
  result-below d (cut b x) h = number-below _
  result-below d (merge a b) h = cond_below (eqb (next m d a) b) (h a b refl).0 (h a b refl).1
  result-below d (enable p b on) h = enabled-below _ _ _
  result-below d (read_enabled p e) h = block-below _
  result-below d (find p x) h = block-below _
  result-below d (enter c) h = none
  result-below d leave h = none

module _ (m : List ℕ) (words : (i : ℕ) → get_or m i 0 < 2 ^ 32) where
  word_below : (c : Call) → ((a b : ℕ) → c ≡ serve (merge a b) → (a < 2 ^ 32) × (b < 2 ^ 32)) → result m c < 2 ^ 32
  unfolding result
  word_below format_all h = omega arith
  word_below (serve s) h = result-below (2 ^ 32) m (omega arith) words _ s (λ a b e. h a b (ap serve e))

  module _ (c : Call) (arguments : (a b : ℕ) → c ≡ serve (merge a b) → (a < 2 ^ 32) × (b < 2 ^ 32)) where
    pub upper_half : packed (answer m c) / 2 ^ 32 ≡ refusal m c
    unfolding answer
    upper_half = upper_reply (refusal m c) (result m c) (word_below c arguments)

    pub lower_half : packed (answer m c) % 2 ^ 32 ≡ cond (eqb (refusal m c) 0) (result m c) 0
    unfolding answer
    lower_half = lower-reply (refusal m c) (result m c) (word_below c arguments)
