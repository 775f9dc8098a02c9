-- No call changes the length of memory. Assumes nothing.
use mathlib.Core.Path.{◌≡◌, refl, ◌∙◌}
use mathlib.Core.List.{List, [], ◌∷◌}
use mathlib.Core.Bool.{Bool, true, false, cond}
use Prim.Native.Nat.{ℕ, zero, suc, ◌+◌, ◌/◌}
use lib.Dec.{eqb}
use lib.ListN.{length, replicate, length-set, length-replicate}
use Rattle.walk.specs.Finite.{keep}
use Rattle.common.specs.Row.{pass}
use Rattle.common.specs.Words.{overwrite}
use Rattle.block_memory.specs.Words.{put, wipe, over}
use Rattle.block_memory.specs.Partition.{numbers, structure_numbers, entry_numbers, current, partitions, entry, structure, slot, put_slot, named, entry_of}
use Rattle.block_memory.specs.Format.{format}
use Rattle.common.proofs.Overwrite.{length-overwrite}
use Rattle.block_rules.specs.Call.{Service, Call, format_all, serve, create, delete, prepare, collect, add, remove, cut, merge, enable, read_enabled, find}
use Rattle.block_rules.specs.Call.{enter, leave}
use Rattle.block_rules.specs.Refusals.{refusal}
use Rattle.block_rules.specs.Effects.{disable, give_back, of_child, goes_with, wipe_structures, wipe_partition, create_in, delete_child, prepare_for, collect_from}
use Rattle.block_rules.specs.Effects.{add_to, remove_from, cut_at, merge_two, enable_in, effect_of, effect}
use Rattle.block_rules.specs.Calls.{after, run}

length-slot : (m : List ℕ) (d o f : ℕ) (ws : List ℕ) → length (put_slot m d o f ws) ≡ length m
unfolding put_slot
length-slot m d o f ws = go (eqb (structure m d (o / 8)) 0)
  where
    go : (t : Bool) → length (cond t m (overwrite m (slot m d o + f) ws)) ≡ length m
    go true = refl
    go false = length-overwrite m (slot m d o + f) ws

length_over : (f : List ℕ → ℕ → List ℕ) → ((w : List ℕ) (x : ℕ) → length (f w x) ≡ length w) → (m xs : List ℕ) → length (over f m xs) ≡ length m
unfolding over
length_over f h m [] = refl
length_over f h m (x ∷ xs) = length_over f h (f m x) xs ∙ h m x

length-disable : (m : List ℕ) (d n : ℕ) → length (disable m d n) ≡ length m
unfolding disable
length-disable m d n = length_over (λ w e. cond (eqb (entry w d e) n) (put w (d + 7 + e) 0) w) (λ w e. go w e (eqb (entry w d e) n)) m entry_numbers
  where
    go : (w : List ℕ) (e : ℕ) (t : Bool) → length (cond t (put w (d + 7 + e) 0) w) ≡ length w
    go w e true = simp length-set
    go w e false = refl

length-structures : (m : List ℕ) (t : ℕ) → length (wipe_structures m t) ≡ length m
unfolding wipe_structures
length-structures m t = length_over one (λ w k. go w k (eqb (structure m t k) 0)) m structure_numbers
  where
    one : List ℕ → ℕ → List ℕ
    one w k = cond (eqb (structure m t k) 0) w (wipe w (structure m t k) 74)

    go : (w : List ℕ) (k : ℕ) (b : Bool) → length (cond b w (wipe w (structure m t k) 74)) ≡ length w
    go w k true = refl
    go w k false = length-overwrite w (structure m t k) (replicate 74 0)

length-wiped : (m : List ℕ) (t : ℕ) → length (wipe_partition m t) ≡ length m
unfolding wipe_partition
length-wiped m t = simp length-set (length-overwrite (wipe_structures m t) t (replicate 32 0) ∙ length-structures m t)

length-enable : (m : List ℕ) (t b on : ℕ) → length (enable_in m t b on) ≡ length m
unfolding enable_in
length-enable m t b on = go (eqb on 0) (eqb (entry_of m t b) 0)
  where
    go : (x y : Bool) → length (cond x (disable m t b) (cond y (put m (t + 7 + entry_of m t 0) b) m)) ≡ length m
    go true y = length-disable m t b
    go false true = simp length-set
    go false false = refl

length-effect : (m : List ℕ) (d : ℕ) (s : Service) → length (effect_of m d s) ≡ length m
unfolding effect_of create_in delete_child prepare_for collect_from add_to remove_from cut_at merge_two
length-effect m d (create b) = simp (length-set, length-overwrite, length-slot, length-disable)
length-effect m d (delete c) =
    let ts = keep (goes_with m d c) (partitions m) in
    length_over (λ w n. give_back w d n) (λ w n. length-slot w d n 3 (1 ∷ 0 ∷ 0 ∷ [])) (over wipe_partition m ts) (keep (of_child m d c) numbers)
    ∙ length_over wipe_partition length-wiped m ts
length-effect m d (prepare p b) = simp (length-set, length-overwrite, length-slot, length-disable)
length-effect m d (collect p) = simp (length-set, length-overwrite, length-slot)
length-effect m d (add c b r) = simp (length-slot, length-disable)
length-effect m d (remove c b) = simp (length-slot, length-disable)
length-effect m d (cut b x) = simp length-slot
length-effect m d (merge a b) = simp (length-slot, length-disable)
length-effect m d (enable p b on) = length-enable m (named m d p) b on
length-effect m d (read_enabled p e) = refl
length-effect m d (find p x) = refl
length-effect m d (enter c) = simp length-set
length-effect m d leave = simp length-set

length-pass : (n : ℕ) (x m : List ℕ) → length x ≡ length m → length (pass n x m) ≡ length m
unfolding pass
length-pass zero x m e = e
length-pass (suc n) x m e = refl

length-call : (m : List ℕ) (c : Call) → length (effect m c) ≡ length m
unfolding effect format
length-call m format_all = simp (length-overwrite, length-set) (length-replicate {A = ℕ} (length m) 0)
length-call m (serve s) = length-effect m (current m) s

pub length-after : (m : List ℕ) (c : Call) → length (after m c) ≡ length m
unfolding after
length-after m c = length-pass (refusal m c) (effect m c) m (length-call m c)

pub length_run : (cs : List Call) (m : List ℕ) → length (run m cs) ≡ length m
unfolding run
length_run [] m = refl
length_run (c ∷ cs) m = length_run cs (after m c) ∙ length-after m c
