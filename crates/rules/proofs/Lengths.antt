-- No call changes the length of the memory, on any memory. Assumes nothing.
use mathlib.Core.Path.{◌≡◌, refl, sym, ◌∙◌}
use mathlib.Core.List.{List, [], ◌∷◌}
use mathlib.Core.Bool.{Bool, true, false}
use Prim.Native.Nat.{ℕ, zero, suc}
use lib.Dec.{eqb}
use lib.ListN.{length, length-set}
use Rattle.memory.specs.Edition.{width}
use Rattle.memory.specs.Geometry.{address, page_of}
use Rattle.memory.specs.Words.{fill, wipe}
use Rattle.memory.specs.Format.{format}
use Rattle.memory.specs.Partition.{parent, lent, mapping}
use Rattle.memory.specs.Contexts.{valid}
use Rattle.common.proofs.Overwrite.{length-overwrite}
use Rattle.memory.proofs.Pages.{length-wipe}
use Rattle.memory.proofs.Tables.{length-put_table_word}
use Rattle.memory.proofs.Format.{length-tabulate}
use Rattle.rules.specs.Refusal.{SIZE}
use Rattle.rules.specs.Row.{pass}
use Rattle.rules.specs.Call.{Call, format_all, create_partition, delete_partition, add_vaddr, remove_vaddr, page_count, prepare, collect}
use Rattle.rules.specs.Call.{mapped_in_child, enter, leave, load, store, notify, dispatch, resume}
use Rattle.rules.specs.Moves.{wiped, mark, take_page, return_page, take_all, return_all}
use Rattle.rules.specs.Conditions.{unfit, target}
use Rattle.rules.specs.Refusals.{refusals, refusal}
use Rattle.rules.specs.Effects.{create, release, release_all, delete, add, remove, prepare_three, collect_three, switch, save, restore, effect}
use Rattle.rules.specs.Calls.{after}
use Rattle.rules.specs.Editions as E
use Rattle.rules.proofs.Rows.{clear}
use Rattle.rules.proofs.Size.{fits}
use Rattle.memory.proofs.Tables.{length-cond}

module _ (b : ℕ) where
  pub length-mark : (n a : ℕ) (m : List ℕ) (d v : ℕ) → length (mark b n a m d v) ≡ length m
  unfolding mark
  length-mark zero a m d v = refl
  length-mark (suc n) a m d v = length-cond (eqb (parent b m d) 0) _ _ _ (length-put_table_word b m _ _ _) (length-mark n a _ _ _ ∙ length-put_table_word b m _ _ _)

  pub length-take_page : (m : List ℕ) (d v : ℕ) → length (take_page b m d v) ≡ length m
  unfolding take_page
  length-take_page m d v = length-mark _ _ _ d v ∙ length-wipe b m _

  pub length-return_page : (k : Bool) (m : List ℕ) (d v : ℕ) → length (return_page b k m d v) ≡ length m
  unfolding return_page
  length-return_page true m d v = length-mark _ _ _ d v ∙ length-wipe b m _
  length-return_page false m d v =
      let w = mapping b m d v in
      length-cond (wiped false w) (wipe b m (page_of b w)) m (length m) (length-wipe b m (page_of b w)) refl

  pub length-take_all : (m : List ℕ) (d : ℕ) (vs : List ℕ) → length (take_all b m d vs) ≡ length m
  length-take_all m d [] = refl
  length-take_all m d (v ∷ vs) = length-take_all (take_page b m d v) d vs ∙ length-take_page m d v

  pub length-return_all : (m : List ℕ) (d : ℕ) (vs : List ℕ) → length (return_all b m d vs) ≡ length m
  length-return_all m d [] = refl
  length-return_all m d (v ∷ vs) = length-return_all (return_page b true m d v) d vs ∙ length-return_page true m d v

  length-release : (m : List ℕ) (d v : ℕ) → length (release b m d v) ≡ length m
  length-release m d v = length-return_page _ _ d v ∙ length-put_table_word b m _ _ 0

  length-release_all : (n i : ℕ) (m : List ℕ) (d c : ℕ) → length (release_all b n i m d c) ≡ length m
  unfolding release_all
  length-release_all zero i m d c = refl
  length-release_all (suc n) i m d c =
      length-release_all n (suc i) _ d c ∙ length-cond (eqb (lent b m d (address b i)) c) _ _ _ (length-release m d (address b i)) refl

  -- each effect but format's is made of stores
  ruleset stores = (length-set, length-overwrite, length-put_table_word, length-take_all, length-return_all, length-release_all)

  pub length-effect : (m : List ℕ) (c : Call) → refusal b m c ≡ 0 → length (effect b m c) ≡ length m
  unfolding refusals effect create delete add remove prepare_three collect_three switch save restore format fill
  length-effect m (format_all f) e = length-tabulate 0 _ _ ∙ sym (fits m f (clear SIZE (unfit f m) [] e).0).size.whole
  length-effect m (create_partition p d s t l) e = simp stores
  length-effect m (delete_partition c) e = simp stores
  length-effect m (add_vaddr p c t r) e = simp stores
  length-effect m (remove_vaddr c t) e = simp stores
  length-effect m (page_count c t) e = refl
  length-effect m (prepare c t p) e = simp stores
  length-effect m (collect c t) e = simp stores
  length-effect m (mapped_in_child p) e = refl
  length-effect m (enter c) e = simp stores
  length-effect m leave e = simp stores
  length-effect m (load a) e = refl
  length-effect m (store a x) e = simp stores
  length-effect m (notify t p f r) e = simp stores
  length-effect m (dispatch t) e = simp stores
  length-effect m (resume t s) e = length-cond (valid b m (target b m t) s) _ _ _ (simp stores) (simp stores)

  -- no call changes the length, on any memory
  pub length-after : (m : List ℕ) (c : Call) → length (after b m c) ≡ length m
  unfolding after pass
  length-after m c = go (refusal b m c) refl
    where
      go : (n : ℕ) → refusal b m c ≡ n → length (pass n (effect b m c) m) ≡ length m
      go zero e = length-effect m c e
      go (suc n) e = refl

pub length_run : (m : List ℕ) (cs : List Call) → length (E.run m cs) ≡ length m
unfolding E.run E.after
length_run m [] = refl
length_run m (c ∷ cs) = length_run (E.after m c) cs ∙ length-after (width m) m c
