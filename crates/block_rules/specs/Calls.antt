-- What each call answers, tells beside and leaves, and a run of calls. Assumes nothing.
use Rattle.std.specs.Prelude.{List, [], ◌∷◌, cond, ℕ, eqb, replicate}
use Rattle.std.proofs.Math.Option.{Option, none, some}
use Rattle.common.specs.Row.{Answer, reply, pass}
use Rattle.block_memory.specs.Words.{word}
use Rattle.block_memory.specs.Partition.{current, entry, structure, start, end, rights, used, child, place, named, holder, block_at, free_number, empty_structure}
use Rattle.block_memory.specs.Partition.{entry_of}
use Rattle.block_rules.specs.Call.{Service, Call, format_all, serve, create, delete, prepare, collect, add, remove, cut, merge, enable, read_enabled, find}
use Rattle.block_rules.specs.Call.{enter, leave}
use Rattle.block_rules.specs.Refusals.{refusal}
use Rattle.block_rules.specs.Effects.{lower, effect}

-- "Where nothing is there, none, .. the six words are 0; so they are beside a refusal"
abbrev pub no_block : List ℕ
no_block = replicate 6 0

-- "To tell a block is to answer 1 ..; where nothing is there, none, the answer is 0": n is its number or 0
unfoldable pub is_block : ℕ → ℕ
is_block n = cond (eqb n 0) 0 1

module _ (m : List ℕ) where
  -- "answers the block's number if that pool is the caller's, else 0"
  unfoldable pub collected : ℕ → ℕ → ℕ
  collected d t = let s = structure m t (empty_structure m t) in cond (eqb (holder m t s) d) (word m s) 0

  -- "Answers the entry that is block now, or 0"
  unfoldable pub enabled_at : ℕ → ℕ → ℕ → ℕ
  enabled_at t b on = cond (eqb on 0) 0 (cond (eqb (entry_of m t b) 0) (entry_of m t 0) (entry_of m t b))

  -- the block that a service tells: its partition and its number, 0 where nothing is there. "tells the block in that entry", "tells the block that has that
  -- byte"; no other service tells one
  unfoldable pub tells : ℕ → Service → Option (ℕ × ℕ)
  tells d (create b) = none
  tells d (delete c) = none
  tells d (prepare p b) = none
  tells d (collect p) = none
  tells d (add c b r) = none
  tells d (remove c b) = none
  tells d (cut b x) = none
  tells d (merge a b) = none
  tells d (enable p b on) = none
  tells d (read_enabled p e) = some (named m d p, entry m (named m d p) e)
  tells d (find p x) = some (named m d p, block_at m (named m d p) x)
  tells d (enter c) = none
  tells d leave = none

  -- "Success answers 0 unless said."
  unfoldable pub result_of : ℕ → Service → ℕ
  result_of d (create b) = 0
  result_of d (delete c) = 0
  result_of d (prepare p b) = 0
  result_of d (collect p) = collected d (named m d p)
  result_of d (add c b r) = free_number m (place m d c)
  result_of d (remove c b) = 0
  result_of d (cut b x) = free_number m d
  result_of d (merge a b) = lower m d a b
  result_of d (enable p b on) = enabled_at (named m d p) b on
  result_of d (read_enabled p e) = is_block (entry m (named m d p) e)
  result_of d (find p x) = is_block (block_at m (named m d p) x)
  result_of d (enter c) = 0
  result_of d leave = 0

  unfoldable pub result : Call → ℕ
  result format_all = 0
  result (serve s) = result_of (current m) s

  -- ".. and beside it six words: number, start, end, rights, use, child", of block b of t; b may be 0, and then they are 0
  abbrev pub six_words : ℕ → ℕ → List ℕ
  six_words t b = b ∷ start m t b ∷ end m t b ∷ rights m t b ∷ used m t b ∷ child m t b ∷ []

  -- n is the number of the call's refusal or 0
  unfoldable pub told_of : ℕ → Option (ℕ × ℕ) → List ℕ
  told_of n none = []
  told_of n (some (t, b)) = pass n (six_words t b) no_block

  unfoldable pub told : Call → List ℕ
  told format_all = []
  told (serve s) = told_of (refusal m (serve s)) (tells (current m) s)

  -- "exactly the written effect and answer, or exactly the first refusal of its row"
  unfoldable pub answer : Call → Answer
  answer c = reply (refusal m c) (result c)

  unfoldable pub after : Call → List ℕ
  after c = pass (refusal m c) (effect m c) m

-- the memory after a list of calls, the answers on the way and what is told beside
unfoldable pub run : List ℕ → List Call → List ℕ
run m [] = m
run m (c ∷ cs) = run (after m c) cs

unfoldable pub answers : List ℕ → List Call → List Answer
answers m [] = []
answers m (c ∷ cs) = answer m c ∷ answers (after m c) cs

unfoldable pub all_told : List ℕ → List Call → List (List ℕ)
all_told m [] = []
all_told m (c ∷ cs) = told m c ∷ all_told (after m c) cs
