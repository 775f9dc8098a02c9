-- What each call answers and leaves on memory that is read by the index width b. Assumes nothing.
use Rattle.std.specs.Prelude.{List, [], ◌∷◌, cond, ℕ, ◌+◌, ◌*◌, get_or, replicate}
use Rattle.std.proofs.Math.Option.{Option, none, some}
use Rattle.memory.specs.Words.{word}
use Rattle.memory.specs.Partition.{current, list, lent, above}
use Rattle.memory.specs.Contexts.{saved_words, valid, saved_in}
use Rattle.rules.specs.Row.{Answer, reply, pass}
use Rattle.rules.specs.Call.{Call, format_all, create_partition, delete_partition, add_vaddr, remove_vaddr, page_count, prepare, collect}
use Rattle.rules.specs.Call.{mapped_in_child, enter, leave, load, store, notify, dispatch, resume, resumption}
use Rattle.rules.specs.Conditions.{child, no_three, target}
use Rattle.rules.specs.Refusals.{refusal}
use Rattle.rules.specs.Effects.{three_place, word_at, effect}

-- eleven zeros
abbrev pub no_context : List ℕ
no_context = replicate saved_words 0

module _ (b : ℕ) where
  -- "Success answers 0 unless said."
  unfoldable pub result : List ℕ → Call → ℕ
  result m (format_all e) = 0
  result m (create_partition p d s t l) = 0
  result m (delete_partition c) = 0
  result m (add_vaddr p c t r) = 0
  -- "answers the caller's address"
  result m (remove_vaddr c t) = above b m (child b m c) t
  -- "0 if the three are there, else 3"
  result m (page_count c t) = cond (no_three b m (child b m c) t) 3 0
  result m (prepare c t p) = 0
  -- "answers the first"
  result m (collect c t) = word b m (list b m (child b m c)) (1 + 6 * three_place b m (child b m c) t)
  -- "the child's descriptor address, or 0 if not lent": the shadow 1 word; a child's descriptor, where it is 1, is refused
  result m (mapped_in_child p) = lent b m (current b m) p
  result m (enter c) = 0
  result m leave = 0
  -- "answers the word"
  result m (load a) = get_or m (word_at b m a) 0
  result m (store a x) = 0
  result m (notify t e f r) = 0
  result m (dispatch t) = 0
  -- the words that it answers are `context`
  result m (resume t s) = 0

  -- "each call in turn .. has its written effect and answer on the words so far, or its first refusal's number and no change"
  unfoldable pub answer : List ℕ → Call → Answer
  answer m c = reply (refusal b m c) (result m c)

  -- document 02, L8: the words that a call answers beside, n being the number of its refusal or 0. "Resume answers the saved words", or, where the
  -- parent's slot isn't valid, "eleven zeros"; zeros beside a refusal. No other call has any.
  unfoldable pub resumed : List ℕ → ℕ → Option (ℕ × ℕ) → List ℕ
  resumed m n none = []
  resumed m n (some (t, s)) = pass n (cond (valid b m (target b m t) s) (saved_in b m (target b m t) s) no_context) no_context

  unfoldable pub context : List ℕ → Call → List ℕ
  context m c = resumed m (refusal b m c) (resumption c)

  unfoldable pub after : List ℕ → Call → List ℕ
  after m c = pass (refusal b m c) (effect b m c) m

  -- the memory after a list of calls, none of them a format that passes: the width stays
  unfoldable pub run : List ℕ → List Call → List ℕ
  run m [] = m
  run m (c ∷ cs) = run (after m c) cs
