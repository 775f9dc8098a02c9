-- Document 02, L8, worked through once on 20 pages: a child at page 9, whose slot page is page 17; the root's slot page is page 19. Assumes nothing.
use Rattle.std.specs.Prelude.{List, [], ◌∷◌, ◌++◌, Bool, ◌&&◌, ℕ, ◌+◌, take, replicate}
use Rattle.std.proofs.Math.Option.{some}
use Rattle.common.specs.Expected.{Row, ◌is◌, same, same_lists}
use Rattle.memory.specs.Geometry.{width_of}
use Rattle.memory.specs.Words.{word}
use Rattle.memory.specs.Format.{format}
use Rattle.memory.specs.Partition.{current, flag}
use Rattle.rules.specs.Row.{Answer, ok, no}
use Rattle.rules.specs.Call.{Call, Registers, create_partition, add_vaddr, prepare, enter, leave, store, notify, dispatch, resume}
use Rattle.rules.specs.Calls.{no_context}
use Rattle.rules.specs.Editions.{contexts}
use Rattle.cases.specs.Cases.{reached}
use Rattle.cases.specs.Morning.{answers_to}

-- eight registers, counted up from n
unfoldable pub up_from : ℕ → Registers
up_from n = record { r0 = n; r1 = n + 1; r2 = n + 2; r3 = n + 3; r4 = n + 4; r5 = n + 5; r6 = n + 6; r7 = n + 7 }

-- 1048320 is 0xFFF00, the child's slot page; its name is 256
unfoldable pub worked : List Call
worked =
    create_partition 256 512 768 1024 1280 ∷ enter 256 ∷ notify 0 7 8 (up_from 11) ∷ leave
    ∷ store 1536 1792 ∷ store 1792 2048 ∷ prepare 256 1048320 1536 ∷ add_vaddr 2304 256 1048320 3
    ∷ dispatch 0 ∷ dispatch 4 ∷ dispatch 2560 ∷ resume 256 4 ∷ resume 256 3
    ∷ notify 256 100 200 (up_from 1) ∷ resume 0 3 ∷ notify 0 7 8 (up_from 11) ∷ resume 256 3 ∷ resume 0 2
    ∷ enter 256 ∷ resume 0 2 ∷ dispatch 256 ∷ dispatch 0 ∷ []

unfoldable pub worked_answers : List Answer
worked_answers =
    ok 0 ∷ ok 0 ∷ no 20 ∷ ok 0
    ∷ ok 0 ∷ ok 0 ∷ ok 0 ∷ ok 0
    ∷ no 14 ∷ no 3 ∷ no 5 ∷ no 21 ∷ no 22
    ∷ ok 0 ∷ no 21 ∷ ok 0 ∷ ok 0 ∷ ok 0
    ∷ ok 0 ∷ ok 0 ∷ ok 0 ∷ ok 0 ∷ []

-- the words that the resumes answer: those that are refused and the one of a slot that isn't valid eleven zeros
unfoldable pub worked_contexts : List (List ℕ)
worked_contexts =
    replicate 11 [] ++ (no_context ∷ no_context ∷ [] ∷ no_context ∷ []
    ∷ (7 ∷ 1 ∷ 8 ∷ 11 ∷ 12 ∷ 13 ∷ 14 ∷ 15 ∷ 16 ∷ 17 ∷ 18 ∷ []) ∷ (100 ∷ 0 ∷ 200 ∷ 1 ∷ 2 ∷ 3 ∷ 4 ∷ 5 ∷ 6 ∷ 7 ∷ 8 ∷ [])
    ∷ [] ∷ no_context ∷ [] ∷ [] ∷ [])

-- what the calls answer beside on a fresh memory of n pages in edition e
unfoldable pub contexts_to : ℕ → ℕ → List Call → List (List ℕ)
contexts_to e n cs = contexts (format (width_of e) n) cs

-- the answers; and on the other edition 24
unfoldable pub answered : Bool
answered =
    same (answers_to 0 20 (some worked)) worked_answers
    && same (answers_to 1 16 (some (notify 0 7 8 (up_from 11) ∷ dispatch 4 ∷ resume 256 4 ∷ []))) (no 24 ∷ no 24 ∷ no 24 ∷ [])

unfoldable pub resumed_words : Bool
resumed_words = same_lists (contexts_to 0 20 worked) worked_contexts

-- words i, i + 1, .. of page p are these
abbrev pub page_has : List ℕ → ℕ → ℕ → List ℕ → List Row
page_has m p i [] = []
page_has m p i (w ∷ ws) = word 6 m p i is w ∷ page_has m p (i + 1) ws

-- root's and child's flag, and who is current
abbrev pub lives : List ℕ → ℕ → ℕ → ℕ → List Row
lives m r c d = flag 6 m 1 is r ∷ flag 6 m 9 is c ∷ current 6 m is d ∷ []

-- over the memory after format and calls, as in Cases
module _ (reached : ℕ → ℕ → List Call → List ℕ) where
  abbrev pub after_first : ℕ → List ℕ
  after_first k = reached 0 20 (take k worked)

  -- every row of the table of flags, and what the slots hold
  unfoldable pub flag_rows : List Row
  flag_rows =
      lives (after_first 14) 0 1 9 ++ page_has (after_first 14) 19 32 (100 ∷ 0 ∷ 200 ∷ 1 ∷ 2 ∷ 3 ∷ 4 ∷ 5 ∷ 6 ∷ 7 ∷ 8 ∷ 1 ∷ [])
      ++ lives (after_first 16) 1 1 1 ++ page_has (after_first 16) 17 48 (7 ∷ 1 ∷ 8 ∷ 11 ∷ 12 ∷ 13 ∷ 14 ∷ 15 ∷ 16 ∷ 17 ∷ 18 ∷ 1 ∷ [])
      ++ lives (after_first 17) 0 1 9 ++ page_has (after_first 17) 17 58 (18 ∷ 0 ∷ [])
      ++ lives (after_first 18) 0 0 1 ++ page_has (after_first 18) 19 42 (8 ∷ 0 ∷ [])
      ++ lives (after_first 20) 1 0 1
      ++ lives (after_first 21) 0 1 9
      ++ lives (after_first 22) 1 1 1

unfoldable pub flags : List Row
flags = flag_rows reached
