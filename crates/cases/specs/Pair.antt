-- The premises of "A neighbour's patient" (document 02, L11) are met by two memories that differ. Assumes nothing.
use Rattle.std.specs.Prelude.{◌≡◌, List, [], ◌∷◌, ◌++◌, true, ◌&&◌, ℕ, replicate}
use Rattle.std.proofs.Math.Option.{some}
use Rattle.common.specs.Expected.{same}
use Rattle.memory.specs.Words.{word}
use Rattle.memory.specs.Entry.{rights}
use Rattle.memory.specs.Partition.{mapping, lent}
use Rattle.rules.specs.Row.{Answer, ok, no}
use Rattle.rules.specs.Call.{Call, create_partition, add_vaddr, prepare, enter, leave, load, store}
use Rattle.neighbours.specs.Neighbours.{Alike}
use Rattle.cases.specs.Cases.{reached}
use Rattle.cases.specs.Morning.{answers_to}

-- In the old edition with 32 pages the root's address 256v is page 8 + v. The root makes a child A, page 9, and lends it nine pages. A makes a child B,
-- page 17, of eight of them, and lends it the ninth, page 25, with read alone. In the end B is current.
-- What is left open: a level that the root stores in page 31, which it keeps, A's rights on page 25, and calls by which the root makes a further child.
unfoldable pub calls : ℕ → ℕ → List Call → List Call
calls level right neighbour =
    create_partition 256 512 768 1024 1280 ∷ store 1536 1792 ∷ store 1792 2048 ∷ prepare 256 4096 1536
    -- five pages for B, three more that are chained by A's addresses, and the ninth
    ∷ add_vaddr 2304 256 4096 3 ∷ add_vaddr 2560 256 4352 3 ∷ add_vaddr 2816 256 4608 3 ∷ add_vaddr 3072 256 4864 3 ∷ add_vaddr 3328 256 5120 3
    ∷ store 3584 5632 ∷ store 3840 5888 ∷ add_vaddr 3584 256 5376 3 ∷ add_vaddr 3840 256 5632 3 ∷ add_vaddr 4096 256 5888 3
    ∷ add_vaddr 4352 256 6144 right ∷ (neighbour ++ (
    store 5888 level ∷ enter 256
    ∷ create_partition 4096 4352 4608 4864 5120 ∷ prepare 4096 4096 5376 ∷ add_vaddr 6144 4096 4096 1 ∷ enter 4096 ∷ []))

unfoldable pub first_calls : List Call
first_calls = calls 5 3 []

unfoldable pub second_calls : List Call
second_calls = calls 9 1 (create_partition 4608 4864 5120 5376 5632 ∷ [])

unfoldable pub first : List ℕ
first = reached 0 32 first_calls

unfoldable pub second : List ℕ
second = reached 0 32 second_calls

-- calls by B after them: it loads a word of page 25, stores one there, and leaves
unfoldable pub then_b : List Call → List Call
then_b cs = cs ++ (load 4096 ∷ store 4096 1 ∷ leave ∷ [])

-- n calls are answered ok, and of B's the load and the leave; the store is refused with 6
unfoldable pub ok_but : ℕ → List Answer
ok_but n = replicate n (ok 0) ++ (ok 0 ∷ no 6 ∷ ok 0 ∷ [])

pub record Pair : Type 0 where
  pub alike : Alike 17 first second
  -- "All else may differ": the level in the root's page
  pub level : (word 6 first 31 0 ≡ 5) × (word 6 second 31 0 ≡ 9)
  -- the rights of B's parent on the page that it lends to B
  pub right : (rights (mapping 6 first 9 6144) ≡ 3) × (rights (mapping 6 second 9 6144) ≡ 1)
  -- a child of the root, beside A, in the second alone
  pub neighbour : (lent 6 first 1 4608 ≡ 0) × (lent 6 second 1 4608 ≡ 1)
  -- every call that leads to them passes, and B can load and leave
  pub answers : same (answers_to 0 32 (some (then_b first_calls))) (ok_but 21) && same (answers_to 0 32 (some (then_b second_calls))) (ok_but 22) ≡ true
