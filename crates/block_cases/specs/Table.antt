-- The numbers that docs/BLOCKS.md marks "to be proved", as one table: what the rules give, and what is written. Assumes nothing.
use Rattle.std.specs.Prelude.{List, [], ◌∷◌, ◌++◌, ℕ, zero, suc, ◌+◌, replicate}
use Rattle.common.specs.Expected.{Row, ◌is◌}
use Rattle.block_memory.specs.Geometry.{root_of, first_byte, flat_bytes}
use Rattle.block_memory.specs.Partition.{current, level, structure, field, place}
use Rattle.block_rules.specs.Call.{Service, format_all, create, prepare, add, cut, enable, enter}
use Rattle.block_rules.specs.Refusals.{refusal}
use Rattle.block_cases.specs.Reached.{reached, refused_after}

-- the first six calls of the case
unfoldable pub six_calls : List Service
six_calls = cut 8 1096 ∷ create 8 ∷ cut 9 1392 ∷ prepare 8 9 ∷ cut 10 5488 ∷ add 8 10 3 ∷ []

-- the words of block n of d, from word f on, and what they are to be
unfoldable pub slot_is : List ℕ → ℕ → ℕ → ℕ → List ℕ → List Row
slot_is m d n f [] = []
slot_is m d n f (w ∷ ws) = field m d n f is w ∷ slot_is m d n (suc f) ws

-- eight blocks are enabled: block 8 from the start, and seven of those that are cut off; block 9 has the numbers from 16 on
unfoldable pub eight_enabled : List Service
eight_enabled =
    cut 8 1200 ∷ cut 9 1600 ∷ prepare 0 9 ∷ cut 10 1700 ∷ cut 11 1800 ∷ cut 12 1900 ∷ cut 13 2000 ∷ cut 14 2100 ∷ cut 15 2200 ∷ cut 16 2300
    ∷ enable 0 10 1 ∷ enable 0 11 1 ∷ enable 0 12 1 ∷ enable 0 13 1 ∷ enable 0 14 1 ∷ enable 0 15 1 ∷ enable 0 16 1 ∷ []

-- k times: block n cut off at byte x, and made a structure of the caller; the next block is n + 1
unfoldable pub structures : ℕ → ℕ → ℕ → List Service
structures zero n x = []
structures (suc k) n x = cut n x ∷ prepare 0 n ∷ structures k (suc n) (x + 304)

unfoldable pub sixteen : List Service
sixteen = cut 8 1300 ∷ structures 15 9 1604

-- k levels: a child in block 8, which starts at byte x, a structure for it in block 9, the rest lent to it; the child is entered
unfoldable pub levels : ℕ → ℕ → List Service
levels zero x = []
levels (suc k) x = cut 8 (x + 128) ∷ create 8 ∷ cut 9 (x + 424) ∷ prepare 8 9 ∷ add 8 10 7 ∷ enter 8 ∷ levels k (x + 424)

unfoldable pub level_now : List ℕ → ℕ
level_now m = level m (current m)

-- Over two functions that are those of Reached.antt, so that proofs/Table.antt can put equal ones in their place, which take less time to compute
module _ (reached : List Service → List ℕ) (refused_after : List Service → Service → ℕ) where
  unfoldable pub rows : List Row
  rows =
      root_of 4096 is 136 ∷ first_byte 4096 is 968 ∷ flat_bytes 4096 is 15416
      ∷ root_of 16384 is 520 ∷ first_byte 16384 is 2504 ∷ flat_bytes 16384 is 63032
      -- "3,840, 4,097 and 16,640 words: 13"
      ∷ refusal (replicate 3840 0) format_all is 13 ∷ refusal (replicate 4097 0) format_all is 13 ∷ refusal (replicate 16640 0) format_all is 13
      ∷ refusal (replicate 4096 0) format_all is 0 ∷ refusal (replicate 16384 0) format_all is 0
      -- "the child stands at 242 and its structure at 274"
      ∷ place (reached six_calls) 136 8 is 242 ∷ structure (reached six_calls) 242 1 is 274
      -- "Create in a block of 128 bytes passes if it starts at 1000 and is 9 if it starts at 1002."
      ∷ refused_after (cut 8 1000 ∷ cut 9 1128 ∷ []) (create 9) is 0 ∷ refused_after (cut 8 1002 ∷ cut 9 1130 ∷ []) (create 9) is 9
      -- "A cut 32 bytes above the start passes, 31 above is 5."
      ∷ refused_after [] (cut 8 1000) is 0 ∷ refused_after [] (cut 8 999) is 5
      -- "A seventeenth structure is 9, a ninth enabling 10."
      ∷ refused_after sixteen (prepare 0 24) is 9
      ∷ refused_after eight_enabled (enable 0 17 1) is 10 ∷ refused_after eight_enabled (enable 0 16 1) is 0 ∷ refused_after eight_enabled (enable 0 17 0) is 0
      -- "A partition nine below the root can be entered."
      ∷ level_now (reached (levels 9 968)) is 9
      ∷ (
      -- "the root's slot of block 10 is 1392 5488 7 2 8 8 0 9 11 and the child's slot of block 8 is 1392 5488 3 1 0 0 10 0 0"
      slot_is (reached six_calls) 136 10 0 (1392 ∷ 5488 ∷ 7 ∷ 2 ∷ 8 ∷ 8 ∷ 0 ∷ 9 ∷ 11 ∷ [])
      ++ slot_is (reached six_calls) 242 8 0 (1392 ∷ 5488 ∷ 3 ∷ 1 ∷ 0 ∷ 0 ∷ 10 ∷ 0 ∷ 0 ∷ []))

unfoldable pub table : List Row
table = rows reached refused_after
