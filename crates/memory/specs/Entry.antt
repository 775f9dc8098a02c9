-- A page table word and its parts. Assumes nothing.
use Rattle.std.specs.Prelude.{Bool, not, ◌&&◌, ℕ, ◌+◌, ◌*◌, ◌/◌, ◌%◌, eqb}
use Rattle.std.specs.Int.Bits.{bit_and}
use Rattle.memory.specs.Geometry.{address}

-- "page table, 0 or physical address + 1 + 2·accessible + 4·rights"
abbrev pub entry : ℕ → ℕ → ℕ → ℕ → ℕ
entry b page accessible rights = address b page + 1 + 2 * accessible + 4 * rights

abbrev pub present : ℕ → Bool
present w = not (eqb w 0)

abbrev pub accessible : ℕ → ℕ
accessible w = w / 2 % 2

abbrev pub rights : ℕ → ℕ
rights w = w / 4 % 8

-- "rights (read 1, write 2, execute 4)"
abbrev pub read_right : ℕ
read_right = 1

abbrev pub write_right : ℕ
write_right = 2

abbrev pub execute_right : ℕ
execute_right = 4

abbrev pub all_rights : ℕ
all_rights = 7

-- "rights 6 and 7" (document 02, L7): write and execute together, without read and with it
abbrev pub least_both : ℕ
least_both = 6

-- all of the rights r are among those of the word w
abbrev pub holds : ℕ → ℕ → Bool
holds r w = eqb (bit_and r (rights w)) r

-- "both writable and executable" (document 02, L7)
abbrev pub write_and_execute : ℕ → Bool
write_and_execute w = holds write_right w && holds execute_right w
