-- FNV-1a with 32 bits.
use Rattle.std.specs.Prelude.{ℕ, ◌*◌, ◌%◌, ◌^◌, List, bit_xor}
use Rattle.std.specs.List.{fold}

-- one step: exclusive or, then times the prime
abbrev pub mixed : ℕ → ℕ → ℕ
mixed h x = bit_xor h x * 16777619 % 2 ^ 32

-- the hash of the words or bytes
abbrev pub hashed : List ℕ → ℕ
hashed xs = fold mixed 2166136261 xs
