-- The calls, by document 02's names for the services (L10), with their arguments in the order of docs/BLOCKS.md. Assumes nothing.
use Rattle.std.specs.Prelude.{ℕ}

-- "Services: create, delete, prepare, collect, add, remove, cut, merge, enable, read enabled, find, enter, leave"
pub data Service : Type 0 where
  -- 1: block
  create : ℕ → Service
  -- 2: child
  delete : ℕ → Service
  -- 3: partition, block
  prepare : ℕ → ℕ → Service
  -- 4: partition
  collect : ℕ → Service
  -- 5: child, block, rights
  add : ℕ → ℕ → ℕ → Service
  -- 6: child, block
  remove : ℕ → ℕ → Service
  -- 7: block, address
  cut : ℕ → ℕ → Service
  -- 8: block, block
  merge : ℕ → ℕ → Service
  -- 9: partition, block, on
  enable : ℕ → ℕ → ℕ → Service
  -- 10: partition, entry
  read_enabled : ℕ → ℕ → Service
  -- 11: partition, address
  find : ℕ → ℕ → Service
  -- 12: child
  enter : ℕ → Service
  -- 13
  leave : Service

pub data Call : Type 0 where
  -- 0
  format_all : Call
  serve : Service → Call
