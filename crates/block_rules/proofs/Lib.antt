-- Format leaves sound memory, and every call keeps it sound. Assumes nothing.

-- ---- what a write changes
pub mod Writes
pub mod SlotWrite
pub mod EntryWrite
pub mod CurrentWrite
pub mod Disabled
pub mod Trail
-- ---- what keeps a sentence of soundness
pub mod Stays
pub mod Keep
pub mod Uses
pub mod Ground
pub mod SlotStays
pub mod Grown
pub mod Frame
pub mod Framed
pub mod Kept
-- ---- parts of calls: a block is taken or freed
pub mod Taken
pub mod Turned
pub mod Freed
-- ---- .. a record is laid into a block (create, prepare)
pub mod Room
pub mod Laid
pub mod Entered
-- ---- .. a chain of pieces gets one more or one fewer (cut, merge)
pub mod Chain
pub mod Pieces
-- ---- .. records go and blocks are given back (collect, delete)
pub mod Zeroed
pub mod Wiped
pub mod Leaving
pub mod Given
pub mod Shrunk
-- ---- format, and each call
pub mod Formatted
pub mod steps
-- ---- all calls
pub mod Lengths
pub mod Rows
pub mod Step
-- ---- what single calls promise besides
pub mod Promises
pub mod Told
