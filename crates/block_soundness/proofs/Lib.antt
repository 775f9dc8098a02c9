-- The test decides soundness, and what sound memory has. Assumes nothing.

-- ---- the test
pub mod Ranges
pub mod Agree
pub mod Whole
-- ---- blocks, the way up to the parent, and down to a child
pub mod Sources
pub mod Blocks
pub mod Up
pub mod Child
-- ---- each byte is in one block; records share no word
pub mod Once
pub mod Levels
pub mod Records
pub mod Disjoint
pub mod Below
pub mod Listing
-- ---- in hand + kernel = F
pub mod Sums
pub mod Tally
pub mod EachByte
pub mod Counted
