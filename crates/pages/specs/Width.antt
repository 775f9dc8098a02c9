-- The index widths for which the code is proved: ten threes need 61 words of a page, and an address has 3b + 2 bits, at most 32. Assumes nothing.
use Rattle.std.specs.Prelude.{ℕ, ◌≤◌}

abbrev pub Width : ℕ → Type 0
Width b = (6 ≤ b) × (b ≤ 10)
