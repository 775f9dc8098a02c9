-- Marks in words, 32 in each: that of page p is bit p % 32 of word p / 32. Assumes nothing.
use Rattle.std.specs.Prelude.{◌≡◌, List, ℕ, ◌+◌, ◌-◌, ◌*◌, ◌/◌, ◌%◌, ◌^◌, ◌≤◌, length, get_or, set, drop, replicate}
use Rattle.walk.specs.Marks.{Seen}
use Rattle.memory.specs.Words.{tabulate}

-- bit k of w
abbrev pub bit_at : ℕ → ℕ → ℕ
bit_at w k = w / 2 ^ k % 2

unfoldable pub marks_in : List ℕ → Seen
marks_in ws = tabulate 0 (32 * length ws) (λ p. bit_at (get_or ws (p / 32) 0) (p % 32))

-- the words that the marks of n pages take
abbrev pub words_for : ℕ → ℕ
words_for n = (n + 31) / 32

-- what lies in ws past the marks of n pages is marked, so that no page outside can be
abbrev pub OutsideMarked : ℕ → List ℕ → Type 0
OutsideMarked n ws = (n ≤ 32 * length ws) × (drop n (marks_in ws) ≡ replicate (32 * length ws - n) 1)

-- the last word of ws so marked, where it was 0
abbrev pub mark_outside : ℕ → List ℕ → List ℕ
mark_outside n ws = set ws (n / 32) (4294967296 - 2 ^ (n % 32))
