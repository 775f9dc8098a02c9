-- The memories that format takes. Assumes nothing.
use Rattle.std.specs.Prelude.{◌≡◌, List, ℕ, ◌*◌, ◌≤◌, ◌<◌, length}
use Rattle.memory.specs.Geometry.{widths, width_of, page_words, least_pages, most_pages}
use Rattle.rules.specs.Conditions.{pages_in}

-- "length .. 64N with N 16 to 256", for the index width b
pub record Permitted (b : ℕ) (m : List ℕ) : Type 0 where
  pub whole : length m ≡ pages_in b m * page_words b
  pub least : least_pages ≤ pages_in b m
  pub most : pages_in b m ≤ most_pages b

-- e is an edition, and the memory has a length of that edition
pub record Fits (e : ℕ) (m : List ℕ) : Type 0 where
  pub known : e < length widths
  pub size : Permitted (width_of e) m
