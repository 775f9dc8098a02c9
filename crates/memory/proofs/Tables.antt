-- A table word where the table is there, and where it is not. Assumes nothing.
use mathlib.Core.Path.{◌≡◌, refl}
use mathlib.Core.Logic.{◌≢◌}
use mathlib.Core.Bool.{Bool, true, false, cond}
use lib.Dec.{eqb}
use lib.ListN.{length, length-set}
use mathlib.Core.List.{List}
use Prim.Native.Nat.{ℕ}
use borrow.Author.Tests.{eq-eqb, ne_eqb}
use Rattle.memory.specs.Geometry.{page_of, table_index}
use Rattle.memory.specs.Words.{word, put}
use Rattle.memory.specs.Partition.{table_at, table_word, put_table_word}

pub table_word-absent : (b : ℕ) (m : List ℕ) (root k : ℕ) → table_at b m root k ≡ 0 → table_word b m root k ≡ 0
unfolding table_word
table_word-absent b m root k e = simp (eq-eqb _ _ e)

pub table_word-present : (b : ℕ) (m : List ℕ) (root k : ℕ) → table_at b m root k ≢ 0 → table_word b m root k ≡ word b m (page_of b (table_at b m root k)) (table_index b k)
unfolding table_word
table_word-present b m root k ne = simp (ne_eqb _ _ ne)

pub put_table_word-absent : (b : ℕ) (m : List ℕ) (root k x : ℕ) → table_at b m root k ≡ 0 → put_table_word b m root k x ≡ m
unfolding put_table_word
put_table_word-absent b m root k x e = simp (eq-eqb _ _ e)

pub put_table_word-present : (b : ℕ) (m : List ℕ) (root k x : ℕ) → table_at b m root k ≢ 0 → put_table_word b m root k x ≡ put b m (page_of b (table_at b m root k)) (table_index b k) x
unfolding put_table_word
put_table_word-present b m root k x ne = simp (ne_eqb _ _ ne)

-- ---- the length stays

pub length-cond : (t : Bool) (x y : List ℕ) (n : ℕ) → length x ≡ n → length y ≡ n → length (cond t x y) ≡ n
length-cond true x y n e f = e
length-cond false x y n e f = f

pub length-put_table_word : (b : ℕ) (m : List ℕ) (root k x : ℕ) → length (put_table_word b m root k x) ≡ length m
unfolding put_table_word
length-put_table_word b m root k x = length-cond (eqb (table_at b m root k) 0) _ _ _ refl (length-set m _ x)
