-- The writer's answer and what it leaves, by what its tests say. Assumes nothing.
use mathlib.Core.Path.{◌≡◌, refl, sym, ap, ◌∙◌}
use mathlib.Core.Bool.{true, false, ◌||◌}
use mathlib.Core.List.{List, ◌++◌}
use Prim.Native.Nat.{ℕ, suc, ◌+◌, ◌≤◌, ◌<◌}
use lib.Dec.{ltb}
use lib.ListN.{length, take}
use borrow.Author.Tests.{lt-ltb, le-ltb}
use Rattle.memory.specs.Geometry.{page_bytes, address, flat_pages}
use Rattle.memory.specs.Words.{overwrite}
use Rattle.memory.specs.Partition.{pages}
use Rattle.soundness.specs.Test.{sound_test}
use Rattle.rules.specs.Row.{Answer, ok, no, first, reply, pass}
use Rattle.rules.specs.Bytes.{little_endian}
use Rattle.rules.specs.Record.{magic, record_bytes, writer_refusals, writer_answer, after_writer}
use Rattle.rules.proofs.Rows.{First, at, on, none, first-is}
use Rattle.record.proofs.Append.{overwrite_append}

module _ (b : ℕ) (m revision out : List ℕ) where
  -- the four parts of the record, written one behind the other
  pub in_parts : (xs ys o1 o2 o3 o4 : List ℕ) → xs ≡ little_endian (page_bytes b) → ys ≡ little_endian (address b (flat_pages b (pages b m) + 1))
      → o1 ≡ overwrite out 0 magic → o2 ≡ overwrite o1 4 xs → o3 ≡ overwrite o2 8 ys → o4 ≡ overwrite o3 12 (take 64 revision)
      → o4 ≡ overwrite out 0 (record_bytes b m revision)
  in_parts xs ys o1 o2 o3 o4 p q e1 e2 e3 e4 =
      let begin = little_endian (page_bytes b) in
      let end = little_endian (address b (flat_pages b (pages b m) + 1)) in
      let rest = take 64 revision in
      e4
      ∙ ap (λ (l : List ℕ). overwrite l 12 rest) (e3 ∙ ap (λ (l : List ℕ). overwrite o2 8 l) q)
      ∙ overwrite_append o2 8 end rest 12 refl
      ∙ ap (λ (l : List ℕ). overwrite l 8 (end ++ rest)) (e2 ∙ ap (λ (l : List ℕ). overwrite o1 4 l) p)
      ∙ overwrite_append o1 4 begin (end ++ rest) 8 refl
      ∙ ap (λ (l : List ℕ). overwrite l 4 (begin ++ end ++ rest)) e1
      ∙ overwrite_append out 0 magic (begin ++ end ++ rest) 4 refl

  -- what is answered, and what the buffer is then
  abbrev Wrote : Answer → List ℕ → Type 0
  Wrote a l = (a ≡ writer_answer b m revision out) × (l ≡ after_writer b m revision out)

  refuses : (n : ℕ) → First (writer_refusals b m revision out) (suc n) → Wrote (no (suc n)) out
  unfolding writer_answer after_writer reply pass
  refuses n f = (sym (ap (λ (k : ℕ). reply k 0) (first-is f)), sym (ap (λ (k : ℕ). pass k (overwrite out 0 (record_bytes b m revision)) out) (first-is f)))

  pub not_sound : false ≡ sound_test b m → Wrote (no 1) out
  unfolding writer_refusals
  not_sound e = refuses 0 (at (rw (← e) refl))

  too_short : true ≡ sound_test b m → (ltb (length revision) 64 || ltb (length out) 76) ≡ true → Wrote (no 17) out
  unfolding writer_refusals
  too_short e h = refuses 16 (on (rw (← e) refl) (at h))

  pub short_revision : true ≡ sound_test b m → length revision < 64 → Wrote (no 17) out
  short_revision e h = too_short e (rw (lt-ltb (length revision) 64 h) refl)

  pub short_buffer : true ≡ sound_test b m → 64 ≤ length revision → length out < 76 → Wrote (no 17) out
  short_buffer e h l = too_short e (rw (le-ltb (length revision) 64 h, lt-ltb (length out) 76 l) refl)

  pub written : true ≡ sound_test b m → 64 ≤ length revision → 76 ≤ length out → Wrote (ok 0) (overwrite out 0 (record_bytes b m revision))
  unfolding writer_refusals writer_answer after_writer reply pass
  written e h l =
      let f : first (writer_refusals b m revision out) ≡ 0 = first-is (on (rw (← e) refl) (on (rw (le-ltb (length revision) 64 h, le-ltb (length out) 76 l) refl) none)) in
      (sym (ap (λ (k : ℕ). reply k 0) f), sym (ap (λ (k : ℕ). pass k (overwrite out 0 (record_bytes b m revision)) out) f))
