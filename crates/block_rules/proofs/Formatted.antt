-- Format leaves sound memory: word by word, then sentence by sentence. Assumes a permitted length.
use mathlib.Core.Path.{◌≡◌, refl, sym, ap, ◌∙◌, subst}
use mathlib.Core.List.{List}
use mathlib.Core.Logic.{◌≢◌, ◌⊎◌, inl, inr}
use Prim.Native.Nat.{ℕ, ◌+◌, ◌*◌, ◌/◌, ◌%◌, ◌≤◌, ◌<◌}
use native.Mathlib.Omega.{arith}
use native.Mathlib.Nat.{add-zero}
use native.Mathlib.Decide.{ℕ_discrete}
use lib.ListN.{length, get_or, replicate, length-set, length-replicate}
use lib.Seq.{get_or-set_same, get_or-set_other}
use Rattle.block_memory.specs.Geometry.{permitted, root_of, first_byte}
use Rattle.common.specs.Words.{overwrite}
use Rattle.block_memory.specs.Words.{word, put}
use Rattle.block_memory.specs.Partition.{root, Partition, entry, structure, Has, field, used}
use Rattle.block_memory.specs.Format.{format, header, starting_block}
use Rattle.block_memory.specs.Sound.{Sound, Descriptor, Entries, Structures, Slot}
use Rattle.common.proofs.Overwrite.{length-overwrite, overwrite-before, overwrite-after, overwrite-at}
use Rattle.walk.specs.Walk.{zeros-at}
use Rattle.block_memory.proofs.Lookups.{entry-at, structure-at, field_at}
use Rattle.block_soundness.proofs.Ranges.{Permitted, permitted?, entry-range, structure-range}
use Rattle.block_soundness.proofs.Sources.{root-start, root-end, root-link}
use Rattle.block_rules.proofs.Keep.{block-slot, wiped-slot}
use Rattle.block_rules.proofs.Uses.{in-hand}

module _ (w : ℕ) (per : Permitted w) where
  abbrev d : ℕ
  d = root_of w

  abbrev m : List ℕ
  m = format w

  abbrev m₁ : List ℕ
  m₁ = overwrite (replicate w 0) 0 (header w)

  abbrev m₂ : List ℕ
  m₂ = put m₁ (8 + d / 32) d

  abbrev m₃ : List ℕ
  m₃ = put m₂ (d + 8) 8

  abbrev m₄ : List ℕ
  m₄ = put m₃ (d + 16) (d + 32)

  size₁ : length m₁ ≡ w
  size₁ = length-overwrite (replicate w 0) 0 (header w) ∙ length-replicate {A = ℕ} w 0

  size₄ : length m₄ ≡ w
  size₄ = simp length-set size₁

  pub size : length m ≡ w
  unfolding format
  size = length-overwrite m₄ (d + 32 + 2) (starting_block w) ∙ size₄

  -- the kernel's own part is far below the end
  large : d + 106 ≤ w
  large = omega (arith, per.whole, per.least)

  -- ---- the words

  not_last : (j : ℕ) → (j < d + 34) ⊎ (d + 38 ≤ j) → word m j ≡ word m₄ j
  unfolding format
  not_last j (inl h) = overwrite-before m₄ (d + 32 + 2) (starting_block w) j (omega arith)
  not_last j (inr h) = overwrite-after m₄ (d + 32 + 2) (starting_block w) j (omega arith)

  last : (g : ℕ) → g < 4 → word m (d + 34 + g) ≡ get_or (starting_block w) g 0
  unfolding format
  last g h =
      ap (word (overwrite m₄ (d + 32 + 2) (starting_block w))) (omega arith)
      ∙ overwrite-at m₄ (d + 32 + 2) (starting_block w) g h (omega (arith, size₄, large))

  not_puts : (j : ℕ) → j ≢ 8 + d / 32 → j ≢ d + 8 → j ≢ d + 16 → word m₄ j ≡ word m₁ j
  not_puts j a b c = get_or-set_other m₃ (d + 16) j (d + 32) 0 c ∙ get_or-set_other m₂ (d + 8) j 8 0 b ∙ get_or-set_other m₁ (8 + d / 32) j d 0 a

  in_header : (j : ℕ) → j < 4 → word m j ≡ get_or (header w) j 0
  in_header j h =
      not_last j (inl (omega arith)) ∙ not_puts j (omega arith) (omega arith) (omega arith)
      ∙ ap (word m₁) (omega arith) ∙ overwrite-at (replicate w 0) 0 (header w) j h (omega (arith, length-replicate {A = ℕ} w 0, large))

  elsewhere : (j : ℕ) → 4 ≤ j → j ≢ 8 + d / 32 → j ≢ d + 8 → j ≢ d + 16 → (j < d + 34) ⊎ (d + 38 ≤ j) → word m j ≡ 0
  elsewhere j a b c e f = not_last j f ∙ not_puts j b c e ∙ overwrite-after (replicate w 0) 0 (header w) j (omega arith) ∙ zeros-at w j

  in_table : word m (8 + d / 32) ≡ d
  in_table =
      not_last (8 + d / 32) (inl (omega arith))
      ∙ get_or-set_other m₃ (d + 16) (8 + d / 32) (d + 32) 0 (omega arith)
      ∙ get_or-set_other m₂ (d + 8) (8 + d / 32) 8 0 (omega arith)
      ∙ get_or-set_same m₁ (8 + d / 32) d 0 (omega (arith, size₁, large))

  first_entry : word m (d + 8) ≡ 8
  first_entry =
      not_last (d + 8) (inl (omega arith)) ∙ get_or-set_other m₃ (d + 16) (d + 8) (d + 32) 0 (omega arith)
      ∙ get_or-set_same m₂ (d + 8) 8 0 (omega (arith, length-set m₁ (8 + d / 32) d, size₁, large))

  first-structure : word m (d + 16) ≡ d + 32
  first-structure =
      not_last (d + 16) (inl (omega arith))
      ∙ get_or-set_same m₃ (d + 16) (d + 32) 0 (omega (arith, length-set m₂ (d + 8) 8, length-set m₁ (8 + d / 32) d, size₁, large))

  -- ---- lookups

  rt : root m ≡ d
  rt = ap root_of size

  listed : Partition m d
  listed = record { some = omega arith; inside = omega (arith, size, large); listed = in_table }

  only : (u : ℕ) → Partition m u → u ≡ d
  only u v = elim (ℕ_discrete (u / 32) (d / 32)) [
    | yes e ↦ sym v.listed ∙ ap (λ (j : ℕ). word m (8 + j)) e ∙ in_table
    | no e ↦
        let i : u < w = omega (arith, v.inside, size) in
        let h : 8 + u / 32 < d = omega (arith, per.whole) in
        absurd (omega (arith, elsewhere (8 + u / 32) (omega arith) (omega arith) (omega arith) (omega arith) (inl (omega arith)), v.listed, v.some))
  ]

  entry-one : entry m d 1 ≡ 8
  entry-one = entry-at m d 1 (omega arith) (omega arith) ∙ ap (word m) (omega arith) ∙ first_entry

  entry-rest : (e : ℕ) → entry m d e ≢ 0 → e ≡ 1
  entry-rest e z = elim (ℕ_discrete e 1) [
    | yes q ↦ q
    | no q ↦ let (x, y) = entry-range m d e z in
        absurd (z (entry-at m d e x (omega arith) ∙ elsewhere (d + 7 + e) (omega arith) (omega arith) (omega arith) (omega arith) (inl (omega arith))))
  ]

  structure-one : structure m d 1 ≡ d + 32
  structure-one = structure-at m d 1 (omega arith) (omega arith) ∙ ap (word m) (omega arith) ∙ first-structure

  structure-rest : (k : ℕ) → structure m d k ≢ 0 → k ≡ 1
  structure-rest k z = elim (ℕ_discrete k 1) [
    | yes q ↦ q
    | no q ↦ let (x, y) = structure-range m d k z in
        absurd (z (structure-at m d k x (omega arith) ∙ elsewhere (d + 15 + k) (omega arith) (omega arith) (omega arith) (omega arith) (inl (omega arith))))
  ]

  -- word f of slot n, 8 to 15
  in_slot : (n f : ℕ) → n / 8 ≡ 1 → field m d n f ≡ word m (d + 34 + 9 * (n % 8) + f)
  in_slot n f e =
      let at : structure m d (n / 8) ≡ d + 32 = ap (structure m d) e ∙ structure-one in
      field_at m d n f (λ z. omega (arith, z, at)) ∙ ap (word m) (omega (arith, at))

  block-word : (g : ℕ) → g < 4 → field m d 8 g ≡ get_or (starting_block w) g 0
  block-word g h = in_slot 8 g refl ∙ ap (word m) (omega arith) ∙ last g h

  block-zero : (g : ℕ) → 4 ≤ g → g < 9 → field m d 8 g ≡ 0
  block-zero g a b =
      in_slot 8 g refl ∙ ap (word m) (omega arith)
      ∙ elsewhere (d + 34 + g) (omega arith) (omega arith) (omega arith) (omega arith) (inr (omega arith))

  free-slot : (n f : ℕ) → n / 8 ≡ 1 → n ≢ 8 → f < 9 → field m d n f ≡ 0
  free-slot n f e h g = in_slot n f e ∙ elsewhere (d + 34 + 9 * (n % 8) + f) (omega arith) (omega arith) (omega arith) (omega arith) (inr (omega arith))

  -- ---- the sentences

  starting : Slot m d 8
  starting = block-slot (λ z. omega (arith, z, block-word 3 (omega arith))) (record {
    form = record {
      long = omega (arith, block-word 0 (omega arith), block-word 1 (omega arith), large);
      inside = omega (arith, block-word 1 (omega arith), size);
      few_rights = omega (arith, block-word 2 (omega arith));
      known = omega (arith, block-word 3 (omega arith));
    };
    uses = in-hand (block-word 3 (omega arith))
        (record { no_child = block-zero 4 (omega arith) (omega arith); no_link = block-zero 5 (omega arith) (omega arith) });
    sources = record {
      of_root = λ e. record {
        no_source = ap (λ (x : ℕ). field m x 8 6) rt ∙ block-zero 6 (omega arith) (omega arith);
        all = ap (λ (x : ℕ). field m x 8 2) rt ∙ block-word 2 (omega arith);
      };
      of_other = λ e. absurd (e (sym rt));
    };
    pieces = record {
      first = λ e. (block-word 0 (omega arith) ∙ sym (root-start m d 8 (sym rt) ∙ ap first_byte size), root-link m d 8 (sym rt));
      later = λ e. absurd (e (block-zero 7 (omega arith) (omega arith)));
      last = λ e. block-word 1 (omega arith) ∙ sym (root-end m d 8 (sym rt) ∙ ap (λ (x : ℕ). 4 * x) size);
      more = λ e. absurd (e (block-zero 8 (omega arith) (omega arith)));
    };
  })

  slots : (n : ℕ) → Has m d n → Slot m d n
  slots n h =
      let e = structure-rest (n / 8) h in
      elim (ℕ_discrete n 8) [
        | yes q ↦ subst (Slot m d) (sym q) starting
        | no q ↦ wiped-slot (λ g i. free-slot n g e q i)
      ]

  desc-zero : (i : ℕ) → i < 8 → word m (d + i) ≡ 0
  desc-zero i h = elsewhere (d + i) (omega arith) (omega arith) (omega arith) (omega arith) (inl (omega arith))

  -- for the root's descriptor alone
  at-root : (P : ℕ → Type 0) → P d → (u : ℕ) → Partition m u → P u
  at-root P x u v = subst P (sym (only u v)) x

  pub format-sound : Sound m
  format-sound = record {
    header = record {
      permits = ap permitted size ∙ (permitted? w).1 per;
      size = in_header 0 (omega arith) ∙ sym size;
      root_word = in_header 1 (omega arith) ∙ sym rt;
      first = in_header 2 (omega arith) ∙ sym (ap first_byte size);
      current_word = subst (Partition m) (sym (in_header 3 (omega arith))) listed;
      rest = λ i a b. elsewhere i a (omega arith) (omega arith) (omega arith) (inl (omega arith));
    };
    table = record {
      words = λ j i n. elim (ℕ_discrete j (d / 32)) [
        | yes e ↦ ap (λ (x : ℕ). x / 32) (ap (λ (x : ℕ). word m (8 + x)) e ∙ in_table) ∙ sym e
        | no e ↦ absurd (n (elsewhere (8 + j) (omega arith) (omega arith) (omega (arith, size)) (omega (arith, size)) (inl (omega (arith, size)))))
      ];
      root_listed = subst (Partition m) (sym rt) listed;
    };
    descriptors = at-root (Descriptor m) (record {
      rest = λ i a b. desc-zero i b;
      of_root = λ e. record {
        no_parent = ap (word m) rt ∙ ap (word m) (sym (add-zero d)) ∙ desc-zero 0 (omega arith);
        no_number = ap (λ (x : ℕ). word m (x + 1)) rt ∙ desc-zero 1 (omega arith);
        top = ap (λ (x : ℕ). word m (x + 2)) rt ∙ desc-zero 2 (omega arith);
      };
      of_other = λ e. absurd (e (sym rt));
    });
    entries = at-root (Entries m) (record {
      in_hand = λ e z. ap (used m d) (ap (entry m d) (entry-rest e z) ∙ entry-one) ∙ block-word 3 (omega arith);
      once = λ e f z q. entry-rest e z ∙ sym (entry-rest f (λ y. z (q ∙ y)));
    });
    structures = at-root (Structures m) (record {
      of_root = λ e. record {
        at = ap (λ (x : ℕ). structure m x 1) rt ∙ structure-one ∙ ap (λ (x : ℕ). x + 32) (sym rt);
        word0 = ap (λ (x : ℕ). word m (x + 32)) rt ∙ elsewhere (d + 32) (omega arith) (omega arith) (omega arith) (omega arith) (inl (omega arith));
        word1 = ap (λ (x : ℕ). word m (x + 32 + 1)) rt ∙ elsewhere (d + 32 + 1) (omega arith) (omega arith) (omega arith) (omega arith) (inl (omega arith));
        block = λ z. omega (arith, block-word 3 (omega arith), ap (λ (x : ℕ). used m x 8) rt, z);
        first = ap (λ (x : ℕ). field m x 8 7) rt ∙ block-zero 7 (omega arith) (omega arith);
      };
      others = λ k z g. absurd (g (sym rt, structure-rest k z));
    });
    slots = λ u n v h. at-root (λ x. Has m x n → Slot m x n) (slots n) u v h;
  }
