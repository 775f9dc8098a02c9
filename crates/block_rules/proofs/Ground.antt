-- Sound memory and another of its length: header, descriptors and structures keep sentences 1, 3 and 5 where the words that these look at stay. Assumes
-- nothing.
use mathlib.Core.Path.{◌≡◌, refl, sym, ap, ap₂, ◌∙◌, subst}
use mathlib.Core.List.{List}
use mathlib.Core.Logic.{◌≢◌}
use Prim.Native.Nat.{ℕ, ◌+◌, ◌/◌, ◌<◌}
use native.Mathlib.Omega.{arith}
use lib.ListN.{length}
use Rattle.block_memory.specs.Geometry.{permitted, first_byte, word_from}
use Rattle.block_memory.specs.Words.{word}
use Rattle.block_memory.specs.Partition.{root, current, Partition, parent, number, level, structure, used, previous, place}
use Rattle.block_memory.specs.Sound.{Sound, Header, Descriptor, StandsIn, Structure, RootStructure}
use Rattle.block_rules.proofs.Stays.{Words8, Words2, word0-on, parent-on, number-on, level-on, Above, Held}

module _ (m m' : List ℕ) (s : Sound m) (size : length m' ≡ length m) where
  pub root-now : root m' ≡ root m
  root-now = ap (λ (w : ℕ). 8 + w / 32) size

  -- ---- sentence 1

  pub header-on : ((i : ℕ) → i < 8 → i ≢ 3 → word m' i ≡ word m i) → Partition m' (current m') → Header m'
  header-on h c = record {
    permits = ap permitted size ∙ s.header.permits;
    size = h 0 (omega arith) (omega arith) ∙ s.header.size ∙ sym size;
    root_word = h 1 (omega arith) (omega arith) ∙ s.header.root_word ∙ sym root-now;
    first = h 2 (omega arith) (omega arith) ∙ s.header.first ∙ sym (ap first_byte size);
    current_word = c;
    rest = λ i a b. h i b (omega arith) ∙ s.header.rest i a b;
  }

  -- ---- sentence 3

  pub descriptor-on : (d : ℕ) → Partition m d → Words8 m m' d → (d ≢ root m → Above m m' d) → Descriptor m' d
  descriptor-on d p w up = let o = s.descriptors d p in record {
    rest = λ i a b. w i b ∙ o.rest i a b;
    of_root = λ e.
        let h = o.of_root (e ∙ root-now) in
        let v = subst (Words8 m m') (e ∙ root-now) w in
        record {
          no_parent = ap (parent m') root-now ∙ parent-on m m' (root m) v ∙ h.no_parent;
          no_number = ap (number m') root-now ∙ number-on m m' (root m) v ∙ h.no_number;
          top = ap (level m') root-now ∙ level-on m m' (root m) v ∙ h.top;
        };
    of_other = λ e.
        let e' : d ≢ root m = λ z. e (z ∙ sym root-now) in
        let h = o.of_other e' in
        let u = up e' in
        let pe = parent-on m m' d w in
        let ne = number-on m m' d w in
        record {
          parent_listed = subst (Partition m') (sym pe) u.listed;
          stands = ap₂ (λ (x y : ℕ). used m' x y) pe ne ∙ u.uses ∙ h.stands;
          there = ap₂ (λ (x y : ℕ). place m' x y) pe ne ∙ ap word_from u.starts ∙ h.there;
          below = level-on m m' d w ∙ h.below ∙ ap (λ (x : ℕ). x + 1) (sym (ap (level m') pe ∙ level-on m m' (parent m d) u.words));
          few = omega (arith, h.few, level-on m m' d w, size);
        };
  }

  -- ---- sentence 5

  stands_on : (h n c k : ℕ) → Held m m' h n → StandsIn m h n c k → StandsIn m' h n c k
  stands_on h n c k (a, b, e) x = record { use4 = a ∙ x.use4; linked = e ∙ x.linked; whose = b ∙ x.whose }

  pub structure-on : (d k i : ℕ) → Structure m d k i → Words8 m m' d → Words2 m m' i
      → (word m (i + 1) ≡ 1 → Held m m' d (word m i)) → (word m (i + 1) ≢ 1 → Held m m' (parent m d) (word m i)) → Structure m' d k i
  structure-on d k i o w two own par =
      let a = word0-on m m' i two in
      let b = two 1 (omega arith) in
      record {
        own = omega (arith, b, o.own);
        of_root = λ e. b ∙ o.of_root (e ∙ root-now);
        in_own = λ e. subst (λ (x : ℕ). StandsIn m' d x 0 k) (sym a) (stands_on d _ 0 k (own (sym b ∙ e)) (o.in_own (sym b ∙ e)));
        in_parent = λ e.
            let e' : word m (i + 1) ≢ 1 = λ z. e (b ∙ z) in
            subst (λ (y : ℕ). StandsIn m' (parent m' d) (word m' i) y k) (sym (number-on m m' d w))
            (subst (λ (y : ℕ). StandsIn m' y (word m' i) (number m d) k) (sym (parent-on m m' d w))
            (subst (λ (y : ℕ). StandsIn m' (parent m d) y (number m d) k) (sym a) (stands_on (parent m d) _ (number m d) k (par e') (o.in_parent e'))));
      }

  pub root-structure-on : structure m' (root m) 1 ≡ structure m (root m) 1 → Words2 m m' (structure m (root m) 1) → used m' (root m) 8 ≢ 0
      → previous m' (root m) 8 ≡ 0 → RootStructure m'
  root-structure-on at two b8 p8 =
      let o = (s.structures (root m) s.table.root_listed).of_root refl in
      let w : Words2 m m' (root m + 32) = subst (Words2 m m') o.at two in
      record {
        at = ap (λ (x : ℕ). structure m' x 1) root-now ∙ at ∙ o.at ∙ ap (λ (x : ℕ). x + 32) (sym root-now);
        word0 = ap (λ (x : ℕ). word m' (x + 32)) root-now ∙ word0-on m m' (root m + 32) w ∙ o.word0;
        word1 = ap (λ (x : ℕ). word m' (x + 32 + 1)) root-now ∙ w 1 (omega arith) ∙ o.word1;
        block = λ y. b8 (ap (λ (x : ℕ). used m' x 8) (sym root-now) ∙ y);
        first = ap (λ (x : ℕ). previous m' x 8) root-now ∙ p8;
      }
