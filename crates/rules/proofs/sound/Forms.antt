-- Sentences 1 and 9: header and length, the forms of words; an absent mapping has 0 in all three table words.
use mathlib.Core.Path.{◌≡◌, refl, sym, ap, ◌∙◌, subst}
use mathlib.Core.Logic.{◌≢◌}
use mathlib.Core.Option.{Option, none, some}
use mathlib.Core.List.{List, [], ◌∷◌}
use Prim.Native.Nat.{ℕ, ◌+◌, ◌*◌, ◌≤◌, ◌<◌}
use native.Mathlib.Omega.{arith}
use native.Mathlib.Decide.{dec_lt}
use lib.ListN.{length, get_or, get_or-eq_default}
use Rattle.memory.specs.Geometry.{most_flag, page_words, address, threes_for}
use Rattle.memory.specs.Words as Mem
use Rattle.memory.specs.Partition
use Rattle.memory.specs.Tree.{Virtual, Physical, Has, InTree}
use Rattle.memory.specs.Sound.{Header, DescriptorForm, TableLink, DirectoryForm, ListForm, TableForm, Forms}
use Rattle.rules.proofs.model.Base.{eqd}
use Rattle.rules.proofs.model.Words.{W, word, page_of, link, pte, page_of-link, page_of-zero, link_nz, Sized}
use Rattle.rules.proofs.model.Abs.{Kind, pt, s1, s2, Role, desc, Hop, Three, head_p, Seen, seek, three_at, Good, is_hand, own_word, lent_word, link_word, desc_list, list_list, head_list}
use Rattle.rules.proofs.model.Apart.{own-small}
use Rattle.rules.proofs.model.Facts.{none-some, seek_nil}
use Rattle.rules.proofs.model.Read.{three-is}
use Rattle.rules.proofs.model.Inv.{fixed, Inv, named, head-word, pages-is}
use Rattle.rules.proofs.model.Listing.{page_at, list-free, list-rest}
use Rattle.rules.proofs.model.Chains.{above}
use Rattle.rules.proofs.sound.Words.{Mapping, mapping-there, words-none, maps_none, kernel-fits, descriptor-word, root-word, list-word, directory-is, shadow1-is, shadow2-is, list-is, threes-is}
use Rattle.rules.proofs.sound.Tree.{in_tree-live}
use Rattle.rules.proofs.sound.Pages.{five_page, room, physical, owned-fits, good-virtual, head-virtual, zero-virtual, five-owner, five-virtual, five-physical, pairs-are, listed-owner, listed-virtual, listed-physical}

module _ {b : ℕ} (wide : 6 ≤ b) (m : List ℕ) (i : Inv b m) where
  open named b i use {N, A}

  -- ---- the header

  head_at : (j : ℕ) → j < page_words b → Mem.word b m 0 j ≡ get_or (head_list b (fixed b N) A) j 0
  unfolding word W
  head_at j l = head-word wide m i j l

  pub sound-header : Header b m
  unfolding Sized head_list
  sound-header =
      let e : Partition.pages b m ≡ N = pages-is wide m i in
      record {
        size = i.words.sized ∙ ap (λ (x : ℕ). x * page_words b) (sym e);
        least = omega (arith, i.least);
        most = omega (arith, i.most);
        threes = head_at 1 (room wide m i 1 (omega arith)) ∙ ap (threes_for b) (sym e);
        descriptor = head_at 2 (room wide m i 2 (omega arith));
        first = rw e (head_at 3 (room wide m i 3 (omega arith)));
        current = rw (head_at 4 (room wide m i 4 (omega arith))) (physical wide m i A.cur (kernel-fits wide m i A.cur (ap is_hand i.wf.cur_live)));
        edition = head_at 5 (room wide m i 5 (omega arith));
        rest = λ j l k. head_at j l ∙ get_or-eq_default (head_list b (fixed b N) A) 0 k;
      }

  module _ (d : ℕ) (l : A.role d ≡ desc) where
    -- ---- the descriptor

    parent-fits : head_p (A.chain d) < N
    parent-fits = go (A.chain d) (i.wf.good d)
      where
        go : (hs : List Hop) → Good b A d hs → head_p hs < N
        go [] g = omega (arith, i.least)
        go (h ∷ hs) g = kernel-fits wide m i h.part (ap is_hand g.0.live)

    descriptor-form : DescriptorForm b m d
    unfolding desc_list
    descriptor-form = record {
      pairs = λ j k. (
        subst (Virtual b) (sym (five-virtual wide m i d l j k)) (head-virtual wide m i (five_page A d j)),
        subst (Physical b m) (sym (five-physical wide m i d l j k)) (physical wide m i (five_page A d j) (owned-fits wide m i (five_page A d j) d (five-owner wide m i d l j k))),
      );
      zero = descriptor-word wide m i d 10 l (room wide m i 10 (omega arith));
      parent = subst (Physical b m) (sym (descriptor-word wide m i d 11 l (room wide m i 11 (omega arith)))) (physical wide m i (head_p (A.chain d)) parent-fits);
      flag = subst (λ (x : ℕ). x ≤ most_flag b) (sym (descriptor-word wide m i d 12 l (room wide m i 12 (omega arith)))) (i.flags d);
      rest = λ j k n. descriptor-word wide m i d j l k ∙ get_or-eq_default (desc_list b A d) 0 n;
    }

    -- ---- directory and shadows

    link-form : (w q : ℕ) → w ≡ link b q → q < N → TableLink b m w
    unfolding link page_of
    link-form w q e k n =
        let x : page_of b w ≡ q = ap (page_of b) e ∙ page_of-link wide q in
        (ap (λ (y : ℕ). address b y + 1) x ∙ sym e, subst (λ (y : ℕ). y < Partition.pages b m) (sym x) (omega (arith, pages-is wide m i)))

    directory-form : (j : ℕ) → j < page_words b → DirectoryForm b m d j
    unfolding link_word
    directory-form j k = go (three_at j (A.threes d)) refl
      where
        w0 : Mem.word b m (Partition.directory b m d) j ≡ link_word b pt (three_at j (A.threes d))
        w0 = ap (λ (x : ℕ). Mem.word b m x j) (directory-is wide m i d l) ∙ root-word wide m i pt d j l k

        w1 : Mem.word b m (Partition.shadow1 b m d) j ≡ link_word b s1 (three_at j (A.threes d))
        w1 = ap (λ (x : ℕ). Mem.word b m x j) (shadow1-is wide m i d l) ∙ root-word wide m i s1 d j l k

        w2 : Mem.word b m (Partition.shadow2 b m d) j ≡ link_word b s2 (three_at j (A.threes d))
        w2 = ap (λ (x : ℕ). Mem.word b m x j) (shadow2-is wide m i d l) ∙ root-word wide m i s2 d j l k

        go : (o : Option Three) → three_at j (A.threes d) ≡ o → DirectoryForm b m d j
        go none e = record {
          table = λ n. absurd (n (w0 ∙ ap (link_word b pt) e));
          table1 = λ n. absurd (n (w1 ∙ ap (link_word b s1) e));
          table2 = λ n. absurd (n (w2 ∙ ap (link_word b s2) e));
          absent = λ z. (w1 ∙ ap (link_word b s1) e, w2 ∙ ap (link_word b s2) e);
          there = λ n. absurd (n (w0 ∙ ap (link_word b pt) e));
        }
        go (some t) e =
            let x = three-is wide A.role d j (A.threes d) t (i.wf.tabs d l) e in
            let fits : (k : Kind) → t.page k < N = λ k. kernel-fits wide m i (t.page k) (ap is_hand (x.pages k)) in
            record {
              table = link-form _ (t.page pt) (w0 ∙ ap (link_word b pt) e) (fits pt);
              table1 = link-form _ (t.page s1) (w1 ∙ ap (link_word b s1) e) (fits s1);
              table2 = link-form _ (t.page s2) (w2 ∙ ap (link_word b s2) e) (fits s2);
              absent = λ z. absurd (link_nz wide (t.page pt) (sym (w0 ∙ ap (link_word b pt) e) ∙ z));
              there = λ n. ((λ z. link_nz wide (t.page s1) (sym (w1 ∙ ap (link_word b s1) e) ∙ z)), λ z. link_nz wide (t.page s2) (sym (w2 ∙ ap (link_word b s2) e) ∙ z));
            }

    -- ---- the list

    list_at : (j : ℕ) → j < page_words b → Mem.word b m (Partition.list b m d) j ≡ get_or (list_list b A.chain (A.threes d)) j 0
    list_at j k = ap (λ (x : ℕ). Mem.word b m x j) (list-is wide m i d l) ∙ list-word wide m i d j l k

    list-form : ListForm b m d
    list-form =
        let e : Partition.threes b m d ≡ length (A.threes d) = threes-is wide m i d l in
        let w : Mem.word b m (Partition.list b m d) 0 ≡ 1 + 6 * length (A.threes d) = list_at 0 (room wide m i 0 (omega arith)) ∙ list-free b A.chain (A.threes d) in
        record {
          free = w ∙ ap (λ (x : ℕ). 1 + 6 * x) (sym e);
          few = omega (arith, i.wf.ten d l);
          pairs = λ j k.
              let n : j < 3 * length (A.threes d) = pairs-are wide m i d l j k in
              let q : ℕ = page_at (A.threes d) j in (
                subst (Virtual b) (sym (listed-virtual wide m i d l j n)) (head-virtual wide m i q),
                subst (Physical b m) (sym (listed-physical wide m i d l j n)) (physical wide m i q (owned-fits wide m i q d (listed-owner wide m i d l j n))),
              );
          rest = λ j k n. list_at j k ∙ list-rest b A.chain (A.threes d) j (omega (arith, w));
        }

    -- ---- the tables

    mapped-fits : (v p : ℕ) (s : Seen) → Mapping b m A d v p s → p < N
    mapped-fits v p s x = go (dec_lt p N)
      where
        go : Dec (p < N) → p < N
        go (yes k) = k
        go (no k) = none-some (sym (seek_nil none d) ∙ ap (seek none d) (sym (i.wf.beyond p (omega arith)).1) ∙ x.finds)

    lent-form : (r : Role) (o : Option ℕ) → lent_word b A r o ≢ 1 → Virtual b (lent_word b A r o)
    unfolding lent_word
    lent-form r none n = let z : own_word r ≡ 0 = omega (arith, own-small r) in rw z (zero-virtual wide m i)
    lent-form r (some c) n = head-virtual wide m i c

    table-form : (v : ℕ) → Has b m d v → TableForm b m d v
    unfolding pte
    table-form v h = go (eqd (Partition.mapping b m d v) 0)
      where
        go : Dec (Partition.mapping b m d v ≡ 0) → TableForm b m d v
        go (yes e) =
            let z = words-none wide m i d v l h.virtual (maps_none wide m i d v l e) in
            record { table_word = λ n. absurd (n e); shadow1_word = λ n. rw z.1 (zero-virtual wide m i); shadow2_word = rw z.2 (zero-virtual wide m i) }
        go (no n) =
            let y = mapping-there wide m i d v l h.virtual n in
            let p = y.0 in
            let s = y.1 in
            let x : Mapping b m A d v p s = y.2 in
            let a = above wide A p none d (A.chain p) s (i.wf.good p) x.finds in
            record {
              table_word = λ n. (rw (x.page, x.accessible, x.rights) (sym x.whole), rw (x.page, pages-is wide m i) (mapped-fits v p s x));
              shadow1_word = λ k. rw x.lent (lent-form (A.role p) s.below (λ e. k (x.lent ∙ e)));
              shadow2_word = rw (x.above, a.up) (good-virtual wide m i p a.rest a.rest_good);
            }

    no-page-zero : Partition.mapping b m d 0 ≡ 0
    no-page-zero = go (eqd (Partition.mapping b m d 0) 0)
      where
        go : Dec (Partition.mapping b m d 0 ≡ 0) → Partition.mapping b m d 0 ≡ 0
        go (yes e) = e
        go (no n) =
            let y = mapping-there wide m i d 0 l (zero-virtual wide m i) n in
            let a = above wide A y.0 none d (A.chain y.0) y.1 (i.wf.good y.0) y.2.finds in
            absurd (a.hop_good.some_v (sym a.vp ∙ y.2.at ∙ page_of-zero wide))

    absent-words : (v : ℕ) → Has b m d v → Partition.mapping b m d v ≡ 0 → (Partition.lent b m d v ≡ 0) × (Partition.above b m d v ≡ 0)
    absent-words v h e = let z = words-none wide m i d v l h.virtual (maps_none wide m i d v l e) in (z.1, z.2)

  pub sound-forms : (k d : ℕ) → InTree b m k d → Forms b m d
  sound-forms k d t =
      let l : A.role d ≡ desc = in_tree-live wide m i k d t in
      record { descriptor = descriptor-form d l; directory = directory-form d l; list = list-form d l; tables = table-form d l; none = no-page-zero d l }

  pub sound-absent : (k d : ℕ) → InTree b m k d → (v : ℕ) → Has b m d v → Partition.mapping b m d v ≡ 0 → (Partition.lent b m d v ≡ 0) × (Partition.above b m d v ≡ 0)
  sound-absent k d t = absent-words d (in_tree-live wide m i k d t)
