-- Each test of Test.antt decides its sentence: one term for both directions, in the shape of the test. Assumes nothing.
use mathlib.Core.Path.{◌≡◌, ◌∙◌}
use mathlib.Core.List.{List}
use mathlib.Core.Bool.{Bool, true, ◌&&◌}
use Prim.Native.Nat.{ℕ}
use native.Mathlib.Omega.{arith}
use lib.Dec.{eqb}
use Rattle.walk.specs.Reflect.{Tells, via, eq?, le?, lt?, both, isn't, unless, given, choose}
use Rattle.walk.specs.Finite.{from, all?}
use Rattle.block_memory.specs.Partition as P
use Rattle.block_memory.specs.Sound as S
use Rattle.block_soundness.specs.Test as T
use Rattle.block_soundness.proofs.Ranges.{range, entry-range, structure-range, has-range}

itself : {t : Bool} → Tells t (t ≡ true)
itself = ((λ e. e), λ e. e)

module _ (m : List ℕ) where
  pub partition? : {d : ℕ} → Tells (P.is_partition m d) (P.Partition m d)
  unfolding P.is_partition
  partition? = via (both (both lt? lt?) eq?) (λ ((s, i), l). record { some = s; inside = i; listed = l }) (λ p. ((p.some, p.inside), p.listed))

  -- ---- sentence 1

  pub header? : Tells (T.header_test m) (S.Header m)
  unfolding T.header_test
  header? =
      via (both (both (both (both (both itself eq?) eq?) eq?) partition?) (all? (from 4 4) (range 4 4) (λ i. eq?)))
      (λ (((((p, s), r), f), c), z). record { permits = p; size = s; root_word = r; first = f; current_word = c; rest = λ i a b. z i (a, b) })
      (λ h. (((((h.permits, h.size), h.root_word), h.first), h.current_word), λ i (a, b). h.rest i a b))

  -- ---- sentence 3

  root_descriptor? : Tells (eqb (P.parent m (P.root m)) 0 && eqb (P.number m (P.root m)) 0 && eqb (P.level m (P.root m)) 0) (S.RootDescriptor m)
  root_descriptor? = via (both (both eq? eq?) eq?) (λ ((p, n), l). record { no_parent = p; no_number = n; top = l }) (λ r. ((r.no_parent, r.no_number), r.top))

  pub descriptor? : (d : ℕ) → Tells (T.descriptor_test m d) (S.Descriptor m d)
  unfolding T.descriptor_test
  descriptor? d =
      via (both (all? (from 5 3) (range 5 3) (λ i. eq?)) (choose eq? root_descriptor? (both (both (both (both partition? eq?) eq?) eq?) lt?)))
      (λ (z, (r, o)). record {
        rest = λ i a b. z i (a, b);
        of_root = r;
        of_other = λ n. let ((((p, s), t), l), f) = o n in record { parent_listed = p; stands = s; there = t; below = l; few = f };
      })
      (λ h. ((λ i (a, b). h.rest i a b), (h.of_root, λ n. let o = h.of_other n in ((((o.parent_listed, o.stands), o.there), o.below), o.few))))

  -- ---- sentence 4

  pub entries? : (d : ℕ) → Tells (T.entries_test m d) (S.Entries m d)
  unfolding T.entries_test
  entries? d =
      via (all? (from 8 1) (range 8 1) (λ e. unless eq? (both eq? (all? (from 8 1) (range 8 1) (λ f. given eq? eq?)))))
      (λ h. record {
        in_hand = λ e n. (h e (entry-range m d e n) n).0;
        once = λ e f n q. (h e (entry-range m d e n) n).1 f (entry-range m d f (λ z. n (q ∙ z))) q;
      })
      (λ s e i n. (s.in_hand e n, λ f j q. s.once e f n q))

  -- ---- sentence 5

  root_structure? : Tells (T.root_structure_test m) (S.RootStructure m)
  unfolding T.root_structure_test
  root_structure? =
      via (both (both (both (both eq? eq?) eq?) (isn't eq?)) eq?)
      (λ ((((a, x), y), b), f). record { at = a; word0 = x; word1 = y; block = b; first = f })
      (λ r. ((((r.at, r.word0), r.word1), r.block), r.first))

  stands_in? : {h n c k : ℕ} → Tells (T.stands_in m h n c k) (S.StandsIn m h n c k)
  unfolding T.stands_in
  stands_in? = via (both (both eq? eq?) eq?) (λ ((u, l), w). record { use4 = u; linked = l; whose = w }) (λ s. ((s.use4, s.linked), s.whose))

  structure? : {d k s : ℕ} → Tells (T.structure_test m d k s) (S.Structure m d k s)
  unfolding T.structure_test
  structure? =
      via (both (both le? (given eq? eq?)) (choose eq? stands_in? stands_in?))
      (λ ((o, r), (i, p)). record { own = o; of_root = r; in_own = i; in_parent = p })
      (λ s. ((s.own, s.of_root), (s.in_own, s.in_parent)))

  pub structures? : (d : ℕ) → Tells (T.structures_test m d) (S.Structures m d)
  unfolding T.structures_test
  structures? d =
      via (both (given eq? root_structure?) (all? (from 16 1) (range 16 1) (λ k. unless eq? (unless (both eq? eq?) structure?))))
      (λ (r, o). record { of_root = r; others = λ k n. o k (structure-range m d k n) n })
      (λ s. (s.of_root, λ k i n. s.others k n))

  -- ---- sentences 6 to 9

  form? : {d n : ℕ} → Tells (T.form_test m d n) (S.Form m d n)
  unfolding T.form_test
  form? =
      via (both (both (both le? le?) le?) le?)
      (λ (((l, i), r), u). record { long = l; inside = i; few_rights = r; known = u })
      (λ f. (((f.long, f.inside), f.few_rights), f.known))

  lent? : {d n : ℕ} → Tells (T.lent_test m d n) (S.Lent m d n)
  unfolding T.lent_test
  lent? = via (both (both eq? eq?) eq?) (λ ((c, s), f). record { to_child = c; from_this = s; first = f }) (λ l. ((l.to_child, l.from_this), l.first))

  holds_descriptor? : {d n : ℕ} → Tells (T.holds_descriptor m d n) (S.HoldsDescriptor m d n)
  unfolding T.holds_descriptor
  holds_descriptor? =
      via (both (both (both (both (both eq? eq?) le?) partition?) eq?) eq?)
      (λ (((((c, l), r), p), o), n). record { no_child = c; no_link = l; room = r; listed = p; parent_word = o; number_word = n })
      (λ h. (((((h.no_child, h.no_link), h.room), h.listed), h.parent_word), h.number_word))

  holds_structure? : {d n : ℕ} → Tells (T.holds_structure m d n) (S.HoldsStructure m d n)
  unfolding T.holds_structure
  holds_structure? =
      via (both (both (both (both (unless eq? eq?) le?) eq?) eq?) eq?)
      (λ ((((w, r), t), n), o). record { whose = w; room = r; there = t; number_word = n; own_word = o })
      (λ h. ((((h.whose, h.room), h.there), h.number_word), h.own_word))

  use? : {d n : ℕ} → Tells (T.use_test m d n) (S.Use m d n)
  unfolding T.use_test
  use? {d} {n} =
      via (both (both (both (given eq? hand) (given eq? lent?)) (given eq? holds_descriptor?)) (given eq? holds_structure?))
      (λ (((a, b), c), e). record { use1 = a; use2 = b; use3 = c; use4 = e })
      (λ u. (((u.use1, u.use2), u.use3), u.use4))
    where
      hand : Tells (eqb (P.child m d n) 0 && eqb (P.link m d n) 0) (S.InHand m d n)
      hand = via (both eq? eq?) (λ (c, l). record { no_child = c; no_link = l }) (λ h. (h.no_child, h.no_link))

  source? : {d n : ℕ} → Tells (T.source_test m d n) (S.Source m d n)
  unfolding T.source_test
  source? =
      via (choose eq? (both eq? eq?) (both (both eq? eq?) eq?))
      (λ (r, o). record {
        of_root = λ e. let (s, a) = r e in record { no_source = s; all = a };
        of_other = λ n. let ((l, t), k) = o n in record { lent = l; to_this = t; no_more = k };
      })
      (λ s. ((λ e. let r = s.of_root e in (r.no_source, r.all)), λ n. let o = s.of_other n in ((o.lent, o.to_this), o.no_more)))

  next? : {d n : ℕ} → Tells (T.next_test m d n) (S.Next m d n)
  unfolding T.next_test
  next? =
      via (both (both (both eq? eq?) eq?) eq?)
      (λ (((b, a), s), r). record { back = b; adjoins = a; same_source = s; same_rights = r })
      (λ x. (((x.back, x.adjoins), x.same_source), x.same_rights))

  pieces? : {d n : ℕ} → Tells (T.pieces_test m d n) (S.Pieces m d n)
  unfolding T.pieces_test
  pieces? =
      via (both (choose eq? (both eq? eq?) eq?) (choose eq? eq? next?))
      (λ ((f, l), (e, x)). record { first = f; later = l; last = e; more = x })
      (λ p. ((p.first, p.later), (p.last, p.more)))

  pub slot? : {d n : ℕ} → Tells (T.slot_test m d n) (S.Slot m d n)
  unfolding T.slot_test
  slot? =
      via (choose eq? (all? (from 9 0) (range 9 0) (λ f. eq?)) (both (both (both form? use?) source?) pieces?))
      (λ (z, b). record {
        free = λ e f h. z e f (omega arith, h);
        taken = λ n. let (((f, u), s), p) = b n in record { form = f; uses = u; sources = s; pieces = p };
      })
      (λ s. ((λ e f (a, h). s.free e f h), λ n. let b = s.taken n in (((b.form, b.uses), b.sources), b.pieces)))

  -- ---- a partition

  pub record Whole (d : ℕ) : Type 0 where
    pub descriptor : S.Descriptor m d
    pub entries : S.Entries m d
    pub structures : S.Structures m d
    pub slots : (n : ℕ) → P.Has m d n → S.Slot m d n

  pub whole? : (d : ℕ) → Tells (T.partition_test m d) (Whole d)
  unfolding T.partition_test
  whole? d =
      via (both (both (both (descriptor? d) (entries? d)) (structures? d)) (all? (from 128 8) (range 128 8) (λ n. unless eq? slot?)))
      (λ (((a, b), c), s). record { descriptor = a; entries = b; structures = c; slots = λ n h. s n (has-range m d n h) h })
      (λ w. (((w.descriptor, w.entries), w.structures), λ n i h. w.slots n h))
