-- Format makes memory with the invariant.
use mathlib.Core.Path.{◌≡◌, refl, sym, ap, ◌∙◌}
use mathlib.Core.Logic.{◌≢◌}
use mathlib.Core.Bool.{false, cond}
use mathlib.Core.Option.{none, some}
use mathlib.Core.List.{[]}
use Prim.Native.Nat.{ℕ, zero, suc, ◌+◌, ◌-◌, ◌*◌, ◌/◌, ◌%◌, ◌^◌, ◌≤◌, ◌<◌}
use native.Mathlib.Omega.{arith}
use native.Mathlib.Decide.{dec_lt, dec_le}
use borrow.Author.Tests.{lt-ltb, le-ltb, le-leb, lt-leb, eq-eqb, ne_eqb}
use lib.Dec.{eqb}
use lib.ListN.{get_or}
use Rattle.memory.specs.Geometry.{most_flag, page_words, threes_for, flat_pages, least_pages, most_pages}
use Rattle.memory.specs.Format.{format, format_word, root_table_word}
use Rattle.memory.proofs.Geometry.{threes_for-enough, threes_for-least}
use Rattle.memory.proofs.Widths.{words-least}
use Rattle.memory.proofs.Format.{format-word, length-tabulate}
use Rattle.rules.proofs.model.Base.{eqd, pick_yes, pick_no}
use Rattle.rules.proofs.model.Words.{W, word, addr, addr-zero, join, pte, Sized}
use Rattle.rules.proofs.model.Abs.{Kind, pt, s1, s2, hand, blank, Abs, Seen, seek, WF, is_hand, seen_word, lent_word, cell, role_word, head_list}
use Rattle.rules.proofs.model.Facts.{differ, not-hand, seek-here}
use Rattle.rules.proofs.model.Read.{cell-none, cell-some}
use Rattle.rules.proofs.model.Format.{kind_at, kind_no, kind-lt, role0, maps0, flat0, flat_hop, rootp0, up_to, start, mid, flat-is, View, v_head, v_desc, v_root, v_lst, v_tab, v_hand, view, start-wf}
use Rattle.rules.proofs.model.Inv.{RootKept, fixed, Inv}
use Rattle.rules.proofs.model.RootWords.{five-words}

module _ {b : ℕ} (wide : 6 ≤ b) (n : ℕ) (least : least_pages ≤ n) (most : n ≤ most_pages b) where
  abbrev T : ℕ
  T = threes_for b n

  abbrev A : Abs
  A = start n T

  -- ---- the number of threes

  four : T ≤ 4
  four = threes_for-least b n 4 (omega arith)

  enough : n ≤ T * W b + 3 * T + 5
  unfolding W
  enough = omega (arith, threes_for-enough b n)

  big : 6 + 3 * T < n
  big = go (dec_le (n - 5) ((2 ^ b + 3) * 1))
    where
      go : Dec (n - 5 ≤ (2 ^ b + 3) * 1) → 6 + 3 * T < n
      go (yes l) = omega (arith, threes_for-least b n 1 l)
      go (no l) = omega (arith, four, words-least b wide)

  wf : WF b n (flat0 n T) A
  wf = start-wf n T wide enough (omega (arith, four)) big

  kept : RootKept n T A
  unfolding start rootp0
  kept = record { roots = λ k. refl; list = refl; threes = pick_yes (eqd 1 1) (up_to n T T) [] refl }

  full : (p : ℕ) → A.role p ≢ blank
  unfolding start
  full p e = go (view n T p)
    where
      go : View n T p → ⊥
      go (v_head q r) = differ (sym r ∙ e) (omega arith)
      go (v_desc q r) = differ (sym r ∙ e) (omega arith)
      go (v_root k q r) = differ (sym r ∙ e) (omega arith)
      go (v_lst q r) = differ (sym r ∙ e) (omega arith)
      go (v_tab x q l r) = differ (sym r ∙ e) (omega arith)
      go (v_hand l r) = differ (sym r ∙ e) (omega arith)

  -- ---- the root's tables

  hand-late : (q : ℕ) → 6 + 3 * T ≤ q → role0 n T q ≡ hand
  hand-late q l = go (view n T q)
    where
      go : View n T q → role0 n T q ≡ hand
      go (v_head e r) = absurd (omega arith)
      go (v_desc e r) = absurd (omega arith)
      go (v_root k e r) = absurd (omega (arith, kind-lt k))
      go (v_lst e r) = absurd (omega arith)
      go (v_tab x e k r) = absurd (omega arith)
      go (v_hand k r) = r

  -- what the root's tables say of v
  abbrev table_word : Kind → ℕ → ℕ
  table_word pt v = root_table_word b n v
  table_word s1 v = 0
  table_word s2 v = 0

  abbrev flat_seen : ℕ → Seen
  flat_seen p = record { vp = p - (5 + 3 * T); rt = 7; up = 0; below = none }

  found : (p : ℕ) → 6 + 3 * T ≤ p → p < n → seek none 1 (A.chain p) ≡ some (flat_seen p)
  unfolding start flat_hop
  found p l k = ap (seek none 1) (mid n T p l k) ∙ seek-here none 1 (flat_hop n T p) [] refl

  flat_word : (k : Kind) (v : ℕ) → 0 < v → 5 + 3 * T + v < n → seen_word b A k (5 + 3 * T + v) (some (flat_seen (5 + 3 * T + v))) ≡ table_word k v
  unfolding seen_word lent_word start pte
  flat_word pt v a c = rw (hand-late (5 + 3 * T + v) (omega arith), le-leb 1 v a, le-leb v (flat_pages b n) (omega arith)) refl
  flat_word s1 v a c = rw (hand-late (5 + 3 * T + v) (omega arith)) refl
  flat_word s2 v a c = addr-zero wide

  no_word : (k : Kind) (v : ℕ) → ¬ ((0 < v) × (5 + 3 * T + v < n)) → table_word k v ≡ 0
  no_word pt v h = go (dec_lt 0 v) (dec_lt (5 + 3 * T + v) n)
    where
      go : Dec (0 < v) → Dec (5 + 3 * T + v < n) → root_table_word b n v ≡ 0
      go (yes a) (yes c) = absurd (h (a, c))
      go (yes a) (no c) = rw (le-leb 1 v a, lt-leb v (flat_pages b n) (omega (arith, big))) refl
      go (no a) c = rw (lt-leb 1 v (omega arith)) refl
  no_word s1 v h = refl
  no_word s2 v h = refl

  cells : (k : Kind) (v : ℕ) → cell b A k 1 v ≡ table_word k v
  unfolding start maps0 flat0
  cells k v = go (dec_lt 0 v) (dec_lt (5 + 3 * T + v) n)
    where
      go : Dec (0 < v) → Dec (5 + 3 * T + v < n) → cell b A k 1 v ≡ table_word k v
      go (yes a) (yes c) =
          cell-some wide A k 1 v (5 + 3 * T + v) (flat_seen (5 + 3 * T + v)) (flat-is n T v a c) (found (5 + 3 * T + v) (omega arith) c) ∙ flat_word k v a c
      go (yes a) (no c) =
          cell-none wide A k 1 v (pick_yes (eqd 1 1) _ none refl ∙ pick_yes (dec_lt 0 v) _ none a ∙ pick_no (dec_lt (5 + 3 * T + v) n) _ none c) ∙ sym (no_word k v (λ x. c x.1))
      go (no a) c = cell-none wide A k 1 v (pick_yes (eqd 1 1) _ none refl ∙ pick_no (dec_lt 0 v) _ none a) ∙ sym (no_word k v (λ x. a x.0))

  -- word j of the table page 6 + q
  late-word : (q j : ℕ) → q < 3 * T → format_word b n (6 + q) j ≡ table_word (kind_at (q % 3)) (join b (q / 3) j)
  unfolding format_word join kind_at
  late-word q j l =
      rw (
        ne_eqb (6 + q) 0 (omega arith),
        ne_eqb (6 + q) 1 (omega arith),
        le-ltb (6 + q) 5 (omega arith),
        ne_eqb (6 + q) 5 (omega arith),
        lt-ltb (6 + q) (6 + 3 * T) (omega arith),
      ) (go (q % 3) refl)
    where
      v : ℕ
      v = q / 3 * page_words b + j

      go : (x : ℕ) → q % 3 ≡ x → cond (eqb ((6 + q) % 3) 0) (root_table_word b n ((6 + q - 6) / 3 * page_words b + j)) 0 ≡ table_word (kind_at (q % 3)) v
      go zero e =
          let a : (6 + q) % 3 ≡ 0 = omega arith in
          let c : 6 + q - 6 ≡ q = omega arith in
          rw (eq-eqb ((6 + q) % 3) 0 a, c, e) refl
      go (suc zero) e = rw (ne_eqb ((6 + q) % 3) 0 (omega arith), e) refl
      go (suc (suc zero)) e = rw (ne_eqb ((6 + q) % 3) 0 (omega arith), e) refl
      go (suc (suc (suc x))) e = absurd (omega arith)

  -- ---- all words

  head-words : (j : ℕ) → get_or (head_list b (fixed b n) A) j 0 ≡ format_word b n 0 j
  unfolding head_list addr start format_word
  head-words j = refl

  format-words : (q j : ℕ) → is_hand (A.role q) ≡ false → role_word b (fixed b n) A (cell b A) (A.role q) q j ≡ format_word b n q j
  unfolding start role_word
  format-words q j h = go (view n T q)
    where
      five : (p : ℕ) → p < 5 → q ≡ 1 + p → role_word b (fixed b n) A (cell b A) (A.role q) q j ≡ format_word b n q j
      five p l e = rw e (five-words wide n (flat0 n T) A wf kept (fixed b n) (cell b A) p l j (λ x. refl))

      go : View n T q → role_word b (fixed b n) A (cell b A) (A.role q) q j ≡ format_word b n q j
      go (v_head e r) = rw (r, e) (head-words j)
      go (v_desc e r) = five 0 (omega arith) e
      go (v_root k e r) = five (1 + kind_no k) (omega (arith, kind-lt k)) (e ∙ omega arith)
      go (v_lst e r) = five 4 (omega arith) e
      go (v_tab x e l r) = rw (r, e) (cells (kind_at (x % 3)) (join b (x / 3) j) ∙ sym (late-word x j l))
      go (v_hand l r) = not-hand r h

  flags : (d : ℕ) → A.vcli d ≤ most_flag b
  unfolding start
  flags d = omega arith

  pub inv-format : Inv b (format b n)
  unfolding word Sized W format
  inv-format = record {
    N = n;
    least = least;
    most = most;
    state = A;
    wf = wf;
    full = full;
    root = kept;
    flags = flags;
    words = record {
      sized = length-tabulate 0 (n * page_words b) _;
      says = λ q j l β h. format-word b n q j l β ∙ sym (format-words q j h);
    };
  }
