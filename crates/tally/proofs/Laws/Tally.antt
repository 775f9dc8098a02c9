-- The sweep over the places of a row that marks the pages in hand and counts: pt is the page table, s1 the shadow 1 table. Assumes nothing.
use mathlib.Core.Path.{◌≡◌, refl, sym, ap, ◌∙◌}
use mathlib.Core.List.{List}
use mathlib.Core.Bool.{Bool, true, false, cond, not}
use mathlib.Core.Logic.{◌≢◌}
use mathlib.Core.Option.{Option, none, some}
use Prim.Native.Nat.{ℕ, ◌+◌, ◌-◌, ◌*◌, ◌≤◌, ◌<◌}
use native.Mathlib.Omega.{arith}
use lib.Dec.{eqb}
use lib.ListN.{length, get_or}
use borrow.Author.Tests.{ne_eqb, lt-leb}
use Rattle.walk.specs.Finite.{from}
use Rattle.walk.specs.Marks.{Seen, answer, mark}
use Rattle.memory.specs.Geometry.{page_words, page_of}
use Rattle.memory.specs.Entry.{accessible}
use Rattle.own_pages.proofs.Laws.Tests.{and-false}
use Rattle.tally.specs.Run.{run, adding, marking, bit}
use Rattle.tally.specs.Rows.{shut_words, hand_words, due_words}
use Rattle.tally.specs.Bits.{marks_in}
use Rattle.tally.proofs.Laws.Run.{bit-most, run-start, run-next, run-skip}
use Rattle.tally.proofs.Laws.Rows.{used-end}
use Rattle.tally.proofs.Laws.Walks.{step_is, walk-stop}

module _ (b : ℕ) (m pt s1 : List ℕ) where
  -- the steps
  abbrev pub mapped_step : ℕ → ℕ → ℕ
  mapped_step = adding (λ j. bit (not (eqb (get_or pt j 0) 0)))

  abbrev pub shut_step : ℕ → ℕ → ℕ
  shut_step = adding (λ j. bit (shut_words (get_or pt j 0) (get_or s1 j 0)))

  abbrev pub due_step : ℕ → ℕ → ℕ
  due_step = adding (λ j. due_words b m (get_or pt j 0) (get_or s1 j 0))

  abbrev in_hand : ℕ → Bool
  in_hand j = hand_words (get_or pt j 0) (get_or s1 j 0)

  abbrev mark_at : Seen → ℕ → Option Seen
  mark_at s j = mark s (page_of b (get_or pt j 0))

  abbrev pub hand_step : Option Seen → ℕ → Option Seen
  hand_step = marking in_hand mark_at

  -- a place whose page table word is 0 changes nothing
  module _ (x : ℕ) (z : get_or pt x 0 ≡ 0) where
    none-mapped : (u : ℕ) → mapped_step u x ≡ u
    none-mapped u = ap (λ (w : ℕ). u + bit (not (eqb w 0))) z ∙ omega arith

    none-shut : (u : ℕ) → shut_step u x ≡ u
    none-shut u = ap (λ (w : ℕ). u + bit (shut_words w (get_or s1 x 0))) z ∙ omega arith

    none-due : (u : ℕ) → due_step u x ≡ u
    none-due u = ap (λ (w : ℕ). u + due_words b m w (get_or s1 x 0)) z ∙ omega arith

    none-hand : (o : Option Seen) → hand_step o x ≡ o
    none-hand o = ap (λ (w : ℕ). marking (λ j. hand_words w (get_or s1 j 0)) (λ s j. mark s (page_of b w)) o x) z

  -- the state at place j of the row: the run over what is left gives what the whole gives
  pub record Tallied (first seen : List ℕ) (mapped shut due j : ℕ) : Type 0 where
    pub inside : j ≤ length pt
    pub same_length : length seen ≡ length first
    pub mapped_most : mapped ≤ j
    pub shut_most : shut ≤ j
    pub due_most : due ≤ 12884901893 * j
    pub mapped_run : run mapped_step 0 (from (page_words b) 0) ≡ run mapped_step mapped (from (page_words b - j) j)
    pub shut_run : run shut_step 0 (from (page_words b) 0) ≡ run shut_step shut (from (page_words b - j) j)
    pub due_run : run due_step 0 (from (page_words b) 0) ≡ run due_step due (from (page_words b - j) j)
    pub hand_run : run hand_step (some (marks_in first)) (from (page_words b) 0) ≡ run hand_step (some (marks_in seen)) (from (page_words b - j) j)

  pub tally_start : (first : List ℕ) → Tallied first first 0 0 0 0
  tally_start first =
      record {
        inside = omega arith;
        same_length = refl;
        mapped_most = omega arith;
        shut_most = omega arith;
        due_most = omega arith;
        mapped_run = run-start mapped_step (page_words b) 0;
        shut_run = run-start shut_step (page_words b) 0;
        due_run = run-start due_step (page_words b) 0;
        hand_run = run-start hand_step (page_words b) (some (marks_in first));
      }

  module _ (short : length pt ≤ page_words b) {first seen : List ℕ} {mapped shut due j : ℕ} (t : Tallied first seen mapped shut due j) where
    -- past places whose words are 0
    pub tally_past : (r : ℕ) → j ≤ r → r ≤ length pt → ((x : ℕ) → j ≤ x → x < r → get_or pt x 0 ≡ 0) → Tallied first seen mapped shut due r
    tally_past r a l z =
        record {
          inside = l;
          same_length = t.same_length;
          mapped_most = omega (arith, t.mapped_most);
          shut_most = omega (arith, t.shut_most);
          due_most = omega (arith, t.due_most);
          mapped_run = t.mapped_run ∙ run-skip mapped_step (page_words b) j r mapped a (λ x c d. none-mapped x (z x c d) mapped);
          shut_run = t.shut_run ∙ run-skip shut_step (page_words b) j r shut a (λ x c d. none-shut x (z x c d) shut);
          due_run = t.due_run ∙ run-skip due_step (page_words b) j r due a (λ x c d. none-due x (z x c d) due);
          hand_run = t.hand_run ∙ run-skip hand_step (page_words b) j r (some (marks_in seen)) a (λ x c d. none-hand x (z x c d) (some (marks_in seen)));
        }

    next : {S : Type 0} (f : S → ℕ → S) (u : S) {o v : S} → j < length pt → v ≡ f u j → o ≡ run f u (from (page_words b - j) j) → o ≡ run f v (from (page_words b - (j + 1)) (j + 1))
    next f u l e w = w ∙ run-next f (page_words b) j (omega arith) u ∙ ap (λ v. run f v (from (page_words b - (j + 1)) (j + 1))) (sym e)

    -- what the code was told at place j, where the word w is there
    module _ {w x : ℕ} (r : Bool) (last : List ℕ) (l : j < length pt) (ew : w ≡ get_or pt j 0) (ex : x ≡ get_or s1 j 0) (there : w ≢ 0)
        (marked : cond (hand_words w x) (mark (marks_in seen) (page_of b w)) (some (marks_in seen)) ≡ answer r (marks_in last)) where
      marked-at : cond (in_hand j) (mark_at (marks_in seen) j) (some (marks_in seen)) ≡ answer r (marks_in last)
      marked-at =
          ap (λ (y : ℕ). cond (hand_words y (get_or s1 j 0)) (mark (marks_in seen) (page_of b y)) (some (marks_in seen))) (sym ew)
          ∙ ap (λ (y : ℕ). cond (hand_words w y) (mark (marks_in seen) (page_of b w)) (some (marks_in seen))) (sym ex) ∙ marked

      pub tally_next : {seen' : List ℕ} {shut' due' s d : ℕ} → seen' ≡ last → shut' ≡ shut + s → due' ≡ due + d → s ≡ bit (shut_words w x)
          → (d ≡ due_words b m w x) × (d ≤ 12884901893) → length last ≡ length seen → not r ≡ false → Tallied first seen' (mapped + 1) shut' due' (j + 1)
      tally_next n us ud es (ed, hd) same y =
          let one : bit (not (eqb (get_or pt j 0) 0)) ≡ 1 = ap (λ (q : Bool). bit (not q)) (ne_eqb (get_or pt j 0) 0 (λ z. there (ew ∙ z))) in
          let shuts : bit (shut_words w x) ≡ bit (shut_words (get_or pt j 0) (get_or s1 j 0)) = ap (λ (q : ℕ). bit (shut_words q x)) ew ∙ ap (λ (q : ℕ). bit (shut_words (get_or pt j 0) q)) ex in
          let dues : due_words b m w x ≡ due_words b m (get_or pt j 0) (get_or s1 j 0) = ap (λ (q : ℕ). due_words b m q x) ew ∙ ap (λ (q : ℕ). due_words b m (get_or pt j 0) q) ex in
          record {
            inside = omega arith;
            same_length = ap length n ∙ same ∙ t.same_length;
            mapped_most = omega (arith, t.mapped_most);
            shut_most = omega (arith, t.shut_most, bit-most (shut_words w x));
            due_most = omega (arith, t.due_most);
            mapped_run = next mapped_step mapped l (ap (λ (q : ℕ). mapped + q) (sym one)) t.mapped_run;
            shut_run = next shut_step shut l (us ∙ ap (λ (q : ℕ). shut + q) (es ∙ shuts)) t.shut_run;
            due_run = next due_step due l (ud ∙ ap (λ (q : ℕ). due + q) (ed ∙ dues)) t.due_run;
            hand_run =
                next hand_step (some (marks_in seen)) l
                (ap (λ (q : List ℕ). some (marks_in q)) n ∙ step_is in_hand mark_at (marks_in seen) j r (marks_in last) marked-at y) t.hand_run;
          }

      pub tally_stop : not r ≡ true → run hand_step (some (marks_in first)) (from (page_words b) 0) ≡ none
      tally_stop y = walk-stop in_hand mark_at (marks_in seen) j (page_words b) r (marks_in last) (omega arith) marked-at y t.hand_run

    -- where the page is lent, it is counted as mapped and no more
    pub tally_lent : {w x : ℕ} {seen' : List ℕ} {shut' due' : ℕ} → j < length pt → w ≡ get_or pt j 0 → x ≡ get_or s1 j 0 → w ≢ 0 → 1 < x
        → seen' ≡ seen → shut' ≡ shut → due' ≡ due → Tallied first seen' (mapped + 1) shut' due' (j + 1)
    tally_lent {w} {x} l ew ex there lent n us ud =
        let free : eqb x 0 ≡ false = ne_eqb x 0 (omega arith) in
        let child : eqb x 1 ≡ false = ne_eqb x 1 (omega arith) in
        tally_next true seen l ew ex there (rw (ne_eqb w 0 there, free, and-false (eqb (accessible w) 1)) refl) {s = 0} {d = 0} n (omega arith) (omega arith)
        (rw (ne_eqb w 0 there, lt-leb x 1 lent) refl) (rw (ne_eqb w 0 there, child) refl, omega arith) refl refl

    -- at the end of the row
    module _ (l : length pt ≤ j) where
      pub tally_mapped : mapped ≡ run mapped_step 0 (from (page_words b) 0)
      tally_mapped = sym (used-end mapped_step (page_words b) pt short (λ x c z u. none-mapped x z u) mapped l t.mapped_run)

      pub tally_shut : shut ≡ run shut_step 0 (from (page_words b) 0)
      tally_shut = sym (used-end shut_step (page_words b) pt short (λ x c z u. none-shut x z u) shut l t.shut_run)

      pub tally_due : due ≡ run due_step 0 (from (page_words b) 0)
      tally_due = sym (used-end due_step (page_words b) pt short (λ x c z u. none-due x z u) due l t.due_run)

      pub tally_hand : run hand_step (some (marks_in first)) (from (page_words b) 0) ≡ some (marks_in seen)
      tally_hand = used-end hand_step (page_words b) pt short (λ x c z u. none-hand x z u) (some (marks_in seen)) l t.hand_run
