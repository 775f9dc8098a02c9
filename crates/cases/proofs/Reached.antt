-- Memory that calls reach from format is sound, so that none of them is refused with 1: what they leave and answer comes from their rows without the
-- first test. So computed statements need not compute the test of soundness, which takes longer than all the rest. Assumes nothing.
use mathlib.Core.Path.{◌≡◌, refl, ap, ap₂, ◌∙◌, subst}
use mathlib.Core.List.{List, [], ◌∷◌}
use mathlib.Core.Bool.{Bool, true, false, cond, not, ◌&&◌, ◌||◌, false≢true}
use mathlib.Core.Option.{Option, none, some}
use Prim.Native.Nat.{ℕ, ◌*◌, ◌/◌}
use native.Mathlib.Omega.{arith}
use lib.Dec.{leb, ltb, eqb}
use lib.ListN.{length, drop, length-replicate}
use Rattle.walk.specs.Reflect.{Tells, lt?, le?, both}
use Rattle.memory.specs.Geometry.{widths, width_of, page_words, least_pages, most_pages}
use Rattle.memory.specs.Format.{format}
use Rattle.memory.proofs.Widths.{words-least}
use Rattle.memory.proofs.Editions.{wide_of}
use Rattle.soundness.proofs.Whole.{sound?}
use Rattle.rules.specs.Refusal.{DAMAGED, SIZE}
use Rattle.rules.specs.Row.{Answer, ◌when◌, first, reply, pass}
use Rattle.rules.specs.Call.{Call, choice, format_all, create_partition, delete_partition, add_vaddr, remove_vaddr, page_count, prepare, collect}
use Rattle.rules.specs.Call.{mapped_in_child, enter, leave, load, store, notify, dispatch, resume, resumption}
use Rattle.rules.specs.Conditions.{damaged}
use Rattle.rules.specs.Refusals.{refusals, refusal}
use Rattle.rules.specs.Effects.{effect}
use Rattle.rules.specs.Calls as C
use Rattle.rules.specs.Editions.{answer, context, after, run, answers, contexts, next_edition, NoFormat}
use Rattle.rules.proofs.Rows.{on, first-is, first-self}
use Rattle.rules.proofs.steps.Formatted.{inv-format}
use Rattle.rules.proofs.steps.Editions.{Held, edition-is, held-sound, left, held-step}
use Rattle.cases.specs.Cases.{formatting, reached}
use Rattle.cases.specs.Morning.{answers_to}
use Rattle.cases.specs.Contexts.{contexts_to}

never : {A : Type 0} {e : ℕ} → ◌≡◌ {A = Option ℕ} (some e) none → A
never h = let z : ◌≡◌ {A = ℕ} 0 1 = cc in absurd (omega arith)

-- every row but format's begins with refusal 1
damaged-first : (b : ℕ) (m : List ℕ) (c : Call) → choice c ≡ none → refusals b m c ≡ DAMAGED when damaged b m ∷ drop 1 (refusals b m c)
unfolding refusals choice
damaged-first b m (format_all e) h = never h
damaged-first b m (create_partition p d s t l) h = refl
damaged-first b m (delete_partition c) h = refl
damaged-first b m (add_vaddr p c t r) h = refl
damaged-first b m (remove_vaddr c t) h = refl
damaged-first b m (page_count c t) h = refl
damaged-first b m (prepare c t p) h = refl
damaged-first b m (collect c t) h = refl
damaged-first b m (mapped_in_child p) h = refl
damaged-first b m (enter c) h = refl
damaged-first b m leave h = refl
damaged-first b m (load a) h = refl
damaged-first b m (store a x) h = refl
damaged-first b m (notify t e f r) h = refl
damaged-first b m (dispatch t) h = refl
damaged-first b m (resume t s) h = refl

-- ---- the calls without the first test

module _ (b : ℕ) where
  -- the number of the first refusal behind refusal 1, or 0
  unfoldable pub later : List ℕ → Call → ℕ
  later m c = first (drop 1 (refusals b m c))

  unfoldable pub after_later : List ℕ → Call → List ℕ
  after_later m c = pass (later m c) (effect b m c) m

  unfoldable pub run_later : List ℕ → List Call → List ℕ
  run_later m [] = m
  run_later m (c ∷ cs) = run_later (after_later m c) cs

  unfoldable pub answers_later : List ℕ → List Call → List Answer
  answers_later m [] = []
  answers_later m (c ∷ cs) = reply (later m c) (C.result b m c) ∷ answers_later (after_later m c) cs

  unfoldable pub contexts_later : List ℕ → List Call → List (List ℕ)
  contexts_later m [] = []
  contexts_later m (c ∷ cs) = C.resumed b m (later m c) (resumption c) ∷ contexts_later (after_later m c) cs

module _ {e : ℕ} {m : List ℕ} (h : Held e m) where
  not-damaged : damaged (width_of e) m ≡ false
  not-damaged = ap not ((sound? (width_of e) m (omega (arith, words-least (width_of e) (wide_of e h.known)))).1 (held-sound h))

  module _ (c : Call) (n : choice c ≡ none) where
    refusal_is : refusal (width_of e) m c ≡ later (width_of e) m c
    unfolding later
    refusal_is = ap first (damaged-first (width_of e) m c n) ∙ first-is (on not-damaged (first-self _))

    after_is : after m c ≡ after_later (width_of e) m c
    unfolding C.after after_later
    after_is = left h c ∙ ap (λ (r : ℕ). pass r (effect (width_of e) m c) m) refusal_is

    answer-is : answer m c ≡ reply (later (width_of e) m c) (C.result (width_of e) m c)
    unfolding answer C.answer
    answer-is =
        ap (λ (x : ℕ). C.answer (width_of x) m c) (edition-is e m h)
        ∙ ap (λ (r : ℕ). reply r (C.result (width_of e) m c)) refusal_is

    context-is : context m c ≡ C.resumed (width_of e) m (later (width_of e) m c) (resumption c)
    unfolding context C.context
    context-is =
        ap (λ (x : ℕ). C.context (width_of x) m c) (edition-is e m h)
        ∙ ap (λ (r : ℕ). C.resumed (width_of e) m r (resumption c)) refusal_is

    held_after : Held e (after_later (width_of e) m c)
    unfolding next_edition
    held_after = subst (Held e) after_is (subst (λ (o : Option ℕ). Held (next_edition m e o) (after m c)) n (held-step h c))

-- ---- lists of calls, none of them a format

abbrev is_none : Option ℕ → Bool
is_none none = true
is_none (some e) = false

none? : (o : Option ℕ) → Tells (is_none o) (o ≡ none)
none? none = ((λ q. refl), λ q. refl)
none? (some e) = ((λ q. absurd (false≢true q)), λ q. never q)

abbrev no_format : List Call → Bool
no_format [] = true
no_format (c ∷ cs) = is_none (choice c) && no_format cs

no_format? : (cs : List Call) → Tells (no_format cs) (NoFormat cs)
no_format? [] = ((λ q. tt), λ q. refl)
no_format? (c ∷ cs) = both (none? (choice c)) (no_format? cs)

run-later : (e : ℕ) (m : List ℕ) → Held e m → (cs : List Call) → NoFormat cs → run m cs ≡ run_later (width_of e) m cs
unfolding run run_later
run-later e m h [] q = refl
run-later e m h (c ∷ cs) (n, ns) =
    ap (λ (x : List ℕ). run x cs) (after_is h c n) ∙ run-later e (after_later (width_of e) m c) (held_after h c n) cs ns

answers-later : (e : ℕ) (m : List ℕ) → Held e m → (cs : List Call) → NoFormat cs → answers m cs ≡ answers_later (width_of e) m cs
unfolding answers answers_later
answers-later e m h [] q = refl
answers-later e m h (c ∷ cs) (n, ns) =
    ap₂ (λ (a : Answer) (x : List Answer). a ∷ x) (answer-is h c n)
    (ap (λ (x : List ℕ). answers x cs) (after_is h c n) ∙ answers-later e (after_later (width_of e) m c) (held_after h c n) cs ns)

contexts-later : (e : ℕ) (m : List ℕ) → Held e m → (cs : List Call) → NoFormat cs → contexts m cs ≡ contexts_later (width_of e) m cs
unfolding contexts contexts_later
contexts-later e m h [] q = refl
contexts-later e m h (c ∷ cs) (n, ns) =
    ap₂ (λ (a : List ℕ) (x : List (List ℕ)). a ∷ x) (context-is h c n)
    (ap (λ (x : List ℕ). contexts x cs) (after_is h c n) ∙ contexts-later e (after_later (width_of e) m c) (held_after h c n) cs ns)

-- ---- from format

-- n is a number of pages of edition e, and none of the calls is a format
unfoldable pub usual : ℕ → ℕ → List Call → Bool
usual e n cs = ltb e (length widths) && leb least_pages n && leb n (most_pages (width_of e)) && no_format cs

usual-held : (e n : ℕ) (cs : List Call) → usual e n cs ≡ true → Held e (format (width_of e) n) × NoFormat cs
unfolding usual
usual-held e n cs q =
    let (((k, l), o), r) = (both (both (both lt? le?) le?) (no_format? cs)).0 q in
    (record { known = k; inv = inv-format (wide_of e k) n l o }, r)

-- x, or y where the test says that they are the same
either_way : {A : Type 0} {x y : A} (t : Bool) → (t ≡ true → x ≡ y) → x ≡ cond t y x
either_way true f = f refl
either_way false f = refl

unfoldable pub reached_later : ℕ → ℕ → List Call → List ℕ
reached_later e n cs = cond (usual e n cs) (run_later (width_of e) (format (width_of e) n) cs) (reached e n cs)

pub reached-is : (e n : ℕ) (cs : List Call) → reached e n cs ≡ reached_later e n cs
unfolding reached_later reached
reached-is e n cs = either_way (usual e n cs) (λ q. let (h, r) = usual-held e n cs q in run-later e (format (width_of e) n) h cs r)

unfoldable pub answers_to_later : ℕ → ℕ → Option (List Call) → List Answer
answers_to_later e n none = []
answers_to_later e n (some cs) = cond (usual e n cs) (answers_later (width_of e) (format (width_of e) n) cs) (answers (format (width_of e) n) cs)

pub answers_to-is : (e n : ℕ) (o : Option (List Call)) → answers_to e n o ≡ answers_to_later e n o
unfolding answers_to answers_to_later
answers_to-is e n none = refl
answers_to-is e n (some cs) = either_way (usual e n cs) (λ q. let (h, r) = usual-held e n cs q in answers-later e (format (width_of e) n) h cs r)

unfoldable pub contexts_to_later : ℕ → ℕ → List Call → List (List ℕ)
contexts_to_later e n cs = cond (usual e n cs) (contexts_later (width_of e) (format (width_of e) n) cs) (contexts_to e n cs)

pub contexts_to-is : (e n : ℕ) (cs : List Call) → contexts_to e n cs ≡ contexts_to_later e n cs
unfolding contexts_to contexts_to_later
contexts_to-is e n cs = either_way (usual e n cs) (λ q. let (h, r) = usual-held e n cs q in contexts-later e (format (width_of e) n) h cs r)

-- ---- format itself: it reads the length alone, so that the words need not be counted

unfoldable pub formatting_words : ℕ → ℕ → ℕ
formatting_words e n =
    let w = page_words (width_of e) in
    first (SIZE when (leb (length widths) e || (not (eqb n (n / w * w)) || ltb (n / w) least_pages || ltb (most_pages (width_of e)) (n / w))) ∷ [])

pub formatting-is : (e n : ℕ) → formatting e n ≡ formatting_words e n
unfolding formatting formatting_words refusals
formatting-is e n = simp (length-replicate {A = ℕ} n 0)
