-- Records one behind the other, and the calls that are read from them. Assumes nothing.
use mathlib.Core.Path.{◌≡◌, refl, sym, ap, ◌∙◌}
use mathlib.Core.Bool.{Bool, true, false, cond, ◌&&◌}
use mathlib.Core.List.{List, [], ◌∷◌, ◌++◌, append_assoc, append-nil}
use mathlib.Core.Option.{none, some}
use Prim.Native.Nat.{ℕ, zero, suc, ◌+◌, ◌*◌, ◌≤◌, ◌<◌}
use native.Mathlib.Omega.{arith}
use lib.Dec.{ltb}
use lib.ListN.{length, get_or, length-append}
use borrow.Author.Tests.{eq-eqb}
use Rattle.walk.specs.Reflect.{both}
use Rattle.rules.specs.Bytes.{little_endian, word_in}
use Rattle.rules.specs.Call.{Call}
use Rattle.rules.specs.Replay.{argument_count, known_call, call_of, push, records}
use Rattle.script.specs.Walk.{whole_record, next_record, argument_at, call_at}
use Rattle.script.proofs.Walks.{known?, whole?}
use Rattle.text.specs.Numbers.{number, is_number}
use Rattle.text.specs.Names.{names, same, place_from, named, call_number}
use Rattle.text.specs.Lines.{arguments, record_of}
use Rattle.text.proofs.Values.{itself}
use Rattle.assembly.proofs.Reasons.{Fine}
use Rattle.assembly.proofs.Records.{arguments-length}
use Rattle.assembly.proofs.Words.{word-here, number-here}

-- ---- a call by its number and those of its arguments that it has

agree : (n : ℕ) (f g : ℕ → ℕ) → 1 ≤ n → n ≤ 12 → ((j : ℕ) → j < argument_count n → f j ≡ g j) → call_of n f ≡ call_of n g
unfolding call_of
agree zero f g h k e = absurd (omega arith)
agree (suc zero) f g h k e = rw (e 0 (omega arith), e 1 (omega arith), e 2 (omega arith), e 3 (omega arith), e 4 (omega arith)) refl
agree (suc (suc zero)) f g h k e = rw (e 0 (omega arith)) refl
agree (suc (suc (suc zero))) f g h k e = rw (e 0 (omega arith), e 1 (omega arith), e 2 (omega arith), e 3 (omega arith)) refl
agree (suc (suc (suc (suc zero)))) f g h k e = rw (e 0 (omega arith), e 1 (omega arith)) refl
agree (suc (suc (suc (suc (suc zero))))) f g h k e = rw (e 0 (omega arith), e 1 (omega arith)) refl
agree (suc (suc (suc (suc (suc (suc zero)))))) f g h k e = rw (e 0 (omega arith), e 1 (omega arith), e 2 (omega arith)) refl
agree (suc (suc (suc (suc (suc (suc (suc zero))))))) f g h k e = rw (e 0 (omega arith), e 1 (omega arith)) refl
agree (suc (suc (suc (suc (suc (suc (suc (suc zero)))))))) f g h k e = rw (e 0 (omega arith)) refl
agree (suc (suc (suc (suc (suc (suc (suc (suc (suc zero))))))))) f g h k e = rw (e 0 (omega arith)) refl
agree (suc (suc (suc (suc (suc (suc (suc (suc (suc (suc zero)))))))))) f g h k e = refl
agree (suc (suc (suc (suc (suc (suc (suc (suc (suc (suc (suc zero))))))))))) f g h k e = rw (e 0 (omega arith)) refl
agree (suc (suc (suc (suc (suc (suc (suc (suc (suc (suc (suc (suc zero)))))))))))) f g h k e = rw (e 0 (omega arith), e 1 (omega arith)) refl
agree (suc (suc (suc (suc (suc (suc (suc (suc (suc (suc (suc (suc (suc n))))))))))))) f g h k e = absurd (omega arith)

-- ---- records one behind the other

pub data Recorded : List ℕ → List Call → Type 0 where
  nothing : Recorded [] []
  and : {at : ℕ} {w : List ℕ} {ws : List (List ℕ)} {bs : List ℕ} {cs : List Call} → Fine at w ws → Recorded bs cs
      → Recorded (record_of (w ∷ ws) ++ bs) (call_of (call_number w) (λ j. number (get_or ws j [])) ∷ cs)

-- a call's number is one of the twelve

place-small : (k : ℕ) (w : List ℕ) (ns : List (List ℕ)) → 0 < k → place_from k w ns < k + length ns
unfolding place_from
place-small k w [] h = omega arith
place-small k w (n ∷ ns) h = pick (same w n) (place-small (suc k) w ns (omega arith))
  where
    pick : (t : Bool) → place_from (suc k) w ns < suc k + length ns → cond t k (place_from (suc k) w ns) < k + suc (length ns)
    pick true l = omega arith
    pick false l = omega arith

call-small : (w : List ℕ) → call_number w ≤ 12
unfolding call_number
call-small w = pick (ltb 0 (named w)) (is_number w && known_call (number w)) refl
  where
    pick : (s t : Bool) → is_number w && known_call (number w) ≡ t → cond s (named w) (cond t (number w) 0) ≤ 12
    pick true t e = omega (arith, place-small 1 w names (omega arith))
    pick false true e = ((both {s = is_number w} itself (known? (number w))).0 e).1.1
    pick false false e = omega arith

-- the record behind `front` is the call that the words mean
module _ (front bs : List ℕ) {at : ℕ} {w : List ℕ} {ws : List (List ℕ)} (f : Fine at w ws) where
  whole-list : List ℕ
  whole-list = front ++ (record_of (w ∷ ws) ++ bs)

  number_is : word_in whole-list (length front) ≡ call_number w
  unfolding whole-list record_of
  number_is = word-here front (arguments ws ++ bs) (call_number w) (omega (arith, call-small w))

  known-here : (1 ≤ call_number w) × (call_number w ≤ 12)
  known-here = (omega (arith, f.known), call-small w)

  argument_is : (j : ℕ) → j < argument_count (call_number w) → argument_at whole-list (length front) j ≡ number (get_or ws j [])
  unfolding whole-list record_of
  argument_is j h =
      let first = little_endian (call_number w) in
      let i : length front + 4 + 4 * j ≡ length (front ++ first) + 4 * j = omega (arith, length-append front first) in
      ap (λ (k : ℕ). word_in (front ++ (first ++ (arguments ws ++ bs))) k) i
      ∙ ap (λ (l : List ℕ). word_in l (length (front ++ first) + 4 * j)) (sym (append_assoc front first (arguments ws ++ bs)))
      ∙ number-here (front ++ first) bs ws j f.numbers (omega (arith, f.counted))

  call-is : call_at whole-list (length front) ≡ call_of (call_number w) (λ j. number (get_or ws j []))
  call-is =
      ap (λ (n : ℕ). call_of n (argument_at whole-list (length front))) number_is
      ∙ agree (call_number w) (argument_at whole-list (length front)) (λ j. number (get_or ws j [])) known-here.0 known-here.1 argument_is

  next-is : next_record whole-list (length front) ≡ length (front ++ record_of (w ∷ ws))
  unfolding record_of
  next-is =
      ap (λ (n : ℕ). length front + 4 + 4 * argument_count n) number_is
      ∙ omega (arith, f.counted, length-append front (record_of (w ∷ ws)), length-append (little_endian (call_number w)) (arguments ws), arguments-length ws)

  whole_is : whole_record whole-list (length front) ≡ true
  unfolding whole-list
  whole_is =
      let least : 1 ≤ word_in whole-list (length front) = rw number_is known-here.0 in
      let most : word_in whole-list (length front) ≤ 12 = rw number_is known-here.1 in
      let r = record_of (w ∷ ws) in
      (whole? whole-list (length front)).1 ((least, most), omega (arith, next-is, length-append front (r ++ bs), length-append front r, length-append r bs))

  one_more : (n : ℕ) (cs : List Call) → records n ((front ++ record_of (w ∷ ws)) ++ bs) (length (front ++ record_of (w ∷ ws))) ≡ some cs
      → records (suc n) whole-list (length front) ≡ some (call_of (call_number w) (λ j. number (get_or ws j [])) ∷ cs)
  unfolding records whole_record push whole-list
  one_more n cs e =
      let rest : records n whole-list (next_record whole-list (length front)) ≡ some cs =
      ap (records n whole-list) next-is
      ∙ ap (λ (l : List ℕ). records n l (length (front ++ record_of (w ∷ ws)))) (sym (append_assoc front (record_of (w ∷ ws)) bs))
      ∙ e in
      ap (λ (t : Bool). cond t (push (call_at whole-list (length front)) (records n whole-list (next_record whole-list (length front)))) none) whole_is
      ∙ ap (push (call_at whole-list (length front))) rest
      ∙ ap (λ (c : Call). some (c ∷ cs)) call-is

pub reads : {bs : List ℕ} {cs : List Call} → Recorded bs cs → (front : List ℕ) → records (length cs) (front ++ bs) (length front) ≡ some cs
unfolding records whole-list
reads nothing front = rw (append-nil front, eq-eqb (length front) (length front) refl) refl
reads (and {w = w} {ws = ws} {bs = bs} {cs = cs} f r) front = one_more front bs f (length cs) cs (reads r (front ++ record_of (w ∷ ws)))
