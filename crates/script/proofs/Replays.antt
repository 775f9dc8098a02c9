-- A replay, turn by turn: what is printed, what is left of the script, and the room that is left. Assumes nothing.
use mathlib.Core.Path.{◌≡◌, refl, sym, ap, ◌∙◌}
use mathlib.Core.Bool.{true, false}
use mathlib.Core.List.{List, ◌∷◌, ◌++◌, append_assoc, append-nil}
use mathlib.Core.Option.{Option, none, some}
use Prim.Native.Nat.{ℕ, ◌+◌, ◌-◌, ◌*◌, ◌≤◌, ◌<◌}
use native.Mathlib.Omega.{arith}
use native.Mathlib.Numerals.{add-one}
use Rattle.memory.specs.Format.{format}
use Rattle.rules.specs.Row.{Answer}
use Rattle.rules.specs.Bytes.{word_in}
use Rattle.rules.specs.Call.{Call}
use Rattle.rules.specs.Editions.{answer, after, answers}
use Rattle.rules.specs.Replay.{line, lines, bad_script, records, script, replayed, replay}
use Rattle.script.specs.Walk.{is_script, whole_record, next_record, call_at}
use Rattle.script.specs.Lines.{Put, first_line}
use Rattle.script.proofs.Heads.{good}
use Rattle.script.proofs.Lengths.{line-most, first-most, script-most, transcript-is}
use Rattle.script.proofs.Puts.{put_then, put_same}
use Rattle.script.proofs.Walks.{step, done, few}

is_some : (o : Option (List Call)) → is_script o ≡ true → (cs : List Call) × (o ≡ some cs)
unfolding is_script
is_some none e = absurd (let z : ◌≡◌ {A = ℕ} 0 1 = cc in omega arith)
is_some (some cs) e = (cs, refl)

is_none : (o : Option (List Call)) → is_script o ≡ false → o ≡ none
unfolding is_script
is_none none e = refl
is_none (some cs) e = absurd (let z : ◌≡◌ {A = ℕ} 0 1 = cc in omega arith)

lines_more : (k : ℕ) (a : Answer) (later : List Answer) → lines k (a ∷ later) ≡ line k a ++ lines (k + 1) later
unfolding lines
lines_more k a later = rw (add-one k) refl

-- k records are done and n are left, from byte i on; `at` bytes are printed, m is the memory and out the buffer, which was `before`
pub record Walking (b : ℕ) (bs before : List ℕ) (n i k at : ℕ) (m out : List ℕ) : Type 0 where
  pub rest : List Call
  pub printed : List ℕ
  pub left : records n bs i ≡ some rest
  pub put : Put before out 0 at printed
  pub whole : replay b bs ≡ printed ++ lines (k + 1) (answers m rest)
  pub room : at ≤ 22 + 25 * k
  pub most : k + n ≤ 1021

module _ (b : ℕ) (bs before : List ℕ) where
  -- "prints only `bad script`"
  pub bad : {out : List ℕ} {at : ℕ} → is_script (script b bs) ≡ false → Put before out 0 at bad_script → Put before out 0 at (replay b bs)
  unfolding replay replayed
  bad e p = put_same (sym (ap (replayed b (word_in bs 0)) (is_none (script b bs) e))) p

  -- "Otherwise a line `N F`"
  pub begun : {out : List ℕ} {at : ℕ} → is_script (script b bs) ≡ true → Put before out 0 at (first_line b (word_in bs 0))
      → Walking b bs before (word_in bs 4) (word_in bs 8) 0 at (format b (word_in bs 0)) out
  unfolding replay replayed
  begun e p =
      let (cs, s) = is_some (script b bs) e in
      let (h, r) = good b bs cs s in
      record {
        rest = cs;
        printed = first_line b (word_in bs 0);
        left = r;
        put = p;
        whole = ap (replayed b (word_in bs 0)) s ∙ transcript-is b (word_in bs 0) (answers (format b (word_in bs 0)) cs);
        room = omega (arith, p.next, first-most b (word_in bs 0));
        most = omega (arith, few bs (word_in bs 4) (word_in bs 8) cs r, script-most b bs cs s);
      }

  module _ {n i k at : ℕ} {m out : List ℕ} (w : Walking b bs before n i k at m out) where
    -- there is a record, and room for its line
    pub record_here : 0 < n → whole_record bs i ≡ true
    record_here h = (step bs n i w.rest h w.left).whole

    pub room-here : 0 < n → at + 25 ≤ 32768
    room-here h = omega (arith, w.room, w.most)

    -- ".. then a line for each record"
    pub goes_on : {next : ℕ} {wider : List ℕ} → 0 < n → Put out wider at next (line (k + 1) (answer m (call_at bs i)))
        → Walking b bs before (n - 1) (next_record bs i) (k + 1) next (after m (call_at bs i)) wider
    unfolding answers
    goes_on h p =
        let s = step bs n i w.rest h w.left in
        let a = answer m (call_at bs i) in
        let later = answers (after m (call_at bs i)) s.rest in
        record {
          rest = s.rest;
          printed = w.printed ++ line (k + 1) a;
          left = s.others;
          put = put_then w.put p;
          whole =
              w.whole
              ∙ ap (λ (cs : List Call). w.printed ++ lines (k + 1) (answers m cs)) s.first
              ∙ ap (λ (l : List ℕ). w.printed ++ l) (lines_more (k + 1) a later)
              ∙ sym (append_assoc w.printed (line (k + 1) a) (lines (k + 1 + 1) later));
          room = omega (arith, w.room, p.next, line-most (k + 1) a);
          most = omega (arith, w.most);
        }

    pub over : n ≡ 0 → Put before out 0 at (replay b bs)
    unfolding answers lines
    over e =
        let r = (done bs i w.rest (ap (λ (j : ℕ). records j bs i) (sym e) ∙ w.left)).1 in
        put_same (sym (w.whole ∙ ap (λ (cs : List Call). w.printed ++ lines (k + 1) (answers m cs)) r ∙ append-nil w.printed)) w.put
