-- What a text assembles to is a script, and its calls are those of the lines. Assumes nothing.
use mathlib.Core.Path.{◌≡◌, refl, sym, ap, ◌∙◌, subst}
use mathlib.Core.Bool.{Bool, true, false, cond, ◌&&◌}
use mathlib.Core.List.{List, [], ◌∷◌, ◌++◌, append_assoc, append-nil}
use mathlib.Core.Option.{none, some}
use Prim.Native.Nat.{ℕ, suc, ◌+◌, ◌*◌, ◌≤◌}
use native.Mathlib.Omega.{arith}
use lib.Dec.{eqb, leb, ltb}
use lib.ListN.{length, length-append}
use borrow.Author.Tests.{eqb-true, eqb-false}
use Rattle.walk.specs.Reflect.{both, le?}
use Rattle.memory.specs.Format.{format}
use Rattle.rules.specs.Bytes.{little_endian, word_in}
use Rattle.rules.specs.Call.{Call}
use Rattle.rules.specs.Editions.{answers}
use Rattle.rules.specs.Replay.{records, script, transcript, replayed, replay}
use Rattle.script.specs.Walk.{good_header}
use Rattle.script.proofs.Heads.{header?, script-is}
use Rattle.text.specs.Text.{lines, words}
use Rattle.text.specs.Numbers.{number, is_number}
use Rattle.text.specs.Names.{call_number}
use Rattle.text.specs.Lines.{pages_of, arguments, record_of, calls_in, reason}
use Rattle.assembly.specs.Assembled.{Result, written, unread, too_long, header, calls, begin, assembled}
use Rattle.assembly.specs.Meant.{call_on, calls_on, pages_meant, calls_meant}
use Rattle.text.proofs.Values.{itself}
use Rattle.assembly.proofs.Reasons.{fine}
use Rattle.assembly.proofs.Records.{arguments-length}
use Rattle.assembly.proofs.Words.{four_bytes}
use Rattle.assembly.proofs.Recorded.{Recorded, nothing, and, reads}

-- ---- the lines behind N

-- the bytes are a header, the records so far and those of the calls cs
record Whole (n count : ℕ) (before : List ℕ) (cs : List Call) (bytes : List ℕ) : Type 0 where
  more : List ℕ
  are : Recorded more cs
  all : header n (count + length cs) ++ (before ++ more) ≡ bytes
  room : 12 + length (before ++ more) ≤ 4096

impossible : {A : Type 0} {k why : ℕ} {bytes : List ℕ} → unread k why ≡ written bytes → A
impossible e = absurd (let z : ◌≡◌ {A = ℕ} 0 1 = cc in omega arith)

module _ (n count : ℕ) (before : List ℕ) (cs : List Call) (bytes : List ℕ) where
  with_line : (ws : List (List ℕ)) → 12 + length before ≤ 4096 → reason (12 + length before) ws ≡ 0
      → (12 + length (before ++ record_of ws) ≤ 4096 → Whole n (count + calls_in ws) (before ++ record_of ws) cs bytes)
      → Whole n count before (call_on ws ++ cs) bytes
  unfolding call_on calls_in record_of
  with_line [] h z later =
      let e : before ++ [] ≡ before = append-nil before in
      let r = later (omega (arith, ap length e)) in
      let c : count + length cs ≡ count + 0 + length cs = omega arith in
      record {
        more = r.more;
        are = r.are;
        all = ap (λ (l : List ℕ). header n (count + length cs) ++ (l ++ r.more)) (sym e) ∙ ap (λ (k : ℕ). header n k ++ (before ++ [] ++ r.more)) c ∙ r.all;
        room = omega (arith, r.room, ap (λ (l : List ℕ). length (l ++ r.more)) e);
      }
  with_line (w ∷ ws) h z later =
      let f = fine (12 + length before) w ws z in
      let this = little_endian (call_number w) ++ arguments ws in
      let r = later (omega (arith, f.room, length-append before this, arguments-length ws)) in
      let e : before ++ (this ++ r.more) ≡ before ++ this ++ r.more = sym (append_assoc before this r.more) in
      let c : count + suc (length cs) ≡ count + 1 + length cs = omega arith in
      record {
        more = this ++ r.more;
        are = and f r.are;
        all = ap (λ (l : List ℕ). header n (count + suc (length cs)) ++ l) e ∙ ap (λ (k : ℕ). header n k ++ (before ++ this ++ r.more)) c ∙ r.all;
        room = omega (arith, r.room, ap length e);
      }

follow : (ls : List (List ℕ)) (n k count : ℕ) (before bytes : List ℕ) → 12 + length before ≤ 4096 → calls n k count before ls ≡ written bytes
    → Whole n count before (calls_on ls) bytes
unfolding calls calls_on
follow [] n k count before bytes h e =
    let c : count + 0 ≡ count = omega arith in
    let e' : header n count ++ before ≡ bytes = cc in
    record {
      more = [];
      are = nothing;
      all = ap (λ (l : List ℕ). header n (count + 0) ++ l) (append-nil before) ∙ ap (λ (j : ℕ). header n j ++ before) c ∙ e';
      room = omega (arith, ap length (append-nil before));
    }
follow (l ∷ ls) n k count before bytes h e =
    pick (eqb (reason (12 + length before) (words l)) 0) refl e (follow ls n (suc k) (count + calls_in (words l)) (before ++ record_of (words l)) bytes)
  where
    why : ℕ
    why = reason (12 + length before) (words l)

    behind : List ℕ
    behind = before ++ record_of (words l)

    rest : Result
    rest = calls n (suc k) (count + calls_in (words l)) behind ls

    pick : (t : Bool) → eqb why 0 ≡ t → cond t rest (unread k why) ≡ written bytes
        → (12 + length behind ≤ 4096 → rest ≡ written bytes → Whole n (count + calls_in (words l)) behind (calls_on ls) bytes)
        → Whole n count before (call_on (words l) ++ calls_on ls) bytes
    pick true z f later = with_line n count before (calls_on ls) bytes (words l) h (eqb-true why 0 z) (λ m. later m f)
    pick false z f later = impossible f

-- ---- the line that has N

pages-range : (ws : List (List ℕ)) → (pages_of ws ≡ 0 → ⊥) → (16 ≤ pages_of ws) × (pages_of ws ≤ 256)
unfolding pages_of
pages-range [] h = absurd (h refl)
pages-range (w ∷ ws) h = pick (eqb (length ws) 0 && is_number w && leb 16 (number w) && leb (number w) 256) refl h
  where
    pick : (t : Bool) → (eqb (length ws) 0 && is_number w && leb 16 (number w) && leb (number w) 256) ≡ t → (cond t (number w) 0 ≡ 0 → ⊥)
        → (16 ≤ cond t (number w) 0) × (cond t (number w) 0 ≤ 256)
    pick true e k = let r = (both (both (both {s = eqb (length ws) 0} {t = is_number w} itself itself) le?) le?).0 e in (r.0.1, r.1)
    pick false e k = absurd (k refl)

record Begun (n : ℕ) (cs : List Call) (bytes : List ℕ) : Type 0 where
  least : 16 ≤ n
  most : n ≤ 256
  whole : Whole n 0 [] cs bytes

begun : (ls : List (List ℕ)) (k : ℕ) (bytes : List ℕ) → begin k ls ≡ written bytes → Begun (pages_meant ls) (calls_meant ls) bytes
unfolding begin pages_meant calls_meant
begun [] k bytes e = impossible e
begun (l ∷ ls) k bytes e = pick (eqb (length (words l)) 0) (eqb (pages_of (words l)) 0) refl e (begun ls (suc k) bytes)
  where
    pick : (s t : Bool) → eqb (pages_of (words l)) 0 ≡ t
        → cond s (begin (suc k) ls) (cond t (unread k 1) (calls (pages_of (words l)) (suc k) 0 [] ls)) ≡ written bytes
        → (begin (suc k) ls ≡ written bytes → Begun (pages_meant ls) (calls_meant ls) bytes)
        → Begun (cond s (pages_meant ls) (pages_of (words l))) (cond s (calls_meant ls) (calls_on ls)) bytes
    pick true t z f later = later f
    pick false true z f later = impossible f
    pick false false z f later =
        let r = pages-range (words l) (eqb-false (pages_of (words l)) 0 z) in
        record { least = r.0; most = r.1; whole = follow ls (pages_of (words l)) (suc k) 0 [] bytes (omega arith) f }

-- ---- a script

recorded-room : {bs : List ℕ} {cs : List Call} → Recorded bs cs → 4 * length cs ≤ length bs
unfolding record_of
recorded-room nothing = omega arith
recorded-room (and {w = w} {ws = ws} {bs = bs} f r) = omega (arith, recorded-room r, length-append (little_endian (call_number w) ++ arguments ws) bs)

is-script : {n : ℕ} {cs : List Call} {bytes : List ℕ} → Begun n cs bytes → (word_in bytes 0 ≡ n) × (script 6 bytes ≡ some cs)
is-script {n} {cs} {bytes} g =
    let more = g.whole.more in
    let list = header n (0 + length cs) ++ more in
    let room : 4 * length cs ≤ length more = recorded-room g.whole.are in
    let pages : word_in list 0 ≡ n = four_bytes n (omega (arith, g.most)) in
    let count : word_in list 4 ≡ length cs = four_bytes (0 + length cs) (omega (arith, g.whole.room)) ∙ omega arith in
    let fits : length list ≤ 4096 = omega (arith, g.whole.room) in
    let good : good_header 6 list ≡ true =
    (header? 6 list).1 (((((omega arith, fits), omega arith), omega arith), omega (arith, g.least)), omega (arith, g.most)) in
    let calls_are : script 6 list ≡ some cs =
    script-is 6 list
    ∙ ap (λ (t : Bool). cond t (records (word_in list 4) list 12) none) good
    ∙ ap (λ (k : ℕ). records k list 12) count
    ∙ reads g.whole.are (header n (0 + length cs)) in
    subst (λ (l : List ℕ). (word_in l 0 ≡ n) × (script 6 l ≡ some cs)) g.whole.all (pages, calls_are)

-- replay reads what a text assembles to: it has the pages and the calls that the text means
pub read_back : (text bytes : List ℕ) → assembled text ≡ written bytes
    → (word_in bytes 0 ≡ pages_meant (lines text)) × (script 6 bytes ≡ some (calls_meant (lines text)))
unfolding assembled
read_back text bytes e = pick (ltb 65536 (length text)) e
  where
    pick : (t : Bool) → cond t too_long (begin 1 (lines text)) ≡ written bytes
        → (word_in bytes 0 ≡ pages_meant (lines text)) × (script 6 bytes ≡ some (calls_meant (lines text)))
    pick true f = absurd (let z : ◌≡◌ {A = ℕ} 0 1 = cc in omega arith)
    pick false f = is-script (begun (lines text) 1 bytes f)

-- what replay prints of it
pub replays : (text bytes : List ℕ) → assembled text ≡ written bytes
    → replay 6 bytes ≡ transcript 6 (pages_meant (lines text)) (answers (format 6 (pages_meant (lines text))) (calls_meant (lines text)))
unfolding replay replayed
replays text bytes e =
    let (p, q) = read_back text bytes e in
    ap (λ (n : ℕ). replayed 6 n (script 6 bytes)) p ∙ ap (replayed 6 (pages_meant (lines text))) q
