-- How long a transcript can be. Assumes nothing.
use mathlib.Core.Path.{◌≡◌, refl, ap}
use mathlib.Core.List.{List, [], ◌∷◌, ◌++◌}
use mathlib.Core.Option.{Option, none, some}
use Prim.Native.Nat.{ℕ, suc, ◌+◌, ◌*◌, ◌≤◌}
use native.Mathlib.Omega.{arith}
use lib.ListN.{length, length-append}
use Rattle.memory.specs.Geometry.{flat_pages}
use Rattle.memory.specs.Format.{format}
use Rattle.rules.specs.Row.{Answer, ok, no}
use Rattle.rules.specs.Bytes.{word_in}
use Rattle.rules.specs.Call.{Call}
use Rattle.rules.specs.Editions.{answers, after}
use Rattle.rules.specs.Replay.{decimal, line, lines, transcript, script, replayed, replay}
use Rattle.script.specs.Lines.{first_line}
use Rattle.script.proofs.Decimals.{decimal-most}
use Rattle.script.proofs.Heads.{header?, good}
use Rattle.script.proofs.Walks.{few}

two-numbers : (x y : ℕ) (ws : List ℕ) → length (decimal x ++ ws ++ decimal y ++ (10 ∷ [])) ≤ 21 + length ws
two-numbers x y ws =
    let e = length-append (decimal x ++ ws ++ decimal y) (10 ∷ []) in
    let f = length-append (decimal x ++ ws) (decimal y) in
    let g = length-append (decimal x) ws in
    omega (arith, e, f, g, decimal-most x, decimal-most y)

pub line-most : (k : ℕ) (a : Answer) → length (line k a) ≤ 25
unfolding line
line-most k (ok x) = two-numbers k x (32 ∷ 111 ∷ 107 ∷ 32 ∷ [])
line-most k (no n) = two-numbers k n (32 ∷ 110 ∷ 111 ∷ 32 ∷ [])

pub lines-most : (k : ℕ) (said : List Answer) → length (lines k said) ≤ 25 * length said
unfolding lines
lines-most k [] = omega arith
lines-most k (a ∷ said) = omega (arith, length-append (line k a) (lines (suc k) said), line-most k a, lines-most (suc k) said)

module _ (b : ℕ) where
  pub first-most : (n : ℕ) → length (first_line b n) ≤ 22
  first-most n = two-numbers n (flat_pages b n) (32 ∷ [])

  -- the line `N F`, then the others
  pub transcript-is : (n : ℕ) (said : List Answer) → transcript b n said ≡ first_line b n ++ lines 1 said
  unfolding transcript
  transcript-is n said = refl

  pub transcript-most : (n : ℕ) (said : List Answer) → length (transcript b n said) ≤ 22 + 25 * length said
  transcript-most n said = omega (arith, ap length (transcript-is n said), length-append (first_line b n) (lines 1 said), first-most n, lines-most 1 said)

  answers-length : (m : List ℕ) (cs : List Call) → length (answers m cs) ≡ length cs
  unfolding answers
  answers-length m [] = refl
  answers-length m (c ∷ cs) = ap suc (answers-length (after m c) cs)

  -- "Input, at most 4,096 bytes": the header has 12, and a record four or more
  pub script-most : (bs : List ℕ) (cs : List Call) → script b bs ≡ some cs → length cs ≤ 1021
  script-most bs cs e =
      let (h, r) = good b bs cs e in
      let g = (header? b bs).0 h in
      omega (arith, few bs (word_in bs 4) (word_in bs 8) cs r, g)

  pub replay-most : (bs : List ℕ) → length (replay b bs) ≤ 32768
  unfolding replay replayed
  replay-most bs = pick (script b bs) refl
    where
      pick : (o : Option (List Call)) → script b bs ≡ o → length (replayed b (word_in bs 0) o) ≤ 32768
      pick none e = omega arith
      pick (some cs) e =
          let m = format b (word_in bs 0) in
          omega (arith, transcript-most (word_in bs 0) (answers m cs), answers-length m cs, script-most bs cs e)
