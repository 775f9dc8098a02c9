-- The calls as they are made: each reads the memory by the width of the edition that the header names. Assumes nothing.
use Rattle.std.specs.Prelude.{◌≡◌, List, [], ◌∷◌, cond, ℕ}
use Rattle.std.proofs.Math.Option.{Option, none, some}
use Rattle.memory.specs.Edition.{width}
use Rattle.memory.specs.Sound.{Sound}
use Rattle.rules.specs.Row.{Answer}
use Rattle.rules.specs.Call.{Call, choice}
use Rattle.rules.specs.Conditions.{unfit}
use Rattle.rules.specs.Calls as C

unfoldable pub answer : List ℕ → Call → Answer
answer m c = C.answer (width m) m c

unfoldable pub after : List ℕ → Call → List ℕ
after m c = C.after (width m) m c

unfoldable pub context : List ℕ → Call → List ℕ
context m c = C.context (width m) m c

-- the memory after a list of calls, and the answers on the way
unfoldable pub run : List ℕ → List Call → List ℕ
run m [] = m
run m (c ∷ cs) = run (after m c) cs

unfoldable pub answers : List ℕ → List Call → List Answer
answers m [] = []
answers m (c ∷ cs) = answer m c ∷ answers (after m c) cs

-- the words that are answered beside (document 02, L8)
unfoldable pub contexts : List ℕ → List Call → List (List ℕ)
contexts m [] = []
contexts m (c ∷ cs) = context m c ∷ contexts (after m c) cs

-- the edition by the last format that passed: e before the calls. Whether a format passes is told by the memory's length and its argument alone.
unfoldable pub next_edition : List ℕ → ℕ → Option ℕ → ℕ
next_edition m e none = e
next_edition m e (some f) = cond (unfit f m) e f

unfoldable pub last_edition : List ℕ → ℕ → List Call → ℕ
last_edition m e [] = e
last_edition m e (c ∷ cs) = last_edition m (next_edition m e (choice c)) cs

-- ---- calls without a format

abbrev pub NoFormat : List Call → Type 0
NoFormat [] = Unit {0}
NoFormat (c ∷ cs) = (choice c ≡ none) × NoFormat cs

-- on every sound memory they are the calls at its width. Proved in proofs/state/Keeps.
abbrev pub OneWidth : Type 0
OneWidth = (m : List ℕ) → Sound (width m) m → (cs : List Call) → NoFormat cs → (run m cs ≡ C.run (width m) m cs) × (width (run m cs) ≡ width m)

-- every sound memory stays sound, whatever is called and whatever made it. Proved there, too.
abbrev pub StaysSound : Type 0
StaysSound = (m : List ℕ) → Sound (width m) m → (cs : List Call) → Sound (width (run m cs)) (run m cs)
