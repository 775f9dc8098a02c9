-- What the code's parts of a text are. Assumes nothing.
use Rattle.std.specs.Prelude.{◌≡◌, List, [], ◌∷◌, Bool, true, false, not, cond, ℕ, suc, ◌+◌, ◌-◌, ◌≤◌, ◌<◌, length, take, drop}
use Rattle.script.specs.Lines.{Put}
use Rattle.text.specs.Text.{hash, blank, before, lines, split}
use Rattle.text.specs.Lines.{record_of, calls_in, reason}

-- the bytes from a on, up to e
abbrev pub part : List ℕ → ℕ → ℕ → List ℕ
part s a e = take (e - a) (drop a s)

abbrev pub is_kind : Bool → ℕ → Bool
is_kind true x = blank x
is_kind false x = not (blank x)

-- how many bytes at the front are blanks (true), or are none (false)
unfoldable pub leading : Bool → List ℕ → ℕ
leading t [] = 0
leading t (x ∷ xs) = let more = leading t xs in cond (is_kind t x) (suc more) 0

-- the first word from byte i on stands from a up to e; there is none where a is e
pub record NextWord (s : List ℕ) (i a e : ℕ) : Type 0 where
  pub after : i ≤ a
  pub order : a ≤ e
  pub within : e ≤ length s
  pub none : a ≡ e → split (drop i s) ≡ []
  pub word : a < e → split (drop i s) ≡ part s a e ∷ split (drop e s)

-- the line that starts at byte i ends before e, and what is read of it before f
pub record LineAt (text : List ℕ) (i f e : ℕ) : Type 0 where
  pub after : i ≤ f
  pub order : f ≤ e
  pub within : e ≤ length text
  pub line : lines (drop i text) ≡ part text i e ∷ lines (drop (e + 1) text)
  pub read : before hash (part text i e) ≡ part text i f

-- a call's line, whose words are ws, has been read: its record, if it has one, stands from `at` up to `next`
pub record LineRead (ws : List (List ℕ)) (buffer after : List ℕ) (at why calls next : ℕ) : Type 0 where
  pub why_is : why ≡ reason at ws
  pub calls_is : why ≡ 0 → calls ≡ calls_in ws
  pub put : why ≡ 0 → Put buffer after at next (record_of ws)
  pub few : calls ≤ 1
  pub room : next ≤ 4096
