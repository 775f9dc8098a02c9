-- The invariant: the memory stands for a well-formed state of N pages, whose root is as format leaves it. N is the header's first word (pages-is).
use mathlib.Core.Path.{◌≡◌, ap, ◌∙◌}
use mathlib.Core.Logic.{◌≢◌}
use mathlib.Core.List.{List, [], ◌∷◌}
use mathlib.Core.Bool.{false}
use mathlib.Core.Option.{Option}
use Prim.Native.Nat.{ℕ, ◌+◌, ◌*◌, ◌≤◌, ◌<◌}
use native.Mathlib.Omega.{arith}
use lib.ListN.{get_or}
use Rattle.memory.specs.Geometry.{edition_of, most_flag, address, threes_for, least_pages, most_pages}
use Rattle.memory.specs.Partition.{pages, current}
use Rattle.rules.proofs.model.Words.{W, word, page_of, page_of-addr, twelve-lt}
use Rattle.rules.proofs.model.Abs.{Kind, Role, blank, desc, Abs, WF, Encodes, is_hand, cell, role_word, head_list}
use Rattle.rules.proofs.model.Read.{kernel-lt}
use Rattle.rules.proofs.model.Format.{kind_no, flat0, up_to}

-- the root's directory, shadows, list and threes: no call changes them
pub record RootKept (N T : ℕ) (A : Abs) : Type 0 where
  pub roots : (k : Kind) → A.rootp k 1 ≡ 2 + kind_no k
  pub list : A.lstp 1 ≡ 5
  pub threes : A.threes 1 ≡ up_to N T T

module _ (b : ℕ) where
  -- the header's words but for the current partition's
  abbrev pub fixed : ℕ → List ℕ
  fixed N = N ∷ threes_for b N ∷ address b 1 ∷ address b (6 + 3 * threes_for b N) ∷ edition_of b ∷ []

  pub record Inv (m : List ℕ) : Type 0 where
    pub N : ℕ
    pub least : least_pages ≤ N
    pub most : N ≤ most_pages b
    pub state : Abs
    pub wf : WF b N (flat0 N (threes_for b N)) state
    pub full : (p : ℕ) → state.role p ≢ blank
    pub root : RootKept N (threes_for b N) state
    pub flags : (d : ℕ) → state.vcli d ≤ most_flag b
    pub words : Encodes b N (fixed N) m state

  -- its parts, by the names that the steps open them with
  abbrev pub named : {m : List ℕ} → Inv m → record { N : ℕ; fl : ℕ → Option ℕ; f : List ℕ; A : Abs }
  named i = record { N = i.N; fl = flat0 i.N (threes_for b i.N); f = fixed i.N; A = i.state }

  -- another memory and state of as many pages
  pub moved : {m : List ℕ} (i : Inv m) (m' : List ℕ) (A : Abs) → WF b i.N (flat0 i.N (threes_for b i.N)) A → ((p : ℕ) → A.role p ≢ blank)
      → RootKept i.N (threes_for b i.N) A → ((d : ℕ) → A.vcli d ≤ most_flag b) → Encodes b i.N (fixed i.N) m' A → Inv m'
  moved i m' A wf full root flags words =
      record { N = i.N; least = i.least; most = i.most; state = A; wf = wf; full = full; root = root; flags = flags; words = words }

module _ {b : ℕ} (wide : 6 ≤ b) (m : List ℕ) (i : Inv b m) where
  -- the header's words
  pub head-word : (j : ℕ) → j < W b → word b m 0 j ≡ get_or (head_list b (fixed b i.N) i.state) j 0
  unfolding role_word
  head-word j l =
      let A : Abs = i.state in
      let h : is_hand (A.role 0) ≡ false = ap is_hand i.wf.head_role in
      i.words.says 0 j (kernel-lt wide i.N _ A i.wf 0 h) l h ∙ ap (λ (r : Role). role_word b (fixed b i.N) A (cell b A) r 0 j) i.wf.head_role

  pub pages-is : pages b m ≡ i.N
  unfolding word head_list
  pages-is = head-word 0 (twelve-lt wide 0 (omega arith))

  pub cur-is : current b m ≡ i.state.cur
  unfolding word page_of head_list
  cur-is = ap (page_of b) (head-word 4 (twelve-lt wide 4 (omega arith))) ∙ page_of-addr wide i.state.cur

  pub live : i.state.role (current b m) ≡ desc
  live = ap i.state.role cur-is ∙ i.wf.cur_live
