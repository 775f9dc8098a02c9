-- A partition's list page and its threes, as the rules read them. The words of tables may be any, C.
use mathlib.Core.Path.{◌≡◌, refl, ap, ◌∙◌}
use mathlib.Core.Bool.{false}
use mathlib.Core.Option.{Option}
use mathlib.Core.List.{List}
use Prim.Native.Nat.{ℕ, ◌+◌, ◌-◌, ◌*◌, ◌/◌, ◌≤◌, ◌<◌}
use native.Mathlib.Omega.{arith}
use lib.ListN.{length, get_or}
use Rattle.memory.specs.Partition
use Rattle.rules.proofs.model.Words.{W, addr, word, page_of, page_of-addr, twelve-lt}
use Rattle.rules.proofs.model.Abs.{Role, desc, lst, Abs, WF, Cells, EncodesC, is_hand, role_word, desc_list, list_list}
use Rattle.rules.proofs.model.Read.{kernel-lt}
use Rattle.rules.proofs.model.Names.{list-is}

module _ {b : ℕ} (wide : 6 ≤ b) where
  nine_word : (f : List ℕ) (A : Abs) (C : Cells) (d : ℕ) → role_word b f A C desc d 9 ≡ addr b (A.lstp d)
  unfolding role_word desc_list
  nine_word f A C d = refl

  module _ (N : ℕ) (fl : ℕ → Option ℕ) (f m : List ℕ) (A : Abs) (wf : WF b N fl A) {C : Cells} (en : EncodesC b N f m A C) (d : ℕ) (l : A.role d ≡ desc) where
    L-role : A.role (A.lstp d) ≡ lst d
    L-role = wf.lst_role d l

    pub list-lt : A.lstp d < N
    list-lt = kernel-lt wide N fl A wf (A.lstp d) (ap is_hand L-role)

    pub list-page : Partition.list b m d ≡ A.lstp d
    list-page =
        let h : is_hand (A.role d) ≡ false = ap is_hand l in
        list-is b m d
        ∙ ap (page_of b) (en.says d 9 (kernel-lt wide N fl A wf d h) (twelve-lt wide 9 (omega arith)) h ∙ (rw l (nine_word f A C d)))
        ∙ page_of-addr wide (A.lstp d)

    pub list-word : (j : ℕ) → j < W b → word b m (A.lstp d) j ≡ get_or (list_list b A.chain (A.threes d)) j 0
    unfolding role_word
    list-word j β =
        en.says (A.lstp d) j list-lt β (ap is_hand L-role)
        ∙ ap (λ (r : Role). role_word b f A C r (A.lstp d) j) L-role

    -- word 0, the first free index
    pub free-is : word b m (A.lstp d) 0 ≡ 1 + 6 * length (A.threes d)
    unfolding list_list
    free-is = list-word 0 (twelve-lt wide 0 (omega arith))

    pub threes-is : Partition.threes b m d ≡ length (A.threes d)
    unfolding word
    threes-is = ap (λ (p : ℕ). (word b m p 0 - 1) / 6) list-page ∙ ap (λ (w : ℕ). (w - 1) / 6) free-is ∙ omega arith
