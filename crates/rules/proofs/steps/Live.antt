-- Memories in which only live flags, the current partition and words of pages in hand are others: they have the invariant. Assumes an index width of 6
-- or more.
use mathlib.Core.Path.{◌≡◌, sym, ◌∙◌, subst}
use mathlib.Core.List.{List}
use Prim.Native.Nat.{ℕ, ◌+◌, ◌≤◌, ◌<◌}
use native.Mathlib.Omega.{arith}
use lib.ListN.{length}
use Rattle.memory.specs.Geometry.{most_flag}
use Rattle.memory.specs.Partition.{flag}
use Rattle.rules.specs.Effects.{switch}
use Rattle.rules.proofs.model.Base.{eqd, upd, upd_same, upd_other}
use Rattle.rules.proofs.model.Words.{W, addr, put, put_l}
use Rattle.rules.proofs.model.Abs.{hand, desc, Abs, WF, Encodes}
use Rattle.rules.proofs.model.Flags.{flag_word}
use Rattle.rules.proofs.model.Inv.{Inv, named, moved}
use Rattle.rules.proofs.sound.Words.{descriptor-word}
use Rattle.rules.proofs.sound.Pages.{room}
use Rattle.rules.proofs.steps.Move.{set_live, free-put, free-words, live-wf, cur-words, flag-words}

module _ {b : ℕ} (wide : 6 ≤ b) (m : List ℕ) (i : Inv b m) where
  open named b i use {N, fl, f, A}

  pub record Live (m' : List ℕ) : Type 0 where
    pub vs : ℕ → ℕ
    pub cur : ℕ
    pub small : (d : ℕ) → vs d ≤ most_flag b
    pub here : A.role cur ≡ desc
    pub words : Encodes b N f m' (set_live A vs cur)

  pub start : Live m
  start = record { vs = A.vcli; cur = A.cur; small = i.flags; here = i.wf.cur_live; words = i.words }

  module _ {m' : List ℕ} (h : Live m') where
    abbrev B : Abs
    B = set_live A h.vs h.cur

    pub live_state : WF b N fl B
    live_state = live-wf wide N fl f m A i.wf i.words h.vs h.cur h.here

    pub live-inv : Inv b m'
    live-inv = moved b i m' B live_state i.full (record { roots = i.root.roots; list = i.root.list; threes = i.root.threes }) h.small h.words

    pub hand_word : (p j x : ℕ) → j < W b → A.role p ≡ hand → Live (put b m' p j x)
    hand_word p j x β r = record {
      vs = h.vs;
      cur = h.cur;
      small = h.small;
      here = h.here;
      words = free-put wide N fl f m' B live_state h.words p j x β r;
    }

    pub hand-words : (p j : ℕ) (xs : List ℕ) → j + length xs ≤ W b → A.role p ≡ hand → Live (put_l b m' p j xs)
    hand-words p j xs β r = record {
      vs = h.vs;
      cur = h.cur;
      small = h.small;
      here = h.here;
      words = free-words wide N fl f m' B live_state h.words p j xs β r;
    }

    set-flag : (d x : ℕ) → A.role d ≡ desc → x ≤ most_flag b → Live (put b m' d 12 x)
    set-flag d x r l = record {
      vs = upd h.vs d x;
      cur = h.cur;
      small = λ e. go e (eqd e d);
      here = h.here;
      words = flag-words wide N fl f m' B live_state h.words d x r;
    }
      where
        go : (e : ℕ) → Dec (e ≡ d) → upd h.vs d x e ≤ most_flag b
        go e (yes y) = rw (y, upd_same h.vs d x) l
        go e (no n) = rw (upd_other h.vs d x e n) (h.small e)

    set-current : (d : ℕ) → A.role d ≡ desc → Live (put b m' 0 4 (addr b d))
    set-current d r = record { vs = h.vs; cur = d; small = h.small; here = r; words = cur-words wide N fl f m' B live_state h.words d }

  pub switched : {m' : List ℕ} → Live m' → (d k x y : ℕ) → A.role d ≡ desc → A.role k ≡ desc → x ≤ most_flag b → y ≤ most_flag b → Live (switch b m' d k x y)
  unfolding switch put addr
  switched h d k x y rd rk lx ly = set-current (set-flag (set-flag h d x rd lx) k y rk ly) k rk

  -- a live flag, as the words have it
  pub flag_small : (d : ℕ) → A.role d ≡ desc → flag b m d ≤ most_flag b
  flag_small d r =
      subst (λ (x : ℕ). x ≤ most_flag b) (sym (descriptor-word wide m i d 12 r (room wide m i 12 (omega arith)) ∙ flag_word b A d)) (i.flags d)
