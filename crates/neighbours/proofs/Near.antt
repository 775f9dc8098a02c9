-- Two memories while the same call is made in both: Near says that they agree on page 0 and what B sees, and each kind of write keeps it. Every call's
-- effect is a chain of such writes. Assumes an index width of 6 or more.
use mathlib.Core.Path.{◌≡◌, sym, ap, ◌∙◌, subst, subst₂}
use mathlib.Core.List.{List}
use mathlib.Core.Logic.{◌≢◌, inr}
use Prim.Native.Nat.{ℕ, ◌+◌, ◌≤◌, ◌<◌}
use native.Mathlib.Omega.{arith}
use lib.ListN.{length}
use Rattle.memory.specs.Geometry
use Rattle.memory.specs.Words as Mem
use Rattle.memory.specs.Partition.{current, mapping, set_lent}
use Rattle.memory.specs.Tree.{Virtual}
use Rattle.rules.proofs.Marks.{marked}
use Rattle.rules.proofs.Turns.{marking}
use Rattle.rules.proofs.model.Base.{eqd}
use Rattle.rules.proofs.model.Words.{W, word, put, put_l, wipe, idx, off, page_of, off-lt, put_l-other, wipe-other}
use Rattle.rules.proofs.model.Abs.{Kind, pt, s1}
use Rattle.rules.proofs.model.Read.{root_page, table_at, table_page, entry_at, put_at}
use Rattle.rules.proofs.model.Inv.{cur-is}
use Rattle.rules.proofs.sound.Words.{virtual-fits}
use Rattle.rules.proofs.steps.CollectEffect.{fill_is}
use Rattle.neighbours.specs.Neighbours.{Within}
use Rattle.neighbours.proofs.Levels.{deep, Writable, Low, Kept, kept_same, kept-page, entry-at, entry-none, put-at, put-none}
use Rattle.neighbours.proofs.Pages.{writable_zero, writable_entry, writable_lent}
use Rattle.neighbours.proofs.Twin.{Twin, inv₁, inv₂, Compared, compared_same, live₁, live₂, table-shown, table_same, entry-same}
use Rattle.neighbours.proofs.Agree.{Agree, put_other, agree-put, agree-put_l, agree-wipe}
use Rattle.neighbours.proofs.Walk.{mark-kept}

-- a word y of d's table x, which is at the same page in m₁ and n₁ as in m: written in both, or in neither, where there is no table
data Written (b : ℕ) (m m₁ n₁ : List ℕ) (x : Kind) (d v y : ℕ) : Type 0 where
  neither : put_at b m₁ x d v y ≡ m₁ → put_at b n₁ x d v y ≡ n₁ → Written b m m₁ n₁ x d v y
  both : table_at b m x d v ≢ 0 → put_at b m₁ x d v y ≡ put b m₁ (table_page b m x d v) (off b v) y
      → put_at b n₁ x d v y ≡ put b n₁ (table_page b m x d v) (off b v) y → Written b m m₁ n₁ x d v y

module _ {b B : ℕ} {m n : List ℕ} (t : Twin b B m n) where
  open t use {wide, sound₁, sound₂, inside}

  -- the caller
  abbrev c : ℕ
  c = current b m

  -- m₁ and n₁: what m and n have become while the call is made
  pub record Near (m₁ n₁ : List ℕ) : Type 0 where
    pub kept₁ : Kept (inv₁ t) m₁
    pub kept₂ : Kept (inv₂ t) n₁
    pub same : (p x : ℕ) → Compared t p → x < W b → word b m₁ p x ≡ word b n₁ p x

  pub near-start : Near m n
  near-start = record { kept₁ = kept_same (inv₁ t); kept₂ = kept_same (inv₂ t); same = compared_same t }

  -- ---- partitions of both

  cur₁ : (inv₁ t).state.cur ≡ c
  cur₁ = sym (cur-is wide m (inv₁ t))

  cur₂ : (inv₂ t).state.cur ≡ c
  cur₂ = sym (cur-is wide n (inv₂ t)) ∙ sym t.same

  -- partitions from the caller up to B
  pub record Between (d : ℕ) : Type 0 where
    pub in_B : Within b m B d
    pub low₁ : Low (inv₁ t) d
    pub low₂ : Low (inv₂ t) d

  pub between-caller : Between c
  between-caller = record {
    in_B = inside;
    low₁ = record { live = live₁ t inside; small = omega (arith, ap (deep (inv₁ t)) cur₁) };
    low₂ = record { live = live₂ t inside; small = omega (arith, ap (deep (inv₂ t)) cur₂) };
  }

  -- pages that the call may write in both
  abbrev pub Both : ℕ → Type 0
  Both q = Writable (inv₁ t) q × Writable (inv₂ t) q

  pub both_zero : Both 0
  both_zero = (writable_zero wide (inv₁ t), writable_zero wide (inv₂ t))

  -- a page that the caller maps
  pub both_entry : (v : ℕ) → idx b v < W b → Both (page_of b (entry_at b m pt c v))
  both_entry v h = (
    subst (λ (d : ℕ). Writable (inv₁ t) (page_of b (entry_at b m pt d v))) cur₁ (writable_entry wide (inv₁ t) v h),
    subst (Writable (inv₂ t)) (ap (λ (d : ℕ). page_of b (entry_at b n pt d v)) cur₂ ∙ ap (page_of b) (sym (entry-same t inside pt v h)))
        (writable_entry wide (inv₂ t) v h),
  )

  pub both-mapped : (v : ℕ) → idx b (page_of b v) < W b → Both (Geometry.page_of b (mapping b m c v))
  unfolding entry_at root_page page_of
  both-mapped v h = both_entry (page_of b v) h

  -- a shadow 1 table of the caller
  both-lent : (v : ℕ) → idx b v < W b → table_at b m s1 c v ≢ 0 → Both (table_page b m s1 c v)
  unfolding table_page
  both-lent v h z =
      let e = table_same t inside s1 v h in
      let z₁ : table_at b m s1 (inv₁ t).state.cur v ≢ 0 = λ y. z (ap (λ (d : ℕ). table_at b m s1 d v) (sym cur₁) ∙ y) in
      let z₂ : table_at b n s1 (inv₂ t).state.cur v ≢ 0 = λ y. z (e ∙ ap (λ (d : ℕ). table_at b n s1 d v) (sym cur₂) ∙ y) in (
        subst (λ (d : ℕ). Writable (inv₁ t) (table_page b m s1 d v)) cur₁ (writable_lent wide (inv₁ t) v h z₁),
        subst (Writable (inv₂ t)) (ap (λ (d : ℕ). page_of b (table_at b n s1 d v)) cur₂ ∙ ap (page_of b) (sym e)) (writable_lent wide (inv₂ t) v h z₂),
      )

  module _ {m₁ n₁ : List ℕ} (near : Near m₁ n₁) where
    open near use {kept₁, kept₂, same}

    -- ---- lookups

    pub near-entry : (x : Kind) {d : ℕ} → Between d → (v : ℕ) → idx b v < W b → entry_at b m₁ x d v ≡ entry_at b n₁ x d v
    unfolding table_page
    near-entry x {d} p v h = go (eqd (table_at b m x d v) 0)
      where
        e : table_at b m x d v ≡ table_at b n x d v
        e = table_same t p.in_B x v h

        go : Dec (table_at b m x d v ≡ 0) → entry_at b m₁ x d v ≡ entry_at b n₁ x d v
        go (yes z) =
            entry-none wide (inv₁ t) kept₁.unchanged p.low₁ x v h z
            ∙ sym (entry-none wide (inv₂ t) kept₂.unchanged p.low₂ x v h (sym e ∙ z))
        go (no z) =
            entry-at wide (inv₁ t) kept₁.unchanged p.low₁ x v h z
            ∙ same (table_page b m x d v) (off b v) (inr (table-shown t p.in_B x v h z)) (off-lt wide v)
            ∙ ap (λ (y : ℕ). word b n₁ (page_of b y) (off b v)) e
            ∙ sym (entry-at wide (inv₂ t) kept₂.unchanged p.low₂ x v h (λ y. z (e ∙ y)))

    -- ---- pages that the call may write in both

    agreed : Agree t m₁ n₁
    agreed = record { sized₁ = kept₁.sized; sized₂ = kept₂.sized; same = same }

    -- page q is written, and no other
    near-page : {m₂ n₂ : List ℕ} (q : ℕ) → Both q → Agree t m₂ n₂
        → ((p z : ℕ) → z < W b → p ≢ q → word b m₂ p z ≡ word b m₁ p z) → ((p z : ℕ) → z < W b → p ≢ q → word b n₂ p z ≡ word b n₁ p z) → Near m₂ n₂
    near-page q o a other₁ other₂ = record {
      kept₁ = kept-page wide (inv₁ t) kept₁ a.sized₁ o.0 other₁;
      kept₂ = kept-page wide (inv₂ t) kept₂ a.sized₂ o.1 other₂;
      same = a.same;
    }

    pub near-put : (q y x : ℕ) → y < W b → Both q → Near (put b m₁ q y x) (put b n₁ q y x)
    near-put q y x l o = near-page q o (agree-put t agreed q y x l) (put_other wide q y x l m₁) (put_other wide q y x l n₁)

    pub near-wipe : (q : ℕ) → Both q → Near (wipe b m₁ q) (wipe b n₁ q)
    near-wipe q o = near-page q o (agree-wipe t agreed q) (wipe-other wide m₁ q) (wipe-other wide n₁ q)

    pub near-put_l : (q y : ℕ) (xs : List ℕ) → y + length xs ≤ W b → Both q → Near (put_l b m₁ q y xs) (put_l b n₁ q y xs)
    near-put_l q y xs l o =
        near-page q o (agree-put_l t agreed q y xs l) (λ p z h e. put_l-other wide m₁ q y xs p z l h e) (λ p z h e. put_l-other wide n₁ q y xs p z l h e)

    pub near-fill : (q : ℕ) (xs : List ℕ) → length xs ≤ W b → Both q → Near (Mem.fill b m₁ q xs) (Mem.fill b n₁ q xs)
    near-fill q xs l o = subst₂ Near (sym (fill_is b m₁ q xs)) (sym (fill_is b n₁ q xs)) (near-put_l q 0 xs (omega arith) o)

    -- ---- a word y of table x of a partition d between the caller and B, at virtual page v

    module _ (x : Kind) {d : ℕ} (p : Between d) (v : ℕ) (f : idx b v < W b) (y : ℕ) where
      table-put : Written b m m₁ n₁ x d v y
      unfolding table_page
      table-put = go (eqd (table_at b m x d v) 0)
        where
          e : table_at b m x d v ≡ table_at b n x d v
          e = table_same t p.in_B x v f

          go : Dec (table_at b m x d v ≡ 0) → Written b m m₁ n₁ x d v y
          go (yes z) =
              neither
              (put-none wide (inv₁ t) kept₁.unchanged p.low₁ x v f y z)
              (put-none wide (inv₂ t) kept₂.unchanged p.low₂ x v f y (sym e ∙ z))
          go (no z) =
              both z
              (put-at wide (inv₁ t) kept₁.unchanged p.low₁ x v f y z)
              (put-at wide (inv₂ t) kept₂.unchanged p.low₂ x v f y (λ w. z (e ∙ w)) ∙ ap (λ (w : ℕ). put b n₁ (page_of b w) (off b v) y) (sym e))

      same-table : (q z : ℕ) → Compared t q → z < W b → word b (put_at b m₁ x d v y) q z ≡ word b (put_at b n₁ x d v y) q z
      same-table q z s g = go table-put
        where
          go : Written b m m₁ n₁ x d v y → word b (put_at b m₁ x d v y) q z ≡ word b (put_at b n₁ x d v y) q z
          go (neither e₁ e₂) = ap (λ (w : List ℕ). word b w q z) e₁ ∙ same q z s g ∙ ap (λ (w : List ℕ). word b w q z) (sym e₂)
          go (both n e₁ e₂) =
              ap (λ (w : List ℕ). word b w q z) e₁ ∙ (agree-put t agreed (table_page b m x d v) (off b v) y (off-lt wide v)).same q z s g
              ∙ ap (λ (w : List ℕ). word b w q z) (sym e₂)

    -- a shadow 1 word of the caller
    pub near-lent : (v x : ℕ) → Virtual b v → Near (set_lent b m₁ c v x) (set_lent b n₁ c v x)
    unfolding put_at root_page page_of
    near-lent v x h = go (table-put s1 between-caller u f x)
      where
        u : ℕ
        u = page_of b v

        f : idx b u < W b
        f = virtual-fits wide v h

        go : Written b m m₁ n₁ s1 c u x → Near (put_at b m₁ s1 c u x) (put_at b n₁ s1 c u x)
        go (neither e₁ e₂) = subst₂ Near (sym e₁) (sym e₂) near
        go (both z e₁ e₂) = subst₂ Near (sym e₁) (sym e₂) (near-put (table_page b m s1 c u) (off b u) x (off-lt wide u) (both-lent u f z))

    -- a turn of take or return, at a partition between the caller and B
    pub near-mark : (a : ℕ) → a < 2 → {d : ℕ} → Between d → (v : ℕ) → Virtual b v → Near (marking b a m₁ d v) (marking b a n₁ d v)
    unfolding entry_at put_at root_page page_of
    near-mark a l {d} p v h = record {
      kept₁ = mark-kept wide sound₁ kept₁ p.low₁ v h a l;
      kept₂ = mark-kept wide sound₂ kept₂ p.low₂ v h a l;
      same = λ q z s g. same-table pt p u f (marked b a (entry_at b m₁ pt d u)) q z s g ∙ ap (λ (y : ℕ). word b (put_at b n₁ pt d u y) q z) word_same;
    }
      where
        u : ℕ
        u = page_of b v

        f : idx b u < W b
        f = virtual-fits wide v h

        word_same : marked b a (entry_at b m₁ pt d u) ≡ marked b a (entry_at b n₁ pt d u)
        word_same = ap (marked b a) (near-entry pt p u f)
