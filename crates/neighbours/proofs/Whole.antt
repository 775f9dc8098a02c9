-- The theorem of request L11, "A neighbour's patient": call by call, two memories that are alike for B are answered alike, and what B sees stays equal.
-- Without format the calls stay at the width of the memories' edition. Assumes nothing.
use mathlib.Core.Path.{◌≡◌, sym, ap, ◌∙◌, subst, subst₂}
use mathlib.Core.List.{List, [], ◌∷◌, ◌++◌}
use mathlib.Core.Logic.{◌≢◌, ◌⊎◌, inl, inr}
use mathlib.Core.Bool.{true}
use mathlib.Core.Option.{none}
use Prim.Native.Nat.{ℕ, ◌≤◌, ◌<◌}
use lib.ListN.{length}
use Rattle.memory.specs.Geometry.{widths, width_of}
use Rattle.memory.specs.Edition.{edition, width}
use Rattle.memory.specs.Partition.{pages, current, parent}
use Rattle.memory.specs.Contexts.{to_child_slot, no_slots}
use Rattle.memory.specs.Tree.{InTree}
use Rattle.memory.specs.Sound.{Sound}
use Rattle.memory.proofs.Editions.{wide_of, edition-known}
use Rattle.rules.specs.Row.{first}
use Rattle.rules.specs.Call.{Call, resume, choice}
use Rattle.rules.specs.Conditions.{toward}
use Rattle.rules.specs.Refusals.{refusals}
use Rattle.rules.specs.Calls as C
use Rattle.rules.specs.Editions.{answer, context, after}
use Rattle.rules.proofs.Choices.{is-resume}
use Rattle.rules.proofs.model.Base.{eqd}
use Rattle.rules.proofs.model.Words.{W, word}
use Rattle.rules.proofs.steps.ReadSlots.{dispatch-same}
use Rattle.rules.proofs.steps.Reading.{reads}
use Rattle.rules.proofs.steps.Editions.{Held, edition-is, left}
use Rattle.rules.proofs.state.Represented.{sound-inv}
use Rattle.rules.proofs.state.Keeps.{keeps-sound}
use Rattle.neighbours.specs.Neighbours.{Within, itself, Shown, EqualOn, Alike, Stays, Equal, Apart, AllApart, Neighbours}
use Rattle.neighbours.proofs.Twin.{Twin, within-to}
use Rattle.neighbours.proofs.Near.{Near}
use Rattle.neighbours.proofs.After.{shown-on, twin-on}
use Rattle.neighbours.proofs.Lookups.{same_read}
use Rattle.neighbours.proofs.Calls.{Reaches, same-parent, near-after}
use Rattle.neighbours.proofs.Upward.{refused-above}

-- ---- the memories of one edition

module _ (e : ℕ) (known : e < length widths) where
  abbrev b : ℕ
  b = width_of e

  wide : 6 ≤ b
  wide = wide_of e known

  held : {m : List ℕ} → Sound b m → Held e m
  held {m} s = record { known = known; inv = sound-inv wide m s }

  -- a memory that is sound by the width of the edition is read by that width
  own-width : {m : List ℕ} → Sound b m → width m ≡ b
  own-width {m} s = ap width_of (edition-is e m (held s))

  after_is : {m : List ℕ} → Sound b m → (c : Call) → after m c ≡ C.after b m c
  after_is s c = left (held s) c

  answer-is : {m : List ℕ} → Sound b m → (c : Call) → answer m c ≡ C.answer b m c
  unfolding answer
  answer-is {m} s c = ap (λ (x : ℕ). C.answer x m c) (own-width s)

  context-is : {m : List ℕ} → Sound b m → (c : Call) → context m c ≡ C.context b m c
  unfolding context
  context-is {m} s c = ap (λ (x : ℕ). C.context x m c) (own-width s)

  module _ (B : ℕ) where
    -- ---- one call

    -- after a call B or one below it is current
    abbrev StaysAfter : List ℕ → Call → Type 0
    StaysAfter m c = let m₁ = after m c in Within (width m₁) m₁ B (current (width m₁) m₁)

    stays_at : {m : List ℕ} → Sound b m → (c : Call) → Sound b (C.after b m c) → StaysAfter m c → Within b (C.after b m c) B (current b (C.after b m c))
    stays_at {m} s c s₁ w =
        let x = subst (λ (y : List ℕ). Within (width y) y B (current (width y) y)) (after_is s c) w in
        subst (λ (k : ℕ). Within k (C.after b m c) B (current k (C.after b m c))) (own-width s₁) x

    module _ {m n : List ℕ} (t : Twin b B m n) (c : Call) (f : choice c ≡ none) where
      sound₁ : Sound b (C.after b m c)
      sound₁ = keeps-sound wide m t.sound₁ c f

      sound₂ : Sound b (C.after b n c)
      sound₂ = keeps-sound wide n t.sound₂ c f

      -- B stays in both runs: where B asks for its parent's slots it is refused in both
      reaches-both : StaysAfter m c → StaysAfter n c → Reaches t c
      unfolding refusals
      reaches-both w w' a = go (eqd (current b m) B)
        where
          is : c ≡ resume 0 to_child_slot
          is = is-resume c 0 to_child_slot a.resumes

          passes : first (toward b n 0) ≡ 0
          passes = sym (dispatch-same b m n (same_read t) 0) ∙ a.passes

          refused₁ : current b m ≡ B → no_slots b m (parent b m (current b m)) ≡ true
          refused₁ q =
              refused-above wide t.sound₁ q t.depth₁ a.passes (subst (λ (x : Call). Sound b (C.after b m x)) is sound₁)
              (subst (λ (x : Call). Within b (C.after b m x) B (current b (C.after b m x))) is (stays_at t.sound₁ c sound₁ w))

          refused₂ : current b m ≡ B → no_slots b n (parent b n (current b n)) ≡ true
          refused₂ q =
              refused-above wide t.sound₂ (sym t.same ∙ q) t.depth₂ passes (subst (λ (x : Call). Sound b (C.after b n x)) is sound₂)
              (subst (λ (x : Call). Within b (C.after b n x) B (current b (C.after b n x))) is (stays_at t.sound₂ c sound₂ w'))

          go : Dec (current b m ≡ B)
              → (current b m ≢ B) ⊎ ((no_slots b m (parent b m (current b m)) ≡ true) × (no_slots b n (parent b n (current b n)) ≡ true))
          go (yes q) = inr (refused₁ q, refused₂ q)
          go (no q) = inl q

      -- B does not ask for them
      reaches-apart : Apart B m c → Reaches t c
      reaches-apart g a = inl (λ q. g (ap (λ (k : ℕ). current k m) (own-width t.sound₁) ∙ q) a.resumes)

      module _ (r : Reaches t c) where
        near : Near t (C.after b m c) (C.after b n c)
        near = near-after t c f r

        same : (C.answer b m c ≡ C.answer b n c) × (C.context b m c ≡ C.context b n c)
        same = reads b m n (same_read t) c f (same-parent t c r)

        same_answer : answer m c ≡ answer n c
        same_answer = answer-is t.sound₁ c ∙ same.0 ∙ sym (answer-is t.sound₂ c)

        same-context : context m c ≡ context n c
        same-context = context-is t.sound₁ c ∙ same.1 ∙ sym (context-is t.sound₂ c)

        same-words : EqualOn b (Shown b m B) (after m c) (after n c)
        unfolding W word
        same-words = subst₂ (EqualOn b (Shown b m B)) (sym (after_is t.sound₁ c)) (sym (after_is t.sound₂ c)) (λ p y i l. near.same p i (inr y) l)

        shown-after : {p : ℕ} → Shown b m B p → Shown b (after m c) B p
        shown-after {p} x =
            subst (λ (y : List ℕ). Shown b y B p) (sym (after_is t.sound₁ c)) (shown-on t near sound₁ sound₂ x)

        -- the call leaves B or one below it current
        twin-after : StaysAfter m c → Twin b B (after m c) (after n c)
        twin-after w =
            subst₂ (Twin b B) (sym (after_is t.sound₁ c)) (sym (after_is t.sound₂ c))
            (twin-on t near sound₁ sound₂ (stays_at t.sound₁ c sound₁ w))

    inside : {m n : List ℕ} → Twin b B m n → Within (width n) n B (current (width n) n)
    inside {m} {n} t =
        subst (λ (k : ℕ). Within k n B (current k n)) (sym (own-width t.sound₂))
        (subst (Within b n B) t.same (within-to t t.inside))

    -- ---- any calls. The pages S are among those that B sees.

    module _ (S : ℕ → Type 0) where
      abbrev Sees : List ℕ → Type 0
      Sees m = (p : ℕ) → S p → Shown b m B p

      -- one call, and what is equal after it
      first-equal : {m n : List ℕ} (t : Twin b B m n) → Sees m → (c : Call) (f : choice c ≡ none) → Reaches t c → (cs : List Call)
          → Equal b S (after m c) (after n c) cs → Equal b S m n (c ∷ cs)
      first-equal t s c f r cs e = (same_answer t c f r, same-context t c f r, λ p x. same-words t c f r p (s p x), e)

      equals : (m n : List ℕ) → Twin b B m n → Sees m → (cs : List Call) → Stays B m cs → Stays B n cs → Equal b S m n cs
      equals m n t s [] g h = tt
      equals m n t s (c ∷ cs) (f, w, g) (f', w', h) =
          let r = reaches-both t c f w w' in
          first-equal t s c f r cs (equals (after m c) (after n c) (twin-after t c f r w) (λ p x. shown-after t c f r (s p x)) cs g h)

      -- and one more
      equals-more : (m n : List ℕ) → Twin b B m n → Sees m → (cs : List Call) → Stays B m cs → (d : Call) → choice d ≡ none → AllApart B m (cs ++ (d ∷ []))
          → Equal b S m n (cs ++ (d ∷ []))
      equals-more m n t s [] g d h a = first-equal t s d h (reaches-apart t d h a.0) [] tt
      equals-more m n t s (c ∷ cs) (f, w, g) d h a =
          let r = reaches-apart t c f a.0 in
          first-equal t s c f r (cs ++ (d ∷ []))
          (equals-more (after m c) (after n c) (twin-after t c f r w) (λ p x. shown-after t c f r (s p x)) cs g d h a.1)

    stays_too : (m n : List ℕ) → Twin b B m n → (cs : List Call) → Stays B m cs → AllApart B m cs → Stays B n cs
    stays_too m n t [] g a = tt
    stays_too m n t (c ∷ cs) (f, w, g) a =
        let u = twin-after t c f (reaches-apart t c f a.0) w in (f, inside u, stays_too (after m c) (after n c) u cs g a.1)

-- ---- the statement

module _ (B : ℕ) (m n : List ℕ) (a : Alike B m n) where
  twin : Twin (width m) B m n
  twin =
      let w : width n ≡ width m = ap width_of (sym a.edition) in
      record {
        wide = wide_of (edition m) (edition-known m);
        sound₁ = a.sound₁;
        sound₂ = subst (λ (b : ℕ). Sound b n) w a.sound₂;
        count = a.count ∙ ap (λ (b : ℕ). pages b n) w;
        same = a.current₁ ∙ sym (subst (λ (b : ℕ). current b n ≡ B) w a.current₂);
        inside = subst (Within (width m) m B) (sym a.current₁) itself;
        depth = a.depth;
        depth₁ = a.depth₁;
        depth₂ = subst (λ (b : ℕ). InTree b n a.depth B) w a.depth₂;
        words = a.words;
      }

  abbrev S : ℕ → Type 0
  S = Shown (width m) m B

  equal : (cs : List Call) → Stays B m cs → Stays B n cs → Equal (width m) S m n cs
  equal cs g h = equals (edition m) (edition-known m) B S m n twin (λ p x. x) cs g h

  either : (cs : List Call) → Stays B m cs → AllApart B m cs → Stays B n cs
  either cs g h = stays_too (edition m) (edition-known m) B m n twin cs g h

  leaving : (cs : List Call) → Stays B m cs → (c : Call) → choice c ≡ none → AllApart B m (cs ++ (c ∷ [])) → Equal (width m) S m n (cs ++ (c ∷ []))
  leaving cs g c f h = equals-more (edition m) (edition-known m) B S m n twin (λ p x. x) cs g c f h

pub neighbours : Neighbours
neighbours = record { equal = equal; either = either; leaving = leaving }
