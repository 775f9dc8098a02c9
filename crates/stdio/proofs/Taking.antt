-- Words taken one after the other.
use Rattle.std.proofs.Common.{arith, ◌≡◌, ◌∙◌, ℕ, ◌+◌, ◌*◌, ◌<◌, List, Option, None, Some, IfSome, length, drop, slice_index, slice_set, ap, sym, subst, ◌⊎◌, inl, inr, refl}
use Rattle.std.proofs.lemmas.List.{drop-drop, get_or-set_same, get_or-set_other}
use Rattle.std.proofs.lemmas.Bool.{cases_eq}
use Rattle.stdio.specs.Words.{HoldsWords, LosesWhole, LosesWord, LosesWords, first_word}

-- one word after n
pub loses-more : (n : ℕ) (a b c : Option (List ℕ)) → LosesWords n a b → LosesWord b c → LosesWords (n + 1) a c
loses-more n None b c p q = tt
loses-more n (Some bs) b c p q =
    let last : c ≡ Some (drop 4 (drop (4 * n) bs)) = subst (λ o. LosesWord o c) p q in
    let same : 4 * n + 4 ≡ 4 * (n + 1) = omega arith in
    last ∙ ap Some (drop-drop 4 (4 * n) bs) ∙ ap (λ k. Some (drop k bs)) same

-- n words after one
pub loses-first : (n : ℕ) (a b c : Option (List ℕ)) → LosesWord a b → LosesWords n b c → LosesWords (1 + n) a c
loses-first n None b c p q = tt
loses-first n (Some bs) b c p q =
    let last : c ≡ Some (drop (4 * n) (drop 4 bs)) = subst (λ o. LosesWords n o c) p q in
    let same : 4 + 4 * n ≡ 4 * (1 + n) = omega arith in
    last ∙ ap Some (drop-drop (4 * n) 4 bs) ∙ ap (λ k. Some (drop k bs)) same

holds-at : (n : ℕ) (bs ws : List ℕ) (w : ℕ) → n < length ws → HoldsWords n ws bs → w ≡ first_word (drop (4 * n) bs)
    → (k : ℕ) → k < n + 1 → (k ≡ n) ⊎ (k ≡ n → ⊥) → slice_index (slice_set ws n w) k ≡ first_word (drop (4 * k) bs)
holds-at n bs ws w l h next k m (inl e) = subst (λ i. slice_index (slice_set ws n w) i ≡ first_word (drop (4 * i) bs)) (sym e) (get_or-set_same ws n w 0 l ∙ next)
holds-at n bs ws w l h next k m (inr e) = get_or-set_other ws n k w 0 e ∙ h k (grind arith)

-- the word at n is the next one
pub holds-more : (n : ℕ) (a b : Option (List ℕ)) (ws : List ℕ) (w : ℕ) → n < length ws → IfSome a (HoldsWords n ws) → LosesWords n a b
    → IfSome b (λ bs. w ≡ first_word bs) → IfSome a (HoldsWords (n + 1) (slice_set ws n w))
holds-more n None b ws w l h p q = tt
holds-more n (Some bs) b ws w l h p q =
    let next : w ≡ first_word (drop (4 * n) bs) = subst (λ o. IfSome o (λ bs. w ≡ first_word bs)) p q in
    λ k m. holds-at n bs ws w l h next k m (cases_eq k n)

-- words after words
pub loses-on : (i j : ℕ) (a b c : Option (List ℕ)) → LosesWords i a b → LosesWords j b c → LosesWords (i + j) a c
loses-on i j None b c p q = tt
loses-on i j (Some bs) b c p q =
    let last : c ≡ Some (drop (4 * j) (drop (4 * i) bs)) = subst (λ o. LosesWords j o c) p q in
    let same : 4 * i + 4 * j ≡ 4 * (i + j) = omega arith in
    last ∙ ap Some (drop-drop (4 * j) (4 * i) bs) ∙ ap (λ k. Some (drop k bs)) same

pub loses-none : (a : Option (List ℕ)) → LosesWords 0 a a
loses-none None = tt
loses-none (Some bs) = refl

pub loses-all : (a b c : Option (List ℕ)) → LosesWhole a b → LosesWhole b c → LosesWhole a c
loses-all a b c p q = (p.0 + q.0, loses-on p.0 q.0 a b c p.1 q.1)
