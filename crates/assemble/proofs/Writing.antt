-- The program writes the script and the message, and no more.
use Rattle.std.proofs.Common.{◌≡◌, ◌∙◌, refl, ap, subst, ℕ, ◌≤◌, List, [], Option, None, Some, IfSome, Result, Ok, Err, OnOk, length, take}
use Rattle.std.specs.Io.KnownBytes.{Appends}
use Rattle.script.specs.Lines.{Put}
use Rattle.script.proofs.Puts.{put_front}
use Rattle.assembly.specs.Assembled.{assembled}
use Rattle.assembly.specs.Messages.{message}
use Rattle.assembly.specs.Told.{told, size, script_of}
use Rattle.assembly.specs.declared.Unassembled.TheVariants.{Unread, TooLong}
use Rattle.assembly.proofs.Answers.{Assembled}

script_front : (a : Assembled) (out : List ℕ) → take (size a) out ≡ script_of (told a out)
script_front (Ok n) out = refl
script_front (Err (Unread k why)) out = refl
script_front (Err TooLong) out = refl

same_message : (a : Assembled) (out : List ℕ) → message (told a []) ≡ message (told a out)
unfolding message
same_message (Ok n) out = refl
same_message (Err (Unread k why)) out = refl
same_message (Err TooLong) out = refl

pub writes_script : {T E : Type 0} (a : Assembled) (out text : List ℕ) (n s : ℕ) (read old new : Option (List ℕ)) (done : Result T E)
    → length text ≡ 65537 → IfSome read (λ bs. take n text ≡ take (length text) bs) → told a out ≡ assembled (take n text) → s ≡ size a
    → Appends old new (take s out)
    → OnOk done (IfSome read (λ bs. Appends old new (script_of (assembled (take 65537 bs)))))
writes_script a out text n s read old new (Err e) l p t q w = tt
writes_script a out text n s None old new (Ok u) l p t q w = tt
writes_script a out text n s (Some bs) old new (Ok u) l p t q w =
    let whole : take n text ≡ take 65537 bs = p ∙ ap (λ k. take k bs) l in
    subst (Appends old new) (ap (λ k. take k out) q ∙ script_front a out ∙ ap script_of (t ∙ ap assembled whole)) w

pub writes_message : {T E : Type 0} (a : Assembled) (out xs ys text : List ℕ) (n r : ℕ) (read old new : Option (List ℕ)) (done : Result T E)
    → length text ≡ 65537 → IfSome read (λ bs. take n text ≡ take (length text) bs) → told a out ≡ assembled (take n text)
    → Put xs ys 0 r (message (told a [])) → r ≤ length ys
    → OnOk done (Appends old new (take r ys))
    → OnOk done (IfSome read (λ bs. Appends old new (message (assembled (take 65537 bs)))))
writes_message a out xs ys text n r read old new (Err e) l p t q h w = tt
writes_message a out xs ys text n r None old new (Ok u) l p t q h w = tt
writes_message a out xs ys text n r (Some bs) old new (Ok u) l p t q h w =
    let whole : take n text ≡ take 65537 bs = p ∙ ap (λ k. take k bs) l in
    subst (Appends old new) (put_front xs ys _ r q h ∙ same_message a out ∙ ap message (t ∙ ap assembled whole)) w
