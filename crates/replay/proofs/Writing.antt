-- The program writes the transcript, and no more.
use Rattle.std.proofs.Common.{arith, ◌≡◌, ◌∙◌, refl, ap, subst, ℕ, ◌≤◌, List, [], ◌∷◌, Option, None, Some, IfSome, Result, Ok, Err, OnOk, length, take}
use Rattle.std.specs.Io.KnownBytes.{Appends}
use Rattle.rules.specs.Replay
use Rattle.script.specs.Lines.{Put}
use Rattle.script.proofs.Puts.{put_front}

pub writes : {T E : Type 0} (xs out bytes : List ℕ) (n r : ℕ) (read old new : Option (List ℕ)) (done : Result T E)
    → length bytes ≡ 4097 → IfSome read (λ bs. take n bytes ≡ take (length bytes) bs) → Put xs out 0 r (Replay.replay 6 (take n bytes)) → r ≤ length out
    → OnOk done (Appends old new (take r out))
    → OnOk done (IfSome read (λ bs. Appends old new (Replay.replay 6 (take 4097 bs))))
writes xs out bytes n r read old new (Err e) l p q h w = tt
writes xs out bytes n r None old new (Ok u) l p q h w = tt
writes xs out bytes n r (Some bs) old new (Ok u) l p q h w = subst (Appends old new) (put_front xs out _ r q h ∙ ap (Replay.replay 6) (p ∙ ap (λ k. take k bs) l)) w
