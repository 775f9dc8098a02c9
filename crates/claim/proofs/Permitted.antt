-- Demand 3 on memory of a permitted length: what format leaves is a sound memory. Assumes nothing.
use mathlib.Core.Path.{◌≡◌, sym, ap, ◌∙◌, subst}
use mathlib.Core.List.{List}
use Prim.Native.Nat.{ℕ, ◌/◌}
use lib.ListN.{length}
use Rattle.memory.specs.Edition.{edition, width}
use Rattle.memory.specs.Geometry.{width_of, page_words}
use Rattle.memory.specs.Format.{format}
use Rattle.memory.specs.Sound.{Sound}
use Rattle.rules.specs.Call.{Call, format_all}
use Rattle.rules.specs.Conditions.{pages_in}
use Rattle.rules.specs.Editions.{after, run, last_edition}
use Rattle.rules.specs.Permitted.{Fits}
use Rattle.rules.proofs.Lengths.{length-after}
use Rattle.rules.proofs.steps.Editions.{edition-is, held-sound, format-leaves, held-format, last-same}
use Rattle.claim.specs.Kept.{Kept}
use Rattle.claim.specs.Claim.{Claim}
use Rattle.claim.proofs.Formatted.{run-formatted, answers-formatted, contexts-formatted}
use Rattle.claim.proofs.FromSound.{from-sound}

module _ (e : ℕ) (m : List ℕ) (f : Fits e m) where
  abbrev start : List ℕ
  start = format (width_of e) (pages_in (width_of e) m)

  same_length : length start ≡ length m
  unfolding after
  same_length = ap length (sym (format-leaves m e f)) ∙ length-after (width m) m (format_all e)

  start-edition : edition start ≡ e
  start-edition = edition-is e start (held-format m e f)

  start-sound : Sound (width start) start
  start-sound = subst (λ (x : ℕ). Sound (width_of x) start) (sym start-edition) (held-sound (held-format m e f))

  module _ (cs : List Call) where
    last : last_edition start (edition start) cs ≡ last_edition m e cs
    last = ap (λ (x : ℕ). last_edition start x cs) start-edition ∙ last-same m start same_length e cs

    pub claimed : Claim e m cs
    claimed =
        let k = from-sound start start-sound cs in
        let r = run-formatted e m f cs in
        record {
          words = r;
          answered = answers-formatted e m f cs;
          resumed = contexts-formatted e m f cs;
          edition = rw r (k.edition ∙ last);
          kept = rw r (subst (λ (x : ℕ). Kept (width_of x) (run start cs) (pages_in (width_of x) m)) last
              (subst (λ (n : ℕ). let b = width_of (last_edition start (edition start) cs) in Kept b (run start cs) (n / page_words b)) same_length k.kept));
        }
