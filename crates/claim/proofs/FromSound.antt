-- What demand 3 asks of the memory after each call holds from any sound memory on. Assumes nothing.
use Prim.Native.Nat.{ℕ}
use Rattle.memory.specs.Edition.{edition}
use Rattle.memory.specs.Geometry.{width_of}
use Rattle.memory.proofs.Editions.{wide_of}
use Rattle.rules.specs.Conditions.{pages_in}
use Rattle.rules.specs.Editions.{run, last_edition}
use Rattle.rules.proofs.Lengths.{length_run}
use Rattle.rules.proofs.steps.Editions.{edition-is, held-sound}
use Rattle.rules.proofs.state.Keeps.{runs_held}
use Rattle.claim.specs.FromSound.{FromSound}
use Rattle.claim.proofs.Kept.{kept}
use Rattle.claim.proofs.Pages.{pages-kept}

pub from-sound : FromSound
from-sound m s cs =
    let e : ℕ = last_edition m (edition m) cs in
    let h = runs_held m s cs in
    record {
      edition = edition-is e (run m cs) h;
      kept = kept (width_of e) (wide_of e h.known) (run m cs) (pages_in (width_of e) m) (held-sound h)
          (pages-kept (width_of e) m (run m cs) (length_run m cs) (held-sound h));
    }
