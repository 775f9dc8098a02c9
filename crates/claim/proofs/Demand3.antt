-- Demand 3, of every edition. What it rests on is proved for every index width of 6 or more. Assumes nothing.
use Rattle.claim.specs.Claim.{Demand3}
use Rattle.claim.proofs.Barred.{barred}
use Rattle.claim.proofs.Formatted.{format-stopped}
use Rattle.claim.proofs.Permitted.{claimed}

pub demand_3 : Demand3
demand_3 = record { permitted = λ e m cs f. claimed e m f cs; refused = format-stopped; barred = barred }
