-- What services come to on memory of 4,096 words, fresh from format. Assumes nothing.
use Rattle.std.specs.Prelude.{List, [], ◌∷◌, ℕ}
use Rattle.common.specs.Row.{Answer}
use Rattle.block_memory.specs.Format.{format}
use Rattle.block_rules.specs.Call.{Service, Call, serve}
use Rattle.block_rules.specs.Refusals.{refusal}
use Rattle.block_rules.specs.Calls as Calls

unfoldable pub served : List Service → List Call
served [] = []
served (s ∷ ss) = serve s ∷ served ss

-- the memory, the answers and what is told beside
unfoldable pub reached : List Service → List ℕ
reached ss = Calls.run (format 4096) (served ss)

unfoldable pub answered : List Service → List Answer
answered ss = Calls.answers (format 4096) (served ss)

unfoldable pub told : List Service → List (List ℕ)
told ss = Calls.all_told (format 4096) (served ss)

-- 0, or the refusal of s after the services ss
unfoldable pub refused_after : List Service → Service → ℕ
refused_after ss s = refusal (reached ss) (serve s)
