-- `transcripts::replays::memory_words` meets its contract. A script's header bounds N. Assumes nothing.
use mathlib.Core.Path.{◌≡◌, ap, ◌∙◌}
use Prim.Native.Nat.{ℕ, ◌*◌}
use native.Mathlib.Omega.{arith}
use Rattle.memory.specs.Geometry.{page_words}
use Rattle.transcripts.proofs.Starts.{header}
use Rattle.transcripts.proofs.replays.memory_words.Goals as goal

pub word_in-requires : goal.word_in-requires
word_in-requires c = omega (arith, (header c.args.bytes.now c.requires).long)

pub overflow_mul-result : goal.overflow_mul-result
overflow_mul-result c =
    let e : c.page_words.result ≡ 64 = c.page_words.ensures.0 ∙ ap page_words c.width_of.ensures in
    omega (arith, ap (λ (x : ℕ). c.word_in.result * x) e)

pub returns : goal.returns
returns c =
    let word_in = c.word_in in
    let e : c.page_words.result ≡ 64 = c.page_words.ensures.0 ∙ ap page_words c.width_of.ensures in
    let p = ap (λ (x : ℕ). word_in.result * x) e in
    let w = word_in.ensures in
    (omega (arith, p, w), omega (arith, p, w, (header c.args.bytes.now c.requires).most))
