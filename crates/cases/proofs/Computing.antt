-- One name that opens every definition that a computed statement runs through. Assumes nothing.
use Prim.Native.Nat.{ℕ}
use Rattle.memory.specs.Geometry.{edition_of}
use Rattle.memory.specs.Words.{tabulate, fill, wipe}
use Rattle.memory.specs.Format.{format_word, format}
use Rattle.memory.specs.Partition.{table_word, put_table_word}
use Rattle.memory.specs.Contexts.{slots_at}
use Rattle.common.specs.Row.{first, reply, pass}
use Rattle.rules.specs.Call.{choice, resumption}
use Rattle.rules.specs.Conditions.{target}
use Rattle.rules.specs.Moves.{mark, take_page, return_page, depth}
use Rattle.rules.specs.Refusals.{refusals}
use Rattle.rules.specs.Effects.{drop_three, create, add, remove, prepare_three, place_of, collect_three, switch, save, restore, effect}
use Rattle.rules.specs.Calls.{result, resumed}
use Rattle.rules.specs.Replay.{call_of, push, records, script}
use Rattle.cases.proofs.Reached.{later, after_later, run_later, answers_later, usual, reached_later, answers_to_later, formatting_words}
use Rattle.cases.proofs.Reached.{contexts_later, contexts_to_later}

unfoldable memory : ℕ
unfolding edition_of tabulate fill wipe format_word format table_word put_table_word
memory = 0

unfoldable calls : ℕ
unfolding first reply pass choice mark take_page return_page depth refusals drop_three create add remove prepare_three place_of collect_three effect result
calls = 0

unfoldable contexts : ℕ
unfolding slots_at target resumption switch save restore resumed contexts_later contexts_to_later
contexts = 0

unfoldable pub computing : ℕ
unfolding memory calls contexts call_of push records script later after_later run_later answers_later usual reached_later answers_to_later formatting_words
computing = 0
