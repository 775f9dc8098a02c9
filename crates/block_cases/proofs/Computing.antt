-- One name that opens every definition that a computed statement runs through. Assumes nothing.
use Prim.Native.Nat.{ℕ}
use Rattle.common.specs.Row.{first, reply, pass}
use Rattle.walk.specs.Finite.{from, all, keep, image}
use Rattle.block_memory.specs.Geometry.{permitted}
use Rattle.block_memory.specs.Words.{over}
use Rattle.block_memory.specs.Partition.{lowest, partitions, entry, structure, field, put_slot, has_byte, block_at, free_number, free_structure, empty_structure}
use Rattle.block_memory.specs.Partition.{entry_of}
use Rattle.block_memory.specs.Format.{format}
use Rattle.block_rules.specs.Refusals.{refusals_of, refusals}
use Rattle.block_rules.specs.Effects.{disable, create_in, wipe_structures, wipe_partition, delete_child, prepare_for, collect_from, add_to, remove_from, cut_at}
use Rattle.block_rules.specs.Effects.{merge_two, enable_in, effect_of}
use Rattle.block_rules.specs.Calls.{collected, enabled_at, tells, is_block, result_of, told_of}
use Rattle.block_cases.proofs.Later.{later, after_later, run_later, answers_later, told_later}

unfoldable memory : ℕ
unfolding from all keep image permitted over lowest partitions entry structure field put_slot has_byte block_at free_number free_structure empty_structure
memory = 0

unfoldable effects : ℕ
unfolding disable create_in wipe_structures wipe_partition delete_child prepare_for collect_from add_to remove_from cut_at merge_two enable_in effect_of
effects = 0

unfoldable answers : ℕ
unfolding first reply pass refusals_of refusals collected enabled_at tells is_block result_of told_of later after_later run_later answers_later told_later
answers = 0

unfoldable pub computing : ℕ
unfolding memory effects answers entry_of format
computing = 0
