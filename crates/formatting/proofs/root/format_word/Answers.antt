-- `formatting::root::format_word` meets its contract. Each test that the code makes is one of the definition. Assumes nothing.
use mathlib.Core.Path.{ap, ◌∙◌}
use Prim.Native.Nat.{ℕ, ◌+◌, ◌*◌, ◌-◌, ◌/◌}
use native.Mathlib.Omega.{arith}
use Rattle.memory.specs.Format.{root_table_word}
use Rattle.memory.proofs.Widths.{words-most}
use Rattle.formatting.proofs.SizeLaws.{near_product}
use Rattle.formatting.proofs.WordLaws.{word-header, word-descriptor, word-directory, word-list, word_flat, word-shadow, word-table}
use Rattle.formatting.proofs.root.format_word.Goals as goal

pub returns-in-0 : goal.returns-in-0
returns-in-0 c = let z = c.args.z.now in c.header_word.ensures ∙ word-header z.width.bits z.pages z.threes z.counted c.args.page.0 c.args.i c.in-0.is

pub returns-in-1 : goal.returns-in-1
returns-in-1 c =
    let z = c.args.z.now in
    c.root_descriptor_word.ensures ∙ word-descriptor z.width.bits z.pages z.threes z.counted c.args.page.0 c.args.i c.in-1.is

pub root_directory_word-requires : goal.root_directory_word-requires
root_directory_word-requires c = let z = c.args.z.now in record { sizes = omega (arith, words-most z.width.bits z.width.known.1) }

pub returns-in-2-to-4 : goal.returns-in-2-to-4
returns-in-2-to-4 c =
    let z = c.args.z.now in
    c.root_directory_word.ensures
    ∙ word-directory z.width.bits z.pages z.threes z.counted c.args.page.0 c.args.i (omega arith) (omega arith) (omega arith)

pub root_list_word-requires : goal.root_list_word-requires
root_list_word-requires c = let z = c.args.z.now in record { sizes = omega (arith, words-most z.width.bits z.width.known.1) }

pub returns-in-5 : goal.returns-in-5
returns-in-5 c = let z = c.args.z.now in c.root_list_word.ensures ∙ word-list z.width.bits z.pages z.threes z.counted c.args.page.0 c.args.i c.in-5.is

pub returns-in_default : goal.returns-in_default
returns-in_default c =
    let z = c.args.z.now in
    word_flat z.width.bits z.pages z.threes z.counted c.args.page.0 c.args.i (omega arith) c.if-z-p.true

pub returns-in_default-2 : goal.returns-in_default-2
returns-in_default-2 c =
    let z = c.args.z.now in
    word-shadow z.width.bits z.pages z.threes z.counted c.args.page.0 c.args.i (omega arith) c.if-z-p.false c.if-p-ne0.true

pub overflow_mul-p : goal.overflow_mul-p
overflow_mul-p c = omega (arith, near_product ((c.args.page.0 - 6) / 3) c.page_words.result (omega arith) c.page_words.ensures.1)

pub overflow_add-p : goal.overflow_add-p
overflow_add-p c = omega (arith, near_product ((c.args.page.0 - 6) / 3) c.page_words.result (omega arith) c.page_words.ensures.1)

pub table_word-requires : goal.table_word-requires
table_word-requires c =
    record { pages = omega (arith, near_product ((c.args.page.0 - 6) / 3) c.page_words.result (omega arith) c.page_words.ensures.1) }

pub returns-in_default-3 : goal.returns-in_default-3
returns-in_default-3 c =
    let z = c.args.z.now in
    let p = c.args.page.0 in
    c.table_word.ensures
    ∙ ap (λ (w : ℕ). root_table_word z.width.bits z.pages ((p - 6) / 3 * w + c.args.i)) c.page_words.ensures.0
    ∙ word-table z.width.bits z.pages z.threes z.counted p c.args.i (omega arith) c.if-z-p.false c.if-p-ne0.false
