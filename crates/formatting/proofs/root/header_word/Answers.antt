-- `formatting::root::header_word` meets its contract. The word is read from the list that the definition reads. Assumes nothing.
use mathlib.Core.Path.{◌∙◌}
use native.Mathlib.Omega.{arith}
use Rattle.formatting.proofs.SizeLaws.{few_threes}
use Rattle.formatting.proofs.WordLaws.{header_is}
use Rattle.formatting.proofs.root.header_word.Goals as goal

pub page_address-first-requires : goal.page_address-first-requires
page_address-first-requires c =
    let z = c.args.z.now in
    record { near = omega (arith, few_threes z.width.bits z.pages z.width.known.1 c.requires.pages, z.counted) }

pub returns : goal.returns
returns c =
    let z = c.args.z.now in
    let root = c.page_address-root in
    let first = c.page_address-first in
    let edition = c.edition_of-edition in
    c.read.ensures ∙ header_is z.width.bits z.pages z.threes z.counted c.args.i root.result first.result edition.result
    root.ensures.0 first.ensures.0 edition.ensures.0
