-- `forms::threes::Listed::index_test` meets its contract. Assumes nothing.
use mathlib.Core.Bool.{not}
use mathlib.Core.Path.{ap}
use native.Mathlib.Omega.{arith}
use Rattle.own_pages.proofs.Laws.Tests.{yes, no}
use Rattle.forms.proofs.Laws.Met.{met_wrong, met-none, met-unlisted, met-twice, met-first}
use Rattle.forms.proofs.threes.Listed.index_test.Goals as goal

pub returns-then-not-three_links : goal.returns-then-not-three_links
returns-then-not-three_links c =
    let o = c.args.self.now.own in
    met_wrong o.width.bits o.words.now o.descriptor.0 c.args.met.now c.args.i c.words_at-t.ensures c.requires.index
    (no c.three_links.ensures (ap not c.if-not-three_links.true))

pub returns-then-t-eq0 : goal.returns-then-t-eq0
returns-then-t-eq0 c =
    let o = c.args.self.now.own in
    met-none o.width.bits o.words.now o.descriptor.0 c.args.met.now c.args.i c.words_at-t.ensures c.requires.index
    (yes c.three_links.ensures (ap not c.if-not-three_links.false)) c.if-t-eq0.true

pub returns-in_default : goal.returns-in_default
returns-in_default c =
    let o = c.args.self.now.own in
    let none = rw o.counted at c.in_default.ensures in
    met-unlisted o.width.bits o.words.now o.descriptor.0 c.args.met.now c.args.i c.words_at-t.ensures c.requires.index
    (yes c.three_links.ensures (ap not c.if-not-three_links.false)) c.if-t-eq0.false none

pub returns-then-met-k-ne0 : goal.returns-then-met-k-ne0
returns-then-met-k-ne0 c =
    let o = c.args.self.now.own in
    let place = rw o.counted at c.in-Some.ensures in
    met-twice o.width.bits o.words.now o.descriptor.0 c.args.met.now c.args.i c.words_at-t.ensures c.requires.index
    (yes c.three_links.ensures (ap not c.if-not-three_links.false)) c.if-t-eq0.false place c.if-met-k-ne0.true

pub returns : goal.returns
returns c =
    let o = c.args.self.now.own in
    let place = rw o.counted at c.in-Some.ensures in
    met-first o.width.bits o.words.now o.descriptor.0 c.args.met.now c.args.i c.words_at-t.ensures c.requires.index
    (yes c.three_links.ensures (ap not c.if-not-three_links.false)) c.if-t-eq0.false place c.if-met-k-ne0.false (omega (arith, o.counted, place.high))
