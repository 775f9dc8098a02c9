-- `common::sequences::run` meets its contract. What is left of the calls gives what is left of the run. The measure is the words that are left.
-- Assumes nothing.
use mathlib.Core.Path.{refl, ap, ◌∙◌}
use mathlib.Core.Logic.{◌≢◌}
use Prim.Native.Nat.{ℕ, ◌-◌, ◌<◌}
use native.Mathlib.Omega.{arith}
use lib.ListN.{length}
use Rattle.common.specs.Room.{next_at}
use Rattle.common.proofs.Fitting.{found-whole, room_within, end-above, end-within}
use Rattle.common.proofs.Running.{rest-start, rest-next, rest-none}
use Rattle.common.proofs.sequences.run.Goals as goal

some : {e : ℕ} → 0 < e → e ≢ 0
some h q = omega (arith, h, q)

pub loop-e-init : goal.loop-e-init
loop-e-init g c =
    let s = c.args in
    (omega arith, omega arith, omega arith, rest-start _ _ _ _ _ _ s.calls.now s.m.now s.answers.now)

pub overflow_sub-answers : goal.overflow_sub-answers
overflow_sub-answers g c = let l = c.loop-e in omega (arith, l.invariant.1, l.auto.answers)

pub call-p-requires-clause-i_value : goal.call-p-requires-clause-i_value
call-p-requires-clause-i_value g c =
    let k = g.K.Kernel in
    let l = c.loop-e in
    let e = c.in-Some.ensures in
    found-whole k.counts k.most k.numbered k.places c.args.calls.now l.i (length l.answers - l.p) e.0 (some e.1)

pub call-p-requires-clause-room : goal.call-p-requires-clause-room
call-p-requires-clause-room g c =
    let k = g.K.Kernel in
    let l = c.loop-e in
    let e = c.in-Some.ensures in
    omega (arith, room_within k.counts k.most k.numbered k.places c.args.calls.now l.i (length l.answers - l.p) e.0 (some e.1), l.invariant.1, l.auto.answers)

pub loop-e-smaller : goal.loop-e-smaller
loop-e-smaller g c =
    let k = g.K.Kernel in
    let l = c.loop-e in
    let e = c.in-Some.ensures in
    let r = length l.answers - l.p in
    omega (
      arith,
      end-above k.counts k.most k.numbered k.places c.args.calls.now l.i r e.0 (some e.1),
      end-within k.counts k.most k.numbered k.places c.args.calls.now l.i r e.0 (some e.1),
    )

pub loop-e-preserved : goal.loop-e-preserved
loop-e-preserved g c =
    let k = g.K.Kernel in
    let l = c.loop-e in
    let a = c.args in
    let s = c.call-p.ensures in
    let e = c.in-Some.ensures in
    let h = some e.1 in
    let r = length a.answers.now - l.p in
    let f = e.0 ∙ ap (λ (x : ℕ). next_at k.counts k.most k.numbered k.places a.calls.now l.i (x - l.p)) l.auto.answers in
    let w = room_within k.counts k.most k.numbered k.places a.calls.now l.i r f h in (
      omega (arith, l.invariant.0, end-above k.counts k.most k.numbered k.places a.calls.now l.i r f h),
      omega (arith, s.next, w, l.invariant.1),
      end-within k.counts k.most k.numbered k.places a.calls.now l.i r f h,
      rest-next _ _ _ _ _ _ _ _ _ l.invariant.3 f s.numbers h s.next s.answered s.memory,
    )

pub returns : goal.returns
returns g c =
    let k = g.K.Kernel in
    let a = c.args in
    let l = c.loop-e in
    let f = c.in_default.ensures ∙ ap (λ (x : ℕ). next_at k.counts k.most k.numbered k.places a.calls.now l.i (x - l.p)) l.auto.answers in
    let r = rest-none _ _ _ _ _ _ _ _ _ l.invariant.3 f refl in
    record { count = r.0; memory = r.1; answered = r.2 }
