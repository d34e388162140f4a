use Rattle.std.proofs.Common.{◌≡◌, ◌<◌, List, [], ◌∷◌, ◌++◌, length, get_or, ap, sym, ◌∙◌, refl, arith}
use Rattle.std.specs.Prelude.{slice_get}
use Rattle.std.proofs.lemmas.Option.{slice_get_read}
use Rattle.base.proofs.Lemmas.Lists.Indexed.{indexed_more}
use Rattle.net_core.specs.declared.net.Chan.{Chan}
use Rattle.net_core.specs.declared.outcome.Stream.{Stream}
use Rattle.net_core.specs.Outcomes.{stream_of}
use Rattle.proc_task.specs.Outcome.Tasks.{cut_by}
use Rattle.proc_task.proofs.outcome.outcomes.streams.Goals as goal

pub loop-c-preserved : goal.loop-c-preserved
loop-c-preserved g c =
    let run = g.H.Runtime.run c.args.runtime.now in
    let f = stream_of run (cut_by run c.args.tasks.now) in
    let chans = c.args.net.now.chans in
    let chan = c.chan-item.result in
    let within : c.loop-c.c < length chans = omega (arith, c.loop-c-test.true, ap length c.as_slice-chan-items.ensures) in
    let read : chan ≡ get_or chans c.loop-c.c chan = c.chan-item.is ∙ ap (λ (xs : List Chan). get_or xs c.loop-c.c chan) c.as_slice-chan-items.ensures in
    let there = ap (λ (xs : List Chan). slice_get xs c.loop-c.c) c.requires.run.chans ∙ slice_get_read chans _ c.loop-c.c chan refl within read in
    c.in_ok-push.ensures.items
    ∙ (ap (λ (x : Stream). c.loop-c.streams.items ++ x ∷ []) (c.in_ok-stream.ensures chan there refl)
    ∙ (ap (λ (xs : List Stream). xs ++ f c.loop-c.c chan ∷ []) c.loop-c.invariant ∙ sym (indexed_more f chans c.loop-c.c chan within read)))
