use Rattle.std.proofs.Common.{refl}
use Rattle.std.proofs.lemmas.Option.{slice_get_read}
use Rattle.proc_runner.specs.Inner.Ended.{out_chan}
use Rattle.proc_runner.proofs.Ends.{not_here, it_is_there}
use Rattle.proc_runner.proofs.ports.outlet_index.Goals as goal

pub returns-then-outlet-chan-clause-end : goal.returns-then-outlet-chan-clause-end
returns-then-outlet-chan-clause-end g c =
    (c.index-outlets-place.result, slice_get_read c.args.outlets.now _ c.loop-place.place c.index-outlets-place.result refl c.loop-place-test.true c.index-outlets-place.is, c.if-outlet-chan.true)

pub loop-place-preserved : goal.loop-place-preserved
loop-place-preserved g c =
    not_here out_chan c.args.outlets.now c.args.chan c.loop-place.place c.index-outlets-place.result
    (slice_get_read c.args.outlets.now _ c.loop-place.place c.index-outlets-place.result refl c.loop-place-test.true c.index-outlets-place.is) c.if-outlet-chan.false c.loop-place.invariant

pub unreachable-requires : goal.unreachable-requires
unreachable-requires g c = it_is_there out_chan c.args.outlets.now c.args.chan c.loop-place.place c.requires c.loop-place.invariant c.loop-place-test.false
