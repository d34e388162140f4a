use Rattle.std.proofs.Common.{◌<◌, ℕ, [], length, get_or, refl, sym, ap, ◌∙◌, subst, arith}
use Rattle.std.proofs.lemmas.Option.{slice_get_read, get_or_from_slice_get}
use Rattle.net_core.specs.declared.net.Chan.{Chan}
use Rattle.net_core.specs.declared.net.Kind.{Kind}
use Rattle.proc_task.specs.Outcome.Inner.Counts.{Holds}
use Rattle.proc_task.proofs.outcome.stops.is_held.Goals as goal

pub returns-clause-shown : goal.returns-clause-shown
returns-clause-shown c h =
    let at = c.args.stall.now.chan in
    let within : at < length c.args.chans.now = omega (arith, c.if-c-chans.false) in
    let in_inputs : at < length c.args.inputs.now = omega (arith, within, c.requires.inputs) in
    let kind = ap (λ (x : Chan). x.kind) (sym c.index-chans-c.is) in
    let words = get_or_from_slice_get c.args.inputs.now at c.index-inputs-c.result [] (slice_get_read c.args.inputs.now _ at c.index-inputs-c.result refl in_inputs c.index-inputs-c.is) in
    let outside = c.len-outside.ensures ∙ ap length (sym words) in
    record {
      chan = c.index-chans-c.result;
      stream = c.index-streams-c.result;
      chan_is = slice_get_read c.args.chans.now _ at c.index-chans-c.result refl within c.index-chans-c.is;
      stream_is = slice_get_read c.args.streams.now _ at c.index-streams-c.result refl (omega (arith, within, c.requires.streams)) c.index-streams-c.is;
      holds = subst (λ (x : Kind × ℕ). Holds x.0 x.1 (get_or c.args.depths.now at 0) c.index-streams-c.result c.args.stall.now.sends) (λ i. (kind i, outside i)) (c.holds.ensures.shown h);
    }
