use Rattle.std.proofs.Common.{◌≡◌, ◌∙◌, ap, sym, List, length}
use Rattle.net_core.specs.declared.outcome.Outcome.{Outcome}
use Rattle.net_core.specs.declared.outcome.Stream.{Stream}
use Rattle.net_core.specs.declared.outcome.ProcEnd.{ProcEnd}
use Rattle.net_core.specs.Outcomes.{stall_in, stream_of}
use Rattle.base.specs.Lists.Indexed.{indexed}
use Rattle.net_core.specs.Shows.{progress_of}
use Rattle.base.proofs.Lemmas.Lists.Indexed.{length-indexed}
use Rattle.net_core.proofs.Stalls.{procs_are, streams_are, ends_are}
use Rattle.net_core.proofs.config.Config.outcome.Goals as goal

pub ends-requires : goal.ends-requires
ends-requires g c =
    let r = c.requires in
    let stalls = c.in_ok-stalls.ensures r.0 r.1 r.2 r.3 in
    let procs = procs_are r.0 r.1 c.args.self r.2 in
    let count : length c.in_ok-stalls.stalls.items ≡ length c.args.self.procs.items =
    ap length stalls ∙ (length-indexed (stall_in r.0 r.1) 0 r.0.procs ∙ (sym (length-indexed (progress_of r.0 r.1) 0 r.0.procs) ∙ sym (ap length procs))) in
    ap length c.as_slice.ensures.value ∙ count

pub returns : goal.returns
returns g c run cut sh e =
    let stalls = c.as_slice.ensures.value ∙ c.in_ok-stalls.ensures run cut sh e in
    let ends = c.in_ok-procs.ensures ∙ ends_are run cut c.args.self c.as_slice.result.now sh stalls in
    let streams = c.in_ok-streams.ensures ∙ streams_are run cut c.args.self sh in
    let as_streams : List Stream → Outcome = λ ss. record { streams = ss; procs = c.in_ok-procs.procs } in
    let as_ends : List ProcEnd → Outcome = λ es. record { streams = indexed (stream_of run cut) 0 run.chans; procs = es } in
    ap as_streams streams ∙ ap as_ends ends
