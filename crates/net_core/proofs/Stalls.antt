-- The outcome that is read off a configuration is that of the cut that it shows.
use Rattle.std.proofs.Common.{◌≡◌, ℕ, ◌<◌, ◌≤◌, List, map, refl, sym, ap, ◌∙◌, arith, true, false, Bool, cond, Some, None, Option}
use Rattle.std.specs.Prelude.{slice_get, option_map, nat_lt}
use Rattle.std.proofs.lemmas.Bool.Decides.{nat_tests}
use Rattle.net_core.specs.declared.net.Site.{Site}
use Rattle.net_core.specs.declared.net.Chan.{Chan}
use Rattle.net_core.specs.declared.net.Kind.{Kind}
use Rattle.net_core.specs.declared.net.Kind.TheVariants.{Input, Output, Inner}
use Rattle.net_core.specs.declared.event.Event.{Event}
use Rattle.net_core.specs.declared.outcome.Stall.{Stall}
use Rattle.net_core.specs.declared.outcome.Stream.{Stream}
use Rattle.net_core.specs.declared.config.Config.{Config}
use Rattle.net_core.specs.declared.progress.Progress.{Progress}
use Rattle.net_core.specs.Behavior.{Behavior, chan_at}
use Rattle.net_core.specs.Cuts.{Proc, Run, Cut, words_at}
use Rattle.net_core.specs.Machine.{opened, position_in, next_of}
use Rattle.net_core.specs.Outcomes.{stream_of, state_after, stall_for, stall_in, end_of}
use Rattle.base.specs.Lists.Prefix.{IsPrefix}
use Rattle.base.specs.Lists.Indexed.{indexed}
use Rattle.net_core.specs.Shows.{Shows, progress_of, channel_of, IsBehaviorOf}
use Rattle.net_core.specs.Inner.Making.{end_with, stream_in}
use Rattle.base.proofs.Lemmas.Lists.Indexed.{indexed_get}
use Rattle.base.proofs.Lemmas.Lists.Indices.{same_by_get}
use Rattle.std.proofs.lemmas.Option.{get_or_from_slice_get}
use Rattle.std.proofs.lemmas.Option.{slice_get-map}
use Rattle.net_core.proofs.Shown.{chan_at-there}
use Rattle.net_core.proofs.Resume.{trace_from}
use Rattle.net_core.proofs.Ends.{state_is, ends_are_counted, reached_in_trace, stall_is}

-- a stall at a site's channel
pub stall_arm : (sites : List Site) (i : ℕ) (at : Site) (ends activation chan : ℕ) (sends : Bool) → slice_get sites i ≡ Some at → chan ≡ at.chan → activation ≡ ends
    → ◌≡◌ {A = Option Stall} (Some (record { activation = activation; sends = sends; chan = chan })) (Some (record { activation = ends; sends = sends; chan = chan_at sites i }))
stall_arm sites i at ends activation chan sends place e f =
    let c = e ∙ sym (chan_at-there sites i at place) in
    ap (λ a. Some (record { activation = a; sends = sends; chan = chan })) f ∙ ap (λ k. Some (record { activation = ends; sends = sends; chan = k })) c

pub stall_active : (run : Run) (cut : Cut) (p : ℕ) (proc : Proc) → IsPrefix (cut p) (trace_from proc.behavior run.activations (opened proc) (words_at run cut))
    → (position_in run cut p proc).ends < run.activations
    → stall_in run cut p proc ≡ stall_for proc.behavior.sites (position_in run cut p proc).ends (next_of proc.behavior (position_in run cut p proc))
stall_active run cut p proc f l =
    let t : nat_lt (position_in run cut p proc).ends run.activations ≡ true = grind (arith, nat_tests) in
    stall_is run cut p proc f
    ∙ ap (λ (b : Bool). cond b (stall_for proc.behavior.sites (position_in run cut p proc).ends (next_of proc.behavior (position_in run cut p proc))) None) t

pub asked_stall : (run : Run) (cut : Cut) (config : Config) → Shows run cut config → (p : ℕ) (b : Behavior) (is : IsBehaviorOf run p b) (event : Event) (stall : Option Stall) (progress : Progress)
    → progress ≡ progress_of run cut p is.0 → (position_in run cut p is.0).ends < run.activations → next_of is.0.behavior (position_in run cut p is.0) ≡ event
    → stall ≡ stall_for progress.sites progress.ends event → stall ≡ stall_in run cut p is.0
asked_stall run cut config sh p b is event stall progress here active next made =
    made
    ∙ (ap (λ (x : Progress). stall_for x.sites x.ends event) here
    ∙ (ap (λ e. stall_for is.0.behavior.sites (position_in run cut p is.0).ends e) (sym next) ∙ sym (stall_active run cut p is.0 (reached_in_trace run cut p is.0 is.1 (sh.consistent p)) active)))

pub asked_no_stall : (run : Run) (cut : Cut) (config : Config) → Shows run cut config → (p : ℕ) (b : Behavior) (is : IsBehaviorOf run p b) (progress : Progress)
    → progress ≡ progress_of run cut p is.0 → config.activations ≤ progress.ends → ◌≡◌ {A = Option Stall} None (stall_in run cut p is.0)
asked_no_stall run cut config sh p b is progress e l =
    let f = ap (λ (x : Progress). x.ends) e in
    let done : run.activations ≤ (position_in run cut p is.0).ends = omega (arith, l, f, sh.activations) in
    let t : nat_lt (position_in run cut p is.0).ends run.activations ≡ false = grind (arith, nat_tests) in
    sym (stall_is run cut p is.0 (reached_in_trace run cut p is.0 is.1 (sh.consistent p))
    ∙ ap (λ (b : Bool). cond b (stall_for is.0.behavior.sites (position_in run cut p is.0).ends (next_of is.0.behavior (position_in run cut p is.0))) None) t)

pub procs_are : (run : Run) (cut : Cut) (config : Config) → Shows run cut config → config.procs.items ≡ indexed (progress_of run cut) 0 run.procs
procs_are run cut config sh =
    same_by_get _ _ (λ k. sh.procs k ∙ sym (indexed_get (progress_of run cut) 0 k k run.procs (omega arith)))

pub channels_are : (run : Run) (cut : Cut) (config : Config) → Shows run cut config → config.channels.items ≡ indexed (channel_of run cut) 0 run.chans
channels_are run cut config sh =
    same_by_get _ _ (λ k. sh.channels k ∙ sym (indexed_get (channel_of run cut) 0 k k run.chans (omega arith)))

kind_stream : (kind : Kind) (x y z : Stream) → ◌≡◌ {A = Stream} (elim kind as (λ _. Stream) [ Input ↦ x | Output ↦ y | Inner ↦ z ]) (elim kind as (λ _. Stream) [ Input ↦ x | Output ↦ y | Inner ↦ z ])
kind_stream kind x y z = refl

stream_is : (run : Run) (cut : Cut) (c : ℕ) (o : Option Chan) → option_map stream_in (option_map (channel_of run cut c) o) ≡ option_map (stream_of run cut c) o
unfolding stream_of
stream_is run cut c None = refl
stream_is run cut c (Some chan) = refl

pub streams_are : (run : Run) (cut : Cut) (config : Config) → Shows run cut config → map stream_in config.channels.items ≡ indexed (stream_of run cut) 0 run.chans
streams_are run cut config sh =
    same_by_get _ _ (λ k.
    slice_get-map stream_in config.channels.items k
    ∙ (ap (λ o. option_map stream_in o) (sh.channels k) ∙ (stream_is run cut k (slice_get run.chans k) ∙ sym (indexed_get (stream_of run cut) 0 k k run.chans (omega arith)))))

end_is : (run : Run) (cut : Cut) (k : ℕ) (stalls : List (Option Stall)) (o : Option Proc) → slice_get stalls k ≡ option_map (stall_in run cut k) o
    → option_map (end_with stalls k) (option_map (progress_of run cut k) o) ≡ option_map (end_of run cut k) o
end_is run cut k stalls None e = refl
end_is run cut k stalls (Some proc) e =
    let at = position_in run cut k proc in
    let s = get_or_from_slice_get stalls k (stall_in run cut k proc) None e in
    ap (λ x. Some (record { state = at.state; ends = at.ends; stall = x })) s
    ∙ (ap (λ x. Some (record { state = x; ends = at.ends; stall = stall_in run cut k proc })) (state_is proc (cut k) (words_at run cut))
    ∙ ap (λ n. Some (record { state = state_after proc.opening (cut k); ends = n; stall = stall_in run cut k proc })) (ends_are_counted proc (cut k) (words_at run cut)))

pub ends_are : (run : Run) (cut : Cut) (config : Config) (stalls : List (Option Stall)) → Shows run cut config → stalls ≡ indexed (stall_in run cut) 0 run.procs
    → indexed (end_with stalls) 0 config.procs.items ≡ indexed (end_of run cut) 0 run.procs
ends_are run cut config stalls sh e =
    same_by_get _ _ (λ k.
    let stall = ap (λ ss. slice_get ss k) e ∙ indexed_get (stall_in run cut) 0 k k run.procs (omega arith) in
    indexed_get (end_with stalls) 0 k k config.procs.items (omega arith)
    ∙ (ap (λ o. option_map (end_with stalls k) o) (sh.procs k) ∙ (end_is run cut k stalls (slice_get run.procs k) stall ∙ sym (indexed_get (end_of run cut) 0 k k run.procs (omega arith)))))
