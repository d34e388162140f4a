-- An event leaves fewer events to be made.
use Rattle.std.proofs.Common.{◌≡◌, ℕ, zero, suc, ◌-◌, ◌*◌, ◌<◌, ◌≤◌, List, length, set, sym, ap, ◌∙◌, subst, arith, true, false, Bool, Some, MatchBool}
use Rattle.std.proofs.lemmas.Option.{slice_get_within}
use Rattle.std.specs.Prelude.{slice_get, slice_set, sum_by}
use Rattle.std.proofs.lemmas.List.Sums.{sum_by-set}
use Rattle.xb_bits.specs.Word.{Word}
use Rattle.net_core.specs.declared.net.Site.{Site}
use Rattle.net_core.specs.declared.net.Chan.{Chan}
use Rattle.net_core.specs.declared.event.Event.{Event}
use Rattle.net_core.specs.declared.config.Config.{Config}
use Rattle.net_core.specs.declared.progress.Progress.{Progress}
use Rattle.net_core.specs.Behavior.{Behavior}
use Rattle.net_core.specs.Cuts.{Proc, Run, Cut}
use Rattle.net_core.specs.Machine.{position_in, next_of}
use Rattle.net_core.specs.Shows.{Shows, progress_of, IsBehaviorOf, IsUnchanged, progress_left, events_left}
use Rattle.net_core.specs.Inner.Making.{TriesReceive, TriesSend, TriesEvent}
use Rattle.std.proofs.lemmas.Option.{get_or_from_slice_get}
use Rattle.net_core.proofs.Openings.{EventAt, receives_at, sends_at, ends_with, next_at}
use Rattle.net_core.proofs.Shown.{site_data, progress_is, site_fits, stands_at}

at_least : (m k : ℕ) → 1 ≤ m → k ≤ m * k
at_least zero k h = absurd (omega (arith, h))
at_least (suc m) k h = omega arith

site_falls : (m k done i : ℕ) → 1 ≤ m → done ≤ i → i < k → m * suc k - suc i < m * suc k - done
site_falls m k done i h l w = omega (arith, at_least m (suc k) h)

end_falls : (m k done : ℕ) → done ≤ k → m * suc k - 0 < suc m * suc k - done
end_falls m k done l = omega arith

left_set : (n : ℕ) (xs : List Progress) (p : ℕ) (x y : Progress) → slice_get xs p ≡ Some x → progress_left n y < progress_left n x
    → sum_by (progress_left n) (slice_set xs p y) < sum_by (progress_left n) xs
left_set n xs p x y e l =
    let s = sum_by-set (progress_left n) xs p y x (slice_get_within xs p x e) in
    let r = ap (progress_left n) (get_or_from_slice_get xs p x x e) in
    omega (arith, s, r, l)

module _ (run : Run) (cut : Cut) (config : Config) (sh : Shows run cut config) (p : ℕ) (proc : Proc) (proc_is : slice_get run.procs p ≡ Some proc)
    (active : (position_in run cut p proc).ends < run.activations) where
  -- a configuration in which the proc alone has moved on
  moved_falls : (new : Config) (progress : Progress) → new.activations ≡ config.activations → new.procs.items ≡ slice_set config.procs.items p progress
      → progress_left config.activations progress < progress_left config.activations (progress_of run cut p proc) → events_left new < events_left config
  unfolding events_left
  moved_falls new progress same set l =
      let s = left_set config.activations config.procs.items p (progress_of run cut p proc) progress (progress_is run cut config sh p proc proc_is) l in
      let e = ap (λ n. sum_by (progress_left n) new.procs.items) same ∙ ap (λ ps. sum_by (progress_left config.activations) ps) set in
      omega (arith, s, e)

  receive_falls : (new : Config) (i : ℕ) (site : Site) (chan : Chan) → (position_in run cut p proc).done ≤ i → slice_get proc.behavior.sites i ≡ Some site → (made : Bool)
      → TriesReceive config new p i (site_data run cut p proc site chan) made → MatchBool made (events_left new < events_left config) (IsUnchanged config new)
  receive_falls new i site chan later place true t =
      let at = position_in run cut p proc in
      let open_turns : 1 ≤ config.activations - at.ends = omega (arith, active, sh.activations) in
      moved_falls new _ t.1.1.activations t.1.1.procs (site_falls (config.activations - at.ends) (length proc.behavior.sites) at.done i open_turns later (slice_get_within proc.behavior.sites i site place))
  receive_falls new i site chan later place false t = t.1

  send_falls : (new : Config) (i : ℕ) (site : Site) (chan : Chan) (w : Word) → (position_in run cut p proc).done ≤ i → slice_get proc.behavior.sites i ≡ Some site → (made : Bool)
      → TriesSend config new p i (site_data run cut p proc site chan) w made → MatchBool made (events_left new < events_left config) (IsUnchanged config new)
  send_falls new i site chan w later place true t =
      let at = position_in run cut p proc in
      let open_turns : 1 ≤ config.activations - at.ends = omega (arith, active, sh.activations) in
      moved_falls new _ t.1.activations t.1.procs (site_falls (config.activations - at.ends) (length proc.behavior.sites) at.done i open_turns later (slice_get_within proc.behavior.sites i site place))
  send_falls new i site chan w later place false t = t.1

  event_falls : (new : Config) (e : Event) → EventAt proc.behavior (position_in run cut p proc).state (position_in run cut p proc).got (position_in run cut p proc).done e
      → (made : Bool) → TriesEvent config new p e made → MatchBool made (events_left new < events_left config) (IsUnchanged config new)
  event_falls new _ (receives_at i site later place stands turn) made t =
      let fits = site_fits run cut config sh p proc proc_is i site place in
      let at = stands_at run cut config sh p proc proc_is i site place fits.chan fits.chan_is in
      receive_falls new i site fits.chan later place made (t (site_data run cut p proc site fits.chan) at)
  event_falls new _ (sends_at i site w later place stands turn) made t =
      let fits = site_fits run cut config sh p proc proc_is i site place in
      let at = stands_at run cut config sh p proc proc_is i site place fits.chan fits.chan_is in
      send_falls new i site fits.chan w later place made (t (site_data run cut p proc site fits.chan) at)
  event_falls new _ (ends_with stands) made t =
      let at = position_in run cut p proc in
      let ended = t.1 (progress_of run cut p proc) (progress_is run cut config sh p proc proc_is) in
      let within = (sh.stands p proc proc_is).within in
      let one_more : config.activations - at.ends ≡ suc (config.activations - suc at.ends) = omega (arith, active, sh.activations) in
      let less = end_falls (config.activations - suc at.ends) (length proc.behavior.sites) at.done within in
      let falls = moved_falls new _ ended.activations ended.procs (subst (λ m. (config.activations - suc at.ends) * suc (length proc.behavior.sites) - 0 < m * suc (length proc.behavior.sites) - at.done) (sym one_more) less) in
      subst (λ b. MatchBool b (events_left new < events_left config) (IsUnchanged config new)) (sym t.0) falls

pub asked_falls : (run : Run) (cut : Cut) (config new : Config) → Shows run cut config → (p : ℕ) (b : Behavior) (is : IsBehaviorOf run p b) (event : Event) (made : Bool)
    → (position_in run cut p is.0).ends < run.activations → next_of is.0.behavior (position_in run cut p is.0) ≡ event → TriesEvent config new p event made
    → MatchBool made (events_left new < events_left config) (IsUnchanged config new)
asked_falls run cut config new sh p b is event made active next tried =
    let at = position_in run cut p is.0 in
    let here = next_at is.0.behavior at.state at.got at.done (sh.stands p is.0 is.1) in
    event_falls run cut config sh p is.0 is.1 active new _ here made (subst (λ e. TriesEvent config new p e made) (sym next) tried)
