-- What a configuration answers when a proc is to go.
use Rattle.std.proofs.Common.{◌≡◌, ◌≢◌, ℕ, ◌<◌, ◌≤◌, get_or, List, length, refl, sym, ap, ◌∙◌, subst, arith, true, false, Bool, Some}
use Rattle.std.specs.Prelude.{slice_get}
use Rattle.std.proofs.lemmas.Option.{slice_get_within}
use Rattle.xb_bits.specs.Word.{Word}
use Rattle.xb_value.specs.declared.value.Value.{Value}
use Rattle.net_core.specs.declared.net.Site.{Site}
use Rattle.net_core.specs.declared.net.Chan.{Chan}
use Rattle.net_core.specs.declared.net.Kind.TheVariants.{Input}
use Rattle.net_core.specs.declared.event.Event.{Event}
use Rattle.net_core.specs.declared.event.Event.TheVariants.{Recv, Send}
use Rattle.net_core.specs.declared.config.Config.{Config}
use Rattle.net_core.specs.Behavior.{Behavior, Turn, Receive, Give, IsOpen, IsWordOf, IsInDirection, TurnFits, next_event}
use Rattle.net_core.specs.Cuts.{Proc, Run, Cut, sender, receiver}
use Rattle.net_core.specs.Machine.{position_in, next_of, goes_by, goes, with_event, stepped}
use Rattle.net_core.specs.declared.progress.Progress.{Progress}
use Rattle.net_core.specs.Shows.{Shows, progress_of, channel_of, IsBehaviorOf}
use Rattle.base.proofs.Lemmas.Lists.Indices.{read_is}
use Rattle.net_core.specs.Inner.Making.{has_word, has_room, TriesReceive, TriesSend, IsAtSiteOf, IsStandingFor, CanMake, TriesEvent}
use Rattle.net_core.proofs.Openings.{EventAt, receives_at, sends_at, ends_with, next_at}
use Rattle.net_core.proofs.Shown.{site_data, shows_unchanged, stepped_is, stepped_stays, progress_is, site_fits, stands_at, goes_receive, goes_send, goes_end, goes_done}
use Rattle.net_core.proofs.Events.{IsAtSite, receive_shows, send_shows, end_shows}

module _ (run : Run) (cut : Cut) (config : Config) (sh : Shows run cut config) (p : ℕ) (proc : Proc) (proc_is : slice_get run.procs p ≡ Some proc)
    (active : (position_in run cut p proc).ends < run.activations) where
  event_stands : (e : Event) → EventAt proc.behavior (position_in run cut p proc).state (position_in run cut p proc).got (position_in run cut p proc).done e → IsStandingFor config p e
  event_stands _ (receives_at i site later place stands turn) =
      let fits = site_fits run cut config sh p proc proc_is i site place in
      (site_data run cut p proc site fits.chan, stands_at run cut config sh p proc proc_is i site place fits.chan fits.chan_is)
  event_stands _ (sends_at i site w later place stands turn) =
      let fits = site_fits run cut config sh p proc proc_is i site place in
      (site_data run cut p proc site fits.chan, stands_at run cut config sh p proc proc_is i site place fits.chan fits.chan_is)
  event_stands _ (ends_with stands) =
      let few = sh.run_fits.activations in
      (progress_of run cut p proc, progress_is run cut config sh p proc proc_is, omega (arith, few, active))

  turn_fits : (i : ℕ) (site : Site) (turn : Turn) → slice_get proc.behavior.sites i ≡ Some site
      → IsOpen proc.behavior (position_in run cut p proc).state (position_in run cut p proc).got i
      → proc.behavior.turn (position_in run cut p proc).state (position_in run cut p proc).got i ≡ turn → TurnFits proc.behavior site turn
  turn_fits i site turn place stands e =
      subst (λ t. TurnFits proc.behavior site t) e ((sh.run_fits.keeps_types p proc proc_is).turns (position_in run cut p proc).state (position_in run cut p proc).got i site stands place)

  in_direction : (i : ℕ) (site : Site) (turn : Turn) → slice_get proc.behavior.sites i ≡ Some site
      → proc.behavior.turn (position_in run cut p proc).state (position_in run cut p proc).got i ≡ turn → IsInDirection site turn
  in_direction i site turn place e =
      subst (λ t. IsInDirection site t) e ((sh.run_fits.keeps_types p proc proc_is).directions (position_in run cut p proc).state (position_in run cut p proc).got i site place)

  event_can : (e : Event) → EventAt proc.behavior (position_in run cut p proc).state (position_in run cut p proc).got (position_in run cut p proc).done e
      → next_of proc.behavior (position_in run cut p proc) ≡ e → (can : Bool) → CanMake config p e can → can ≡ goes_by run cut p (Some proc)
  event_can _ (receives_at i site later place stands turn) next can made =
      let fits = site_fits run cut config sh p proc proc_is i site place in
      let at = stands_at run cut config sh p proc proc_is i site place fits.chan fits.chan_is in
      let ours = fits.receives (in_direction i site Receive place turn) in
      made (site_data run cut p proc site fits.chan) at
      ∙ sym (goes_receive run cut config sh p proc proc_is i site place fits.chan ours active next)
  event_can _ (sends_at i site w later place stands turn) next can made =
      let fits = site_fits run cut config sh p proc proc_is i site place in
      let at = stands_at run cut config sh p proc proc_is i site place fits.chan fits.chan_is in
      let sends = in_direction i site (Give w) place turn in
      made (site_data run cut p proc site fits.chan) at
      ∙ sym (goes_send run cut config sh p proc proc_is i site w place fits.chan fits.chan_is (fits.no_send sends) (fits.sends sends) active next)
  event_can _ (ends_with stands) next can made = made ∙ sym (goes_end run cut config sh p proc proc_is _ active next)

  receive_tried : (new : Config) (i : ℕ) (site : Site) (chan : Chan) → IsAtSite run cut p proc i site chan
      → proc.behavior.turn (position_in run cut p proc).state (position_in run cut p proc).got i ≡ Receive
      → goes_by run cut p (Some proc) ≡ has_word (channel_of run cut site.chan chan)
      → receiver run site.chan ≡ p → next_of proc.behavior (position_in run cut p proc) ≡ Recv i → (made : Bool)
      → TriesReceive config new p i (site_data run cut p proc site chan) made
      → (made ≡ goes_by run cut p (Some proc)) × Shows run (stepped run cut p) new
  receive_tried new i site chan at_site turn goes ours next true t =
      let h = goes ∙ t.0 in
      let is = stepped_is run cut p proc proc_is h ∙ ap (λ e. with_event cut p e) next in
      (sym h, subst (λ (c : Cut). Shows run c new) (sym is) (receive_shows run cut config new p proc i site chan t.1.0 sh at_site turn ours next h t.1.1))
  receive_tried new i site chan at_site turn goes ours next false t =
      let h = goes ∙ t.0 in
      (sym h, subst (λ (c : Cut). Shows run c new) (sym (stepped_stays run cut p proc proc_is h)) (shows_unchanged run cut config new sh t.1))

  send_tried : (new : Config) (i : ℕ) (site : Site) (w : Word) (chan : Chan) → IsAtSite run cut p proc i site chan
      → proc.behavior.turn (position_in run cut p proc).state (position_in run cut p proc).got i ≡ Give w
      → IsWordOf (proc.behavior.width site.chan) w → sender run site.chan ≡ p → chan.kind ≢ Input
      → goes_by run cut p (Some proc) ≡ has_room (channel_of run cut site.chan chan)
      → next_of proc.behavior (position_in run cut p proc) ≡ Send i w → (made : Bool)
      → TriesSend config new p i (site_data run cut p proc site chan) w made
      → (made ≡ goes_by run cut p (Some proc)) × Shows run (stepped run cut p) new
  send_tried new i site w chan at_site turn is_word ours no_input goes next true t =
      let h = goes ∙ t.0 in
      let is = stepped_is run cut p proc proc_is h ∙ ap (λ e. with_event cut p e) next in
      (sym h, subst (λ (c : Cut). Shows run c new) (sym is) (send_shows run cut config new p proc i site chan w sh at_site turn is_word ours no_input next h t.1))
  send_tried new i site w chan at_site turn is_word ours no_input goes next false t =
      let h = goes ∙ t.0 in
      (sym h, subst (λ (c : Cut). Shows run c new) (sym (stepped_stays run cut p proc proc_is h)) (shows_unchanged run cut config new sh t.1))

  event_tried : (new : Config) (e : Event) → EventAt proc.behavior (position_in run cut p proc).state (position_in run cut p proc).got (position_in run cut p proc).done e
      → next_of proc.behavior (position_in run cut p proc) ≡ e → (made : Bool) → TriesEvent config new p e made
      → (made ≡ goes_by run cut p (Some proc)) × Shows run (stepped run cut p) new
  event_tried new _ (receives_at i site later place stands turn) next made t =
      let fits = site_fits run cut config sh p proc proc_is i site place in
      let at = stands_at run cut config sh p proc proc_is i site place fits.chan fits.chan_is in
      let ours = fits.receives (in_direction i site Receive place turn) in
      receive_tried new i site fits.chan (record { proc_is = proc_is; place = place; chan_is = fits.chan_is; width = fits.width; stands = stands }) turn
      (goes_receive run cut config sh p proc proc_is i site place fits.chan ours active next) ours next made
      (t (site_data run cut p proc site fits.chan) at)
  event_tried new _ (sends_at i site w later place stands turn) next made t =
      let fits = site_fits run cut config sh p proc proc_is i site place in
      let at = stands_at run cut config sh p proc proc_is i site place fits.chan fits.chan_is in
      let sends = in_direction i site (Give w) place turn in
      send_tried new i site w fits.chan (record { proc_is = proc_is; place = place; chan_is = fits.chan_is; width = fits.width; stands = stands }) turn
      (turn_fits i site (Give w) place stands turn) (fits.sends sends) (fits.no_send sends)
      (goes_send run cut config sh p proc proc_is i site w place fits.chan fits.chan_is (fits.no_send sends) (fits.sends sends) active next) next made
      (t (site_data run cut p proc site fits.chan) at)
  event_tried new _ (ends_with stands) next made t =
      let h = goes_end run cut config sh p proc proc_is _ active next in
      let is = stepped_is run cut p proc proc_is h ∙ ap (λ e. with_event cut p e) next in
      let typed = (sh.run_fits.keeps_types p proc proc_is).state (position_in run cut p proc).state (position_in run cut p proc).got stands in
      (t.0 ∙ sym h, subst (λ (c : Cut). Shows run c new) (sym is) (end_shows run cut config new p proc _ sh proc_is typed next h (t.1 (progress_of run cut p proc) (progress_is run cut config sh p proc proc_is))))

-- what is asked of a configuration at a proc with a behavior
pub progress_here : (run : Run) (cut : Cut) (config : Config) → Shows run cut config → (p : ℕ) (b : Behavior) (is : IsBehaviorOf run p b) (progress : Progress)
    → progress ≡ get_or config.procs.items p progress → progress ≡ progress_of run cut p is.0
progress_here run cut config sh p b is progress read =
    read_is config.procs.items p progress (progress_of run cut p is.0) (progress_is run cut config sh p is.0 is.1) read

pub asked_open : (run : Run) (cut : Cut) (config : Config) → Shows run cut config → (p : ℕ) (b : Behavior) (is : IsBehaviorOf run p b) (progress : Progress)
    → progress ≡ progress_of run cut p is.0 → IsOpen b progress.state progress.got progress.done
asked_open run cut config sh p b is progress e =
    let here = sh.stands p is.0 is.1 in
    subst (λ (x : Behavior). IsOpen x progress.state progress.got progress.done) is.2
    (subst (λ (x : Progress). IsOpen is.0.behavior x.state x.got x.done) (sym e) here)

-- the event that its body answers is its next one
pub asked_next : (run : Run) (cut : Cut) (p : ℕ) (b : Behavior) (is : IsBehaviorOf run p b) (progress : Progress) (event : Event)
    → progress ≡ progress_of run cut p is.0 → event ≡ next_event b progress.state progress.got progress.done
    → next_of is.0.behavior (position_in run cut p is.0) ≡ event
asked_next run cut p b is progress event e f =
    sym (f ∙ (ap (λ (x : Behavior). next_event x progress.state progress.got progress.done) (sym is.2) ∙ ap (λ (x : Progress). next_event is.0.behavior x.state x.got x.done) e))

pub asked_active : (run : Run) (cut : Cut) (config : Config) → Shows run cut config → (p : ℕ) (b : Behavior) (is : IsBehaviorOf run p b) (progress : Progress)
    → progress ≡ progress_of run cut p is.0 → progress.ends < config.activations → (position_in run cut p is.0).ends < run.activations
asked_active run cut config sh p b is progress e l =
    let f = ap (λ (x : Progress). x.ends) e in
    omega (arith, l, f, sh.activations)

pub asked_stands : (run : Run) (cut : Cut) (config : Config) → Shows run cut config → (p : ℕ) (b : Behavior) (is : IsBehaviorOf run p b) (event : Event)
    → (position_in run cut p is.0).ends < run.activations → next_of is.0.behavior (position_in run cut p is.0) ≡ event → IsStandingFor config p event
asked_stands run cut config sh p b is event active next =
    let at = position_in run cut p is.0 in
    subst (λ e. IsStandingFor config p e) next (event_stands run cut config sh p is.0 is.1 active _ (next_at is.0.behavior at.state at.got at.done (sh.stands p is.0 is.1)))

at_site : (b : Behavior) (s : Value) (got : List Word) (done : ℕ) (e : Event) (progress : Progress) → progress.sites ≡ b.sites → EventAt b s got done e → IsAtSiteOf progress e
at_site b s got done _ progress same (receives_at i site later place stands turn) = omega (arith, slice_get_within b.sites i site place, ap length same)
at_site b s got done _ progress same (sends_at i site w later place stands turn) = omega (arith, slice_get_within b.sites i site place, ap length same)
at_site b s got done _ progress same (ends_with stands) = tt

-- its site is one of the proc's
pub asked_at_site : (run : Run) (cut : Cut) (config : Config) → Shows run cut config → (p : ℕ) (b : Behavior) (is : IsBehaviorOf run p b) (progress : Progress) (event : Event)
    → progress ≡ progress_of run cut p is.0 → (position_in run cut p is.0).ends < run.activations → next_of is.0.behavior (position_in run cut p is.0) ≡ event → IsAtSiteOf progress event
asked_at_site run cut config sh p b is progress event here active next =
    let at = position_in run cut p is.0 in
    subst (λ e. IsAtSiteOf progress e) next
    (at_site is.0.behavior at.state at.got at.done _ progress (ap (λ (x : Progress). x.sites) here) (next_at is.0.behavior at.state at.got at.done (sh.stands p is.0 is.1)))

pub asked_can : (run : Run) (cut : Cut) (config : Config) → Shows run cut config → (p : ℕ) (b : Behavior) (is : IsBehaviorOf run p b) (event : Event) (can : Bool)
    → (position_in run cut p is.0).ends < run.activations → next_of is.0.behavior (position_in run cut p is.0) ≡ event → CanMake config p event can → can ≡ goes run cut p
asked_can run cut config sh p b is event can active next made =
    let at = position_in run cut p is.0 in
    let here = next_at is.0.behavior at.state at.got at.done (sh.stands p is.0 is.1) in
    let made_next = subst (λ e. CanMake config p e can) (sym next) made in
    event_can run cut config sh p is.0 is.1 active _ here refl can made_next ∙ ap (λ o. goes_by run cut p o) (sym is.1)

pub asked_made : (run : Run) (cut : Cut) (config new : Config) → Shows run cut config → (p : ℕ) (b : Behavior) (is : IsBehaviorOf run p b) (event : Event) (made : Bool)
    → (position_in run cut p is.0).ends < run.activations → next_of is.0.behavior (position_in run cut p is.0) ≡ event → TriesEvent config new p event made
    → (made ≡ goes run cut p) × Shows run (stepped run cut p) new
asked_made run cut config new sh p b is event made active next tried =
    let at = position_in run cut p is.0 in
    let here = next_at is.0.behavior at.state at.got at.done (sh.stands p is.0 is.1) in
    let tried_next = subst (λ e. TriesEvent config new p e made) (sym next) tried in
    let t = event_tried run cut config sh p is.0 is.1 active new _ here refl made tried_next in
    (t.0 ∙ ap (λ o. goes_by run cut p o) (sym is.1), t.1)

-- a proc that is done
pub asked_done : (run : Run) (cut : Cut) (config : Config) → Shows run cut config → (p : ℕ) (b : Behavior) (is : IsBehaviorOf run p b) (progress : Progress)
    → progress ≡ progress_of run cut p is.0 → config.activations ≤ progress.ends → (false ≡ goes run cut p) × Shows run (stepped run cut p) config
asked_done run cut config sh p b is progress e l =
    let f = ap (λ (x : Progress). x.ends) e in
    let h = goes_done run cut config sh p is.0 is.1 (omega (arith, l, f, sh.activations)) in
    (sym (ap (λ o. goes_by run cut p o) is.1 ∙ h), subst (λ (c : Cut). Shows run c config) (sym (stepped_stays run cut p is.0 is.1 h)) sh)
