-- What is kept of an activation stays right while its proc goes on.
use Rattle.std.proofs.Common.{◌≡◌, ℕ, suc, ◌≤◌, List, [], ◌∷◌, ◌++◌, sym, ap, ◌∙◌, subst, arith, true, false, Bool, Some, IfOk, OnErr, Ok, Err, Result}
use Rattle.std.specs.Prelude.{slice_get, slice_set}
use Rattle.std.proofs.lemmas.List.{append-nil}
use Rattle.xb_bits.specs.Word.{Word}
use Rattle.xb_value.specs.declared.value.Value.{Value}
use Rattle.base.proofs.Lemmas.Lists.Indices.{slice_get-set, read_is}
use Rattle.net_core.specs.declared.activation.Activation.{Activation}
use Rattle.net_core.specs.declared.net.Site.{Site}
use Rattle.net_core.specs.declared.net.Chan.{Chan}
use Rattle.net_core.specs.declared.event.Event.{Event}
use Rattle.net_core.specs.declared.event.Event.TheVariants.{Recv, Send, End}
use Rattle.net_core.specs.declared.config.Config.{Config}
use Rattle.net_core.specs.declared.progress.Progress.{Progress}
use Rattle.net_core.specs.Behavior.{Behavior}
use Rattle.net_core.specs.Cuts.{Proc, Run, Cut}
use Rattle.net_core.specs.Machine.{position_in, next_of}
use Rattle.net_core.specs.Shows.{Shows, progress_of, IsBehaviorOf, IsUnchanged}
use Rattle.net_core.specs.Keeps.{IsNothing, KeepsFor}
use Rattle.net_core.specs.Inner.Making.{TriesReceive, TriesSend, TriesEvent, LeavesKept}
use Rattle.net_core.proofs.Openings.{EventAt, receives_at, sends_at, ends_with, next_at}
use Rattle.net_core.proofs.Shown.{site_data, progress_is, site_fits, stands_at}

-- a proc of which one knows where it stands
pub kept_at : (keeps : Value → List Word → ℕ → Type 0) (config : Config) (p : ℕ) (progress : Progress) → slice_get config.procs.items p ≡ Some progress
    → keeps progress.state progress.got progress.done → KeepsFor keeps config p
kept_at keeps config p progress e h other f =
    let both : Some progress ≡ Some other = sym e ∙ f in
    let same : progress ≡ other = cc in
    subst (λ (x : Progress). keeps x.state x.got x.done) same h

pub kept_unchanged : (keeps : Value → List Word → ℕ → Type 0) (old new : Config) (p : ℕ) → IsUnchanged old new → KeepsFor keeps old p → KeepsFor keeps new p
kept_unchanged keeps old new p same h progress e = h progress (sym (ap (λ ps. slice_get ps p) same.procs) ∙ e)

kept_moved : (keeps : Value → List Word → ℕ → Type 0) (old new : Config) (p : ℕ) (here progress : Progress) → slice_get old.procs.items p ≡ Some here
    → new.procs.items ≡ slice_set old.procs.items p progress → keeps progress.state progress.got progress.done → KeepsFor keeps new p
kept_moved keeps old new p here progress e set h =
    kept_at keeps new p progress (ap (λ ps. slice_get ps p) set ∙ slice_get-set old.procs.items p here progress e) h

-- what is kept, by the laws of a body
module _ (keeps : Activation → Value → List Word → ℕ → Type 0)
    (begins : (kept : Activation) (state : Value) (got : List Word) (done : ℕ) → IsNothing kept → keeps kept state got done)
    (stays : (kept : Activation) (state : Value) (got more : List Word) (done later : ℕ) → done ≤ later → keeps kept state got done → keeps kept state (got ++ more) later) where
  -- nothing is kept
  pub begins_for : (kept : Activation) (config : Config) (p : ℕ) → IsNothing kept → KeepsFor (keeps kept) config p
  begins_for kept config p h progress e = begins kept progress.state progress.got progress.done h

  -- an event that wasn't made
  kept_err : (config new : Config) (p : ℕ) (event : Event) (kept last : Activation) → IsUnchanged config new → LeavesKept event kept last
      → KeepsFor (keeps kept) config p → KeepsFor (keeps last) new p
  kept_err config new p (Recv i) kept last same e h = subst (λ x. KeepsFor (keeps x) new p) (sym e) (kept_unchanged (keeps kept) config new p same h)
  kept_err config new p (Send i w) kept last same e h = subst (λ x. KeepsFor (keeps x) new p) (sym e) (kept_unchanged (keeps kept) config new p same h)
  kept_err config new p (End s) kept last same e h = begins_for last new p e

  module _ (run : Run) (cut : Cut) (config : Config) (sh : Shows run cut config) (p : ℕ) (proc : Proc) (proc_is : slice_get run.procs p ≡ Some proc) (kept : Activation)
      (right : keeps kept (position_in run cut p proc).state (position_in run cut p proc).got (position_in run cut p proc).done) where
    unmoved : (new : Config) → IsUnchanged config new → KeepsFor (keeps kept) new p
    unmoved new same =
        kept_unchanged (keeps kept) config new p same (kept_at (keeps kept) config p (progress_of run cut p proc) (progress_is run cut config sh p proc proc_is) right)

    receive_keeps : (new : Config) (i : ℕ) (site : Site) (chan : Chan) → (position_in run cut p proc).done ≤ i → (made : Bool)
        → TriesReceive config new p i (site_data run cut p proc site chan) made → KeepsFor (keeps kept) new p
    receive_keeps new i site chan later true t =
        let at = position_in run cut p proc in
        kept_moved (keeps kept) config new p (progress_of run cut p proc) _ (progress_is run cut config sh p proc proc_is) t.1.1.procs
        (stays kept at.state at.got (t.1.0 ∷ []) at.done (suc i) (omega (arith, later)) right)
    receive_keeps new i site chan later false t = unmoved new t.1

    send_keeps : (new : Config) (i : ℕ) (site : Site) (chan : Chan) (w : Word) → (position_in run cut p proc).done ≤ i → (made : Bool)
        → TriesSend config new p i (site_data run cut p proc site chan) w made → KeepsFor (keeps kept) new p
    send_keeps new i site chan w later true t =
        let at = position_in run cut p proc in
        kept_moved (keeps kept) config new p (progress_of run cut p proc) _ (progress_is run cut config sh p proc proc_is) t.1.procs
        (subst (λ got. keeps kept at.state got (suc i)) (append-nil at.got) (stays kept at.state at.got [] at.done (suc i) (omega (arith, later)) right))
    send_keeps new i site chan w later false t = unmoved new t.1

    event_keeps : (new : Config) (last : Activation) (e : Event) → EventAt proc.behavior (position_in run cut p proc).state (position_in run cut p proc).got (position_in run cut p proc).done e
        → LeavesKept e kept last → (made : Bool) → TriesEvent config new p e made → KeepsFor (keeps last) new p
    event_keeps new last _ (receives_at i site later place stands turn) same made t =
        let fits = site_fits run cut config sh p proc proc_is i site place in
        let at = stands_at run cut config sh p proc proc_is i site place fits.chan fits.chan_is in
        subst (λ x. KeepsFor (keeps x) new p) (sym same) (receive_keeps new i site fits.chan later made (t (site_data run cut p proc site fits.chan) at))
    event_keeps new last _ (sends_at i site w later place stands turn) same made t =
        let fits = site_fits run cut config sh p proc proc_is i site place in
        let at = stands_at run cut config sh p proc proc_is i site place fits.chan fits.chan_is in
        subst (λ x. KeepsFor (keeps x) new p) (sym same) (send_keeps new i site fits.chan w later made (t (site_data run cut p proc site fits.chan) at))
    event_keeps new last _ (ends_with stands) ended made t = begins_for last new p ended

  -- a proc that has worked out its next event, and tried it
  pub asked_keeps : {E : Type 0} (run : Run) (cut : Cut) (config new : Config) → Shows run cut config → (p : ℕ) (b : Behavior) (is : IsBehaviorOf run p b) (progress : Progress) (event : Event) (kept last : Activation)
      → progress ≡ progress_of run cut p is.0 → next_of is.0.behavior (position_in run cut p is.0) ≡ event → keeps kept progress.state progress.got progress.done → LeavesKept event kept last
      → (tried : Result Bool E) → IfOk tried (λ made. TriesEvent config new p event made) → OnErr tried (IsUnchanged config new) → KeepsFor (keeps last) new p
  asked_keeps run cut config new sh p b is progress event kept last here next right ended (Ok made) tried err =
      let at = position_in run cut p is.0 in
      let there = next_at is.0.behavior at.state at.got at.done (sh.stands p is.0 is.1) in
      event_keeps run cut config sh p is.0 is.1 kept (subst (λ (x : Progress). keeps kept x.state x.got x.done) here right) new last _ there
      (subst (λ e. LeavesKept e kept last) (sym next) ended) made (subst (λ e. TriesEvent config new p e made) (sym next) tried)
  asked_keeps run cut config new sh p b is progress event kept last here next right ended (Err x) tried err =
      kept_err config new p event kept last err ended
      (kept_at (keeps kept) config p (progress_of run cut p is.0) (progress_is run cut config sh p is.0 is.1) (subst (λ (x : Progress). keeps kept x.state x.got x.done) here right))
