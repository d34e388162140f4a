-- What a proc does next: the next event of its trace, and one that fits its behavior.
use Rattle.std.proofs.Common.{◌≡◌, ℕ, List, [], ◌++◌, ◌∷◌, sym, ◌∙◌, subst}
use Rattle.std.proofs.lemmas.List.{append_cancel_left}
use Rattle.xb_value.specs.declared.value.Value.{Value}
use Rattle.xb_bits.specs.Word.{Word}
use Rattle.net_core.specs.declared.event.Event.{Event}
use Rattle.net_core.specs.Behavior.{Behavior, IsInDirection, TurnFits, IsOpen, KeepsTypes, next_event}
use Rattle.net_core.specs.Trace.{Histories}
use Rattle.net_core.specs.Cuts.{Proc}
use Rattle.base.specs.Lists.Prefix.{IsPrefix}
use Rattle.net_core.specs.Machine.{opened, next_of, position_after}
use Rattle.net_core.specs.Nexts.{EventFits}
use Rattle.base.proofs.Lemmas.Lists.Prefixes.{IsPrefix-append}
use Rattle.net_core.proofs.Resume.{trace_from, trace_resumes, prefix_goes, words_after}
use Rattle.net_core.proofs.Openings.{EventAt, receives_at, sends_at, ends_with, next_at}

-- the event behind the front of a trace is the next one there
pub next_after : (proc : Proc) (n : ℕ) (words : Histories) (made rest : List Event) (event : Event) → trace_from proc.behavior n (opened proc) words ≡ made ++ event ∷ rest
    → event ≡ next_of proc.behavior (position_after proc.behavior.sites (opened proc) made words)
next_after proc n words made rest event e =
    let b = proc.behavior in
    let front = subst (λ xs. IsPrefix made xs) (sym e) (IsPrefix-append made (event ∷ rest)) in
    let resumed = trace_resumes b n made (opened proc) words front in
    let here = append_cancel_left made _ _ (sym resumed ∙ e) in
    let first = subst (λ xs. IsPrefix (event ∷ []) xs) (sym here) (IsPrefix-append (event ∷ []) rest) in
    (prefix_goes b n (position_after b.sites (opened proc) made words) (words_after b.sites made words) event [] first).0.next

fits_at : (b : Behavior) → KeepsTypes b → (s : Value) (got : List Word) (done : ℕ) (e : Event) → EventAt b s got done e → EventFits b e
fits_at b keep s got done _ (receives_at i site later place stands turn) =
    (site, place, subst (λ t. IsInDirection site t) turn (keep.directions s got i site place))
fits_at b keep s got done _ (sends_at i site w later place stands turn) =
    let sends = subst (λ t. IsInDirection site t) turn (keep.directions s got i site place) in
    let fits = subst (λ t. TurnFits b site t) turn (keep.turns s got i site stands place) in
    (site, place, sends, fits)
fits_at b keep s got done _ (ends_with stands) = keep.state s got stands

pub event_fits : (b : Behavior) → KeepsTypes b → (s : Value) (got : List Word) (done : ℕ) → IsOpen b s got done → EventFits b (next_event b s got done)
event_fits b keep s got done o = fits_at b keep s got done _ (next_at b s got done o)
