-- Which events a proc makes: its receives and sends are at sites of its own, each in its direction.
use Rattle.std.proofs.Common.{◌≡◌, ℕ, zero, suc, ◌+◌, List, [], ◌∷◌, ◌++◌, refl, sym, ap, ◌∙◌, subst, arith, true, false, Bool, cond, Some, None, Option}
use Rattle.std.specs.Prelude.{slice_get}
use Rattle.std.specs.List.{AllByRecursion}
use Rattle.xb_bits.specs.Word.{Word}
use Rattle.xb_value.specs.declared.value.Value.{Value}
use Rattle.net_core.specs.declared.net.Site.{Site}
use Rattle.net_core.specs.declared.event.Event.{Event}
use Rattle.net_core.specs.declared.event.Event.TheVariants.{Recv, Send, End}
use Rattle.net_core.specs.Behavior.{Behavior, Turn, Skip, Receive, Give, IsInDirection, KeepsTypes}
use Rattle.net_core.specs.Trace.{Histories, without_first, events_from, trace}
use Rattle.net_core.specs.Cuts.{Proc, Run, Cut, sites_of, sites_at, words_at, room_at, fits_after, longest_fit, trace_of, reach, round, final_cut}
use Rattle.net_core.specs.WellFormed.{IsRun}
use Rattle.net_core.proofs.Lemmas.{rounds_settle}

-- the site with an index is there, and has this direction
pub record IsSiteAt (sites : List Site) (i : ℕ) (sends : Bool) : Type 0 where
  pub site : Site
  pub place : slice_get sites i ≡ Some site
  pub direction : site.sends ≡ sends

-- an event is at a site of its direction, or an end
abbrev pub IsAtSite : List Site → Event → Type 0
IsAtSite sites (Recv i) = IsSiteAt sites i false
IsAtSite sites (Send i w) = IsSiteAt sites i true
IsAtSite sites (End s) = Unit {0}

-- what comes behind an activation is at sites
abbrev GoesOnAtSites : List Site → (Value → Histories → List Event) → Type 0
GoesOnAtSites sites after = (s : Value) (words : Histories) → AllByRecursion (IsAtSite sites) (after s words)

-- the sites that are left are those of the behavior from index i on
abbrev AreFrom : List Site → ℕ → List Site → Type 0
AreFrom all i sites = (j : ℕ) → slice_get sites j ≡ slice_get all (i + j)

next_from : (all : List Site) (i : ℕ) (site : Site) (sites : List Site) → AreFrom all i (site ∷ sites) → AreFrom all (suc i) sites
next_from all i site sites h j = h (suc j) ∙ ap (slice_get all) (omega arith)

first_from : (all : List Site) (i : ℕ) (site : Site) (sites : List Site) → AreFrom all i (site ∷ sites) → slice_get all i ≡ Some site
first_from all i site sites h = ap (slice_get all) (omega arith) ∙ sym (h 0)

-- the events behind a receive, by the words that are there
unfoldable on_word : Behavior → (Value → Histories → List Event) → Value → List Word → Histories → ℕ → Site → List Site → List Word → List Event
on_word b after s got words i site sites here =
    elim here [
      | [] ↦ []
      | w ∷ _ ↦ Recv i ∷ events_from b after s (got ++ w ∷ []) (without_first words site.chan) (suc i) sites
    ]

-- the events at a site, by what the proc does there
unfoldable at_turn : Behavior → (Value → Histories → List Event) → Value → List Word → Histories → ℕ → Site → List Site → Turn → List Event
at_turn b after s got words i site sites turn =
    elim turn [
      | Skip ↦ events_from b after s got words (suc i) sites
      | Receive ↦ on_word b after s got words i site sites (words site.chan)
      | Give w ↦ Send i w ∷ events_from b after s got words (suc i) sites
    ]

at_site : (b : Behavior) (after : Value → Histories → List Event) (s : Value) (got : List Word) (words : Histories) (i : ℕ) (site : Site) (sites : List Site) → events_from b after s got words i (site ∷ sites) ≡ at_turn b after s got words i site sites (b.turn s got i)
unfolding events_from at_turn on_word
at_site b after s got words i site sites = refl

on_word_at : (b : Behavior) (after : Value → Histories → List Event) (s : Value) (got : List Word) (words : Histories) (i : ℕ) (site : Site) (sites : List Site)
    → IsSiteAt b.sites i false
    → ((got' : List Word) (words' : Histories) → AllByRecursion (IsAtSite b.sites) (events_from b after s got' words' (suc i) sites))
    → (here : List Word)
    → AllByRecursion (IsAtSite b.sites) (on_word b after s got words i site sites here)
unfolding on_word
on_word_at b after s got words i site sites at ih [] = tt
on_word_at b after s got words i site sites at ih (w ∷ ws) = (at, ih (got ++ w ∷ []) (without_first words site.chan))

turn_at : (b : Behavior) (after : Value → Histories → List Event) (s : Value) (got : List Word) (words : Histories) (i : ℕ) (site : Site) (sites : List Site)
    → slice_get b.sites i ≡ Some site
    → ((got' : List Word) (words' : Histories) → AllByRecursion (IsAtSite b.sites) (events_from b after s got' words' (suc i) sites))
    → (turn : Turn) → IsInDirection site turn → AllByRecursion (IsAtSite b.sites) (at_turn b after s got words i site sites turn)
unfolding at_turn
turn_at b after s got words i site sites here ih Skip direction = ih got words
turn_at b after s got words i site sites here ih Receive direction = on_word_at b after s got words i site sites (record { site = site; place = here; direction = direction }) ih (words site.chan)
turn_at b after s got words i site sites here ih (Give w) direction = (record { site = site; place = here; direction = direction }, ih got words)

from_at : (b : Behavior) → KeepsTypes b → (after : Value → Histories → List Event) → GoesOnAtSites b.sites after
    → (sites : List Site) (s : Value) (got : List Word) (words : Histories) (i : ℕ) → AreFrom b.sites i sites
    → AllByRecursion (IsAtSite b.sites) (events_from b after s got words i sites)
unfolding events_from
from_at b keeps after goes_on [] s got words i left = (tt, goes_on (b.next_state s got) words)
from_at b keeps after goes_on (site ∷ sites) s got words i left =
    let here = first_from b.sites i site sites left in
    rw (at_site b after s got words i site sites)
    (turn_at b after s got words i site sites here (λ got' words'. from_at b keeps after goes_on sites s got' words' (suc i) (next_from b.sites i site sites left)) (b.turn s got i) (keeps.directions s got i site here))

trace_at : (b : Behavior) → KeepsTypes b → (n : ℕ) (s : Value) (words : Histories) → AllByRecursion (IsAtSite b.sites) (trace b n s words)
unfolding trace
trace_at b keeps zero s words = tt
trace_at b keeps (suc n) s words = from_at b keeps (trace b n) (trace_at b keeps n) b.sites s [] words 0 (λ j. ap (slice_get b.sites) (omega arith))

if_fits : (P : Event → Type 0) (b : Bool) (e : Event) (es : List Event) → P e → AllByRecursion P es → AllByRecursion P (cond b (e ∷ es) [])
if_fits P true e es h hs = (h, hs)
if_fits P false e es h hs = tt

fit_at : (P : Event → Type 0) (sites : List Site) (room : ℕ → ℕ → Bool) (before es : List Event) → AllByRecursion P es → AllByRecursion P (longest_fit sites room before es)
unfolding longest_fit
fit_at P sites room before [] h = tt
fit_at P sites room before (e ∷ es) h = if_fits P (fits_after sites room before e) e _ h.0 (fit_at P sites room (before ++ e ∷ []) es h.1)

by_proc : (run : Run) → IsRun run → (p : ℕ) (words : Histories) (o : Option Proc) → slice_get run.procs p ≡ o → AllByRecursion (IsAtSite (sites_of o)) (trace_of run.activations words o)
unfolding trace_of
by_proc run fits p words None e = tt
by_proc run fits p words (Some proc) e = trace_at proc.behavior (fits.keeps_types p proc e) run.activations proc.opening words

reached : (run : Run) → IsRun run → (cut : Cut) (p : ℕ) → AllByRecursion (IsAtSite (sites_at run p)) (round run cut p)
unfolding reach
reached run fits cut p = fit_at (IsAtSite (sites_at run p)) (sites_at run p) (room_at run cut) [] _ (by_proc run fits p (words_at run cut) (slice_get run.procs p) refl)

-- all that a proc makes in the final cut
pub final_at_sites : (run : Run) → IsRun run → (p : ℕ) → AllByRecursion (IsAtSite (sites_at run p)) (final_cut run p)
final_at_sites run fits p = subst (AllByRecursion (IsAtSite (sites_at run p))) (ap (λ (cut : Cut). cut p) (rounds_settle run)) (reached run fits (final_cut run) p)
