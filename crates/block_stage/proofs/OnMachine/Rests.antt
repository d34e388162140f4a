-- What an activation has still to do from a place on, and what a walk makes of it.
use Rattle.std.proofs.Common.{◌≡◌, ℕ, zero, suc, ◌+◌, ◌<◌, ◌≤◌, List, [], ◌∷◌, ◌++◌, length, drop, map, refl, ap, ◌∙◌, arith, cond, true, false, Bool, eqb, Option, Some}
use Rattle.std.specs.Prelude.{slice_get}
use Rattle.std.proofs.Math.Path.{fun_ext}
use Rattle.xb_bits.specs.Word.{Word}
use Rattle.xb_value.specs.declared.value.Value.{Value}
use Rattle.net_core.specs.declared.net.Site.{Site}
use Rattle.net_core.specs.declared.event.Event.{Event}
use Rattle.net_core.specs.declared.event.Event.TheVariants.{Recv, Send, End}
use Rattle.net_core.specs.Behavior.{Behavior, Turn, Skip, Receive, Give, chan_at}
use Rattle.net_core.specs.Trace.{Histories, without_first, events_from}
use Rattle.block_stage.specs.Machine.Cycle.{Ports, Transfer, Takes, event_of}
use Rattle.block_stage.specs.Machine.Since.{took}
use Rattle.block_stage.proofs.OnMachine.Choices.{eqb-same}
use Rattle.block_stage.proofs.OnMachine.Walks.{Goes, ends, skips, takes, gives, no_word, no_room}

-- the site of a place
pub record IsSite (all : List Site) (i : ℕ) (site : Site) : Type 0 where
  pub here : slice_get all i ≡ Some site
  pub chan : chan_at all i ≡ site.chan
  pub rest : drop i all ≡ site ∷ drop (suc i) all

pub site_at : (all : List Site) (i : ℕ) → i < length all → (site : Site) × IsSite all i site
site_at [] i h = absurd (omega (arith, h))
site_at (x ∷ xs) zero h = (x, record { here = refl; chan = refl; rest = refl })
site_at (x ∷ xs) (suc i) h =
    let r = site_at xs i (omega (arith, h)) in
    (r.0, record { here = r.1.here; chan = r.1.chan; rest = r.1.rest })

-- the events of an activation from place i on, and then what comes `after` it
unfoldable pub rest : Behavior → (Value → Histories → List Event) → Value → List Word → Histories → ℕ → List Event
rest b after s got words i = events_from b after s got words i (drop i b.sites)

behind_receive : Behavior → (Value → Histories → List Event) → Value → List Word → Histories → ℕ → List Word → List Event
behind_receive b after s got words i [] = []
behind_receive b after s got words i (w ∷ ws) = Recv i ∷ rest b after s (got ++ w ∷ []) (without_first words (chan_at b.sites i)) (suc i)

at_turn : Behavior → (Value → Histories → List Event) → Value → List Word → Histories → ℕ → Turn → List Event
at_turn b after s got words i Skip = rest b after s got words (suc i)
at_turn b after s got words i Receive = behind_receive b after s got words i (words (chan_at b.sites i))
at_turn b after s got words i (Give w) = Send i w ∷ rest b after s got words (suc i)

-- the same by a site and those behind it
on_word : Behavior → (Value → Histories → List Event) → Value → List Word → Histories → ℕ → Site → List Site → List Word → List Event
on_word b after s got words i site sites here =
    elim here [
      | [] ↦ []
      | w ∷ _ ↦ Recv i ∷ events_from b after s (got ++ w ∷ []) (without_first words site.chan) (suc i) sites
    ]

on_turn : Behavior → (Value → Histories → List Event) → Value → List Word → Histories → ℕ → Site → List Site → Turn → List Event
on_turn b after s got words i site sites turn =
    elim turn [
      | Skip ↦ events_from b after s got words (suc i) sites
      | Receive ↦ on_word b after s got words i site sites (words site.chan)
      | Give w ↦ Send i w ∷ events_from b after s got words (suc i) sites
    ]

on_site : (b : Behavior) (after : Value → Histories → List Event) (s : Value) (got : List Word) (words : Histories) (i : ℕ) (site : Site) (sites : List Site)
    → events_from b after s got words i (site ∷ sites) ≡ on_turn b after s got words i site sites (b.turn s got i)
unfolding events_from on_turn on_word
on_site b after s got words i site sites = refl

same_word : (b : Behavior) (after : Value → Histories → List Event) (s : Value) (got : List Word) (words : Histories) (i : ℕ) (site : Site) → chan_at b.sites i ≡ site.chan
    → (here : List Word) → on_word b after s got words i site (drop (suc i) b.sites) here ≡ behind_receive b after s got words i here
unfolding behind_receive rest on_word
same_word b after s got words i site e [] = refl
same_word b after s got words i site e (w ∷ ws) = rw e

same_turn : (b : Behavior) (after : Value → Histories → List Event) (s : Value) (got : List Word) (words : Histories) (i : ℕ) (site : Site) → chan_at b.sites i ≡ site.chan
    → (turn : Turn) → on_turn b after s got words i site (drop (suc i) b.sites) turn ≡ at_turn b after s got words i turn
unfolding at_turn rest on_turn
same_turn b after s got words i site e Skip = refl
same_turn b after s got words i site e Receive = rw e (same_word b after s got words i site e (words site.chan))
same_turn b after s got words i site e (Give w) = refl

rest_at : (b : Behavior) (after : Value → Histories → List Event) (s : Value) (got : List Word) (words : Histories) (i : ℕ) → i < length b.sites
    → rest b after s got words i ≡ at_turn b after s got words i (b.turn s got i)
rest_at b after s got words i h =
    let r = site_at b.sites i h in
    unfold rest in
    ap (events_from b after s got words i) r.1.rest ∙ on_site b after s got words i r.0 (drop (suc i) b.sites) ∙ same_turn b after s got words i r.0 r.1.chan (b.turn s got i)

drop_end : (all : List Site) → drop (length all) all ≡ []
drop_end [] = refl
drop_end (x ∷ xs) = drop_end xs

pub rest_end : (b : Behavior) (after : Value → Histories → List Event) (s : Value) (got : List Word) (words : Histories) (i : ℕ) → i ≡ length b.sites
    → rest b after s got words i ≡ End (b.next_state s got) ∷ after (b.next_state s got) words
rest_end b after s got words i e = unfold rest in rw (e, drop_end b.sites) (unfold events_from in refl)

pub rest_skips : (b : Behavior) (after : Value → Histories → List Event) (s : Value) (got : List Word) (words : Histories) (i : ℕ) → i < length b.sites → b.turn s got i ≡ Skip
    → rest b after s got words i ≡ rest b after s got words (suc i)
unfolding at_turn
rest_skips b after s got words i h t = rest_at b after s got words i h ∙ ap (at_turn b after s got words i) t

pub rest_gives : (b : Behavior) (after : Value → Histories → List Event) (s : Value) (got : List Word) (words : Histories) (i : ℕ) (w : Word) → i < length b.sites → b.turn s got i ≡ Give w
    → rest b after s got words i ≡ Send i w ∷ rest b after s got words (suc i)
unfolding at_turn
rest_gives b after s got words i w h t = rest_at b after s got words i h ∙ ap (at_turn b after s got words i) t

pub rest_takes : (b : Behavior) (after : Value → Histories → List Event) (s : Value) (got : List Word) (words : Histories) (i : ℕ) (w : Word) (ws : List Word) → i < length b.sites → b.turn s got i ≡ Receive
    → words (chan_at b.sites i) ≡ w ∷ ws
    → rest b after s got words i ≡ Recv i ∷ rest b after s (got ++ w ∷ []) (without_first words (chan_at b.sites i)) (suc i)
unfolding at_turn behind_receive
rest_takes b after s got words i w ws h t e = rest_at b after s got words i h ∙ ap (at_turn b after s got words i) t ∙ ap (behind_receive b after s got words i) e

-- the words that a walk takes, and further ones
abbrev pub AreWith : Histories → Behavior → List Transfer → Histories → Type 0
AreWith words b transfers more = (c : ℕ) → words c ≡ took b.sites c transfers ++ more c

first_taken : (b : Behavior) (words : Histories) (i : ℕ) (w : Word) (transfers : List Transfer) (more : Histories) → AreWith words b (Takes i w ∷ transfers) more
    → words (chan_at b.sites i) ≡ w ∷ (took b.sites (chan_at b.sites i) transfers ++ more (chan_at b.sites i))
first_taken b words i w transfers more h = h (chan_at b.sites i) ∙ (let e = eqb-same (chan_at b.sites i) in rw e)

without_taken : (b : Behavior) (words : Histories) (i : ℕ) (w : Word) (transfers : List Transfer) (more : Histories) → AreWith words b (Takes i w ∷ transfers) more
    → AreWith (without_first words (chan_at b.sites i)) b transfers more
without_taken b words i w transfers more h c = go (eqb (chan_at b.sites i) c) (h c)
  where
    go : (t : Bool) → words c ≡ cond t (w ∷ took b.sites c transfers) (took b.sites c transfers) ++ more c → cond t (drop 1 (words c)) (words c) ≡ took b.sites c transfers ++ more c
    go true e = ap (drop 1) e
    go false e = e

-- what a walk makes is the front of the events that its activation has still to do
pub walk_traces : (b : Behavior) (after : Value → Histories → List Event) (ports : Ports) (s : Value) (got got' : List Word) (i n p : ℕ) (transfers : List Transfer) (stall : Option Event)
    → Goes b ports s got i n p got' transfers stall → i + n ≤ length b.sites → (words more : Histories) → AreWith words b transfers more
    → rest b after s got words i ≡ map event_of transfers ++ rest b after s got' more p
walk_traces b after ports s got got' i n p transfers stall ends l words more h =
    let e : words ≡ more = fun_ext (λ c. h c) in rw e
walk_traces b after ports s got got' i n p transfers stall (skips {n = m} t g) l words more h =
    rest_skips b after s got words i (omega (arith, l)) t ∙ walk_traces b after ports s got got' (suc i) m p transfers stall g (omega (arith, l)) words more h
walk_traces b after ports s got got' i n p transfers stall (takes {n = m} {transfers = ds} w t o g) l words more h =
    rest_takes b after s got words i w _ (omega (arith, l)) t (first_taken b words i w ds more h)
    ∙ ap (λ es. Recv i ∷ es) (walk_traces b after ports s (got ++ w ∷ []) got' (suc i) m p ds stall g (omega (arith, l)) (without_first words (chan_at b.sites i)) more (without_taken b words i w ds more h))
walk_traces b after ports s got got' i n p transfers stall (gives {n = m} {transfers = ds} w t r g) l words more h =
    rest_gives b after s got words i w (omega (arith, l)) t
    ∙ ap (λ es. Send i w ∷ es) (walk_traces b after ports s got got' (suc i) m p ds stall g (omega (arith, l)) words more h)
walk_traces b after ports s got got' i n p transfers stall (no_word t o) l words more h =
    let e : words ≡ more = fun_ext (λ c. h c) in rw e
walk_traces b after ports s got got' i n p transfers stall (no_room w t r) l words more h =
    let e : words ≡ more = fun_ext (λ c. h c) in rw e
