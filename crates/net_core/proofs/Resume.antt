-- A trace goes on where its front ends, from the position there.
use Rattle.std.proofs.Common.{◌≡◌, ℕ, zero, suc, ◌+◌, ◌-◌, ◌<◌, ◌≤◌, List, [], ◌∷◌, ◌++◌, length, drop, take, refl, sym, ap, ◌∙◌, subst, arith, cond, true, false, Bool, eqb, Some}
use Rattle.std.specs.Prelude.{slice_get, ◌⊎◌}
use Rattle.std.proofs.Common.{inl, inr}
use Rattle.std.proofs.lemmas.Bool.{cases_lt}
use Rattle.std.proofs.lemmas.List.{drop-drop}
use Rattle.xb_bits.specs.Word.{Word}
use Rattle.xb_value.specs.declared.value.Value.{Value}
use Rattle.net_core.specs.declared.net.Site.{Site}
use Rattle.net_core.specs.declared.event.Event.{Event}
use Rattle.net_core.specs.declared.event.Event.TheVariants.{Recv, Send, End}
use Rattle.net_core.specs.Behavior.{Behavior, Turn, Skip, Receive, Give, chan_at, event_from, next_event}
use Rattle.net_core.specs.Trace.{Histories, without_first, events_from, trace}
use Rattle.net_core.specs.Cuts.{count_received, Proc}
use Rattle.base.specs.Lists.Prefix.{IsPrefix}
use Rattle.net_core.specs.Machine.{Position, opened, moved, left_after, position_after, next_of}
use Rattle.net_core.proofs.Traces.{IsLonger, longer_without, at_turn, on_word, at_site}

-- the site of a place, and the sites behind it
pub record IsSplit (all : List Site) (i : ℕ) (site : Site) (sites : List Site) : Type 0 where
  pub chan : chan_at all i ≡ site.chan
  pub rest : drop (suc i) all ≡ sites
  pub here : slice_get all i ≡ Some site
  pub within : i < length all

pub split_at : (all : List Site) (i : ℕ) (site : Site) (sites : List Site) → drop i all ≡ site ∷ sites → IsSplit all i site sites
split_at [] zero site sites e = cc
split_at [] (suc i) site sites e = cc
split_at (x ∷ xs) zero site sites e =
    let h : x ≡ site = cc in
    let r : xs ≡ sites = cc in
    record { chan = ap (λ (y : Site). y.chan) h; rest = r; here = ap Some h; within = omega arith }
split_at (x ∷ xs) (suc i) site sites e =
    let r = split_at xs i site sites e in
    record { chan = r.chan; rest = r.rest; here = r.here; within = omega (arith, r.within) }

-- the events of an activation behind a receive, by the words that are there
unfoldable pub behind_receive : Behavior → (Value → Histories → List Event) → Value → List Word → Histories → ℕ → List Word → List Event
behind_receive b after s got words i here =
    elim here [
      | [] ↦ []
      | w ∷ _ ↦ Recv i ∷ events_from b after s (got ++ w ∷ []) (without_first words (chan_at b.sites i)) (suc i) (drop (suc i) b.sites)
    ]

-- the events of an activation from its next one on
unfoldable pub from_event : Behavior → (Value → Histories → List Event) → Value → List Word → Histories → Event → List Event
from_event b after s got words (Recv i) = behind_receive b after s got words i (words (chan_at b.sites i))
from_event b after s got words (Send i w) = Send i w ∷ events_from b after s got words (suc i) (drop (suc i) b.sites)
from_event b after s got words (End s') = End s' ∷ after s' words

-- the next event at a site, by what the proc does there
unfoldable pub event_turn : Behavior → Value → List Word → ℕ → List Site → Turn → Event
event_turn b s got i sites turn =
    elim turn [
      | Skip ↦ event_from b s got (suc i) sites
      | Receive ↦ Recv i
      | Give w ↦ Send i w
    ]

pub event_site : (b : Behavior) (s : Value) (got : List Word) (i : ℕ) (site : Site) (sites : List Site) → event_from b s got i (site ∷ sites) ≡ event_turn b s got i sites (b.turn s got i)
unfolding event_from event_turn
event_site b s got i site sites = refl

word_next : (b : Behavior) (after : Value → Histories → List Event) (s : Value) (got : List Word) (words : Histories) (i : ℕ) (site : Site) (sites : List Site)
    → IsSplit b.sites i site sites → (here : List Word)
    → on_word b after s got words i site sites here ≡ behind_receive b after s got words i here
unfolding on_word behind_receive
word_next b after s got words i site sites split [] = refl
word_next b after s got words i site sites split (w ∷ ws) = rw (split.chan, split.rest)

turn_next : (b : Behavior) (after : Value → Histories → List Event) (s : Value) (got : List Word) (words : Histories) (i : ℕ) (site : Site) (sites : List Site)
    → events_from b after s got words (suc i) sites ≡ from_event b after s got words (event_from b s got (suc i) sites)
    → IsSplit b.sites i site sites → (turn : Turn)
    → at_turn b after s got words i site sites turn ≡ from_event b after s got words (event_turn b s got i sites turn)
unfolding at_turn event_turn from_event
turn_next b after s got words i site sites ih split Skip = ih
turn_next b after s got words i site sites ih split Receive = rw split.chan (word_next b after s got words i site sites split (words site.chan))
turn_next b after s got words i site sites ih split (Give w) = rw split.rest

pub events_next : (b : Behavior) (after : Value → Histories → List Event) (s : Value) (got : List Word) (words : Histories) (sites : List Site) (i : ℕ)
    → drop i b.sites ≡ sites
    → events_from b after s got words i sites ≡ from_event b after s got words (event_from b s got i sites)
events_next b after s got words [] i e = unfold events_from event_from from_event in refl
events_next b after s got words (site ∷ sites) i e =
    let split = split_at b.sites i site sites e in
    let ih = events_next b after s got words sites (suc i) split.rest in
    rw (at_site b after s got words i site sites, event_site b s got i site sites) (turn_next b after s got words i site sites ih split (b.turn s got i))

-- the rest of a trace from a position, with so many activations to go
unfoldable pub rest_from : Behavior → ℕ → Position → Histories → List Event
rest_from b zero at words = []
rest_from b (suc k) at words = events_from b (trace b k) at.state at.got words at.done (drop at.done b.sites)

-- the rest of a trace of n activations from a position
unfoldable pub trace_from : Behavior → ℕ → Position → Histories → List Event
trace_from b n at words = rest_from b (n - at.ends) at words

pub trace_opened : (proc : Proc) (n : ℕ) (words : Histories) → trace proc.behavior n proc.opening words ≡ trace_from proc.behavior n (opened proc) words
unfolding trace_from
trace_opened proc n words = go n (n - 0) (omega arith)
  where
    go : (n m : ℕ) → n ≡ m → trace proc.behavior n proc.opening words ≡ rest_from proc.behavior m (opened proc) words
    go n zero e = rw e (unfold trace rest_from in refl)
    go n (suc m) e = rw e (unfold trace rest_from in refl)

-- some word is left
abbrev pub is_left : List Word → Bool
is_left [] = false
is_left (w ∷ ws) = true

-- an event can be made by what the channels hold: a receive finds a word
unfoldable pub has_word : List Site → Histories → Event → Bool
has_word sites words (Recv i) = is_left (words (chan_at sites i))
has_word sites words (Send i w) = true
has_word sites words (End s) = true

-- a trace that goes on by this event
pub record GoesOn (b : Behavior) (n : ℕ) (at : Position) (words : Histories) (e : Event) : Type 0 where
  pub active : at.ends < n
  pub next : e ≡ next_of b at
  pub found : has_word b.sites words e ≡ true
  pub rest : trace_from b n at words ≡ e ∷ trace_from b n (moved b.sites at e words) (left_after b.sites e words)

from_active : (b : Behavior) (n k : ℕ) (at : Position) (words : Histories) → n - at.ends ≡ suc k
    → trace_from b n at words ≡ from_event b (trace b k) at.state at.got words (next_of b at)
unfolding trace_from rest_from next_event
from_active b n k at words e = rw e (events_next b (trace b k) at.state at.got words (drop at.done b.sites) at.done refl)

receive_goes : (b : Behavior) (k i : ℕ) (at : Position) (words : Histories) (here : List Word) → is_left here ≡ true
    → behind_receive b (trace b k) at.state at.got words i here
    ≡ Recv i ∷ rest_from b (suc k) (record { state = at.state; got = at.got ++ take 1 here; done = suc i; ends = at.ends }) (without_first words (chan_at b.sites i))
unfolding behind_receive rest_from
receive_goes b k i at words [] h = cc
receive_goes b k i at words (w ∷ ws) h = refl

after_end : (b : Behavior) (k ends : ℕ) (s : Value) (words : Histories)
    → trace b k s words ≡ rest_from b k (record { state = s; got = []; done = 0; ends = ends }) words
unfolding trace rest_from
after_end b zero ends s words = refl
after_end b (suc k) ends s words = refl

event_goes : (b : Behavior) (n k : ℕ) (at : Position) (words : Histories) → n - at.ends ≡ suc k → (e : Event) → has_word b.sites words e ≡ true
    → from_event b (trace b k) at.state at.got words e ≡ e ∷ trace_from b n (moved b.sites at e words) (left_after b.sites e words)
unfolding from_event trace_from has_word
event_goes b n k at words e (Recv i) h = rw e (receive_goes b k i at words (words (chan_at b.sites i)) h)
event_goes b n k at words e (Send i w) h = rw e (unfold rest_from in refl)
event_goes b n k at words e (End s) h =
    let d : n - suc at.ends ≡ k = omega arith in
    rw (d, after_end b k (suc at.ends) s words)

-- a trace goes on where an activation is to be made and the next event finds its word
pub goes_on : (b : Behavior) (n : ℕ) (at : Position) (words : Histories) → at.ends < n → has_word b.sites words (next_of b at) ≡ true
    → GoesOn b n at words (next_of b at)
goes_on b n at words l h =
    let e : n - at.ends ≡ suc (n - suc at.ends) = omega arith in
    record {
      active = l;
      next = refl;
      found = h;
      rest = from_active b n (n - suc at.ends) at words e ∙ event_goes b n (n - suc at.ends) at words e (next_of b at) h;
    }

event_waits : (b : Behavior) (k : ℕ) (at : Position) (words : Histories) (e : Event) → has_word b.sites words e ≡ false
    → from_event b (trace b k) at.state at.got words e ≡ []
unfolding from_event has_word behind_receive
event_waits b k at words (Recv i) h = go (words (chan_at b.sites i)) h
  where
    go : (here : List Word) → is_left here ≡ false → behind_receive b (trace b k) at.state at.got words i here ≡ []
    go [] h = refl
    go (w ∷ ws) h = cc
event_waits b k at words (Send i w) h = cc
event_waits b k at words (End s) h = cc

-- the rest of a trace is nothing where its activations are made
pub ends_done : (b : Behavior) (n : ℕ) (at : Position) (words : Histories) → n ≤ at.ends → trace_from b n at words ≡ []
unfolding trace_from rest_from
ends_done b n at words l = let e : n - at.ends ≡ 0 = omega arith in rw e refl

-- and where the next event finds no word
pub ends_waiting : (b : Behavior) (n : ℕ) (at : Position) (words : Histories) → at.ends < n → has_word b.sites words (next_of b at) ≡ false → trace_from b n at words ≡ []
ends_waiting b n at words l h =
    let e : n - at.ends ≡ suc (n - suc at.ends) = omega arith in
    from_active b n (n - suc at.ends) at words e ∙ event_waits b (n - suc at.ends) at words (next_of b at) h

prefix_by_word : (b : Behavior) (n : ℕ) (at : Position) (words : Histories) (e : Event) (t : List Event) → at.ends < n
    → (found : Bool) → has_word b.sites words (next_of b at) ≡ found → IsPrefix (e ∷ t) (trace_from b n at words)
    → GoesOn b n at words e × IsPrefix t (trace_from b n (moved b.sites at e words) (left_after b.sites e words))
prefix_by_word b n at words e t l false h f = absurd (rw (ends_waiting b n at words l h) at f)
prefix_by_word b n at words e t l true h f =
    let on = goes_on b n at words l h in
    let g = rw on.rest at f in
    subst (λ x. GoesOn b n at words x × IsPrefix t (trace_from b n (moved b.sites at x words) (left_after b.sites x words))) (sym g.0) (on, g.1)

-- what stands at the front of a trace is its next event
pub prefix_goes : (b : Behavior) (n : ℕ) (at : Position) (words : Histories) (e : Event) (t : List Event) → IsPrefix (e ∷ t) (trace_from b n at words)
    → GoesOn b n at words e × IsPrefix t (trace_from b n (moved b.sites at e words) (left_after b.sites e words))
prefix_goes b n at words e t f = go (cases_lt at.ends n)
  where
    go : (at.ends < n) ⊎ (n ≤ at.ends) → GoesOn b n at words e × IsPrefix t (trace_from b n (moved b.sites at e words) (left_after b.sites e words))
    go (inl l) = prefix_by_word b n at words e t l (has_word b.sites words (next_of b at)) refl f
    go (inr l) = absurd (rw (ends_done b n at words l) at f)

-- the words that are left after these events
unfoldable pub words_after : List Site → List Event → Histories → Histories
words_after sites [] words = words
words_after sites (e ∷ es) words = words_after sites es (left_after sites e words)

-- a trace goes on behind each of its fronts, from the position there
pub trace_resumes : (b : Behavior) (n : ℕ) (t : List Event) (at : Position) (words : Histories) → IsPrefix t (trace_from b n at words)
    → trace_from b n at words ≡ t ++ trace_from b n (position_after b.sites at t words) (words_after b.sites t words)
unfolding position_after words_after
trace_resumes b n [] at words f = refl
trace_resumes b n (e ∷ t) at words f =
    let g = prefix_goes b n at words e t f in
    g.0.rest ∙ ap (λ es. e ∷ es) (trace_resumes b n t (moved b.sites at e words) (left_after b.sites e words) g.1)

prefix_take : (xs ys : List Word) → IsPrefix xs ys → is_left xs ≡ true → take 1 xs ≡ take 1 ys
prefix_take [] ys f h = cc
prefix_take (x ∷ xs) [] f h = absurd f
prefix_take (x ∷ xs) (y ∷ ys) f h = ap (λ z. z ∷ []) f.0

pub moved_grows : (sites : List Site) (at : Position) (e : Event) (words more : Histories) → IsLonger words more → has_word sites words e ≡ true
    → moved sites at e words ≡ moved sites at e more
unfolding has_word
moved_grows sites at (Recv i) words more f h = let e = prefix_take _ _ (f (chan_at sites i)) h in rw e
moved_grows sites at (Send i w) words more f h = refl
moved_grows sites at (End s) words more f h = refl

pub left_grows : (sites : List Site) (e : Event) (words more : Histories) → IsLonger words more → IsLonger (left_after sites e words) (left_after sites e more)
left_grows sites (Recv i) words more f = longer_without words more (chan_at sites i) f
left_grows sites (Send i w) words more f = f
left_grows sites (End s) words more f = f

-- more words change nothing at the events that were made
pub position_grows : (b : Behavior) (n : ℕ) (t : List Event) (at : Position) (words more : Histories) → IsLonger words more → IsPrefix t (trace_from b n at words)
    → position_after b.sites at t words ≡ position_after b.sites at t more
unfolding position_after
position_grows b n [] at words more l f = refl
position_grows b n (e ∷ t) at words more l f =
    let g = prefix_goes b n at words e t f in
    let m = moved_grows b.sites at e words more l g.0.found in
    position_grows b n t (moved b.sites at e words) (left_after b.sites e words) (left_after b.sites e more) (left_grows b.sites e words more l) g.1
    ∙ ap (λ x. position_after b.sites x t (left_after b.sites e more)) m

drop_without : (c d k : ℕ) (words : Histories) → drop k (without_first words d c) ≡ drop (cond (eqb d c) (suc k) k) (words c)
drop_without c d k words = go (eqb d c)
  where
    go : (b : Bool) → drop k (cond b (drop 1 (words c)) (words c)) ≡ drop (cond b (suc k) k) (words c)
    go true = let e : 1 + k ≡ suc k = omega arith in drop-drop k 1 (words c) ∙ ap (λ m. drop m (words c)) e
    go false = refl

-- what is left of a channel: the words behind those that were received
pub words_after-drop : (sites : List Site) (c : ℕ) (t : List Event) (words : Histories) → words_after sites t words c ≡ drop (count_received sites c t) (words c)
unfolding words_after count_received
words_after-drop sites c [] words = refl
words_after-drop sites c (Recv i ∷ t) words =
    words_after-drop sites c t (without_first words (chan_at sites i)) ∙ drop_without c (chan_at sites i) (count_received sites c t) words
words_after-drop sites c (Send i w ∷ t) words = words_after-drop sites c t words
words_after-drop sites c (End s ∷ t) words = words_after-drop sites c t words

-- one event more, at the end
pub position_after-push : (sites : List Site) (t : List Event) (e : Event) (at : Position) (words : Histories)
    → position_after sites at (t ++ e ∷ []) words ≡ moved sites (position_after sites at t words) e (words_after sites t words)
unfolding position_after words_after
position_after-push sites [] e at words = refl
position_after-push sites (x ∷ t) e at words = position_after-push sites t e (moved sites at x words) (left_after sites x words)
