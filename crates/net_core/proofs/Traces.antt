-- The trace of a proc: longer histories and more activations give longer traces.
use Rattle.std.proofs.Common.{◌≡◌, ℕ, zero, suc, ◌≤◌, List, [], ◌∷◌, ◌++◌, drop, refl, subst, arith, cond, true, false, Bool, eqb}
use Rattle.xb_bits.specs.Word.{Word}
use Rattle.xb_value.specs.declared.value.Value.{Value}
use Rattle.net_core.specs.declared.net.Site.{Site}
use Rattle.net_core.specs.declared.event.Event.{Event}
use Rattle.net_core.specs.declared.event.Event.TheVariants.{Recv, Send}
use Rattle.net_core.specs.Behavior.{Behavior, Turn, Skip, Receive, Give}
use Rattle.net_core.specs.Trace.{Histories, without_first, events_from, trace}
use Rattle.base.specs.Lists.Prefix.{IsPrefix}

-- every channel has at least these words
abbrev pub IsLonger : Histories → Histories → Type 0
IsLonger words more = (c : ℕ) → IsPrefix (words c) (more c)

IsPrefix-drop : {A : Type 0} (xs ys : List A) → IsPrefix xs ys → IsPrefix (drop 1 xs) (drop 1 ys)
IsPrefix-drop [] ys f = tt
IsPrefix-drop (x ∷ xs) [] f = absurd f
IsPrefix-drop (x ∷ xs) (y ∷ ys) f = f.1

prefix_if : {A : Type 0} (b : Bool) (xs ys zs ws : List A) → IsPrefix xs zs → IsPrefix ys ws → IsPrefix (cond b xs ys) (cond b zs ws)
prefix_if true xs ys zs ws f g = f
prefix_if false xs ys zs ws f g = g

pub longer_without : (words more : Histories) (c : ℕ) → IsLonger words more → IsLonger (without_first words c) (without_first more c)
longer_without words more c f d = prefix_if (eqb c d) _ _ _ _ (IsPrefix-drop _ _ (f d)) (f d)

-- the events behind a receive, by the words that are there
unfoldable pub on_word : Behavior → (Value → Histories → List Event) → Value → List Word → Histories → ℕ → Site → List Site → List Word → List Event
on_word b after s got words i site sites here =
    elim here [
      | [] ↦ []
      | w ∷ _ ↦ Recv i ∷ events_from b after s (got ++ w ∷ []) (without_first words site.chan) (suc i) sites
    ]

-- the events at a site, by what it does there
unfoldable pub at_turn : Behavior → (Value → Histories → List Event) → Value → List Word → Histories → ℕ → Site → List Site → Turn → List Event
at_turn b after s got words i site sites turn =
    elim turn [
      | Skip ↦ events_from b after s got words (suc i) sites
      | Receive ↦ on_word b after s got words i site sites (words site.chan)
      | Give w ↦ Send i w ∷ events_from b after s got words (suc i) sites
    ]

pub at_site : (b : Behavior) (after : Value → Histories → List Event) (s : Value) (got : List Word) (words : Histories) (i : ℕ) (site : Site) (sites : List Site) → events_from b after s got words i (site ∷ sites) ≡ at_turn b after s got words i site sites (b.turn s got i)
unfolding events_from at_turn on_word
at_site b after s got words i site sites = refl

-- what the one makes of some words is the front of what the other makes of more
abbrev GrowsInto : (Value → Histories → List Event) → (Value → Histories → List Event) → Type 0
GrowsInto after beyond = (s : Value) (words more : Histories) → IsLonger words more → IsPrefix (after s words) (beyond s more)

word_grows : (b : Behavior) (after beyond : Value → Histories → List Event) (s : Value) (got : List Word) (i : ℕ) (site : Site) (sites : List Site) (words more : Histories)
    → ((got' : List Word) (words' more' : Histories) (j : ℕ) → IsLonger words' more' → IsPrefix (events_from b after s got' words' j sites) (events_from b beyond s got' more' j sites))
    → IsLonger words more → (here there : List Word) → IsPrefix here there
    → IsPrefix (on_word b after s got words i site sites here) (on_word b beyond s got more i site sites there)
unfolding on_word
word_grows b after beyond s got i site sites words more ih f [] there g = tt
word_grows b after beyond s got i site sites words more ih f (w ∷ ws) [] g = absurd g
word_grows b after beyond s got i site sites words more ih f (w ∷ ws) (v ∷ vs) g =
    let step = ih (got ++ w ∷ []) (without_first words site.chan) (without_first more site.chan) (suc i) (longer_without words more site.chan f) in
    (refl, subst (λ u. IsPrefix (events_from b after s (got ++ w ∷ []) (without_first words site.chan) (suc i) sites) (events_from b beyond s (got ++ u ∷ []) (without_first more site.chan) (suc i) sites)) g.0 step)

turn_grows : (b : Behavior) (after beyond : Value → Histories → List Event) (s : Value) (got : List Word) (i : ℕ) (site : Site) (sites : List Site) (words more : Histories)
    → ((got' : List Word) (words' more' : Histories) (j : ℕ) → IsLonger words' more' → IsPrefix (events_from b after s got' words' j sites) (events_from b beyond s got' more' j sites))
    → IsLonger words more → (turn : Turn)
    → IsPrefix (at_turn b after s got words i site sites turn) (at_turn b beyond s got more i site sites turn)
unfolding at_turn
turn_grows b after beyond s got i site sites words more ih f Skip = ih got words more (suc i) f
turn_grows b after beyond s got i site sites words more ih f Receive = word_grows b after beyond s got i site sites words more ih f (words site.chan) (more site.chan) (f site.chan)
turn_grows b after beyond s got i site sites words more ih f (Give w) = (refl, ih got words more (suc i) f)

events_grow : (b : Behavior) (after beyond : Value → Histories → List Event) → GrowsInto after beyond → (sites : List Site) (s : Value) (got : List Word) (words more : Histories) (i : ℕ)
    → IsLonger words more → IsPrefix (events_from b after s got words i sites) (events_from b beyond s got more i sites)
unfolding events_from
events_grow b after beyond h [] s got words more i f = (refl, h (b.next_state s got) words more f)
events_grow b after beyond h (site ∷ sites) s got words more i f =
    let step = turn_grows b after beyond s got i site sites words more (λ got' words' more' j g. events_grow b after beyond h sites s got' words' more' j g) f (b.turn s got i) in
    rw (at_site b after s got words i site sites, at_site b beyond s got more i site sites) step

-- longer histories and more activations give a longer trace
pub longer_trace : (b : Behavior) (m n : ℕ) → m ≤ n → (s : Value) (words more : Histories) → IsLonger words more → IsPrefix (trace b m s words) (trace b n s more)
unfolding trace
longer_trace b zero n l s words more f = tt
longer_trace b (suc m) zero l s words more f = absurd (omega (arith, l))
longer_trace b (suc m) (suc n) l s words more f =
    events_grow b (trace b m) (trace b n) (λ s' words' more' g. longer_trace b m n (omega (arith, l)) s' words' more' g) b.sites s [] words more 0 f

pub trace_grows : (b : Behavior) (n : ℕ) (s : Value) (words more : Histories) → IsLonger words more → IsPrefix (trace b n s words) (trace b n s more)
trace_grows b n s words more f = longer_trace b n n (omega arith) s words more f
