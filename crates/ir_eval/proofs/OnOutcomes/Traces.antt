-- Procs that do the same make the same events over words of their channels' widths, and what they send has its width.
use Rattle.std.proofs.Common.{◌≡◌, ℕ, zero, suc, ◌<◌, ◌≤◌, Bool, true, false, List, [], ◌∷◌, ◌++◌, length, drop, Some, refl, sym, ap, ◌∙◌, subst, arith}
use Rattle.std.specs.Prelude.{◌==◌, if◌then◌else◌, slice_get}
use Rattle.std.proofs.lemmas.Option.{slice_get_within}
use Rattle.xb_bits.specs.Word.{Word}
use Rattle.xb_value.specs.declared.value.Value.{Value}
use Rattle.xb_value.specs.Typing.{IsOfType}
use Rattle.net_core.specs.declared.net.Site.{Site}
use Rattle.net_core.specs.declared.event.Event.{Event}
use Rattle.net_core.specs.declared.event.Event.TheVariants.{Recv, Send, End}
use Rattle.net_core.specs.Behavior.{Behavior, Turn, Skip, Receive, Give, IsOpen, IsWordOf, KeepsTypes, TurnFits}
use Rattle.net_core.specs.Trace.{Histories, without_first, events_from, trace}
use Rattle.net_core.specs.WellFormed.{AreWordsOf}
use Rattle.net_core.proofs.Lemmas.{open_first, open_receive, open_send, open_skip}
use Rattle.ir_tree.specs.SameBehavior.{SameActivations}

-- the words of a proc's channels have their widths
abbrev pub AreTyped : Behavior → Histories → Type 0
AreTyped b words = (i : ℕ) (site : Site) → slice_get b.sites i ≡ Some site → AreWordsOf (b.width site.chan) (words site.chan)

typed_drop : (width : ℕ) (words : List Word) → AreWordsOf width words → AreWordsOf width (drop 1 words)
typed_drop width [] h k w e = cc
typed_drop width (x ∷ xs) h k w e = h (suc k) w e

typed_if : (t : Bool) (width : ℕ) (words : List Word) → AreWordsOf width words → AreWordsOf width (if t then drop 1 words else words)
typed_if true width words h = typed_drop width words h
typed_if false width words h = h

pub typed_less : (b : Behavior) (words : Histories) (c : ℕ) → AreTyped b words → AreTyped b (without_first words c)
typed_less b words c h i site e = typed_if (c == site.chan) (b.width site.chan) (words site.chan) (h i site e)

-- the events behind a receive, by the words that are there
unfoldable pub on_word : Behavior → (Value → Histories → List Event) → Value → List Word → Histories → ℕ → Site → List Site → List Word → List Event
on_word b after s got words i site sites here =
    elim here [
      | [] ↦ []
      | w ∷ _ ↦ Recv i ∷ events_from b after s (got ++ w ∷ []) (without_first words site.chan) (suc i) sites
    ]

-- the events at a site, by what it does there
unfoldable pub at_turn : Behavior → (Value → Histories → List Event) → Value → List Word → Histories → ℕ → Site → List Site → Turn → List Event
at_turn b after s got words i site sites turn =
    elim turn [
      | Skip ↦ events_from b after s got words (suc i) sites
      | Receive ↦ on_word b after s got words i site sites (words site.chan)
      | Give w ↦ Send i w ∷ events_from b after s got words (suc i) sites
    ]

pub at_site : (b : Behavior) (after : Value → Histories → List Event) (s : Value) (got : List Word) (words : Histories) (i : ℕ) (site : Site) (sites : List Site) → events_from b after s got words i (site ∷ sites) ≡ at_turn b after s got words i site sites (b.turn s got i)
unfolding events_from at_turn on_word
at_site b after s got words i site sites = refl

pub at_end : (b : Behavior) (after : Value → Histories → List Event) (s : Value) (got : List Word) (words : Histories) (i : ℕ) → events_from b after s got words i [] ≡ End (b.next_state s got) ∷ after (b.next_state s got) words
unfolding events_from
at_end b after s got words i = refl

-- ---- the sites from a place on

-- this site stands at the place, and these behind it
pub record IsSplitAt (all : List Site) (i : ℕ) (site : Site) (sites : List Site) : Type 0 where
  pub here : slice_get all i ≡ Some site
  pub rest : drop (suc i) all ≡ sites

pub split_site : (all : List Site) (i : ℕ) (site : Site) (sites : List Site) → drop i all ≡ site ∷ sites → IsSplitAt all i site sites
split_site [] zero site sites e = absurd (cc)
split_site [] (suc i) site sites e = absurd (cc)
split_site (x ∷ xs) zero site sites e = let x_is : x ≡ site = cc in let rest_is : xs ≡ sites = cc in record { here = ap Some x_is; rest = rest_is }
split_site (x ∷ xs) (suc i) site sites e = let r = split_site xs i site sites e in record { here = r.here; rest = r.rest }

pub split_end : (all : List Site) (i : ℕ) → i ≤ length all → drop i all ≡ [] → i ≡ length all
split_end [] zero h e = refl
split_end [] (suc i) h e = absurd (omega (arith, h))
split_end (x ∷ xs) zero h e = absurd (cc)
split_end (x ∷ xs) (suc i) h e = ap suc (split_end xs i (omega (arith, h)) e)

-- ---- the same events

module _ (a b : Behavior) (same : SameActivations a b) (keeps : KeepsTypes a) where
  -- what comes after the activation is the same
  abbrev AgreesAfter : (Value → Histories → List Event) → (Value → Histories → List Event) → Type 0
  AgreesAfter after beyond = (t : Value) (words : Histories) → IsOfType a.state t → AreTyped a words → after t words ≡ beyond t words

  same_word : (after beyond : Value → Histories → List Event) (s : Value) (got : List Word) (words : Histories) (i : ℕ) (site : Site) (sites : List Site)
      → ((got' : List Word) (words' : Histories) → IsOpen a s got' (suc i) → AreTyped a words' → events_from a after s got' words' (suc i) sites ≡ events_from b beyond s got' words' (suc i) sites)
      → slice_get a.sites i ≡ Some site → IsOpen a s got i → a.turn s got i ≡ Receive → AreTyped a words → (here : List Word) → AreWordsOf (a.width site.chan) here
      → on_word a after s got words i site sites here ≡ on_word b beyond s got words i site sites here
  unfolding on_word
  same_word after beyond s got words i site sites again at o turn typed [] fits = refl
  same_word after beyond s got words i site sites again at o turn typed (w ∷ ws) fits =
      ap (λ es. Recv i ∷ es) (again (got ++ w ∷ []) (without_first words site.chan) (open_receive a s got i site w o at turn (fits 0 w refl)) (typed_less a words site.chan typed))

  same_at_turn : (after beyond : Value → Histories → List Event) (s : Value) (got : List Word) (words : Histories) (i : ℕ) (site : Site) (sites : List Site)
      → ((got' : List Word) (words' : Histories) → IsOpen a s got' (suc i) → AreTyped a words' → events_from a after s got' words' (suc i) sites ≡ events_from b beyond s got' words' (suc i) sites)
      → slice_get a.sites i ≡ Some site → IsOpen a s got i → AreTyped a words → (turn : Turn) → a.turn s got i ≡ turn
      → at_turn a after s got words i site sites turn ≡ at_turn b beyond s got words i site sites turn
  unfolding at_turn
  same_at_turn after beyond s got words i site sites again at o typed Skip e = again got words (open_skip a s got i site o at e) typed
  same_at_turn after beyond s got words i site sites again at o typed Receive e = same_word after beyond s got words i site sites again at o e typed (words site.chan) (typed i site at)
  same_at_turn after beyond s got words i site sites again at o typed (Give w) e = ap (λ es. Send i w ∷ es) (again got words (open_send a s got i site w o at e) typed)

  same_events : (after beyond : Value → Histories → List Event) → AgreesAfter after beyond → (sites : List Site) (s : Value) (got : List Word) (words : Histories) (i : ℕ)
      → drop i a.sites ≡ sites → IsOpen a s got i → AreTyped a words → events_from a after s got words i sites ≡ events_from b beyond s got words i sites
  same_events after beyond agrees [] s got words i e o typed =
      let whole : IsOpen a s got (length a.sites) = subst (λ k. IsOpen a s got k) (split_end a.sites i o.within e) o in
      let state = same.next_state s got whole in
      at_end a after s got words i
      ∙ (ap (λ es. End (a.next_state s got) ∷ es) (agrees (a.next_state s got) words (keeps.state s got whole) typed)
      ∙ (ap (λ t. End t ∷ beyond t words) state
      ∙ sym (at_end b beyond s got words i)))
  same_events after beyond agrees (site ∷ sites) s got words i e o typed =
      let split = split_site a.sites i site sites e in
      let less : i < length a.sites = slice_get_within a.sites i site split.here in
      at_site a after s got words i site sites
      ∙ (same_at_turn after beyond s got words i site sites (λ got' words' o' typed'. same_events after beyond agrees sites s got' words' (suc i) split.rest o' typed') split.here o typed (a.turn s got i) refl
      ∙ (ap (at_turn b beyond s got words i site sites) (same.turn s got i o less)
      ∙ sym (at_site b beyond s got words i site sites)))

  pub same_trace : (n : ℕ) (s : Value) (words : Histories) → IsOfType a.state s → AreTyped a words → trace a n s words ≡ trace b n s words
  unfolding trace
  same_trace zero s words h typed = refl
  same_trace (suc n) s words h typed =
      same_events (trace a n) (trace b n) (λ t words' h' typed'. same_trace n t words' h' typed') a.sites s [] words 0 refl (open_first a s h) typed
      ∙ ap (λ (sites : List Site). events_from b (trace b n) s [] words 0 sites) same.sites

-- ---- what is sent has its width

-- each word that is sent has the width that its site takes it to have
abbrev pub SendsFit : Behavior → List Event → Type 0
SendsFit a [] = Unit {0}
SendsFit a (Recv i ∷ es) = SendsFit a es
SendsFit a (Send i w ∷ es) = ((site : Site) × (slice_get a.sites i ≡ Some site) × IsWordOf (a.width site.chan) w) × SendsFit a es
SendsFit a (End s ∷ es) = SendsFit a es

module _ (a : Behavior) (keeps : KeepsTypes a) where
  abbrev FitsAfter : (Value → Histories → List Event) → Type 0
  FitsAfter after = (t : Value) (words : Histories) → IsOfType a.state t → AreTyped a words → SendsFit a (after t words)

  word_fits : (after : Value → Histories → List Event) (s : Value) (got : List Word) (words : Histories) (i : ℕ) (site : Site) (sites : List Site)
      → ((got' : List Word) (words' : Histories) → IsOpen a s got' (suc i) → AreTyped a words' → SendsFit a (events_from a after s got' words' (suc i) sites))
      → slice_get a.sites i ≡ Some site → IsOpen a s got i → a.turn s got i ≡ Receive → AreTyped a words → (here : List Word) → AreWordsOf (a.width site.chan) here
      → SendsFit a (on_word a after s got words i site sites here)
  unfolding on_word
  word_fits after s got words i site sites again at o turn typed [] fits = tt
  word_fits after s got words i site sites again at o turn typed (w ∷ ws) fits =
      again (got ++ w ∷ []) (without_first words site.chan) (open_receive a s got i site w o at turn (fits 0 w refl)) (typed_less a words site.chan typed)

  turn_fits : (after : Value → Histories → List Event) (s : Value) (got : List Word) (words : Histories) (i : ℕ) (site : Site) (sites : List Site)
      → ((got' : List Word) (words' : Histories) → IsOpen a s got' (suc i) → AreTyped a words' → SendsFit a (events_from a after s got' words' (suc i) sites))
      → slice_get a.sites i ≡ Some site → IsOpen a s got i → AreTyped a words → (turn : Turn) → a.turn s got i ≡ turn
      → SendsFit a (at_turn a after s got words i site sites turn)
  unfolding at_turn
  turn_fits after s got words i site sites again at o typed Skip e = again got words (open_skip a s got i site o at e) typed
  turn_fits after s got words i site sites again at o typed Receive e = word_fits after s got words i site sites again at o e typed (words site.chan) (typed i site at)
  turn_fits after s got words i site sites again at o typed (Give w) e =
      let fits = subst (λ t. TurnFits a site t) e (keeps.turns s got i site o at) in
      ((site, at, fits), again got words (open_send a s got i site w o at e) typed)

  events_fit : (after : Value → Histories → List Event) → FitsAfter after → (sites : List Site) (s : Value) (got : List Word) (words : Histories) (i : ℕ)
      → drop i a.sites ≡ sites → IsOpen a s got i → AreTyped a words → SendsFit a (events_from a after s got words i sites)
  events_fit after fits [] s got words i e o typed =
      let whole : IsOpen a s got (length a.sites) = subst (λ k. IsOpen a s got k) (split_end a.sites i o.within e) o in
      subst (λ es. SendsFit a es) (sym (at_end a after s got words i)) (fits (a.next_state s got) words (keeps.state s got whole) typed)
  events_fit after fits (site ∷ sites) s got words i e o typed =
      let split = split_site a.sites i site sites e in
      subst (λ es. SendsFit a es) (sym (at_site a after s got words i site sites))
      (turn_fits after s got words i site sites (λ got' words' o' typed'. events_fit after fits sites s got' words' (suc i) split.rest o' typed') split.here o typed (a.turn s got i) refl)

  pub trace_fits : (n : ℕ) (s : Value) (words : Histories) → IsOfType a.state s → AreTyped a words → SendsFit a (trace a n s words)
  unfolding trace
  trace_fits zero s words h typed = tt
  trace_fits (suc n) s words h typed = events_fit (trace a n) (λ t words' h' typed'. trace_fits n t words' h' typed') a.sites s [] words 0 refl (open_first a s h) typed
