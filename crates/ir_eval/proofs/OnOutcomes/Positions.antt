-- Behind the events of a trace over words of their channels' widths an activation stands.
use Rattle.std.proofs.Common.{◌≡◌, ℕ, zero, suc, List, [], ◌∷◌, ◌++◌, length, drop, take, Some, refl, sym, ap, subst}
use Rattle.std.specs.Prelude.{slice_get}
use Rattle.base.specs.Lists.Prefix.{IsPrefix}
use Rattle.xb_bits.specs.Word.{Word}
use Rattle.xb_value.specs.declared.value.Value.{Value}
use Rattle.xb_value.specs.Typing.{IsOfType}
use Rattle.net_core.specs.declared.net.Site.{Site}
use Rattle.net_core.specs.declared.event.Event.{Event}
use Rattle.net_core.specs.Behavior.{Behavior, Turn, Skip, Receive, Give, IsOpen, KeepsTypes}
use Rattle.net_core.specs.Trace.{Histories, without_first, events_from, trace}
use Rattle.net_core.specs.Machine.{Position, left_after, moved, position_after}
use Rattle.net_core.specs.WellFormed.{AreWordsOf}
use Rattle.net_core.proofs.Lemmas.{open_first, open_receive, open_send, open_skip}
use Rattle.ir_eval.proofs.OnOutcomes.Runs.{chan_there}
use Rattle.ir_eval.proofs.OnOutcomes.Traces.{AreTyped, at_end, at_site, at_turn, on_word, split_end, split_site, typed_less}

module _ (a : Behavior) (keeps : KeepsTypes a) where
  abbrev pub StandsAt : Position → Type 0
  StandsAt at = IsOpen a at.state at.got at.done

  abbrev LaterStands : (Value → Histories → List Event) → Type 0
  LaterStands after = (t : Value) (ends : ℕ) (words : Histories) → IsOfType a.state t → AreTyped a words → (made : List Event) → IsPrefix made (after t words)
      → StandsAt (position_after a.sites (record { state = t; got = []; done = 0; ends = ends }) made words)

  -- the events from the next site on
  abbrev StandsBehind : (Value → Histories → List Event) → ℕ → List Site → Type 0
  StandsBehind after i sites = (at : Position) (words : Histories) (made : List Event) → IsOpen a at.state at.got (suc i) → StandsAt at → AreTyped a words
      → IsPrefix made (events_from a after at.state at.got words (suc i) sites) → StandsAt (position_after a.sites at made words)

  -- behind a receive from this channel
  abbrev BehindWord : Position → ℕ → Histories → List Event → ℕ → Type 0
  BehindWord at i words made c =
      StandsAt (position_after a.sites (record { state = at.state; got = at.got ++ take 1 (words c); done = suc i; ends = at.ends }) made (without_first words c))

  word_stands : (after : Value → Histories → List Event) (at : Position) (words : Histories) (i : ℕ) (site : Site) (sites : List Site) → StandsBehind after i sites
      → slice_get a.sites i ≡ Some site → IsOpen a at.state at.got i → a.turn at.state at.got i ≡ Receive → AreTyped a words → (here : List Word) → words site.chan ≡ here → AreWordsOf (a.width site.chan) here
      → (x : Event) (made : List Event) → IsPrefix (x ∷ made) (on_word a after at.state at.got words i site sites here) → StandsAt (position_after a.sites at (x ∷ made) words)
  unfolding on_word position_after
  word_stands after at words i site sites again place o turn typed [] is fits x made f = absurd f
  word_stands after at words i site sites again place o turn typed (w ∷ ws) is fits x made f =
      let here = open_receive a at.state at.got i site w o place turn (fits 0 w refl) in
      let behind = again (record { state = at.state; got = at.got ++ w ∷ []; done = suc i; ends = at.ends }) (without_first words site.chan) made here here (typed_less a words site.chan typed) f.1 in
      let at_chan : BehindWord at i words made site.chan =
      subst (λ (vs : List Word). StandsAt (position_after a.sites (record { state = at.state; got = at.got ++ vs; done = suc i; ends = at.ends }) made (without_first words site.chan))) (sym (ap (λ (vs : List Word). take 1 vs) is)) behind in
      subst (λ y. StandsAt (position_after a.sites (moved a.sites at y words) made (left_after a.sites y words))) (sym f.0)
      (subst (BehindWord at i words made) (sym (chan_there a.sites i site place)) at_chan)

  turn_stands : (after : Value → Histories → List Event) (at : Position) (words : Histories) (i : ℕ) (site : Site) (sites : List Site) → StandsBehind after i sites
      → slice_get a.sites i ≡ Some site → IsOpen a at.state at.got i → StandsAt at → AreTyped a words → (turn : Turn) → a.turn at.state at.got i ≡ turn
      → (x : Event) (made : List Event) → IsPrefix (x ∷ made) (at_turn a after at.state at.got words i site sites turn) → StandsAt (position_after a.sites at (x ∷ made) words)
  unfolding at_turn position_after
  turn_stands after at words i site sites again place o stands typed Skip e x made f = again at words (x ∷ made) (open_skip a at.state at.got i site o place e) stands typed f
  turn_stands after at words i site sites again place o stands typed Receive e x made f =
      word_stands after at words i site sites again place o e typed (words site.chan) refl (typed i site place) x made f
  turn_stands after at words i site sites again place o stands typed (Give w) e x made f =
      let here = open_send a at.state at.got i site w o place e in
      subst (λ y. StandsAt (position_after a.sites (moved a.sites at y words) made (left_after a.sites y words))) (sym f.0)
      (again (record { state = at.state; got = at.got; done = suc i; ends = at.ends }) words made here here typed f.1)

  events_stand : (after : Value → Histories → List Event) → LaterStands after → (sites : List Site) (at : Position) (words : Histories) (i : ℕ) → drop i a.sites ≡ sites
      → IsOpen a at.state at.got i → StandsAt at → AreTyped a words → (made : List Event) → IsPrefix made (events_from a after at.state at.got words i sites) → StandsAt (position_after a.sites at made words)
  unfolding position_after
  events_stand after later sites at words i e o stands typed [] f = stands
  events_stand after later [] at words i e o stands typed (x ∷ made) f =
      let whole : IsOpen a at.state at.got (length a.sites) = subst (λ k. IsOpen a at.state at.got k) (split_end a.sites i o.within e) o in
      let g = subst (λ es. IsPrefix (x ∷ made) es) (at_end a after at.state at.got words i) f in
      subst (λ y. StandsAt (position_after a.sites (moved a.sites at y words) made (left_after a.sites y words))) (sym g.0)
      (later (a.next_state at.state at.got) (suc at.ends) words (keeps.state at.state at.got whole) typed made g.1)
  events_stand after later (site ∷ sites) at words i e o stands typed (x ∷ made) f =
      let split = split_site a.sites i site sites e in
      turn_stands after at words i site sites
      (λ at' words' made' o' stands' typed' f'. events_stand after later sites at' words' (suc i) split.rest o' stands' typed' made' f')
      split.here o stands typed (a.turn at.state at.got i) refl x made
      (subst (λ es. IsPrefix (x ∷ made) es) (at_site a after at.state at.got words i site sites) f)

  pub trace_stands : (n : ℕ) (s : Value) (ends : ℕ) (words : Histories) → IsOfType a.state s → AreTyped a words → (made : List Event) → IsPrefix made (trace a n s words)
      → StandsAt (position_after a.sites (record { state = s; got = []; done = 0; ends = ends }) made words)
  unfolding trace position_after
  trace_stands zero s ends words h typed [] f = open_first a s h
  trace_stands zero s ends words h typed (x ∷ made) f = absurd f
  trace_stands (suc n) s ends words h typed made f =
      events_stand (trace a n) (λ t ends' words' h' typed' made' f'. trace_stands n t ends' words' h' typed' made' f') a.sites (record { state = s; got = []; done = 0; ends = ends }) words 0 refl
      (open_first a s h) (open_first a s h) typed made f
