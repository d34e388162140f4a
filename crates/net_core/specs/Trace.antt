-- A proc alone, over the words that its channels will ever bring.
use Rattle.std.specs.Prelude.{ℕ, zero, suc, List, [], ◌∷◌, ◌++◌, drop, if◌then◌else◌, ◌==◌}
use Rattle.xb_bits.specs.Word.{Word}
use Rattle.xb_value.specs.declared.value.Value.{Value}
use Rattle.net_core.specs.declared.net.Site.{Site}
use Rattle.net_core.specs.declared.event.Event.{Event}
use Rattle.net_core.specs.declared.event.Event.TheVariants.{Recv, Send, End}
use Rattle.net_core.specs.Behavior.{Behavior, Skip, Receive, Give}

-- the words of each channel, by its number: all that a proc will ever find there
abbrev pub Histories : Type 0
Histories = ℕ → List Word

-- channel c without its first word
abbrev pub without_first : Histories → ℕ → Histories
without_first words c = λ d. if c == d then drop 1 (words d) else words d

-- the events of an activation at these sites, whose indices start at i, then its end, and then what comes
-- `after` it, from the next state and the words that are left. A receive that finds no word is where it stops
unfoldable pub events_from : Behavior → (Value → Histories → List Event) → Value → List Word → Histories → ℕ → List Site → List Event
events_from b after s got words i [] = End (b.next_state s got) ∷ after (b.next_state s got) words
events_from b after s got words i (site ∷ sites) =
    elim (b.turn s got i) [
      | Skip ↦ events_from b after s got words (suc i) sites
      | Receive ↦ (elim (words site.chan) [
        | [] ↦ []
        | w ∷ _ ↦ Recv i ∷ events_from b after s (got ++ w ∷ []) (without_first words site.chan) (suc i) sites
      ])
      | Give w ↦ Send i w ∷ events_from b after s got words (suc i) sites
    ]

-- the events of n activations, one after another, from a state: at each site that is on a receive or a send,
-- and then the end. It stops at a missing word
unfoldable pub trace : Behavior → ℕ → Value → Histories → List Event
trace b zero s words = []
trace b (suc n) s words = events_from b (trace b n) s [] words 0 b.sites
