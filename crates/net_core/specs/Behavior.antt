-- What a proc does in one activation, from a state and the words that it receives.
use Rattle.std.specs.Prelude.{◌≡◌, ℕ, zero, suc, ◌≤◌, true, false, List, [], ◌∷◌, ◌++◌, length, take, drop, slice_get, Some}
use Rattle.xb_bits.specs.Word.{Word, IsWord}
use Rattle.xb_value.specs.declared.ty.Ty.{Ty}
use Rattle.xb_value.specs.declared.value.Value.{Value}
use Rattle.xb_value.specs.Typing.{IsOfType}
use Rattle.net_core.specs.declared.net.Site.{Site}
use Rattle.net_core.specs.declared.event.Event.{Event}
use Rattle.net_core.specs.declared.event.Event.TheVariants.{Recv, Send, End}

-- what a proc does at a site: nothing, or it receives a word, or it sends this one
pub data Turn : Type 0 where
  Skip : Turn
  Receive : Turn
  Give : Word → Turn

-- what a proc does
pub record Behavior : Type 0 where
  -- the type of its states
  pub state : Ty
  -- its sites, in the order in which an activation comes to them
  pub sites : List Site
  -- the width of a channel's words, at the channels of its sites
  pub width : ℕ → ℕ
  -- what it does at the site with an index, in an activation from a state in which it has received these words
  pub turn : Value → List Word → ℕ → Turn
  -- the state after an activation from a state in which it received these words
  pub next_state : Value → List Word → Value

-- the channel of the site with an index
abbrev pub chan_at : List Site → ℕ → ℕ
chan_at [] i = 0
chan_at (site ∷ sites) zero = site.chan
chan_at (site ∷ sites) (suc i) = chan_at sites i

-- the first event at these sites, whose indices start at i: that of the first site that is on, else the end
unfoldable pub event_from : Behavior → Value → List Word → ℕ → List Site → Event
event_from b s got i [] = End (b.next_state s got)
event_from b s got i (site ∷ sites) =
    elim (b.turn s got i) [
      | Skip ↦ event_from b s got (suc i) sites
      | Receive ↦ Recv i
      | Give w ↦ Send i w
    ]

-- the next event of an activation from a state, past its first `done` sites, at which it received these words
unfoldable pub next_event : Behavior → Value → List Word → ℕ → Event
next_event b s got done = event_from b s got done (drop done b.sites)

-- a word of this width
pub record IsWordOf (width : ℕ) (w : Word) : Type 0 where
  pub word : IsWord w
  pub fits : w.width ≡ width

-- these sites, whose indices start at i, receive exactly these words after those that were received before
abbrev pub Takes : Behavior → Value → List Word → ℕ → List Site → List Word → Type 0
Takes b s got i [] words = words ≡ []
Takes b s got i (site ∷ sites) words =
    elim (b.turn s got i) [
      | Skip ↦ Takes b s got (suc i) sites words
      | Receive ↦ ((w : Word) × (rest : List Word) × (words ≡ w ∷ rest) × IsWordOf (b.width site.chan) w × Takes b s (got ++ w ∷ []) (suc i) sites rest)
      | Give w ↦ Takes b s got (suc i) sites words
    ]

-- an activation can stand there: its state is of the type, and its first `done` sites received exactly these words
pub record IsOpen (b : Behavior) (s : Value) (got : List Word) (done : ℕ) : Type 0 where
  pub within : done ≤ length b.sites
  pub state : IsOfType b.state s
  pub words : Takes b s [] 0 (take done b.sites) got

-- a site that receives never sends, and one that sends never receives
abbrev pub IsInDirection : Site → Turn → Type 0
IsInDirection site Skip = Unit {0}
IsInDirection site Receive = site.sends ≡ false
IsInDirection site (Give w) = site.sends ≡ true

-- a word that is sent has its channel's width
abbrev pub TurnFits : Behavior → Site → Turn → Type 0
TurnFits b site Skip = Unit {0}
TurnFits b site Receive = Unit {0}
TurnFits b site (Give w) = IsWordOf (b.width site.chan) w

-- each site keeps its direction, whatever the state and the words; from states of the type and words of their channels'
-- widths, what is sent has its channel's width, and the next state has the type of the states
pub record KeepsTypes (b : Behavior) : Type 0 where
  pub directions : (s : Value) (got : List Word) (i : ℕ) (site : Site) → slice_get b.sites i ≡ Some site → IsInDirection site (b.turn s got i)
  pub turns : (s : Value) (got : List Word) (i : ℕ) (site : Site) → IsOpen b s got i → slice_get b.sites i ≡ Some site → TurnFits b site (b.turn s got i)
  pub state : (s : Value) (got : List Word) → IsOpen b s got (length b.sites) → IsOfType b.state (b.next_state s got)
