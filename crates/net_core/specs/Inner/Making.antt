-- What one event changes in the machine's own data.
use Rattle.std.specs.Prelude.{◌≡◌, ℕ, suc, ◌+◌, ◌<◌, ◌≤◌, ◌^◌, Bool, true, false, List, [], ◌∷◌, ◌++◌, length, take, nat_lt, get_or, slice_get, slice_set, Option, Some, None}
use Rattle.xb_bits.specs.Word.{Word}
use Rattle.xb_value.specs.declared.value.Value.{Value}
use Rattle.net_core.specs.declared.net.Site.{Site}
use Rattle.net_core.specs.declared.net.Chan.{Chan}
use Rattle.net_core.specs.declared.net.ProcHead.{ProcHead}
use Rattle.net_core.specs.declared.net.Kind.TheVariants.{Input, Output, Inner}
use Rattle.net_core.specs.declared.event.Event.{Event}
use Rattle.net_core.specs.declared.event.Event.TheVariants.{Recv, Send, End}
use Rattle.net_core.specs.declared.outcome.Stream.{Stream}
use Rattle.net_core.specs.declared.outcome.ProcEnd.{ProcEnd}
use Rattle.net_core.specs.declared.outcome.Stall.{Stall}
use Rattle.net_core.specs.declared.config.Config.{Config}
use Rattle.net_core.specs.declared.progress.Progress.{Progress}
use Rattle.net_core.specs.declared.channel.Channel.{Channel}
use Rattle.net_core.specs.declared.activation.Activation.{Activation}
use Rattle.net_core.specs.Keeps.{IsNothing}
use Rattle.net_core.specs.Shows.{IsUnchanged}

-- a proc before its first activation
abbrev pub opened_progress : ProcHead → Progress
opened_progress head = record { sites = head.sites; state = head.init; got = []; done = 0; ends = 0 }

-- a channel before the first receive
abbrev pub filled_channel : List (List Word) → List ℕ → ℕ → Chan → Channel
filled_channel inputs depths c chan = record { kind = chan.kind; depth = get_or depths c 0; words = get_or inputs c []; received = 0 }

-- where a proc stands, with what it waits for
abbrev pub end_with : List (Option Stall) → ℕ → Progress → ProcEnd
end_with stalls p progress = record { state = progress.state; ends = progress.ends; stall = get_or stalls p None }

-- what went over a channel
abbrev pub stream_in : Channel → Stream
stream_in channel =
    elim channel.kind [
      | Input ↦ record { words = take channel.received channel.words; received = channel.received }
      | Output ↦ record { words = channel.words; received = 0 }
      | Inner ↦ record { words = channel.words; received = channel.received }
    ]

-- a channel has a word that wasn't received
abbrev pub has_word : Channel → Bool
has_word channel = nat_lt channel.received (length channel.words)

-- a channel has room for a word: an inner one, if it holds fewer than its depth
abbrev pub has_room : Channel → Bool
has_room channel =
    elim channel.kind [
      | Input ↦ true
      | Output ↦ true
      | Inner ↦ nat_lt (length channel.words) (channel.received + channel.depth)
    ]

-- what the machine's data hold for a site at which a proc stands: the proc, the number of the site's channel, and the
-- channel
pub record SiteData : Type 0 where
  pub progress : Progress
  pub chan : ℕ
  pub channel : Channel

-- these are the data for this site of proc p
pub record IsSiteData (config : Config) (p site : ℕ) (here : SiteData) : Type 0 where
  pub proc : slice_get config.procs.items p ≡ Some here.progress
  pub at : Site
  pub site_is : slice_get here.progress.sites site ≡ Some at
  pub chan_is : at.chan ≡ here.chan
  pub small : site < 2 ^ 30
  pub channel_is : slice_get config.channels.items here.chan ≡ Some here.channel
  pub received : here.channel.received ≤ length here.channel.words

-- the next word of the channel is received at a site
pub record IsReceiveMade (old new : Config) (p site : ℕ) (here : SiteData) (word : Word) : Type 0 where
  pub word_is : slice_get here.channel.words here.channel.received ≡ Some word
  pub activations : new.activations ≡ old.activations
  pub procs : new.procs.items ≡ slice_set old.procs.items p (record here.progress { got = here.progress.got ++ word ∷ []; done = suc site })
  pub channels : new.channels.items ≡ slice_set old.channels.items here.chan (record here.channel { received = suc here.channel.received })

-- a word is sent at a site
pub record IsSendMade (old new : Config) (p site : ℕ) (here : SiteData) (word : Word) : Type 0 where
  pub activations : new.activations ≡ old.activations
  pub procs : new.procs.items ≡ slice_set old.procs.items p (record here.progress { done = suc site })
  pub channels : new.channels.items ≡ slice_set old.channels.items here.chan (record here.channel { words = here.channel.words ++ word ∷ [] })

-- an activation ends with a state
pub record IsEndMade (old new : Config) (p : ℕ) (progress : Progress) (state : Value) : Type 0 where
  pub activations : new.activations ≡ old.activations
  pub procs : new.procs.items ≡ slice_set old.procs.items p (record progress { state = state; got = []; done = 0; ends = suc progress.ends })
  pub channels : new.channels.items ≡ old.channels.items

-- a receive is tried: it is made exactly if there is a word
abbrev pub TriesReceive : Config → Config → ℕ → ℕ → SiteData → Bool → Type 0
TriesReceive old new p site here true = (has_word here.channel ≡ true) × ((word : Word) × IsReceiveMade old new p site here word)
TriesReceive old new p site here false = (has_word here.channel ≡ false) × IsUnchanged old new

-- a send is tried: it is made exactly if there is room
abbrev pub TriesSend : Config → Config → ℕ → ℕ → SiteData → Word → Bool → Type 0
TriesSend old new p site here word true = (has_room here.channel ≡ true) × IsSendMade old new p site here word
TriesSend old new p site here word false = (has_room here.channel ≡ false) × IsUnchanged old new

-- the proc has the site of the event
abbrev pub IsAtSiteOf : Progress → Event → Type 0
IsAtSiteOf progress (Recv i) = i < length progress.sites
IsAtSiteOf progress (Send i w) = i < length progress.sites
IsAtSiteOf progress (End s) = Unit {0}

-- the configuration is one in which proc p may come to this event
abbrev pub IsStandingFor : Config → ℕ → Event → Type 0
IsStandingFor config p (Recv i) = (here : SiteData) × IsSiteData config p i here
IsStandingFor config p (Send i w) = (here : SiteData) × IsSiteData config p i here
IsStandingFor config p (End s) = (progress : Progress) × (slice_get config.procs.items p ≡ Some progress) × (progress.ends + 1 < 2 ^ 32)

-- whether the event can be made
abbrev pub CanMake : Config → ℕ → Event → Bool → Type 0
CanMake config p (Recv i) can = (here : SiteData) → IsSiteData config p i here → can ≡ has_word here.channel
CanMake config p (Send i w) can = (here : SiteData) → IsSiteData config p i here → can ≡ has_room here.channel
CanMake config p (End s) can = can ≡ true

-- the event is tried
abbrev pub TriesEvent : Config → Config → ℕ → Event → Bool → Type 0
TriesEvent old new p (Recv i) made = (here : SiteData) → IsSiteData old p i here → TriesReceive old new p i here made
TriesEvent old new p (Send i w) made = (here : SiteData) → IsSiteData old p i here → TriesSend old new p i here w made
TriesEvent old new p (End s) made = (made ≡ true) × ((progress : Progress) → slice_get old.procs.items p ≡ Some progress → IsEndMade old new p progress s)

-- what is kept of an activation stays, unless the event is its end
abbrev pub LeavesKept : Event → Activation → Activation → Type 0
LeavesKept (Recv i) old new = new ≡ old
LeavesKept (Send i w) old new = new ≡ old
LeavesKept (End s) old new = IsNothing new
