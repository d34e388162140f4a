-- What a proc's next event can be.
use Rattle.std.specs.Prelude.{◌≡◌, ℕ, true, false, List, length, slice_get, Some}
use Rattle.xb_value.specs.Typing.{IsOfType}
use Rattle.net_core.specs.declared.net.Site.{Site}
use Rattle.net_core.specs.declared.event.Event.{Event}
use Rattle.net_core.specs.declared.event.Event.TheVariants.{Recv, Send, End}
use Rattle.net_core.specs.Behavior.{Behavior, IsWordOf, chan_at}
use Rattle.net_core.specs.Trace.{Histories}
use Rattle.net_core.specs.Cuts.{Proc, count_received}
use Rattle.net_core.specs.Machine.{opened, position_after, next_of}

-- a receive is at a receiving site, a send at a sending one with a word of its channel's width, and an end has a state
-- of the type
abbrev pub EventFits : Behavior → Event → Type 0
EventFits b (Recv i) = (site : Site) × (slice_get b.sites i ≡ Some site) × (site.sends ≡ false)
EventFits b (Send i w) = (site : Site) × (slice_get b.sites i ≡ Some site) × (site.sends ≡ true) × IsWordOf (b.width site.chan) w
EventFits b (End s) = IsOfType b.state s

-- behind these events of a proc comes a receive from a channel all of whose words they received
abbrev pub WaitsForAWord : Proc → Histories → List Event → Type 0
WaitsForAWord proc words made =
    (site : ℕ)
    × (next_of proc.behavior (position_after proc.behavior.sites (opened proc) made words) ≡ Recv site)
    × (count_received proc.behavior.sites (chan_at proc.behavior.sites site) made ≡ length (words (chan_at proc.behavior.sites site)))
