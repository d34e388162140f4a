-- What going round the procs does to a configuration.
use Rattle.std.specs.Prelude.{◌≡◌, ◌<◌, ℕ, Bool, true, false}
use Rattle.net_core.specs.declared.config.Config.{Config}
use Rattle.net_core.specs.Cuts.{Run, Cut}
use Rattle.net_core.specs.Machine.{goes}
use Rattle.net_core.specs.Shows.{Shows}

-- a proc was let go: where it made no event, it can't go and the cut is the same
abbrev pub Advances : Run → Cut → ℕ → Config → Bool → Type 0
Advances run cut p new true = (next : Cut) × Shows run next new
Advances run cut p new false = Shows run cut new × (goes run cut p ≡ false)

-- the first procs were let go: where none made an event, none of them can go and the cut is the same
abbrev pub AllAdvance : Run → Cut → ℕ → Config → Bool → Type 0
AllAdvance run cut count new true = (next : Cut) × Shows run next new
AllAdvance run cut count new false = Shows run cut new × ((p : ℕ) → p < count → goes run cut p ≡ false)

-- what a configuration shows while procs are let go from a cut: that cut, until one made an event
abbrev pub ShowsSince : Run → Cut → Config → Bool → Type 0
ShowsSince run cut config true = (next : Cut) × Shows run next config
ShowsSince run cut config false = Shows run cut config
